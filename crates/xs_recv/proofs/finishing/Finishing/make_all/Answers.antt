use Rattle.std.proofs.Common.{◌≡◌, ◌<◌, inl, inr, refl, sym, ap, subst, ◌∙◌, arith}
use Rattle.std.proofs.lemmas.Bool.{cases_eq}
use Rattle.xs_params.specs.Geometry.{slice_count}
use Rattle.xs_lanes.specs.Claiming.{got_in}
use Rattle.xs_handover.specs.Blocks.{blocks}
use Rattle.xs_handover.specs.Passes.{actor}
use Rattle.xs_recv.specs.Handed.{HasMade}
use Rattle.xs_recv.proofs.Made.{got_still, whole_still}
use Rattle.xs_recv.proofs.finishing.Finishing.make_all.Goals as goal

pub making-init : goal.making-init
making-init c = record {
  pass = c.requires.pass;
  same = refl;
  hands = record { stored = refl; repeated = refl };
  got = λ k below. absurd (omega (arith, below));
  made = λ held by. (by, λ k below. absurd (omega (arith, below)));
}

pub make-requires-clause-whole : goal.make-requires-clause-whole
make-requires-clause-whole c =
    let count : c.slices-slice-end.result ≡ slice_count c.args.header.now = c.slices-slice-end.ensures.count ∙ ap slice_count c.of.ensures in
    let there : c.making.slice < slice_count c.args.header.now = omega (arith, count, c.making-test.true, c.making.auto.slice-end) in
    whole_still (actor c.args.self.now.stripes.hand) (actor c.making.self.stripes.hand) c.making.slice c.making.invariant.hands (c.requires.whole c.making.slice there)

pub making-preserved : goal.making-preserved
making-preserved c = let i = c.making.invariant in record {
  pass = c.make.ensures.pass;
  same = c.make.ensures.same ∙ i.same;
  hands = record { stored = c.make.ensures.hands.stored ∙ i.hands.stored; repeated = c.make.ensures.hands.repeated ∙ i.hands.repeated };
  got = λ k below. elim (cases_eq k c.making.slice) [
    | inl same ↦ subst (λ n. 0 < got_in blocks n (actor c.make.new.self.stripes.hand)) (sym same) c.in_ok-make.ensures.got
    | inr other ↦ got_still (actor c.making.self.stripes.hand) (actor c.make.new.self.stripes.hand) k c.make.ensures.grows (i.got k (omega (arith, below, other)))
  ];
  made = λ held by.
      let before = i.made held by in
      let now = c.in_ok-make.ensures.made held before.0 in (
        now.0,
        λ k below. elim (cases_eq k c.making.slice) [
          | inl same ↦ subst (HasMade c.make.new.self.stripes.made.items) (sym same) now.1
          | inr other ↦ let m = before.1 k (omega (arith, below, other)) in (m.0, c.in_ok-make.ensures.kept m.0 m.1, m.2)
        ],
      );
}

pub returns-clause-made : goal.returns-clause-made
returns-clause-made c held by =
    let count : c.slices-slice-end.result ≡ slice_count c.args.header.now = c.slices-slice-end.ensures.count ∙ ap slice_count c.of.ensures in
    let m = c.making.invariant.made held by in (
      m.0,
      record {
        made = λ k below. m.1 k (omega (arith, below, count, c.making-test.false, c.making.auto.slice-end));
        got = λ k below. c.making.invariant.got k (omega (arith, below, count, c.making-test.false, c.making.auto.slice-end));
      },
    )
