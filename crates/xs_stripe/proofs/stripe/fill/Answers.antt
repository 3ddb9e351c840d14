use Rattle.std.proofs.Common.{◌≡◌, ◌<◌, ◌+◌, ◌-◌, ◌*◌, ◌/◌, ◌^◌, length, Bor, refl, ap, sym, subst, ◌∙◌, arith}
use Rattle.xs_layout.specs.Geometry.{components_of}
use Rattle.xs_params.specs.declared.header.Header.{Header}
use Rattle.xs_stripe.specs.Near.{near_rows}
use Rattle.xs_stripe.specs.Source.{HaveRows}
use Rattle.xs_stripe.specs.Stripe.{AreDecodedFrom}
use Rattle.xs_stripe.proofs.stripe.fill.Goals as goal

pub step-requires-clause-near : goal.step-requires-clause-near
step-requires-clause-near c =
    let i = c.filling.invariant in
    let now = c.filling.lines in
    let old = c.args.lines.now in
    let source = c.args.source.now in
    let near = near_rows source.above source.body.now source.below in
    let same : now.header.now ≡ old.header.now = ap (λ (b : Bor Header). b.now) i.header in
    let less : now.given < c.args.stripe.now.end = omega (arith, c.filling-test.true, c.given.ensures) in
    subst (λ h. HaveRows h now.first (now.given / 2 ^ h.nly + 1) near) (sym same) (subst (λ n. HaveRows old.header.now n (now.given / 2 ^ old.header.now.nly + 1) near) (sym i.first) (c.requires.near now.given less))

pub filling-preserved : goal.filling-preserved
filling-preserved c =
    let i = c.filling.invariant in
    let now = c.filling.lines in
    let new = c.step.new.self in
    let h = c.args.lines.now.header.now in
    let first = c.args.stripe.now.first in
    let all = components_of h.shape.format in
    let e = c.step.ensures in
    let same : new.header.now ≡ h = ap (λ (b : Bor Header). b.now) e.header ∙ ap (λ (b : Bor Header). b.now) i.header in
    let as_many : components_of new.header.now.shape.format ≡ all = ap (λ (x : Header). components_of x.shape.format) same in
    let start = c.requires.start.0 in
    let count : length c.add_line.new.rows ≡ (now.given - first) * all + all = omega (arith, c.in_ok-add_line.ensures.more, i.count, as_many) in
    let next : new.given - first ≡ now.given - first + 1 = omega (arith, e.given, i.from, start) in
    let back : now.given - first ≡ new.given - 1 - first = omega (arith, e.given) in
    record {
      state = e.state;
      header = e.header ∙ i.header;
      first = e.first ∙ i.first;
      from = omega (arith, i.from, e.given);
      to = omega (arith, c.filling-test.true, c.given.ensures, e.given);
      end = refl;
      width = c.in_ok-add_line.ensures.scratch ∙ i.width;
      stripe_first = i.stripe_first;
      stripe_end = i.stripe_end;
      components = i.components;
      count = count ∙ sym (ap (λ n. n * all) next ∙ omega arith);
      decoded = λ coefficients holds shown.
          let d = i.decoded coefficients holds shown in
          let holds_now = e.holds coefficients d.0 shown in
          let rows_now = i.count ∙ ap (λ n. n * all) back ∙ ap (λ (x : Header). (new.given - 1 - first) * components_of x.shape.format) (sym same) in (
            holds_now,
            subst (λ x. AreDecodedFrom x coefficients first c.add_line.new.rows) same
                (c.in_ok-add_line.ensures.decoded coefficients first holds_now (omega (arith, e.given, i.from, start)) rows_now (subst (λ x. AreDecodedFrom x coefficients first c.filling.stripe.rows) (sym same) d.1)),
          );
    }

pub returns-clause-decoded : goal.returns-clause-decoded
returns-clause-decoded c coefficients holds shown = (c.filling.invariant.decoded coefficients holds shown).1
