use Rattle.std.proofs.Common.{◌≡◌, ◌<◌, ◌≤◌, ◌+◌, None, List, length, refl, sym, ap, subst, ◌∙◌, arith}
use Rattle.std.proofs.lemmas.List.{length-set}
use Rattle.std.proofs.lemmas.Result.{err_from_is_err_and}
use Rattle.xs_params.specs.Geometry.{slice_count}
use Rattle.xs_capture.specs.Selection.{HasBytes}
use Rattle.xs_stored.specs.Stored.{held_in}
use Rattle.xs_handover.specs.declared.handover.Handover.{Handover}
use Rattle.xs_handover.specs.Handing.{source_of}
use Rattle.xs_handover.specs.Passes.{actor, stripe_count}
use Rattle.xs_recv.specs.declared.activity.MadeStripe.{MadeStripe}
use Rattle.xs_recv.specs.Handed.{AreHanded, AreStripesBy}
use Rattle.xs_recv.specs.Reading.{AreHandedUpTo, IsSliceStop}
use Rattle.xs_recv.proofs.Handed.{later_both, later_by, later_none, later_nothing, read_still, stripes_still}
use Rattle.xs_recv.proofs.Sizes.{handed_short}
use Rattle.xs_recv.proofs.Pictures.{handed_after, more_handed, none_handed, slice_stops}
use Rattle.xs_recv.proofs.InOrder.{left_more}
use Rattle.xs_recv.proofs.Taken.{copy_taken}
use Rattle.xs_recv.proofs.finishing.Finishing.hand_all.Goals as goal

pub slices-init : goal.slices-init
slices-init c = record {
  count = refl;
  left = λ k past. refl;
  pass = c.requires.pass;
  room = c.requires.started.room;
  later = later_none (actor c.args.self.now.stripes.hand);
  stripes = c.requires.started.stripes;
  handed = none_handed (held_in c.args.board.now.actor.stored) c.args.header.now c.args.size (actor c.args.self.now.stripes.hand);
}

pub overflow_cast-more : goal.overflow_cast-more
overflow_cast-more c =
    let held = held_in c.args.board.now.actor.stored in
    let h = c.args.header.now in
    let first = actor c.args.self.now.stripes.hand in
    let v = actor c.slices.self.stripes.hand in
    let count : c.slices-slice-end.result ≡ slice_count c.args.header.now = c.slices-slice-end.ensures.count ∙ ap slice_count c.of.ensures in
    let there : c.slices.slice < slice_count c.args.header.now = omega (arith, count, c.slices-test.true, c.slices.auto.slice-end) in
    let t = copy_taken (held_in c.args.board.now.actor.stored) c.args.header.now (actor c.args.self.now.stripes.hand) c.args.places.trusted c.args.places.list.items c.slices.list.items c.slices.slice c.in-Some.copy c.requires.receivable
    c.requires.headed.spelled.4.accepted c.requires.started.readable there c.slices.invariant.left c.in-Some.ensures.taken in
    let few = t.few in omega (arith, few, c.len-more.ensures.count)

pub hand_copy-requires-clause-few : goal.hand_copy-requires-clause-few
hand_copy-requires-clause-few c =
    let held = held_in c.args.board.now.actor.stored in
    let h = c.args.header.now in
    let first = actor c.args.self.now.stripes.hand in
    let v = actor c.slices.self.stripes.hand in
    let count : c.slices-slice-end.result ≡ slice_count c.args.header.now = c.slices-slice-end.ensures.count ∙ ap slice_count c.of.ensures in
    let there : c.slices.slice < slice_count c.args.header.now = omega (arith, count, c.slices-test.true, c.slices.auto.slice-end) in
    let t = copy_taken (held_in c.args.board.now.actor.stored) c.args.header.now (actor c.args.self.now.stripes.hand) c.args.places.trusted c.args.places.list.items c.slices.list.items c.slices.slice c.in-Some.copy c.requires.receivable
    c.requires.headed.spelled.4.accepted c.requires.started.readable there c.slices.invariant.left c.in-Some.ensures.taken in
    t.few

pub hand_copy-requires-clause-trusted : goal.hand_copy-requires-clause-trusted
hand_copy-requires-clause-trusted c =
    let held = held_in c.args.board.now.actor.stored in
    let h = c.args.header.now in
    let first = actor c.args.self.now.stripes.hand in
    let v = actor c.slices.self.stripes.hand in
    let count : c.slices-slice-end.result ≡ slice_count c.args.header.now = c.slices-slice-end.ensures.count ∙ ap slice_count c.of.ensures in
    let there : c.slices.slice < slice_count c.args.header.now = omega (arith, count, c.slices-test.true, c.slices.auto.slice-end) in
    let t = copy_taken (held_in c.args.board.now.actor.stored) c.args.header.now (actor c.args.self.now.stripes.hand) c.args.places.trusted c.args.places.list.items c.slices.list.items c.slices.slice c.in-Some.copy c.requires.receivable
    c.requires.headed.spelled.4.accepted c.requires.started.readable there c.slices.invariant.left c.in-Some.ensures.taken in
    λ e. read_still first v h c.in-Some.copy.slice c.in-Some.copy.bytes c.in-Some.copy.reading c.slices.invariant.later (t.read e)

pub returns-in_err-hand_copy-clause-handed : goal.returns-in_err-hand_copy-clause-handed
returns-in_err-hand_copy-clause-handed c =
    let held = held_in c.args.board.now.actor.stored in
    let h = c.args.header.now in
    let first = actor c.args.self.now.stripes.hand in
    let v = actor c.slices.self.stripes.hand in
    let count : c.slices-slice-end.result ≡ slice_count c.args.header.now = c.slices-slice-end.ensures.count ∙ ap slice_count c.of.ensures in
    let there : c.slices.slice < slice_count c.args.header.now = omega (arith, count, c.slices-test.true, c.slices.auto.slice-end) in
    let t = copy_taken (held_in c.args.board.now.actor.stored) c.args.header.now (actor c.args.self.now.stripes.hand) c.args.places.trusted c.args.places.list.items c.slices.list.items c.slices.slice c.in-Some.copy c.requires.receivable
    c.requires.headed.spelled.4.accepted c.requires.started.readable there c.slices.invariant.left c.in-Some.ensures.taken in
    let w = actor c.hand_copy.new.self.stripes.hand in
    let source = source_of c.args.header.now c.in-Some.copy.slice c.in-Some.copy.bytes in
    let whole = subst (λ k. HasBytes (held_in c.args.board.now.actor.stored) (k + 1) c.in-Some.copy.bytes) (sym t.here) t.whole in
    let later = later_by source v w c.hand_copy.ensures.only in
    let stripes = subst (λ (l : List MadeStripe). AreStripesBy (held_in c.args.board.now.actor.stored) c.args.header.now (actor c.hand_copy.new.self.stripes.hand) l) (sym c.hand_copy.ensures.same.1)
    (stripes_still held source v w c.slices.self.stripes.made.items whole c.hand_copy.ensures.only c.slices.invariant.stripes) in
    let p = err_from_is_err_and c.from_residual.result c.from_residual.ensures.1 in
    let why = subst (λ k. IsSliceStop c.args.header.now k c.in-Some.copy.bytes c.in_err-hand_copy.field-0.0) t.here c.in_err-hand_copy.ensures.handed in
    rw (p.1, p.2) (λ choice. slice_stops held h c.args.size c.slices.slice w c.slices.length c.in-Some.copy.bytes c.in_err-hand_copy.field-0.0 c.requires.receivable.bounded c.requires.headed c.requires.whole choice stripes.blocks
    c.hand_copy.ensures.pass.pass.decoded (handed_after held h c.args.size c.slices.slice v w c.slices.length later c.slices.invariant.handed) there t.whole why)

pub overflow_add-length : goal.overflow_add-length
overflow_add-length c =
    let held = held_in c.args.board.now.actor.stored in
    let h = c.args.header.now in
    let first = actor c.args.self.now.stripes.hand in
    let v = actor c.slices.self.stripes.hand in
    let count : c.slices-slice-end.result ≡ slice_count c.args.header.now = c.slices-slice-end.ensures.count ∙ ap slice_count c.of.ensures in
    let there : c.slices.slice < slice_count c.args.header.now = omega (arith, count, c.slices-test.true, c.slices.auto.slice-end) in
    let t = copy_taken (held_in c.args.board.now.actor.stored) c.args.header.now (actor c.args.self.now.stripes.hand) c.args.places.trusted c.args.places.list.items c.slices.list.items c.slices.slice c.in-Some.copy c.requires.receivable
    c.requires.headed.spelled.4.accepted c.requires.started.readable there c.slices.invariant.left c.in-Some.ensures.taken in
    let w = actor c.hand_copy.new.self.stripes.hand in
    let source = source_of c.args.header.now c.in-Some.copy.slice c.in-Some.copy.bytes in
    let whole = subst (λ k. HasBytes (held_in c.args.board.now.actor.stored) (k + 1) c.in-Some.copy.bytes) (sym t.here) t.whole in
    let later = later_by source v w c.hand_copy.ensures.only in
    let stripes = subst (λ (l : List MadeStripe). AreStripesBy (held_in c.args.board.now.actor.stored) c.args.header.now (actor c.hand_copy.new.self.stripes.hand) l) (sym c.hand_copy.ensures.same.1)
    (stripes_still held source v w c.slices.self.stripes.made.items whole c.hand_copy.ensures.only c.slices.invariant.stripes) in
    let now = subst (λ k. AreHanded c.args.header.now k c.in-Some.copy.bytes (actor c.hand_copy.new.self.stripes.hand)) t.here c.in_ok-hand_copy.ensures.handed in
    let more = more_handed held h c.args.size c.slices.slice v w c.in-Some.copy.bytes c.slices.length c.slices.invariant.handed later t.whole now in
    let unit = t.unit in
    let short = handed_short held h c.args.size (c.slices.slice + 1) w (c.slices.length + length c.in-Some.copy.bytes) c.requires.receivable c.requires.headed unit more in
    omega (arith, short, c.len-more.ensures.count)

pub slices-preserved : goal.slices-preserved
slices-preserved c =
    let held = held_in c.args.board.now.actor.stored in
    let h = c.args.header.now in
    let first = actor c.args.self.now.stripes.hand in
    let v = actor c.slices.self.stripes.hand in
    let count : c.slices-slice-end.result ≡ slice_count c.args.header.now = c.slices-slice-end.ensures.count ∙ ap slice_count c.of.ensures in
    let there : c.slices.slice < slice_count c.args.header.now = omega (arith, count, c.slices-test.true, c.slices.auto.slice-end) in
    let t = copy_taken (held_in c.args.board.now.actor.stored) c.args.header.now (actor c.args.self.now.stripes.hand) c.args.places.trusted c.args.places.list.items c.slices.list.items c.slices.slice c.in-Some.copy c.requires.receivable
    c.requires.headed.spelled.4.accepted c.requires.started.readable there c.slices.invariant.left c.in-Some.ensures.taken in
    let w = actor c.hand_copy.new.self.stripes.hand in
    let source = source_of c.args.header.now c.in-Some.copy.slice c.in-Some.copy.bytes in
    let whole = subst (λ k. HasBytes (held_in c.args.board.now.actor.stored) (k + 1) c.in-Some.copy.bytes) (sym t.here) t.whole in
    let later = later_by source v w c.hand_copy.ensures.only in
    let stripes = subst (λ (l : List MadeStripe). AreStripesBy (held_in c.args.board.now.actor.stored) c.args.header.now (actor c.hand_copy.new.self.stripes.hand) l) (sym c.hand_copy.ensures.same.1)
    (stripes_still held source v w c.slices.self.stripes.made.items whole c.hand_copy.ensures.only c.slices.invariant.stripes) in
    let now = subst (λ k. AreHanded c.args.header.now k c.in-Some.copy.bytes (actor c.hand_copy.new.self.stripes.hand)) t.here c.in_ok-hand_copy.ensures.handed in
    let more = more_handed held h c.args.size c.slices.slice v w c.in-Some.copy.bytes c.slices.length c.slices.invariant.handed later t.whole now in
    let x = actor c.make_before.new.self.stripes.hand in
    let on = later_nothing w x c.make_before.ensures.hands in
    record {
      count = ap length c.take_copy.ensures.left ∙ (length-set c.slices.list.items c.slices.slice None ∙ c.slices.invariant.count);
      left = left_more c.args.places.list.items c.slices.list.items c.take_copy.new.places.items c.slices.slice c.take_copy.ensures.left c.slices.invariant.left;
      pass = c.make_before.ensures.pass;
      room = subst (λ (x : Handover). slice_count c.args.header.now ≤ stripe_count x) (sym (c.make_before.ensures.same ∙ c.hand_copy.ensures.same.0)) c.slices.invariant.room;
      later = later_both first w x (later_both first v w c.slices.invariant.later later) on;
      stripes = c.in_ok-make_before.ensures.made (held_in c.args.board.now.actor.stored) stripes;
      handed = subst (λ n. AreHandedUpTo (held_in c.args.board.now.actor.stored) c.args.header.now c.args.size (c.slices.slice + 1) (actor c.make_before.new.self.stripes.hand) (c.slices.length + n)) (sym c.len-more.ensures.count)
          (handed_after held h c.args.size (c.slices.slice + 1) w x (c.slices.length + length c.in-Some.copy.bytes) on more);
    }

pub returns-clause-handed : goal.returns-clause-handed
returns-clause-handed c =
    let count : c.slices-slice-end.result ≡ slice_count c.args.header.now = c.slices-slice-end.ensures.count ∙ ap slice_count c.of.ensures in
    let all : c.slices.slice ≡ slice_count c.args.header.now = omega (arith, count, c.slices-test.false, c.slices.auto.slice-end) in
    subst (λ n. AreHandedUpTo (held_in c.args.board.now.actor.stored) c.args.header.now c.args.size n (actor c.slices.self.stripes.hand) c.slices.length) all c.slices.invariant.handed
