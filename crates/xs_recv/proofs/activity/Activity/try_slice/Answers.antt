use Rattle.std.proofs.Common.{◌+◌, ◌++◌, ◌∷◌, [], List, Bor, ap, subst, sym}
use Rattle.std.specs.Prelude.{IfSome}
use Rattle.std.specs.Option.{option_copied}
use Rattle.xs_params.specs.declared.header.Header.{Header}
use Rattle.xs_board.specs.declared.claim.SliceClaim.TheVariants as slice
use Rattle.xs_board.specs.Answers.{SliceAnswers}
use Rattle.xs_board.specs.Passes.{actor, knows}
use Rattle.xs_handover.specs.Passes.{actor as hand_actor}
use Rattle.xs_recv.specs.declared.activity.SliceCopy.{SliceCopy}
use Rattle.xs_recv.specs.declared.activity.SliceReading.{SliceReading}
use Rattle.xs_recv.specs.Activities.{Doing, HandsIf, IsReadable, Keeps, KeepsRows}
use Rattle.xs_recv.proofs.Keeping.{keeps_copy, keeps_same, still_same}
use Rattle.xs_recv.proofs.Rows.{IsReadOf, copy_kept, rows_copy, rows_known}
use Rattle.xs_recv.proofs.Swept.{alone_inside, has_got, slice_gone_got, slice_part_got, slice_swept}
use Rattle.xs_recv.proofs.activity.Activity.try_slice.Goals as goal

pub invariant_of-self : goal.invariant_of-self
invariant_of-self c = λ sated.
    let k = c.self.invariant sated in
    let v = actor c.self.inside.pass in
    let w = actor c.claim_slice.new.pass in
    let u = subst (λ r. SliceAnswers v (c.args.slice + 1) r w) c.in-Ok-Got.field-0-is c.in-Ok-Got.ensures.answer in
    let h = has_got v w (c.args.slice + 1) c.in-Ok-Got.bytes u in
    let before = hand_actor c.self.inside.hand in
    let now = hand_actor c.read_copy-read.new.hand in
    let read = subst (IsReadOf c.args.header c.read_copy-read.result before now) c.unread-copy.ensures
    (record { slice = c.read_copy-read.ensures.slice; bytes = c.read_copy-read.ensures.bytes; hands = c.read_copy-read.ensures.hands }) in
    let can = subst (λ (z : Doing). IfSome c.args.header (λ (x : Bor Header). IsReadable (knows z.pass) x.now c.args.slice)) (sym c.self.view_is) c.requires.header in
    let added = copy_kept c.read_copy-read.result c.self.inside.kept.items c.add_copy.new.kept.items c.args.slice c.in-Ok-Got.bytes (λ (r : SliceReading). HandsIf (option_copied c.args.header) c.args.slice c.in-Ok-Got.bytes r before now)
    (c.add_copy.ensures c.if-add_copy.true) read.slice read.bytes read.hands in
    let new : SliceCopy = record { slice = c.args.slice; bytes = c.in-Ok-Got.bytes; reading = added.0 } in
    let all = c.self.inside.kept.items ++ new ∷ [] in
    let still = still_same (knows c.self.inside.pass) (knows c.claim_slice.new.pass) c.claim_slice.ensures.knows in (
      subst (Keeps w.got c.self.inside.head) (sym added.2) (keeps_copy v.got h.0 w.got c.self.inside.head c.self.inside.kept.items new k.0 h.1 h.2 h.3),
      subst (λ (l : List SliceCopy). KeepsRows (knows c.claim_slice.new.pass) l now c.self.inside.stripes.items) (sym added.2)
          (rows_known (knows c.self.inside.pass) (knows c.claim_slice.new.pass) all now c.self.inside.stripes.items still
          (rows_copy (knows c.self.inside.pass) c.self.inside.kept.items before now c.self.inside.stripes.items c.args.header c.args.slice c.in-Ok-Got.bytes added.0 can added.1 k.1)),
    )

pub invariant_of-self-in-Ok-NotWhole : goal.invariant_of-self-in-Ok-NotWhole
invariant_of-self-in-Ok-NotWhole c = λ sated.
    let k = c.self.invariant sated in
    let v = actor c.self.inside.pass in
    let w = actor c.claim_slice.new.pass in
    let u = subst (λ r. SliceAnswers v (c.args.slice + 1) r w) c.in-Ok-NotWhole.field-0-is c.in-Ok-NotWhole.ensures.answer in
    let still = still_same (knows c.self.inside.pass) (knows c.claim_slice.new.pass) c.claim_slice.ensures.knows in (
      keeps_same v.got w.got c.self.inside.head c.self.inside.kept.items k.0 (slice_part_got v w (c.args.slice + 1) _ u),
      rows_known (knows c.self.inside.pass) (knows c.claim_slice.new.pass) c.self.inside.kept.items (hand_actor c.self.inside.hand) c.self.inside.stripes.items still k.1,
    )

pub invariant_of-self-in-Ok-Gone : goal.invariant_of-self-in-Ok-Gone
invariant_of-self-in-Ok-Gone c = λ sated.
    let k = c.self.invariant sated in
    let v = actor c.self.inside.pass in
    let w = actor c.claim_slice.new.pass in
    let u = subst (λ r. SliceAnswers v (c.args.slice + 1) r w) c.in-Ok-Gone.field-0-is c.in-Ok-Gone.ensures.answer in
    let still = still_same (knows c.self.inside.pass) (knows c.claim_slice.new.pass) c.claim_slice.ensures.knows in (
      keeps_same v.got w.got c.self.inside.head c.self.inside.kept.items k.0 (slice_gone_got v w (c.args.slice + 1) u),
      rows_known (knows c.self.inside.pass) (knows c.claim_slice.new.pass) c.self.inside.kept.items (hand_actor c.self.inside.hand) c.self.inside.stripes.items still k.1,
    )

pub returns-then-add_copy-clause-swept : goal.returns-then-add_copy-clause-swept
returns-then-add_copy-clause-swept c =
    let v = actor c.self.inside.pass in
    let w = actor c.claim_slice.new.pass in
    let u = subst (λ r. SliceAnswers v (c.args.slice + 1) r w) c.in-Ok-Got.field-0-is c.in-Ok-Got.ensures.answer in
    λ alone sated. slice_swept v w (c.args.slice + 1) (slice.Got c.in-Ok-Got.bytes) u (alone_inside c.self.inside.pass c.args.self.now (ap (λ (z : Doing). z.pass) c.self.view_is) alone)

pub returns-in-Ok-NotWhole-clause-swept : goal.returns-in-Ok-NotWhole-clause-swept
returns-in-Ok-NotWhole-clause-swept c =
    let w = actor c.claim_slice.new.pass in
    λ alone sated. slice_swept (actor c.self.inside.pass) w (c.args.slice + 1) _ c.in-Ok-NotWhole.ensures.answer (alone_inside c.self.inside.pass c.args.self.now (ap (λ (z : Doing). z.pass) c.self.view_is) alone)
