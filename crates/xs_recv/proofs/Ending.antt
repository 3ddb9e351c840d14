-- What is kept at the end.
use Rattle.std.proofs.Common.{◌≡◌, inl, inr, ℕ, ◌+◌, ◌^◌, ◌<◌, ◌≤◌, true, false, true≢false, Option, Some, None, List, All, sym, ap, ◌∙◌, subst, arith}
use Rattle.std.specs.Prelude.{IfSome}
use Rattle.std.proofs.lemmas.Bool.{cases_lt}
use Rattle.std.proofs.lemmas.List.Elements.{All-contains, All-weaker}
use Rattle.xs_params.specs.declared.header.Header.{Header}
use Rattle.xs_lane_core.specs.Machine.{Actor}
use Rattle.xs_lanes.specs.Claiming.{got_in}
use Rattle.xs_lanes.specs.Settled.{IsDone}
use Rattle.xs_capture.specs.Offer.{Offer}
use Rattle.xs_capture.specs.Selection.{HasBytes, Held, IsSelection, IsWholeUnit}
use Rattle.xs_stored.specs.Stored.{packets, held_in, AreIn, IsCopy}
use Rattle.xs_stored.proofs.Copies.{copies_have_bytes}
use Rattle.xs_stored.proofs.Selected.{stored_is_selection}
use Rattle.xs_stored.proofs.WholeUnits.{whole_lanes_are_units, nothing_is_past}
use Rattle.xs_lane_core.specs.Sound.{IsAlone}
use Rattle.xs_board.specs.declared.board.Board.{Board}
use Rattle.xs_board.specs.declared.head.HeadRead.{HeadRead}
use Rattle.xs_board.specs.Passes.{IsBoardPass, actor, unit_count}
use Rattle.xs_board.specs.Answers.{FilesNothing}
use Rattle.xs_board.specs.declared.reading.Reading.TheVariants.{Good}
use Rattle.xs_recv.specs.declared.activity.SliceCopy.{SliceCopy}
use Rattle.xs_handover.specs.declared.handover.Handover.{Handover}
use Rattle.xs_handover.specs.Blocks.{Carried}
use Rattle.xs_handover.specs.Passes.{IsHandPass, actor as hand_actor, stripe_count}
use Rattle.xs_recv.specs.declared.activity.MadeStripe.{MadeStripe}
use Rattle.xs_recv.specs.declared.activity.Kept.{Kept}
use Rattle.xs_recv.specs.Activities.{Doing, HasCopy, IsBlockKept, IsKept, IsMadeByKnown, IsReadBy, IsReadByKnown, Keeps, KeepsRows, KnowsHeader}
use Rattle.xs_recv.specs.Handed.{IsBlockIn, IsMadeBy}
use Rattle.xs_recv.specs.Sweeping.{AreReadAlike, AreReadBy, GetsAll, GotIfWhole, IsGoodHead, IsHeadOf, IsKeptOf, IsSettled}
use Rattle.xs_recv.specs.Filing.{HasFiled}
use Rattle.xs_recv.proofs.Feeding.{filed_after}
use Rattle.xs_recv.specs.Received.{offered_bytes}
use Rattle.xs_recv.proofs.Selected.{receivable}
use Rattle.xs_recv.proofs.Swept.{got_of}

-- each unit that is whole was got
pub whole_got : (v : Actor Offer) (units unit : ℕ) → IsDone packets v → AreIn units v.stored → ((k : ℕ) → k < units → GotIfWhole v k) → IsWholeUnit (held_in v.stored) unit → 0 < got_in packets unit v
whole_got v units unit done low all whole = elim (cases_lt unit units) [
  | inl below ↦ all unit below ((whole_lanes_are_units v units unit done.choice low).1 whole)
  | inr past ↦ absurd (nothing_is_past.unit v.stored units unit low (omega (arith, past)) whole)
]

unit_kept : (v : Actor Offer) (unit : ℕ) (head : Option HeadRead) (kept : List SliceCopy) → Keeps v.got head kept → 0 < got_in packets unit v → IsKept head kept unit
unit_kept v unit head kept k some =
    let p = got_of v unit some in
    subst (IsKept head kept) p.2 (All-contains (λ (q : Offer). IsKept head kept q.unit) v.got p.0 k.each p.1)

none_kept : (kept : List SliceCopy) → IsKept None kept 0 → ⊥
none_kept kept (inl (first, some)) = true≢false (sym some)
none_kept kept (inr (slice, e, has)) = absurd (omega (arith, e))

slice_kept : (head : Option HeadRead) (kept : List SliceCopy) (slice : ℕ) → IsKept head kept (slice + 1) → HasCopy kept slice
slice_kept head kept slice (inl (first, some)) = absurd (omega (arith, first))
slice_kept head kept slice (inr (other, e, (c, has, same))) = (c, has, same ∙ (let n : other ≡ slice = omega (arith, e) in n))

head_ended : (v : Actor Offer) (units : ℕ) (head : Option HeadRead) (kept : List SliceCopy) → IsDone packets v → AreIn units v.stored → ((k : ℕ) → k < units → GotIfWhole v k) → Keeps v.got head kept → IsHeadOf (held_in v.stored) head
head_ended v units None kept done low all k = λ whole. none_kept kept (unit_kept v 0 None kept k (whole_got v units 0 done low all whole))
head_ended v units (Some r) kept done low all k = copies_have_bytes v 0 r.bytes done k.header

-- What is trusted

same_header : (known : Option HeadRead) (s : HeadRead) (h other : Header) → AreReadAlike known (Some s) → IsGoodHead s h → KnowsHeader known other → other ≡ h
same_header None s h other alike good (r, e, n, is) = absurd (cc e)
same_header (Some x) s h other alike (m, good) (r, e, n, is) =
    let same : x ≡ r = cc e in
    let both : Good other n ≡ Good h m = sym is ∙ (ap (λ (z : HeadRead). z.reading) (sym same) ∙ (alike ∙ good)) in
    let one : other ≡ h = cc both in
    one

read_by : (known : Option HeadRead) (s : HeadRead) (h : Header) (w : Actor Carried) (c : SliceCopy) → AreReadAlike known (Some s) → IsGoodHead s h → IsReadByKnown known w c → IsReadBy h w c.slice c.bytes c.reading
read_by known s h w c alike good (inl e) = subst (IsReadBy h w c.slice c.bytes) (sym e) tt
read_by known s h w c alike good (inr (other, knows, read)) = subst (λ (z : Header). IsReadBy z w c.slice c.bytes c.reading) (same_header known s h other alike good knows) read

made_by : (known : Option HeadRead) (s : HeadRead) (h : Header) (w : Actor Carried) (m : MadeStripe) → AreReadAlike known (Some s) → IsGoodHead s h → IsMadeByKnown known w m → IsMadeBy h w m.slice m.stripe
made_by known s h w m alike good (other, knows, made) = subst (λ (z : Header). IsMadeBy z w m.slice m.stripe) (same_header known s h other alike good knows) made

block_in : (known : Option HeadRead) (s : HeadRead) (h : Header) (held : Held) (kept : List SliceCopy) (x : Carried) → AreReadAlike known (Some s) → IsGoodHead s h → All (λ (c : SliceCopy). HasBytes held (c.slice + 1) c.bytes) kept → IsBlockKept known kept x → IsBlockIn held h x
block_in known s h held kept None alike good copies b = b
block_in known s h held kept (Some b) alike good copies (other, knows, c, has, from) = (
  from.header ∙ same_header known s h other alike good knows,
  subst (HasBytes held (b.slice + 1)) (sym from.bytes_are)
      (subst (λ k. HasBytes held (k + 1) c.bytes) (sym from.slice_is) (All-contains (λ (q : SliceCopy). HasBytes held (q.slice + 1) q.bytes) kept c copies has)),
)

trusted_by : (known head : Option HeadRead) (held : Held) (k : Kept) → All (λ (c : SliceCopy). HasBytes held (c.slice + 1) c.bytes) k.copies.items → KeepsRows known k.copies.items (hand_actor k.stripes.hand) k.stripes.made.items → AreReadAlike known head
    → IfSome head (λ (r : HeadRead). (h : Header) → IsGoodHead r h → AreReadBy held h k)
trusted_by known None held k copies rows alike = tt
trusted_by known (Some s) held k copies rows alike = λ h good. let w = hand_actor k.stripes.hand in record {
  copies = All-weaker (IsReadByKnown known w) (λ (c : SliceCopy). IsReadBy h w c.slice c.bytes c.reading) (λ c. read_by known s h w c alike good) k.copies.items rows.readings;
  stripes = record {
    blocks = All-weaker (IsBlockKept known k.copies.items) (IsBlockIn held h) (λ x. block_in known s h held k.copies.items x alike good copies) w.stored rows.blocks;
    made = All-weaker (IsMadeByKnown known w) (λ (m : MadeStripe). IsMadeBy h w m.slice m.stripe) (λ m. made_by known s h w m alike good) k.stripes.made.items rows.made;
    each = rows.each;
  };
}

-- each slice that is whole has a stripe
room_for : (v : Actor Offer) (units stripes slice : ℕ) → AreIn units v.stored → units ≤ stripes + 1 → IsWholeUnit (held_in v.stored) (slice + 1) → slice < stripes
room_for v units stripes slice low room whole = elim (cases_lt (slice + 1) units) [
  | inl below ↦ omega (arith, below, room)
  | inr past ↦ absurd (nothing_is_past.unit v.stored units (slice + 1) low (omega (arith, past)) whole)
]

pub ended : (v : Actor Offer) (units : ℕ) (known : Option HeadRead) (handover : Handover) (k : Kept) → IsDone packets v → AreIn units v.stored → ((unit : ℕ) → unit < units → GotIfWhole v unit) → units ≤ stripe_count handover + 1 → IsHandPass handover k.stripes.hand
    → IsAlone (hand_actor k.stripes.hand) → Keeps v.got k.head k.copies.items → KeepsRows known k.copies.items (hand_actor k.stripes.hand) k.stripes.made.items → (k.trusted ≡ true → AreReadAlike known k.head) → IsKeptOf (held_in v.stored) handover k
ended v units known handover k done low all room pass alone keeps rows alike = record {
  head = head_ended v units k.head k.copies.items done low all keeps;
  copies = copies;
  each = λ some slice whole. slice_kept k.head k.copies.items slice (unit_kept v (slice + 1) k.head k.copies.items keeps (whole_got v units (slice + 1) done low all whole));
  pass = pass;
  alone = alone;
  room = λ slice whole. room_for v units (stripe_count handover) slice low room whole;
  trusted = λ t. trusted_by known k.head (held_in v.stored) k copies rows (alike t);
}
  where
    copies : All (λ (c : SliceCopy). HasBytes (held_in v.stored) (c.slice + 1) c.bytes) k.copies.items
    copies = All-weaker (λ (c : SliceCopy). IsCopy v.got (c.slice + 1) c.bytes) (λ (c : SliceCopy). HasBytes (held_in v.stored) (c.slice + 1) c.bytes) (λ c. copies_have_bytes v (c.slice + 1) c.bytes done) k.copies.items keeps.copies

pub settled : (offers : List Offer) (units : ℕ) (v : Actor Offer) → offered_bytes offers < 2 ^ 32 → IsDone packets v → AreIn units v.stored → HasFiled offers v → ((unit : ℕ) → unit < units → GotIfWhole v unit) → IsSettled offers v
settled offers units v small done low filed all = record {
  selection = selection;
  receivable = receivable offers (held_in v.stored) small (nothing_is_past.place v.stored units low) selection;
  done = done;
  got = λ unit whole. whole_got v units unit done low all whole;
}
  where
    selection : IsSelection offers (held_in v.stored)
    selection = stored_is_selection offers v done.choice filed.each filed.only

-- the caller has gathered all activities, and swept
pub settled_after : (b : Board) (offers : List Offer) (gathered swept : Doing) → offered_bytes offers < 2 ^ 32 → HasFiled offers (actor gathered.pass) → IsAlone (actor gathered.pass) → IsBoardPass b swept.pass → FilesNothing (actor gathered.pass) (actor swept.pass)
    → swept.starved ≡ false → GetsAll (unit_count b) gathered swept → IsDone packets (actor swept.pass) → IsSettled offers (actor swept.pass)
settled_after b offers gathered swept small filed alone pass files sated all done =
    settled offers (unit_count b) (actor swept.pass) small done pass.stored (filed_after offers (actor gathered.pass) (actor swept.pass) files filed) (all alone sated)
