-- The stripes that are made are those of the picture.
use Rattle.std.proofs.Common.{◌≡◌, ◌⊎◌, inl, inr, ℕ, ◌+◌, ◌*◌, ◌<◌, ◌≤◌, Bool, true, false, true≢false, Option, Some, None, List, [], All, refl, sym, ap, subst, ◌∙◌, arith}
use Rattle.std.specs.Prelude.{IfOk, IfSome, IsSome, MatchResult, Result, Ok, Err}
use Rattle.std.specs.List.{Contains}
use Rattle.std.proofs.lemmas.Bool.{cases_lt}
use Rattle.std.proofs.lemmas.List.Elements.{All-contains, All-weaker}
use Rattle.xs_params.specs.declared.header.Header.{Header}
use Rattle.xs_params.specs.Accepted.{IsAccepted}
use Rattle.xs_params.specs.Geometry.{slice_count}
use Rattle.xs_params.specs.Picture.{IsPlace, Picture}
use Rattle.xs_params.specs.Rows.{Rows}
use Rattle.xs_grammar.specs.Precinct.{Content}
use Rattle.xs_reading.specs.Rows.{dequantised_rows}
use Rattle.xs_decoding.specs.Decoded.{IsPictureOf}
use Rattle.xs_lane_core.specs.Machine.{Actor, newcomer}
use Rattle.xs_lanes.specs.Knowing.{IsChoice}
use Rattle.xs_lanes.specs.Settled.{IsDone}
use Rattle.xs_capture.specs.Selection.{AreMissing, Held, IsBounded}
use Rattle.xs_board.specs.declared.head.HeadRead.{HeadRead}
use Rattle.xs_stripe.specs.Stripe.{IsStripeOf, line_of}
use Rattle.xs_stripe.specs.Written.{HasLinesOf}
use Rattle.xs_handover.specs.Blocks.{Block, Carried, blocks, stripe_of}
use Rattle.xs_handover.specs.Decoded.{AreRowsAt, IsDecodedBlock}
use Rattle.xs_handover.specs.Passes.{actor, stripe_count}
use Rattle.xs_recv.specs.declared.received.Received.{Received}
use Rattle.xs_recv.specs.declared.received.Received.TheVariants as received
use Rattle.xs_recv.specs.declared.received.Stop.{Stop}
use Rattle.xs_recv.specs.declared.activity.MadeStripe.{MadeStripe}
use Rattle.xs_recv.specs.declared.activity.SliceCopy.{SliceCopy}
use Rattle.xs_recv.specs.declared.finishing.Finishing.{Finishing}
use Rattle.xs_recv.specs.declared.finishing.Left.{Left}
use Rattle.xs_recv.specs.Received.{AreSpelled, HasStripeLines, IsReceived, IsSynthesised, stream_size}
use Rattle.xs_recv.specs.Handed.{AreStripesBy, HasMade, IsBlockIn, IsMadeBy}
use Rattle.xs_recv.specs.Sweeping.{AreReadBy, IsGoodHead, IsKeptOf}
use Rattle.xs_recv.specs.Finishing.{AreKeptBy, AreStripesOf, IsAnswerTo, IsFinished, IsRenewed, kept_of}
use Rattle.xs_recv.specs.Reading.{AreInOrder, AreReadable, IsNoPicture, IsStop}
use Rattle.xs_recv.proofs.Contents.{blocks_rows}
use Rattle.xs_recv.proofs.InOrder.{readable}
use Rattle.xs_recv.proofs.Pictures.{content, spelled, whole_units}
use Rattle.xs_recv.proofs.Wholes.{all_whole}

-- What is kept, by the header that was found

by_header : (held : Held) (h : Header) (k : _) (head : Option HeadRead) → IsSome head → IfSome head (λ (r : HeadRead). IsGoodHead r h) → IfSome head (λ (r : HeadRead). (g : Header) → IsGoodHead r g → AreReadBy held g k) → AreReadBy held h k
by_header held h k None some good read = absurd (true≢false (sym some))
by_header held h k (Some r) some good read = read h good

-- there is room for all slices
room_of : (n room : ℕ) → ((slice : ℕ) → slice < n → slice < room) → n ≤ room
room_of n room each = elim (cases_lt room n) [
  | inl less ↦ let no = each room less in absurd (omega (arith, no))
  | inr more ↦ more
]

pub kept_by : (held : Held) (h : Header) (f : Finishing) (left : Left) → IsBounded held → IsKeptOf held f.handover (kept_of left f.stripes) → IsSome left.head → IfSome left.head (λ (r : HeadRead). IsGoodHead r h) → AreMissing held (slice_count h) []
    → AreKeptBy held h f left.copies.items left.trusted
kept_by held h f left bounded kept some good missing = record {
  bytes = kept.copies;
  each = λ slice below. kept.each some slice (all_whole held (slice_count h) bounded missing slice below);
  room = room_of (slice_count h) (stripe_count f.handover) (λ slice below. kept.room slice (all_whole held (slice_count h) bounded missing slice below));
  readings = λ t. (by_header held h (kept_of left f.stripes) left.head some good (kept.trusted t)).copies;
  stripes = λ t. (by_header held h (kept_of left f.stripes) left.head some good (kept.trusted t)).stripes;
}

-- nothing was handed and made
none_all : {A : Type 0} (P : A → Type 0) → All P []
none_all P i d below = absurd (omega (arith, below))

pub none_by : (held : Held) (h : Header) (v : Actor Carried) (made : List MadeStripe) → v ≡ newcomer → made ≡ [] → AreStripesBy held h v made
none_by held h v made first none = subst (λ (z : Actor Carried). AreStripesBy held h z made) (sym first) (subst (AreStripesBy held h newcomer) (sym none) (record {
  blocks = none_all (IsBlockIn held h);
  made = none_all (λ (m : MadeStripe). IsMadeBy h newcomer m.slice m.stripe);
  each = none_all (λ (x : Carried). HasMade [] (stripe_of x));
}))

-- what is started: with what is kept, where that is trusted, and else anew
pub record IsStarted (held : Held) (h : Header) (f : Finishing) (trusted : Bool) (list : List (Option SliceCopy)) : Type 0 where
  pub readable : AreReadable held h (actor f.stripes.hand) trusted list
  pub stripes : AreStripesBy held h (actor f.stripes.hand) f.stripes.made.items
  pub room : slice_count h ≤ stripe_count f.handover

pub started : (held : Held) (h : Header) (old new : Finishing) (copies : List SliceCopy) (trusted : Bool) (list : List (Option SliceCopy)) → AreKeptBy held h old copies trusted → AreInOrder copies (slice_count h) list
    → (trusted ≡ true → new ≡ old) → (trusted ≡ false → IsRenewed new) → (trusted ≡ false → stripe_count new.handover ≡ slice_count h) → IsStarted held h new trusted list
started held h old new copies true list kept order same renewed room = subst (λ (f : Finishing). IsStarted held h f true list) (sym (same refl)) (record {
  readable = readable held h (actor old.stripes.hand) true copies list kept.bytes kept.each kept.readings order;
  stripes = kept.stripes refl;
  room = kept.room;
})
started held h old new copies false list kept order same renewed room = record {
  readable = readable held h (actor new.stripes.hand) false copies list kept.bytes kept.each (λ t. absurd (true≢false (sym t))) order;
  stripes = none_by held h (actor new.stripes.hand) new.stripes.made.items (renewed refl).first (renewed refl).none;
  room = let e = room refl in omega (arith, e);
}

-- The stripes

-- blocks that were got were read by the header, and have the rows of the content
by_of_block : (held : Held) (h : Header) (x : Carried) → IsBlockIn held h x → IfSome x (λ (b : Block). b.header ≡ h)
by_of_block held h None from = tt
by_of_block held h (Some b) from = from.0

module _ (held : Held) (h : Header) (v : Actor Carried) (made : List MadeStripe) (accepted : IsAccepted h) (f : IsFinished held h v made) (done : IsDone blocks v) (decoded : All IsDecodedBlock v.stored) where
  abbrev pub all : Content
  all = content held h f.size v f.total accepted done.choice f.stripes.blocks decoded f.handed

  pub all_spelled : AreSpelled h all f.handed.units
  all_spelled = spelled held h f.size v f.total accepted done.choice f.stripes.blocks decoded f.handed

  abbrev pub rows : Rows
  rows = dequantised_rows h all

  stored_rows : All (AreRowsAt h rows) v.stored
  stored_rows = blocks_rows held h all f.handed.units v.stored accepted (whole_units held h f.size v f.total accepted done.choice f.stripes.blocks decoded f.handed) all_spelled f.stripes.blocks decoded

  -- what holds of all that is stored holds of what was got
  of_got : (P : Carried → Type 0) (values : List Carried) → All P v.stored → All (Contains v.got) values → All P values
  of_got P values stored got = All-weaker (Contains v.got) P (λ x has. All-contains P v.stored x stored (All-contains (Contains v.stored) v.got x done.got has)) values got

  stripe_right : (m : MadeStripe) → IsMadeBy h v m.slice m.stripe → IsStripeOf h m.slice m.stripe rows
  stripe_right m by = by.is (All-weaker (IsBlockIn held h) (λ (x : Carried). IfSome x (λ (b : Block). b.header ≡ h)) (λ x from. by_of_block held h x from) by.values (of_got (IsBlockIn held h) by.values f.stripes.blocks by.got)) rows
      (of_got (AreRowsAt h rows) by.values stored_rows by.got)

  pub stripes_right : AreStripesOf h rows made
  stripes_right = All-weaker (λ (m : MadeStripe). IsMadeBy h v m.slice m.stripe) (λ (m : MadeStripe). IsStripeOf h m.slice m.stripe rows) stripe_right made f.stripes.made

  -- The picture

  module _ (picture : Picture) (right : IsPictureOf h rows picture) where
    stated : (h.lcod ≡ 0) ⊎ (h.lcod ≡ f.total) → (h.lcod ≡ 0) ⊎ (h.lcod ≡ stream_size f.size f.handed.units)
    stated (inl none) = inl none
    stated (inr same) = inr (same ∙ f.handed.sized)

    pub picture_received : IsReceived held (received.Picture picture)
    picture_received = (h, f.size, f.headed, f.handed.units, whole_units held h f.size v f.total accepted done.choice f.stripes.blocks decoded f.handed, all, all_spelled, stated f.stated, right)

    has_lines : (m : MadeStripe) → IsStripeOf h m.slice m.stripe rows → HasLinesOf picture m.stripe
    has_lines m is component line column place from to =
        let at = subst (λ s. IsPlace s component line column) right.shape place in
        let row = is.lines component line at.row_there.component_there from to in
        row.samples column (subst (λ n. column < n) (sym row.wide) at.column_there) ∙ sym (right.samples component line column at)

    lines_of : (slice : ℕ) → (m : MadeStripe) → m.slice ≡ slice → IsMadeBy h v m.slice m.stripe → HasStripeLines h picture v slice
    lines_of slice m same by =
        let is = stripe_right m by in
        record {
          stripe = m.stripe;
          made = subst (λ k. IsMadeBy h v k m.stripe) same by;
          first = is.first_is ∙ ap (λ k. line_of h (k * h.hsl)) same;
          end = is.end_is ∙ ap (λ k. line_of h ((k + 1) * h.hsl)) same;
          lines = has_lines m is;
        }

    pub picture_synthesised : IsSynthesised held (received.Picture picture) v
    picture_synthesised = (
      h,
      f.size,
      f.headed,
      record {
        handed = f.stripes.blocks;
        got = f.all.got;
        lines = λ slice there. let m = f.all.made slice there in lines_of slice m.0 m.2 (All-contains (λ (x : MadeStripe). IsMadeBy h v x.slice x.stripe) made m.0 f.stripes.made m.1);
      },
    )

-- What is received

of_stop : (held : Held) (v : Actor Carried) (answer : Received) → IsReceived held answer × IsNoPicture answer → IsReceived held answer × IsSynthesised held answer v
of_stop held v (received.Picture picture) s = absurd s.1
of_stop held v (received.Missing header slices) s = (s.0, tt)
of_stop held v (received.Damaged damage) s = (s.0, tt)

-- the picture is received where all is finished, and else what stopped it
abbrev pub IsEnd : Held → Actor Carried → List MadeStripe → Result Header Stop → Type 0
IsEnd held v made finished = MatchResult finished (λ h. IsFinished held h v made) (λ why. IsChoice blocks v → IsStop held why)

pub filling : (held : Held) (v : Actor Carried) (made : List MadeStripe) (finished : Result Header Stop) → IsEnd held v made finished → IsDone blocks v → All IsDecodedBlock v.stored
    → IfOk finished (λ h. IsAccepted h × ((rows : Rows) × AreStripesOf h rows made))
filling held v made (Ok h) f done decoded = let accepted = f.headed.spelled.4.accepted in (accepted, (rows held h v made accepted f done decoded, stripes_right held h v made accepted f done decoded))
filling held v made (Err why) f done decoded = tt

pub answered : (held : Held) (v : Actor Carried) (made : List MadeStripe) (finished : Result Header Stop) (answer : Received) → IsEnd held v made finished → IsAnswerTo finished made answer → IsDone blocks v → All IsDecodedBlock v.stored
    → IsReceived held answer × IsSynthesised held answer v
answered held v made (Ok h) answer f a done decoded =
    let accepted = f.headed.spelled.4.accepted in
    let right = a.2 (rows held h v made accepted f done decoded) (stripes_right held h v made accepted f done decoded) f.all.made in (
      subst (IsReceived held) (sym a.1) (picture_received held h v made accepted f done decoded a.0 right),
      subst (λ z. IsSynthesised held z v) (sym a.1) (picture_synthesised held h v made accepted f done decoded a.0 right),
    )
answered held v made (Err why) answer f a done decoded = of_stop held v answer (subst (IsStop held) a (f done.choice))
