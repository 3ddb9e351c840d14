-- What was handed and made is still so when more is handed.
use Rattle.std.proofs.Common.{◌≡◌, ◌⊎◌, inl, inr, ℕ, ◌+◌, ◌^◌, Some, None, List, All, get_or, refl, sym, ap, subst, ◌∙◌}
use Rattle.std.specs.List.{Contains}
use Rattle.std.proofs.lemmas.List.Elements.{All-contains, All-contains_itself, All-weaker}
use Rattle.xs_params.specs.declared.header.Header.{Header}
use Rattle.xs_lane_core.specs.Machine.{Actor}
use Rattle.xs_lane_core.specs.Sound.{IsAlone}
use Rattle.xs_lanes.specs.Knowing.{SameShare}
use Rattle.xs_capture.specs.Selection.{HasBytes, Held}
use Rattle.xs_handover.specs.declared.piece.SliceSource.{SliceSource}
use Rattle.xs_handover.specs.Blocks.{Carried, block_place, stripe_of}
use Rattle.xs_handover.specs.Answers.{HandsNothing}
use Rattle.xs_handover.specs.Handing.{Hands, IsBlockFrom, IsFiled, source_of}
use Rattle.xs_recv.specs.declared.activity.MadeStripe.{MadeStripe}
use Rattle.xs_recv.specs.declared.activity.SliceReading.{SliceReading}
use Rattle.xs_recv.specs.declared.activity.SliceReading.TheVariants.{Handed, Bad, Unread}
use Rattle.xs_recv.specs.Activities.{IsReadBy}
use Rattle.xs_recv.specs.Handed.{AreHanded, AreStripesBy, HasMade, IsBlockIn, IsMadeBy}
use Rattle.xs_recv.specs.Reading.{HandsOnly}

-- who hands nothing loses nothing
pub hands_none : (source : SliceSource) (v : Actor Carried) → HandsOnly source v v
hands_none source v = record {
  only = λ i d below. inl (All-contains_itself v.stored i d below);
  stored = All-contains_itself v.stored;
  repeated = All-contains_itself v.repeated;
  got = refl;
}

pub hands_same : (source : SliceSource) (v w : Actor Carried) → w ≡ v → HandsOnly source v w
hands_same source v w same = subst (HandsOnly source v) (sym same) (hands_none source v)

pub hands_only : (source : SliceSource) (v w : Actor Carried) → Hands source v w → HandsOnly source v w
hands_only source v w h = record { only = h.only; stored = h.stored; repeated = h.repeated; got = h.got }

pub hands_rows : (h : Header) (slice : ℕ) (bytes : List ℕ) (v w : Actor Carried) → Hands (source_of h slice bytes) v w → AreHanded h slice bytes w
hands_rows h slice bytes v w hands = record { body = hands.body; up = hands.up; down = hands.down }

-- who has the whole share has it still
pub alone_still : (v w : Actor Carried) → SameShare v w → IsAlone v → IsAlone w
alone_still v w s alone = s.0 ∙ alone ∙ ap (λ n. 2 ^ n) (sym s.1)

-- Later

-- the pass w has all that the pass v stored and repeated
pub record IsLater (v w : Actor Carried) : Type 0 where
  pub stored : All (Contains w.stored) v.stored
  pub repeated : All (Contains w.repeated) v.repeated

pub later_none : (v : Actor Carried) → IsLater v v
later_none v = record { stored = All-contains_itself v.stored; repeated = All-contains_itself v.repeated }

pub later_by : (source : SliceSource) (v w : Actor Carried) → HandsOnly source v w → IsLater v w
later_by source v w hands = record { stored = hands.stored; repeated = hands.repeated }

pub later_nothing : (v w : Actor Carried) → HandsNothing v w → IsLater v w
later_nothing v w none = record {
  stored = subst (λ (l : List Carried). All (Contains l) v.stored) (sym none.stored) (All-contains_itself v.stored);
  repeated = subst (λ (l : List (ℕ × ℕ)). All (Contains l) v.repeated) (sym none.repeated) (All-contains_itself v.repeated);
}

pub later_both : (u v w : Actor Carried) → IsLater u v → IsLater v w → IsLater u w
later_both u v w a b = record {
  stored = All-weaker (Contains v.stored) (Contains w.stored) (λ x has. All-contains (Contains w.stored) v.stored x b.stored has) u.stored a.stored;
  repeated = All-weaker (Contains v.repeated) (Contains w.repeated) (λ x has. All-contains (Contains w.repeated) v.repeated x b.repeated has) u.repeated a.repeated;
}

filed_still : (v w : Actor Carried) (x : Carried) → IsLater v w → IsFiled v x → IsFiled w x
filed_still v w x later (inl has) = inl (All-contains (Contains w.stored) v.stored x later.stored has)
filed_still v w x later (inr again) = inr (All-contains (Contains w.repeated) v.repeated (stripe_of x, block_place x) later.repeated again)

pub handed_still : (v w : Actor Carried) (h : Header) (slice : ℕ) (bytes : List ℕ) → IsLater v w → AreHanded h slice bytes v → AreHanded h slice bytes w
handed_still v w h slice bytes later handed = record {
  body = let b = handed.body in (b.0, filed_still v w _ later b.1);
  up = λ some. let b = handed.up some in (b.0, filed_still v w _ later b.1);
  down = λ more. let b = handed.down more in (b.0, filed_still v w _ later b.1);
}

pub read_still : (v w : Actor Carried) (h : Header) (slice : ℕ) (bytes : List ℕ) (reading : SliceReading) → IsLater v w → IsReadBy h v slice bytes reading → IsReadBy h w slice bytes reading
read_still v w h slice bytes Handed later read = handed_still v w h slice bytes later read
read_still v w h slice bytes (Bad fault) later read = read
read_still v w h slice bytes Unread later read = read

-- a block of a unit that is held
block_held : (held : Held) (source : SliceSource) (x : Carried) → HasBytes held (source.slice + 1) source.bytes → IsBlockFrom source x → IsBlockIn held source.header x
block_held held source None whole from = absurd from
block_held held source (Some b) whole from = (from.header, subst (λ k. HasBytes held (k + 1) b.bytes) (sym from.slice_is) (subst (HasBytes held (source.slice + 1)) (sym from.bytes_are) whole))

made_still : (h : Header) (v w : Actor Carried) (slice : ℕ) (m : MadeStripe) → w.got ≡ v.got → IsMadeBy h v slice m.stripe → IsMadeBy h w slice m.stripe
made_still h v w slice m same made = record {
  values = made.values;
  run = made.run;
  got = subst (λ (g : List Carried). All (Contains g) made.values) (sym same) made.got;
  is = made.is;
}

pub stripes_still : (held : Held) (source : SliceSource) (v w : Actor Carried) (made : List MadeStripe) → HasBytes held (source.slice + 1) source.bytes → HandsOnly source v w → AreStripesBy held source.header v made → AreStripesBy held source.header w made
stripes_still held source v w made whole hands by = record {
  blocks = λ i d below. block_of_all (get_or w.stored i d) (hands.only i d below);
  made = λ i d below. made_still source.header v w (get_or made i d).slice (get_or made i d) hands.got (by.made i d below);
  each = subst (λ (g : List Carried). All (λ (x : Carried). HasMade made (stripe_of x)) g) (sym hands.got) by.each;
}
  where
    block_of_all : (x : Carried) → (Contains v.stored x ⊎ IsBlockFrom source x) → IsBlockIn held source.header x
    block_of_all x (inl has) = All-contains (IsBlockIn held source.header) v.stored x by.blocks has
    block_of_all x (inr from) = block_held held source x whole from
