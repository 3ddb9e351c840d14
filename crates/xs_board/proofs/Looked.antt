-- A pass that saw a unit whole is not told afterwards that it is not.
use Rattle.std.proofs.Common.{◌≡◌, ℕ, refl, ap, subst, ◌∙◌, arith}
use Rattle.std.specs.Prelude.{Result, Ok, Err, IfOk}
use Rattle.std.specs.Int.{bit_at}
use Rattle.std.proofs.lemmas.List.Elements.{Contains-push}
use Rattle.std.proofs.lemmas.Nat.Bits.{bit_at-lt}
use Rattle.xs_io.specs.declared.lists.Memory.{Memory}
use Rattle.xs_lane_core.specs.Places.{every_word}
use Rattle.xs_lane_core.specs.Machine.{Actor, sees}
use Rattle.xs_lane_core.proofs.Sets.{every_has, has_every}
use Rattle.xs_lanes.specs.Plays.{stand_seen}
use Rattle.xs_lanes.specs.Claiming.{HasSeenPart}
use Rattle.xs_capture.specs.Offer.{Offer}
use Rattle.xs_stored.specs.Stored.{packets}
use Rattle.xs_board.specs.declared.claim.SliceClaim.{SliceClaim}
use Rattle.xs_board.specs.declared.claim.SliceClaim.TheVariants as slice
use Rattle.xs_board.specs.Answers.{UnitAnswers, SliceAnswers, saw_whole}

seen_again : (v : Actor Offer) (unit set : ℕ) (w : Actor Offer) → HasSeenPart packets (saw_whole unit v) unit set w → ⊥
seen_again v unit set w h =
    let within = h.found.seen every_word (Contains-push v.seen (unit, every_word)) in
    h.part (has_every set h.found.low (λ i low.
    let all : bit_at every_word i ≡ 1 = every_has every_word refl i low in
    let more = within i in
    let bit = bit_at-lt set i in
    omega (arith, all, more, bit)))

pub looked : (v u w : Actor Offer) (unit seen : ℕ) (r : SliceClaim) → seen ≡ every_word → u ≡ sees (stand_seen unit seen) unit seen v → UnitAnswers u unit r w → SliceAnswers v unit r w
looked v u w unit seen r whole view answer = by r (subst (λ z. UnitAnswers z unit r w) (view ∙ ap (λ s. sees (stand_seen unit s) unit s v) whole) answer)
  where
    by : (q : SliceClaim) → UnitAnswers (saw_whole unit v) unit q w → SliceAnswers v unit q w
    by (slice.Got bytes) h = h
    by (slice.NotWhole set) h = absurd (seen_again v unit set w h)
    by slice.Gone h = h

pub looked_ok : (v u w : Actor Offer) (unit seen : ℕ) (result : Result SliceClaim Memory) → seen ≡ every_word → u ≡ sees (stand_seen unit seen) unit seen v → IfOk result (λ r. UnitAnswers u unit r w) → IfOk result (λ r. SliceAnswers v unit r w)
looked_ok v u w unit seen (Ok r) whole view answer = looked v u w unit seen r whole view answer
looked_ok v u w unit seen (Err e) whole view answer = tt
