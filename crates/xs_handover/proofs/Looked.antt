-- A pass that saw a stripe whole is not told afterwards that it is not.
use Rattle.std.proofs.Common.{◌≡◌, ℕ, refl, ap, subst, ◌∙◌, arith}
use Rattle.std.specs.Prelude.{Result, Ok, Err, IfOk}
use Rattle.std.specs.Int.{bit_at}
use Rattle.std.proofs.lemmas.List.Elements.{Contains-push}
use Rattle.std.proofs.lemmas.Nat.Bits.{bit_at-lt}
use Rattle.xs_io.specs.declared.lists.Memory.{Memory}
use Rattle.xs_lane_core.specs.Places.{every_word}
use Rattle.xs_lane_core.specs.Machine.{Actor, sees}
use Rattle.xs_lane_core.proofs.Sets.{every_has, has_every}
use Rattle.xs_lanes.specs.Plays.{stand_seen}
use Rattle.xs_lanes.specs.Claiming.{HasSeenPart}
use Rattle.xs_params.specs.declared.header.Header.{Header}
use Rattle.xs_handover.specs.declared.claim.StripeClaim.{StripeClaim}
use Rattle.xs_handover.specs.declared.claim.StripeClaim.TheVariants.{Got, NotWhole, Gone}
use Rattle.xs_handover.specs.Blocks.{Carried, blocks}
use Rattle.xs_handover.specs.Answers.{ClaimAnswers, StripeAnswers, saw_whole}

seen_again : (v : Actor Carried) (slice set : ℕ) (w : Actor Carried) → HasSeenPart blocks (saw_whole slice v) slice set w → ⊥
seen_again v slice set w h =
    let within = h.found.seen every_word (Contains-push v.seen (slice, every_word)) in
    h.part (has_every set h.found.low (λ i low.
    let all : bit_at every_word i ≡ 1 = every_has every_word refl i low in
    let more = within i in
    let bit = bit_at-lt set i in
    omega (arith, all, more, bit)))

pub looked : (v u w : Actor Carried) (h : Header) (slice seen : ℕ) (r : StripeClaim) → seen ≡ every_word → u ≡ sees (stand_seen slice seen) slice seen v → ClaimAnswers u h slice r w → StripeAnswers v h slice r w
looked v u w h slice seen r whole view answer = by r (subst (λ z. ClaimAnswers z h slice r w) (view ∙ ap (λ s. sees (stand_seen slice s) slice s v) whole) answer)
  where
    by : (q : StripeClaim) → ClaimAnswers (saw_whole slice v) h slice q w → StripeAnswers v h slice q w
    by (Got stripe) has = has
    by (NotWhole set) has = absurd (seen_again v slice set w has)
    by Gone has = has

pub looked_ok : (v u w : Actor Carried) (h : Header) (slice seen : ℕ) (result : Result StripeClaim Memory) → seen ≡ every_word → u ≡ sees (stand_seen slice seen) slice seen v → IfOk result (λ r. ClaimAnswers u h slice r w)
    → IfOk result (λ r. StripeAnswers v h slice r w)
looked_ok v u w h slice seen (Ok r) whole view answer = looked v u w h slice seen r whole view answer
looked_ok v u w h slice seen (Err e) whole view answer = tt
