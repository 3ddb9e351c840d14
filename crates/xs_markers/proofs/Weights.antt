-- Weights in bytes.
use Rattle.std.proofs.Common.{◌≡◌, ℕ, zero, suc, ◌+◌, ◌*◌, ◌/◌, ◌<◌, List, [], ◌∷◌, ◌++◌, length, take, get_or, set, refl, sym, ap, ◌∙◌, arith}
use Rattle.std.proofs.lemmas.List.{take_more, take_more_set}
use Rattle.xs_lists.specs.Bits.{bits_of, bits_of_bytes, bits_of_fields, FieldsFit}
use Rattle.xs_layout.specs.declared.Weight.{Weight}
use Rattle.xs_markers.specs.Reading.{weights_of}
use Rattle.xs_markers.proofs.Bodies.{pairs_of}
use Rattle.xs_markers.proofs.Cut.{IsBytes}

-- two bytes each
pub weights_count : (body : List ℕ) → length (weights_of body) ≡ length body / 2
weights_count [] = refl
weights_count (gain ∷ []) = refl
weights_count (gain ∷ priority ∷ body) = omega (arith, weights_count body)

-- the weight of a band
abbrev pub weight_in : List ℕ → ℕ → Weight
weight_in body band = record { gain = get_or body (2 * band) 0; priority = get_or body (2 * band + 1) 0 }

pub weight_at : (body : List ℕ) (band : ℕ) (d : Weight) → 2 * band + 1 < length body → get_or (weights_of body) band d ≡ weight_in body band
weight_at [] band d inside = absurd (omega (arith, inside))
weight_at (gain ∷ []) band d inside = absurd (omega (arith, inside))
weight_at (gain ∷ priority ∷ body) zero d inside = refl
weight_at (gain ∷ priority ∷ body) (suc band) d inside =
    let first : suc (suc (2 * band)) ≡ 2 * suc band = omega arith in
    let second : suc (suc (2 * band + 1)) ≡ 2 * suc band + 1 = omega arith in
    weight_at body band d (omega (arith, inside))
    ∙ ap (λ k. record { gain = get_or (gain ∷ priority ∷ body) k 0; priority = get_or body (2 * band + 1) 0 }) first
    ∙ ap (λ k. record { gain = get_or (gain ∷ priority ∷ body) (2 * suc band) 0; priority = get_or (gain ∷ priority ∷ body) k 0 }) second

-- one more of them
pub weights_more : (weights : List Weight) (body : List ℕ) (band : ℕ) → band < length weights → 2 * band + 1 < length body
    → take band weights ≡ take band (weights_of body) → take (band + 1) (set weights band (weight_in body band)) ≡ take (band + 1) (weights_of body)
weights_more weights body band room inside same =
    let none : Weight = record { gain = 0; priority = 0 } in
    let there : band < length (weights_of body) = omega (arith, weights_count body, inside) in
    take_more_set weights band (weight_in body band) room ∙ ap (λ l. l ++ weight_in body band ∷ []) same
    ∙ ap (λ w. take band (weights_of body) ++ w ∷ []) (sym (weight_at body band none inside)) ∙ sym (take_more (weights_of body) band none there)

-- their fields
pub weights_bits : (body : List ℕ) (bands : ℕ) → length body ≡ 2 * bands → bits_of_bytes body ≡ bits_of_fields (pairs_of (weights_of body))
weights_bits [] bands size = refl
weights_bits (gain ∷ []) bands size = absurd (omega (arith, size))
weights_bits (gain ∷ priority ∷ body) zero size = absurd (omega (arith, size))
weights_bits (gain ∷ priority ∷ body) (suc bands) size =
    ap (λ l. bits_of 8 gain ++ (bits_of 8 priority ++ l)) (weights_bits body bands (omega (arith, size)))

pub weights_room : (body : List ℕ) → IsBytes body → FieldsFit (pairs_of (weights_of body))
weights_room [] small = tt
weights_room (gain ∷ []) small = tt
weights_room (gain ∷ priority ∷ body) small = (small 0, (small 1, weights_room body (λ i. small (suc (suc i)))))
