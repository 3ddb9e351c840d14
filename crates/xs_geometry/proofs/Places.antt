-- The places of packets by number.
use Rattle.std.proofs.Common.{◌≡◌, ℕ, zero, suc, ◌+◌, ◌-◌, ◌*◌, ◌/◌, ◌%◌, ◌^◌, ◌<◌, ◌≤◌, length, refl, ap, ◌∙◌, arith}
use Rattle.xs_layout.specs.Geometry.{PacketPlace, packet_places_of}
use Rattle.xs_geometry.specs.Places.{place_in}

abbrev pub one_type : ℕ → ℕ → PacketPlace
one_type first line = record { first_type = first; types = 1; line = line }

pub same_place : (a b c d : ℕ) → a ≡ b → c ≡ d → one_type a c ≡ one_type b d
same_place a b c d first line = ap (λ k. one_type k c) first ∙ ap (one_type b) line

pub places_counted : (nlx nly precinct : ℕ) → nly ≤ 2 → length (packet_places_of nlx nly precinct) ≡ 3 * 2 ^ nly - 2
places_counted nlx zero precinct few = refl
places_counted nlx (suc zero) precinct few = refl
places_counted nlx (suc (suc zero)) precinct few = refl
places_counted nlx (suc (suc (suc nly))) precinct few = absurd (omega (arith, few))

-- the two lines of the level after the deepest
next_level : (nlx precinct k : ℕ) → k < 6 → one_type (nlx - 2 + 1 + 3 + k % 3) (2 * precinct + k / 3) ≡ place_in (packet_places_of nlx 2 precinct) (4 + k)
next_level nlx precinct zero few = same_place _ _ _ _ (omega arith) (omega arith)
next_level nlx precinct (suc zero) few = same_place _ _ _ _ (omega arith) (omega arith)
next_level nlx precinct (suc (suc zero)) few = same_place _ _ _ _ (omega arith) (omega arith)
next_level nlx precinct (suc (suc (suc zero))) few = same_place _ _ _ _ (omega arith) (omega arith)
next_level nlx precinct (suc (suc (suc (suc zero)))) few = same_place _ _ _ _ (omega arith) (omega arith)
next_level nlx precinct (suc (suc (suc (suc (suc zero))))) few = same_place _ _ _ _ (omega arith) (omega arith)
next_level nlx precinct (suc (suc (suc (suc (suc (suc k)))))) few = absurd (omega (arith, few))

pub second_level : (nlx nly precinct number : ℕ) → nly ≤ 2 → 3 < number → number < length (packet_places_of nlx nly precinct)
    → one_type (nlx - nly + 1 + 3 + (number - 4) % 3) (2 * precinct + (number - 4) / 3) ≡ place_in (packet_places_of nlx nly precinct) number
second_level nlx zero precinct number few more inside = absurd (omega (arith, more, inside))
second_level nlx (suc zero) precinct number few more inside = absurd (omega (arith, more, inside))
second_level nlx (suc (suc zero)) precinct number few more inside =
    let back : 4 + (number - 4) ≡ number = omega (arith, more) in
    next_level nlx precinct (number - 4) (omega (arith, more, inside)) ∙ ap (place_in (packet_places_of nlx 2 precinct)) back
second_level nlx (suc (suc (suc nly))) precinct number few more inside = absurd (omega (arith, few))
