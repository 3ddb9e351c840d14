-- The bits of the code groups of a line, from one on.
use Rattle.std.proofs.Common.{◌≡◌, ℕ, zero, suc, ◌+◌, ◌-◌, ◌*◌, ◌/◌, ◌%◌, ◌<◌, List, [], ◌∷◌, ◌++◌, map, sum_by, refl, sym, ap, ◌∙◌, arith, append_assoc}
use Rattle.std.specs.Prelude.{Bool, true, false, nat_lt, not, ◌&&◌, if◌then◌else◌, ℤ, slice_index_or}
use Rattle.std.specs.List.{range_with_len, flat_map}
use Rattle.std.proofs.lemmas.Bool.{ltb-false}
use Rattle.std.proofs.lemmas.List.Folds.{flat_map-map}
use Rattle.std.proofs.lemmas.List.Sums.{sum_by-cons}
use Rattle.xs_lists.specs.Bits.{bits_of, bit_of}
use Rattle.xs_lists.specs.Spelling.{upto, downto}
use Rattle.xs_spelling.specs.Data.{columns_of, plane_bits}
use Rattle.xs_spelling.specs.Written.{sign_of, group_bits}
use Rattle.xs_spelling.specs.Sizes.{numbered}
use Rattle.xs_planes.specs.Numbers.{four_at, level_of, bit_planes_of, signs_with}
use Rattle.xs_lists.proofs.Ranges.{range_first}

four : (a b c d e f g h : ℕ) → a ≡ e → b ≡ f → c ≡ g → d ≡ h → a ∷ b ∷ c ∷ d ∷ [] ≡ e ∷ f ∷ g ∷ h ∷ []
four a b c d e f g h p q r s = ap (λ x. x ∷ b ∷ c ∷ d ∷ []) p ∙ ap (λ x. e ∷ x ∷ c ∷ d ∷ []) q ∙ ap (λ x. e ∷ f ∷ x ∷ d ∷ []) r ∙ ap (λ x. e ∷ f ∷ g ∷ x ∷ []) s

pub joined_bits : (a b c d : ℕ) → a < 2 → b < 2 → c < 2 → d < 2 → bits_of 4 (a * 8 + b * 4 + c * 2 + d) ≡ a ∷ b ∷ c ∷ d ∷ []
unfolding bits_of
joined_bits a b c d p q r s =
    let v = a * 8 + b * 4 + c * 2 + d in
    let first : v / 2 / 2 / 2 % 2 ≡ a = omega (arith, p, q, r, s) in
    let second : v / 2 / 2 % 2 ≡ b = omega (arith, p, q, r, s) in
    let third : v / 2 % 2 ≡ c = omega (arith, p, q, r, s) in
    let fourth : v % 2 ≡ d = omega (arith, p, q, r, s) in
    four (v / 2 / 2 / 2 % 2) (v / 2 / 2 % 2) (v / 2 % 2) (v % 2) a b c d first second third fourth

pub one_bit : (test : Bool) (bit : ℕ) → bit ≡ bit_of test → bits_of 1 bit ≡ bit_of test ∷ []
unfolding bits_of
one_bit true bit e = ap (bits_of 1) e
one_bit false bit e = ap (bits_of 1) e

-- the planes of a code group

same_planes : (t : ℕ) (counts : List ℕ) (values : List ℤ) (group count first n : ℕ)
    → flat_map (λ i. plane_bits (numbered t counts values) group (count - (i + 1))) (range_with_len first n) ≡ flat_map (λ i. level_of (four_at values group) (count - t - (i + 1))) (range_with_len first n)
same_planes t counts values group count first zero = refl
same_planes t counts values group count first (suc n) =
    let level : count - (first + 1) - t ≡ count - t - (first + 1) = omega arith in
    ap (λ k. level_of (four_at values group) k ++ flat_map (λ i. plane_bits (numbered t counts values) group (count - (i + 1))) (range_with_len (first + 1) n)) level
    ∙ ap (λ l. level_of (four_at values group) (count - t - (first + 1)) ++ l) (same_planes t counts values group count (first + 1) n)

planes_spelled : (t : ℕ) (counts : List ℕ) (values : List ℤ) (group count : ℕ)
    → flat_map (plane_bits (numbered t counts values) group) (downto count t) ≡ bit_planes_of (four_at values group) (count - t)
planes_spelled t counts values group count =
    flat_map-map (plane_bits (numbered t counts values) group) (λ i. count - (i + 1)) (upto (count - t)) ∙ same_planes t counts values group count 0 (count - t)

pub group_spelled : (apart : Bool) (t : ℕ) (counts : List ℕ) (values : List ℤ) (group : ℕ) (some : Bool) → nat_lt t (slice_index_or counts group 0) ≡ some
    → group_bits apart (numbered t counts values) group ≡ (if some then signs_with apart (four_at values group) ++ bit_planes_of (four_at values group) (slice_index_or counts group 0 - t) else [])
group_spelled apart t counts values group some e = cases apart some e
  where
    count : ℕ
    count = slice_index_or counts group 0

    planes : List ℕ
    planes = flat_map (plane_bits (numbered t counts values) group) (downto count t)

    with : Bool → Bool → List ℕ
    with apart some = (if some && not apart then map (sign_of (numbered t counts values)) (columns_of group) else []) ++ planes

    cases : (apart some : Bool) → nat_lt t count ≡ some → with apart (nat_lt t count) ≡ (if some then signs_with apart (four_at values group) ++ bit_planes_of (four_at values group) (count - t) else [])
    cases true true e = ap (with true) e ∙ planes_spelled t counts values group count
    cases false true e = ap (with false) e ∙ ap (λ l. signs_with false (four_at values group) ++ l) (planes_spelled t counts values group count)
    cases apart false e =
        let none : count - t ≡ 0 = omega (arith, ltb-false t count e) in
        ap (with apart) e ∙ ap (λ n. flat_map (plane_bits (numbered t counts values) group) (map (λ i. count - (i + 1)) (upto n))) none

pub nibble_bits : (v : ℕ) → v < 16 → bits_of 4 v ≡ v / 8 ∷ v / 4 % 2 ∷ v / 2 % 2 ∷ v % 2 ∷ []
unfolding bits_of
nibble_bits v small =
    let first : v / 2 / 2 / 2 % 2 ≡ v / 8 = omega (arith, small) in
    let second : v / 2 / 2 % 2 ≡ v / 4 % 2 = omega arith in
    four (v / 2 / 2 / 2 % 2) (v / 2 / 2 % 2) (v / 2 % 2) (v % 2) (v / 8) (v / 4 % 2) (v / 2 % 2) (v % 2) first second refl refl
