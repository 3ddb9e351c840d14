-- The lines of a packet, one after the other.
use Rattle.std.proofs.Common.{◌≡◌, ℕ, ◌+◌, ◌-◌, ◌*◌, ◌%◌, ◌<◌, ◌≤◌, List, [], ◌++◌, length, drop, get_or, sym, ap, ◌∙◌, arith, append_assoc, append-nil, length-append}
use Rattle.std.specs.Prelude.{replicate}
use Rattle.std.specs.List.{flat_map, range_with_len}
use Rattle.std.proofs.lemmas.List.{drop_more, drop_all}
use Rattle.xs_lists.specs.Bits.{bits_of_bytes}
use Rattle.xs_lists.specs.Packing.{packed, missing_bits, AreBits}
use Rattle.xs_lists.proofs.Packing.{packed_bits, length-packed}
use Rattle.xs_lists.proofs.Ranges.{range_first, range_end}

-- one line more
pub rest_first : {A : Type 0} (f : A → List ℕ) (xs : List A) (k : ℕ) (d : A) → k < length xs → flat_map f (drop k xs) ≡ f (get_or xs k d) ++ flat_map f (drop (k + 1) xs)
rest_first f xs k d inside = ap (flat_map f) (drop_more xs k d inside)

pub rest_more : {A : Type 0} (f : A → List ℕ) (xs : List A) (k : ℕ) (d : A) (whole out new : List ℕ) → k < length xs → whole ≡ out ++ flat_map f (drop k xs) → new ≡ out ++ f (get_or xs k d)
    → whole ≡ new ++ flat_map f (drop (k + 1) xs)
rest_more f xs k d whole out new inside before here =
    before ∙ ap (λ l. out ++ l) (rest_first f xs k d inside) ∙ sym (append_assoc out (f (get_or xs k d)) (flat_map f (drop (k + 1) xs))) ∙ ap (λ l. l ++ flat_map f (drop (k + 1) xs)) (sym here)

pub rest_none : {A : Type 0} (f : A → List ℕ) (xs : List A) (k : ℕ) → length xs ≤ k → flat_map f (drop k xs) ≡ []
rest_none f xs k past = ap (flat_map f) (drop_all k xs past)

-- A part up to a byte

missing_after : (before part : List ℕ) → length before % 8 ≡ 0 → missing_bits (length (before ++ part)) ≡ missing_bits (length part)
missing_after before part border = omega (arith, border, length-append before part)

pub part_bits : (before part now next : List ℕ) → length before % 8 ≡ 0 → AreBits part → now ≡ before ++ part → next ≡ now ++ replicate (missing_bits (length now)) 0 → next ≡ before ++ bits_of_bytes (packed part)
part_bits before part now next border are here align =
    align ∙ ap (λ l. l ++ replicate (missing_bits (length l)) 0) here
    ∙ ap (λ n. (before ++ part) ++ replicate n 0) (missing_after before part border)
    ∙ append_assoc before part (replicate (missing_bits (length part)) 0)
    ∙ ap (λ l. before ++ l) (sym (packed_bits part are))

-- Parts of a packet, band after band

pub size_first : (f : ℕ → List ℕ) (k end : ℕ) → k < end → length (flat_map f (range_with_len k (end - k))) ≡ length (f k) + length (flat_map f (range_with_len (k + 1) (end - (k + 1))))
size_first f k end less = ap (λ l. length (flat_map f l)) (range_first k end less) ∙ length-append (f k) (flat_map f (range_with_len (k + 1) (end - (k + 1))))

pub none_left : (f : ℕ → List ℕ) (k end : ℕ) → end ≤ k → flat_map f (range_with_len k (end - k)) ≡ []
none_left f k end past = ap (flat_map f) (range_end k end past)

-- all is written when nothing is left
pub whole_put : (whole out left : List ℕ) → whole ≡ out ++ left → left ≡ [] → out ≡ whole
whole_put whole out left before none = sym (before ∙ ap (λ l. out ++ l) none ∙ append-nil out)

-- the spare bits that an aligned part takes
pub aligned_room : (before part now : List ℕ) → length before % 8 ≡ 0 → now ≡ before ++ part → length part + missing_bits (length now) ≡ 8 * length (packed part)
aligned_room before part now border here = omega (arith, ap length here, missing_after before part border, ap (λ l. missing_bits (length l)) here, length-packed part)
