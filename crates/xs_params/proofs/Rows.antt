-- Rows of samples: written from the front on, and looked through.
use Rattle.std.proofs.Common.{◌≡◌, ◌≢◌, ℕ, zero, suc, ◌+◌, ◌/◌, ◌%◌, ◌*◌, ◌-◌, ◌^◌, ◌<◌, ◌≤◌, Bool, true, false, cond, not, ltb, ◌||◌, List, [], ◌∷◌, ◌++◌, length, map, take, drop, get_or, set, Some, None, inl, inr, refl, sym, ap, subst, ◌∙◌, arith}
use Rattle.std.specs.Prelude.{position, nat_lt, is_some, is_ok, if◌then◌else◌, Result, Ok, Err}
use Rattle.std.specs.List.{list_any, position_or_len}
use Rattle.std.specs.Int.{from_le_bytes, w16}
use Rattle.std.proofs.lemmas.Bool.{le-ltb, ltb-false}
use Rattle.std.proofs.lemmas.Nat.{pow_pos}
use Rattle.std.proofs.lemmas.List.{take_more, take_more_set, length-map}
use Rattle.std.proofs.lemmas.List.Elements.{All-weaker}
use Rattle.std.specs.Simd.{first_chunks}
use Rattle.std.specs.Result.{result_err}
use Rattle.std.proofs.lemmas.List.{take_at}
use Rattle.xs_layout.specs.declared.Shape.{Shape}
use Rattle.xs_layout.specs.Limits.{IsDepth}
use Rattle.xs_params.specs.Picture.{AreSamples, IsPicture, first_deeper, pair_numbers, pairs_of, put_at, sample_size, samples_of}
use Rattle.xs_params.proofs.Areas.{picture_kept}
use Rattle.xs_params.proofs.InRange.{none_pass, not_found}

-- one number more of a list
pub set_more : (row numbers : List ℕ) (k v : ℕ) → k < length row → k < length numbers → take k row ≡ take k numbers → v ≡ get_or numbers k 0
    → take (k + 1) (set row k v) ≡ take (k + 1) numbers
set_more row numbers k v inside there done value =
    take_more_set row k v inside ∙ ap (λ l. l ++ v ∷ []) done ∙ ap (λ n. take k numbers ++ n ∷ []) value ∙ sym (take_more numbers k 0 there)

-- a list in which nothing passes has no first that does
pub none_passes : {A : Type 0} (test : A → Bool) (items : List A) → list_any test items ≡ false → position test items ≡ None
none_passes test items none = past (position_or_len test items) (length items) (all_fail test items none)
  where
    past : (place size : ℕ) → place ≡ size → cond (ltb place size) (Some place) None ≡ None
    past place size e = ap (λ t. cond t (Some place) None) (le-ltb place size (omega (arith, e)))

    next : (t more : Bool) (place size : ℕ) → (t || more) ≡ false → (more ≡ false → place ≡ size) → cond (not t) (1 + place) 0 ≡ 1 + size
    next true more place size e p = absurd (cc e)
    next false more place size e p = ap (λ n. 1 + n) (p e)

    all_fail : {A : Type 0} (test : A → Bool) (items : List A) → list_any test items ≡ false → position_or_len test items ≡ length items
    all_fail test [] e = refl
    all_fail test (item ∷ items) e = next (test item) (list_any test items) (position_or_len test items) (length items) e (all_fail test items) ∙ omega arith

-- the first of a list whose image passes
pub position-map : {A B : Type 0} (f : A → B) (test : B → Bool) (items : List A) → position (λ item. test (f item)) items ≡ position test (map f items)
position-map f test items =
    ap (λ n. cond (ltb n (length items)) (Some n) None) (same f test items)
    ∙ ap (λ n. cond (ltb (position_or_len test (map f items)) n) (Some (position_or_len test (map f items))) None) (sym (length-map items f))
  where
    same : {A B : Type 0} (f : A → B) (test : B → Bool) (items : List A) → position_or_len (λ item. test (f item)) items ≡ position_or_len test (map f items)
    same f test [] = refl
    same f test (item ∷ items) = ap (λ n. cond (not (test (f item))) (1 + n) 0) (same f test items)

-- the numbers of pairs of bytes
pub pairs_are : (n : ℕ) (bytes : List ℕ) → length bytes ≡ 2 * n → pair_numbers (first_chunks 2 n bytes) ≡ pairs_of bytes
pairs_are zero [] e = refl
pairs_are zero (low ∷ bytes) e = absurd (omega (arith, e))
pairs_are (suc n) [] e = absurd (omega (arith, e))
pairs_are (suc n) (low ∷ []) e = absurd (omega (arith, e))
pairs_are (suc n) (low ∷ high ∷ bytes) e =
    let number : from_le_bytes w16 (low ∷ high ∷ []) ≡ low + 256 * high = omega arith in
    ap (λ l. from_le_bytes w16 (low ∷ high ∷ []) ∷ l) (pairs_are n bytes (omega (arith, e))) ∙ ap (λ v. v ∷ pairs_of bytes) number

-- there are half as many
pub length-pairs : (n : ℕ) (bytes : List ℕ) → length bytes ≡ 2 * n → length (pairs_of bytes) ≡ n
length-pairs zero [] e = refl
length-pairs zero (low ∷ bytes) e = absurd (omega (arith, e))
length-pairs (suc n) [] e = absurd (omega (arith, e))
length-pairs (suc n) (low ∷ []) e = absurd (omega (arith, e))
length-pairs (suc n) (low ∷ high ∷ bytes) e = ap suc (length-pairs n bytes (omega (arith, e)))

-- where no sample has more bits than the depth, all are samples of it
pub none_deeper : (depth : ℕ) (samples : List ℕ) → first_deeper depth samples ≡ None → AreSamples depth samples
none_deeper depth samples none =
    let test = nat_lt (2 ^ depth - 1) in
    let past = ltb-false (position_or_len test samples) (length samples) (not_found (nat_lt (position_or_len test samples) (length samples)) (position_or_len test samples) (ap is_some none)) in
    All-weaker (λ sample. test sample ≡ false) (λ sample. sample < 2 ^ depth) (λ sample p. below sample (ltb-false (2 ^ depth - 1) sample p)) samples (none_pass test samples past)
  where
    below : (sample : ℕ) → sample ≤ 2 ^ depth - 1 → sample < 2 ^ depth
    below sample p = omega (arith, p, pow_pos depth)

-- the samples of bytes
pub byte_samples : (depth : ℕ) (bytes : List ℕ) → depth ≡ 8 → samples_of depth bytes ≡ bytes
byte_samples depth bytes e = ap (λ d. samples_of d bytes) e

pub pair_samples : (depth : ℕ) (bytes : List ℕ) → IsDepth depth → depth ≢ 8 → length bytes % sample_size depth ≡ 0
    → samples_of depth bytes ≡ pair_numbers (first_chunks 2 (length bytes / 2) bytes)
pair_samples depth bytes (inl e) other whole = absurd (other e)
pair_samples depth bytes (inr (inl e)) other whole =
    let even : length bytes % 2 ≡ 0 = subst (λ d. length bytes % sample_size d ≡ 0) e whole in
    ap (λ d. samples_of d bytes) e ∙ sym (pairs_are (length bytes / 2) bytes (omega (arith, even)))
pair_samples depth bytes (inr (inr e)) other whole =
    let even : length bytes % 2 ≡ 0 = subst (λ d. length bytes % sample_size d ≡ 0) e whole in
    ap (λ d. samples_of d bytes) e ∙ sym (pairs_are (length bytes / 2) bytes (omega (arith, even)))

-- no byte has more than 8 bits
pub no_deeper : (depth : ℕ) (bytes : List ℕ) → depth ≡ 8 → ((i : ℕ) → get_or bytes i 0 < 256) → first_deeper depth (samples_of depth bytes) ≡ None
no_deeper depth bytes e small = ap (λ d. first_deeper d (samples_of d bytes)) e ∙ none_passes (nat_lt 255) bytes (none_over bytes small)
  where
    none_over : (bytes : List ℕ) → ((i : ℕ) → get_or bytes i 0 < 256) → list_any (nat_lt 255) bytes ≡ false
    none_over [] small = refl
    none_over (byte ∷ bytes) small = ap (λ t. t || list_any (nat_lt 255) bytes) (le-ltb 255 byte (omega (arith, small 0))) ∙ none_over bytes (λ i. small (suc i))

-- as many samples as the bytes have room for
pub length-samples : (depth : ℕ) (bytes : List ℕ) (width : ℕ) → IsDepth depth → length bytes ≡ width * sample_size depth → length (samples_of depth bytes) ≡ width
length-samples depth bytes width (inl e) size = ap length (byte_samples depth bytes e) ∙ size ∙ ap (λ d. width * sample_size d) e ∙ omega arith
length-samples depth bytes width (inr (inl e)) size =
    let even : length bytes ≡ 2 * width = size ∙ ap (λ d. width * sample_size d) e ∙ omega arith in
    ap (λ d. length (samples_of d bytes)) e ∙ length-pairs width bytes even
length-samples depth bytes width (inr (inr e)) size =
    let even : length bytes ≡ 2 * width = size ∙ ap (λ d. width * sample_size d) e ∙ omega arith in
    ap (λ d. length (samples_of d bytes)) e ∙ length-pairs width bytes even

-- a picture stays one where its samples are as before, or a part of them is replaced
pub raw_kept : (shape : Shape) (old row new : List ℕ) (first len : ℕ) (result : Result Unit ℕ) → IsPicture (record { shape = shape; samples = old }) → first + length row ≤ length old → length old ≡ len
    → result_err result ≡ first_deeper shape.depth row → new ≡ (if is_ok result then put_at old first row else old) → IsPicture (record { shape = shape; samples = take len (new ++ drop (length new) old) })
raw_kept shape old row new first len (Ok _) before inside size found after = picture_kept shape old row new first len before (none_deeper shape.depth row (sym found)) inside size after
raw_kept shape old row new first len (Err _) before inside size found after =
    subst (λ l. IsPicture (record { shape = shape; samples = l })) (sym (take_at new (drop (length new) old) len (ap length after ∙ size) ∙ after)) before
