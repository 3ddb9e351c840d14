-- Samples and their bytes, from the front on.
use Rattle.std.proofs.Common.{◌≡◌, ℕ, zero, suc, ◌+◌, ◌-◌, ◌*◌, ◌^◌, ◌<◌, ◌≤◌, Bool, true, false, cond, ltb, List, [], ◌∷◌, ◌++◌, length, take, drop, get_or, Some, None, inl, inr, refl, sym, ap, subst, ◌∙◌, arith, length-append}
use Rattle.std.specs.Prelude.{Result, Ok, if◌then◌else◌, is_ok, nat_eq, nat_lt, position}
use Rattle.std.specs.Int.{to_le_bytes, w16}
use Rattle.std.specs.List.{flat_map, position_or_len}
use Rattle.std.specs.Option.{option_map}
use Rattle.std.proofs.Math.Nat.{mul_comm}
use Rattle.std.proofs.Math.Seq.{drop-nil, take-add, take-nil}
use Rattle.std.proofs.lemmas.Bool.{le-ltb, lt-ltb}
use Rattle.std.proofs.lemmas.Bool.Decides.{leb_tells}
use Rattle.std.proofs.lemmas.Grind.{flat_map-append}
use Rattle.std.proofs.lemmas.List.{get_or-drop, get_or-take, length-drop, length-take, length-take-le, take_all, take_at}
use Rattle.std.proofs.lemmas.List.Elements.{All-get_or}
use Rattle.std.proofs.lemmas.List.Sums.{fails_before_first, passes_at_first, position_or_len_is}
use Rattle.std.proofs.lemmas.Nat.{mul-le}
use Rattle.xs_layout.specs.Limits.{IsDepth}
use Rattle.xs_layout.specs.declared.Shape.{Shape}
use Rattle.xs_params.specs.Picture.{AreSamples, IsPicture, IsRow, IsShape, Picture, first_deeper, over_sample, pairs_of, picture_of_raw, plane_first, plane_size, put_at, raw_bytes, raw_size, row_first, sample_bytes, sample_count, sample_size, samples_of, samples_of_row, width_of, with_samples}
use Rattle.xs_samples.specs.Raw.{HasRead, HasWritten}
use Rattle.xs_params.proofs.Areas.{count_most, next_first, row_end}

-- Sizes

scaled : (first width count size : ℕ) → first + width ≤ count → first * size + width * size ≤ count * size
scaled first width count size within =
    let most = mul-le (first + width) size count size within (omega arith) in
    let both : (first + width) * size ≡ first * size + width * size = grind arith in
    omega (arith, most, both)

size_most : (depth : ℕ) → sample_size depth ≤ 2
size_most depth = by_test (nat_eq depth 8)
  where
    by_test : (b : Bool) → cond b 1 2 ≤ 2
    by_test true = omega arith
    by_test false = omega arith

pub raw_few : (shape : Shape) → IsShape shape → raw_size shape < 2 ^ 28
raw_few shape accepted = omega (arith, mul-le (sample_count shape) (sample_size shape.depth) (3 * 2 ^ 24) 2 (count_most shape accepted) (size_most shape.depth))

pub row_end_raw : (shape : Shape) (component row : ℕ) → IsRow shape component row
    → row_first shape component row * sample_size shape.depth + width_of shape component * sample_size shape.depth ≤ raw_size shape
row_end_raw shape component row there = scaled (row_first shape component row) (width_of shape component) (sample_count shape) (sample_size shape.depth) (row_end shape component row there)

-- the rows of a component end where the next one begins
pub last_row : (shape : Shape) (component : ℕ) → row_first shape component shape.height ≡ plane_first shape (component + 1)
last_row shape component =
    let one : suc component ≡ component + 1 = omega arith in
    let area : shape.height * width_of shape component ≡ plane_size shape component = mul_comm shape.height (width_of shape component) in
    omega (arith, area, sym (next_first shape component)) ∙ ap (plane_first shape) one

pub first_row : (shape : Shape) (component : ℕ) → row_first shape component 0 ≡ plane_first shape component
first_row shape component = omega arith

pub row_after : (shape : Shape) (component row : ℕ) → row_first shape component (row + 1) ≡ row_first shape component row + width_of shape component
row_after shape component row =
    let one : (row + 1) * width_of shape component ≡ row * width_of shape component + width_of shape component = grind arith in
    omega (arith, one)

-- Samples of a part of the bytes

pairs_drop : (k : ℕ) (bytes : List ℕ) → pairs_of (drop (k * 2) bytes) ≡ drop k (pairs_of bytes)
pairs_drop zero bytes = refl
pairs_drop (suc k) [] = ap pairs_of (drop-nil (suc k * 2))
pairs_drop (suc k) (low ∷ []) =
    let e : suc k * 2 ≡ suc (suc (k * 2)) = omega arith in
    ap (λ n. pairs_of (drop n (low ∷ []))) e ∙ sym (drop-nil k)
pairs_drop (suc k) (low ∷ high ∷ bytes) =
    let e : suc k * 2 ≡ suc (suc (k * 2)) = omega arith in
    ap (λ n. pairs_of (drop n (low ∷ high ∷ bytes))) e ∙ pairs_drop k bytes

pairs_take : (w : ℕ) (bytes : List ℕ) → pairs_of (take (w * 2) bytes) ≡ take w (pairs_of bytes)
pairs_take zero bytes = refl
pairs_take (suc w) [] = ap pairs_of (take-nil (suc w * 2))
pairs_take (suc w) (low ∷ []) =
    let e : suc w * 2 ≡ suc (suc (w * 2)) = omega arith in
    ap (λ n. pairs_of (take n (low ∷ []))) e ∙ ap (λ l. low ∷ l) (sym (take-nil w))
pairs_take (suc w) (low ∷ high ∷ bytes) =
    let e : suc w * 2 ≡ suc (suc (w * 2)) = omega arith in
    ap (λ n. pairs_of (take n (low ∷ high ∷ bytes))) e ∙ ap (λ l. (low + 256 * high) ∷ l) (pairs_take w bytes)

length-pairs : (n : ℕ) (bytes : List ℕ) → length bytes ≡ n * 2 → length (pairs_of bytes) ≡ n
length-pairs zero [] e = refl
length-pairs zero (low ∷ bytes) e = absurd (omega (arith, e))
length-pairs (suc n) [] e = absurd (omega (arith, e))
length-pairs (suc n) (low ∷ []) e = absurd (omega (arith, e))
length-pairs (suc n) (low ∷ high ∷ bytes) e = ap suc (length-pairs n bytes (omega (arith, e)))

-- a law of samples of one byte, and of two
by_depth : (P : ℕ → Type 0) (depth : ℕ) → IsDepth depth → P 8 → P 10 → P 12 → P depth
by_depth P depth (inl e) one ten twelve = subst P (sym e) one
by_depth P depth (inr (inl e)) one ten twelve = subst P (sym e) ten
by_depth P depth (inr (inr e)) one ten twelve = subst P (sym e) twelve

pub samples_part : (depth : ℕ) (k w : ℕ) (bytes : List ℕ) → IsDepth depth
    → samples_of depth (take (w * sample_size depth) (drop (k * sample_size depth) bytes)) ≡ take w (drop k (samples_of depth bytes))
samples_part depth k w bytes known =
    let w_is : w * 1 ≡ w = omega arith in
    let k_is : k * 1 ≡ k = omega arith in
    let pairs = pairs_take w (drop (k * 2) bytes) ∙ ap (take w) (pairs_drop k bytes) in
    by_depth (λ d. samples_of d (take (w * sample_size d) (drop (k * sample_size d) bytes)) ≡ take w (drop k (samples_of d bytes))) depth known
    (ap (λ n. take n (drop (k * 1) bytes)) w_is ∙ ap (λ n. take w (drop n bytes)) k_is) pairs pairs

pub length-samples : (depth count : ℕ) (bytes : List ℕ) → IsDepth depth → length bytes ≡ count * sample_size depth → length (samples_of depth bytes) ≡ count
length-samples depth count bytes known =
    by_depth (λ d. length bytes ≡ count * sample_size d → length (samples_of d bytes) ≡ count) depth known
    (λ e. omega (arith, e)) (length-pairs count bytes) (length-pairs count bytes)

-- a row more is read
pub read_more : (old new wanted row : List ℕ) (k w : ℕ) → new ≡ put_at old k row → row ≡ take w (drop k wanted) → length row ≡ w → k ≤ length old
    → take k old ≡ take k wanted → take (k + w) new ≡ take (k + w) wanted
read_more old new wanted row k w put is wide within before =
    let front : length (take k old ++ row) ≡ k + w = length-append (take k old) row ∙ omega (arith, wide, length-take-le k old within) in
    ap (take (k + w)) put ∙ take_at (take k old ++ row) (drop (k + length row) old) (k + w) front ∙ ap (λ l. l ++ row) before ∙ ap (λ r. take k wanted ++ r) is
    ∙ sym (take-add k w wanted)

-- all is read
pub read_whole : (samples wanted : List ℕ) (count : ℕ) → length samples ≡ count → length wanted ≡ count → take count samples ≡ take count wanted → samples ≡ wanted
read_whole samples wanted count size same read = sym (take_all count samples (omega (arith, size))) ∙ read ∙ take_all count wanted (omega (arith, same))

-- The first sample that has more bits than the depth

first_where : (test : ℕ → Bool) (xs : List ℕ) (i : ℕ) → i < length xs → ((j : ℕ) → j < i → test (get_or xs j 0) ≡ false) → test (get_or xs i 0) ≡ true → position test xs ≡ Some i
first_where test xs i there before here =
    let place : position_or_len test xs ≡ i = position_or_len_is test xs i 0 (omega (arith, there)) before (λ _. here) in
    ap (λ n. cond (ltb n (length xs)) (Some n) None) place ∙ ap (λ b. cond b (Some i) None) (lt-ltb i (length xs) there)

nowhere : (test : ℕ → Bool) (xs : List ℕ) → ((j : ℕ) → j < length xs → test (get_or xs j 0) ≡ false) → position test xs ≡ None
nowhere test xs none =
    let place : position_or_len test xs ≡ length xs = position_or_len_is test xs (length xs) 0 (omega arith) none (λ beyond. absurd (omega (arith, beyond))) in
    ap (λ n. cond (ltb n (length xs)) (Some n) None) place ∙ ap (λ b. cond b (Some (length xs)) None) (le-ltb (length xs) (length xs) (omega arith))

record IsFirst (test : ℕ → Bool) (xs : List ℕ) (i : ℕ) : Type 0 where
  pub there : i < length xs
  pub here : test (get_or xs i 0) ≡ true
  pub before : (j : ℕ) → j < i → test (get_or xs j 0) ≡ false

is_first : (test : ℕ → Bool) (xs : List ℕ) (i : ℕ) → position test xs ≡ Some i → IsFirst test xs i
is_first test xs i found =
    let place = position_or_len test xs in
    elim (leb_tells (length xs) place) [
      | inr within ↦
          let same : place ≡ i = some_same place i (sym (ap (λ b. cond b (Some place) None) (lt-ltb place (length xs) within.1)) ∙ found) in
          record {
            there = omega (arith, within.1, same);
            here = subst (λ n. test (get_or xs n 0) ≡ true) same (passes_at_first test xs 0 within.1);
            before = λ j below. fails_before_first test xs j 0 (omega (arith, below, same));
          }
      | inl past ↦ absurd (none_some i (sym (ap (λ b. cond b (Some place) None) (le-ltb place (length xs) past.1)) ∙ found))
    ]
  where
    some_same : (a b : ℕ) → Some a ≡ Some b → a ≡ b
    some_same a b e = cc

    none_some : (i : ℕ) → None ≡ Some i → ⊥
    none_some i e = cc

small : (depth sample : ℕ) → sample < 2 ^ depth → nat_lt (2 ^ depth - 1) sample ≡ false
small depth sample below = le-ltb (2 ^ depth - 1) sample (omega (arith, below))

-- a deeper sample of a row is the first of the picture, where those before the row have been read
pub deeper_after : (depth : ℕ) (samples wanted row : List ℕ) (k w i : ℕ) → AreSamples depth samples → k ≤ length samples → take k samples ≡ take k wanted → row ≡ take w (drop k wanted) → first_deeper depth row ≡ Some i
    → first_deeper depth wanted ≡ Some (k + i)
deeper_after depth samples wanted row k w i read within before is found =
    let test = nat_lt (2 ^ depth - 1) in
    let first = is_first test row i found in
    let most : length row ≤ w = omega (arith, ap length is, length-take w (drop k wanted)) in
    let inside : k + i < length wanted = omega (arith, ap length is, length-take w (drop k wanted), length-drop k wanted, first.there) in
    let at : (j : ℕ) → j < w → get_or row j 0 ≡ get_or wanted (k + j) 0 = λ j below. ap (λ l. get_or l j 0) is ∙ get_or-take w (drop k wanted) j 0 below ∙ get_or-drop k wanted j 0 in
    let here : test (get_or wanted (k + i) 0) ≡ true = ap test (sym (at i (omega (arith, first.there, most)))) ∙ first.here in
    let early : (j : ℕ) → j < k → test (get_or wanted j 0) ≡ false = λ j below.
    ap test (sym (get_or-take k wanted j 0 below) ∙ ap (λ l. get_or l j 0) (sym before) ∙ get_or-take k samples j 0 below)
    ∙ small depth (get_or samples j 0) (All-get_or (λ sample. sample < 2 ^ depth) samples j 0 (omega (arith, below, within)) read) in
    let late : (j : ℕ) → k ≤ j → j < k + i → test (get_or wanted j 0) ≡ false = λ j from below.
    let back : k + (j - k) ≡ j = omega (arith, from) in
    ap (λ n. test (get_or wanted n 0)) (sym back) ∙ ap test (sym (at (j - k) (omega (arith, from, below, first.there, most)))) ∙ first.before (j - k) (omega (arith, from, below)) in
    first_where test wanted (k + i) inside (λ j below. either test wanted j k (early j) (λ from. late j from below)) here
  where
    either : (test : ℕ → Bool) (wanted : List ℕ) (j k : ℕ) → (j < k → test (get_or wanted j 0) ≡ false) → (k ≤ j → test (get_or wanted j 0) ≡ false) → test (get_or wanted j 0) ≡ false
    either test wanted j k early late = elim (leb_tells k j) [ inl from ↦ late from.1 | inr below ↦ early below.1 ]

-- no sample of a picture has more bits than the depth
pub none_deeper : (depth : ℕ) (samples : List ℕ) → AreSamples depth samples → first_deeper depth samples ≡ None
none_deeper depth samples read = nowhere (nat_lt (2 ^ depth - 1)) samples (λ j there. small depth (get_or samples j 0) (All-get_or (λ sample. sample < 2 ^ depth) samples j 0 there read))

-- the column of a deeper sample is one of the row
pub column_there : (depth : ℕ) (row : List ℕ) (i : ℕ) → first_deeper depth row ≡ Some i → i < length row
column_there depth row i found = (is_first (nat_lt (2 ^ depth - 1)) row i found).there

-- Bytes of samples

length-bytes : (depth : ℕ) (samples : List ℕ) → IsDepth depth → length (flat_map (sample_bytes depth) samples) ≡ length samples * sample_size depth
length-bytes depth samples known =
    by_depth (λ d. length (flat_map (sample_bytes d) samples) ≡ length samples * sample_size d) depth known (ones samples) (twos samples) (twos samples)
  where
    ones : (samples : List ℕ) → length (flat_map (sample_bytes 8) samples) ≡ length samples * 1
    ones [] = refl
    ones (sample ∷ samples) = omega (arith, ones samples)

    twos : (samples : List ℕ) → length (flat_map (to_le_bytes w16) samples) ≡ length samples * 2
    twos [] = refl
    twos (sample ∷ samples) = omega (arith, twos samples)

pub bytes_of_row : (depth : ℕ) (row : List ℕ) (w : ℕ) → IsDepth depth → length row ≡ w → length (flat_map (sample_bytes depth) row) ≡ w * sample_size depth
bytes_of_row depth row w known wide = length-bytes depth row known ∙ ap (λ n. n * sample_size depth) wide

-- a row more is written
pub write_more : (f : ℕ → List ℕ) (old new samples row : List ℕ) (k w size : ℕ) → new ≡ put_at old (k * size) (flat_map f row) → row ≡ take w (drop k samples) → length (flat_map f row) ≡ w * size → k * size ≤ length old
    → take (k * size) old ≡ flat_map f (take k samples) → take ((k + w) * size) new ≡ flat_map f (take (k + w) samples)
write_more f old new samples row k w size put is wide within before =
    let both : (k + w) * size ≡ k * size + w * size = grind arith in
    let front : length (take (k * size) old ++ flat_map f row) ≡ (k + w) * size =
    length-append (take (k * size) old) (flat_map f row) ∙ omega (arith, wide, length-take-le (k * size) old within, both) in
    ap (take ((k + w) * size)) put ∙ take_at (take (k * size) old ++ flat_map f row) (drop (k * size + length (flat_map f row)) old) ((k + w) * size) front
    ∙ ap (λ l. l ++ flat_map f row) before ∙ sym (flat_map-append f (take k samples) row) ∙ ap (λ r. flat_map f (take k samples ++ r)) is
    ∙ ap (flat_map f) (sym (take-add k w samples))

-- as long as before
pub length-put : (old new part : List ℕ) (place : ℕ) → new ≡ put_at old place part → place + length part ≤ length old → length new ≡ length old
length-put old new part place put within =
    ap length put ∙ length-append (take place old ++ part) (drop (place + length part) old)
    ∙ omega (arith, length-append (take place old) part, length-take-le place old (omega (arith, within)), length-drop (place + length part) old, within)

-- the bytes of samples of one byte are the samples
pub single_bytes : (samples : List ℕ) → flat_map (sample_bytes 8) samples ≡ samples
single_bytes [] = refl
single_bytes (sample ∷ samples) = ap (λ l. sample ∷ l) (single_bytes samples)

-- One row

pub where_ok : {A E : Type 0} (result : Result A E) (value : A) (one other : Picture) → result ≡ Ok value → (if is_ok result then one else other) ≡ one
where_ok result value one other e = ap (λ r. if is_ok r then one else other) e

pub part_read : (shape : Shape) (component row start width size : ℕ) (bytes : List ℕ) → IsDepth shape.depth → start ≡ row_first shape component row * sample_size shape.depth → width ≡ width_of shape component → size ≡ sample_size shape.depth
    → samples_of shape.depth (take (start + width * size - start) (drop start bytes)) ≡ take (width_of shape component) (drop (row_first shape component row) (samples_of shape.depth bytes))
part_read shape component row start width size bytes known place wide one =
    let back : start + width * size - start ≡ width * size = omega arith in
    ap (λ n. samples_of shape.depth (take n (drop start bytes))) (back ∙ ap (λ n. n * size) wide ∙ ap (λ n. width_of shape component * n) one)
    ∙ ap (λ n. samples_of shape.depth (take (width_of shape component * sample_size shape.depth) (drop n bytes))) place
    ∙ samples_part shape.depth (row_first shape component row) (width_of shape component) bytes known

row_wide : (samples row : List ℕ) (count k w : ℕ) → length samples ≡ count → k + w ≤ count → row ≡ take w (drop k samples) → length row ≡ w
row_wide samples row count k w size within is = ap length is ∙ length-take-le w (drop k samples) (omega (arith, length-drop k samples, size, within))

-- a row is replaced by that of the raw picture
pub row_read : (old new : Picture) (shape : Shape) (component row : ℕ) (bytes part : List ℕ) → old.shape ≡ shape → IsPicture old → IsRow shape component row → length bytes ≡ raw_size shape
    → samples_of shape.depth part ≡ take (width_of shape component) (drop (row_first shape component row) (samples_of shape.depth bytes)) → HasRead old (row_first shape component row) bytes
    → new ≡ with_samples old component row (samples_of old.shape.depth part) → (new.shape ≡ shape) × HasRead new (row_first shape component (row + 1)) bytes
row_read old new shape component row bytes part same is there size part_is read put =
    let wanted = samples_of shape.depth bytes in
    let piece = samples_of shape.depth part in
    let k = row_first shape component row in
    let w = width_of shape component in
    let depth : IsDepth shape.depth = subst (λ (s : Shape). IsDepth s.depth) same is.shaped.depth in
    let inserted : new.samples ≡ put_at old.samples k piece = ap (λ (p : Picture). p.samples) put ∙ ap (λ (s : Shape). put_at old.samples (row_first s component row) (samples_of s.depth part)) same in
    let kept : new.shape ≡ shape = ap (λ (p : Picture). p.shape) put ∙ same in
    let before : take k old.samples ≡ take k wanted = read ∙ ap (λ (s : Shape). take k (samples_of s.depth bytes)) same in
    let count : length old.samples ≡ sample_count shape = is.size ∙ ap sample_count same in
    let wide : length piece ≡ w = row_wide wanted piece (sample_count shape) k w (length-samples shape.depth (sample_count shape) bytes depth size) (row_end shape component row there) part_is in (
      kept,
      ap (λ n. take n new.samples) (row_after shape component row)
          ∙ read_more old.samples new.samples wanted piece k w inserted part_is wide (omega (arith, count, row_end shape component row there)) before
          ∙ ap (λ n. take n wanted) (sym (row_after shape component row)) ∙ ap (λ (s : Shape). take (row_first shape component (row + 1)) (samples_of s.depth bytes)) (sym kept),
    )

-- a sample of the row is the first that has more bits than the depth
pub row_refused : (old : Picture) (shape : Shape) (component row i : ℕ) (bytes part : List ℕ) → old.shape ≡ shape → IsPicture old → IsRow shape component row → length bytes ≡ raw_size shape
    → samples_of shape.depth part ≡ take (width_of shape component) (drop (row_first shape component row) (samples_of shape.depth bytes)) → HasRead old (row_first shape component row) bytes
    → first_deeper old.shape.depth (samples_of old.shape.depth part) ≡ Some i
    → (over_sample (picture_of_raw shape bytes) ≡ Some (row_first shape component row * sample_size shape.depth + i * sample_size shape.depth))
    × (row_first shape component row * sample_size shape.depth + i * sample_size shape.depth < 2 ^ 28)
row_refused old shape component row i bytes part same is there size part_is read found =
    let wanted = samples_of shape.depth bytes in
    let piece = samples_of shape.depth part in
    let k = row_first shape component row in
    let w = width_of shape component in
    let one = sample_size shape.depth in
    let shaped : IsShape shape = subst IsShape same is.shaped in
    let before : take k old.samples ≡ take k wanted = read ∙ ap (λ (s : Shape). take k (samples_of s.depth bytes)) same in
    let count : length old.samples ≡ sample_count shape = is.size ∙ ap sample_count same in
    let low : AreSamples shape.depth old.samples = subst (λ (s : Shape). AreSamples s.depth old.samples) same is.small in
    let here : first_deeper shape.depth piece ≡ Some i = sym (ap (λ (s : Shape). first_deeper s.depth (samples_of s.depth part)) same) ∙ found in
    let first = deeper_after shape.depth old.samples wanted piece k w i low (omega (arith, count, row_end shape component row there)) before part_is here in
    let both : (k + i) * one ≡ k * one + i * one = grind arith in
    let wide : length piece ≡ w = row_wide wanted piece (sample_count shape) k w (length-samples shape.depth (sample_count shape) bytes shaped.depth size) (row_end shape component row there) part_is in
    let below : k + i ≤ sample_count shape = omega (arith, column_there shape.depth piece i here, wide, row_end shape component row there) in
    (ap (option_map (λ at. at * one)) first ∙ ap Some both, omega (arith, both, mul-le (k + i) one (sample_count shape) one below (omega arith), raw_few shape shaped))

-- the bytes of a row are written
pub row_written : (picture : Picture) (component row start depth : ℕ) (old new samples : List ℕ) → IsPicture picture → IsRow picture.shape component row → length old ≡ raw_size picture.shape → depth ≡ picture.shape.depth
    → start ≡ row_first picture.shape component row * sample_size picture.shape.depth → samples ≡ samples_of_row picture component row → new ≡ put_at old start (flat_map (sample_bytes depth) samples)
    → HasWritten picture (row_first picture.shape component row) old → (length new ≡ length old) × HasWritten picture (row_first picture.shape component (row + 1)) new
row_written picture component row start depth old new samples is there size deep place row_is put before =
    let shape = picture.shape in
    let f = sample_bytes shape.depth in
    let k = row_first shape component row in
    let w = width_of shape component in
    let one = sample_size shape.depth in
    let inserted : new ≡ put_at old (k * one) (flat_map f samples) =
    put ∙ ap (λ n. put_at old n (flat_map (sample_bytes depth) samples)) place ∙ ap (λ d. put_at old (k * one) (flat_map (sample_bytes d) samples)) deep in
    let wide = row_wide picture.samples samples (sample_count shape) k w is.size (row_end shape component row there) row_is in
    let bytes = bytes_of_row shape.depth samples w is.shaped.depth wide in
    let end = row_end_raw shape component row there in (
      length-put old new (flat_map f samples) (k * one) inserted (omega (arith, bytes, end, size)),
      ap (λ n. take (n * one) new) (row_after shape component row) ∙ write_more f old new picture.samples samples k w one inserted row_is bytes (omega (arith, end, size)) before
          ∙ ap (λ n. flat_map f (take n picture.samples)) (sym (row_after shape component row)),
    )

-- The whole picture

same_picture : (picture : Picture) (shape : Shape) (samples : List ℕ) → picture.shape ≡ shape → picture.samples ≡ samples → picture ≡ record { shape = shape; samples = samples }
same_picture picture shape samples first second = rw (← first, ← second) refl

pub picture_read : (picture : Picture) (shape : Shape) (count : ℕ) (bytes : List ℕ) → IsShape shape → IsPicture picture → picture.shape ≡ shape → count ≡ sample_count shape → length bytes ≡ raw_size shape → HasRead picture count bytes
    → picture ≡ picture_of_raw shape bytes
picture_read picture shape count bytes known is same all size read =
    let all_bytes : length bytes ≡ count * sample_size shape.depth = size ∙ ap (λ n. n * sample_size shape.depth) (sym all) in
    same_picture picture shape (samples_of shape.depth bytes) same
    (read_whole picture.samples (samples_of shape.depth bytes) count (is.size ∙ ap sample_count same ∙ sym all) (length-samples shape.depth count bytes known.depth all_bytes)
    (read ∙ ap (λ (s : Shape). take count (samples_of s.depth bytes)) same))

pub none_over : (picture : Picture) → IsPicture picture → over_sample picture ≡ None
none_over picture is = ap (option_map (λ at. at * sample_size picture.shape.depth)) (none_deeper picture.shape.depth picture.samples is.small)

pub picture_written : (picture : Picture) (count : ℕ) (bytes : List ℕ) → IsPicture picture → count ≡ sample_count picture.shape → length bytes ≡ raw_size picture.shape → HasWritten picture count bytes → bytes ≡ raw_bytes picture
picture_written picture count bytes is all size written =
    let all_bytes : length bytes ≡ count * sample_size picture.shape.depth = size ∙ ap (λ n. n * sample_size picture.shape.depth) (sym all) in
    sym (take_all (count * sample_size picture.shape.depth) bytes (omega (arith, all_bytes))) ∙ written
    ∙ ap (flat_map (sample_bytes picture.shape.depth)) (take_all count picture.samples (omega (arith, is.size, all)))
