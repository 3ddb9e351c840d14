-- Laws of the bits around a place.
use Rattle.std.proofs.Common.{◌≡◌, ℕ, ◌+◌, ◌-◌, ◌*◌, ◌/◌, ◌%◌, ◌^◌, ◌<◌, ◌≤◌, List, ◌++◌, length, replicate, take, drop, get_or, refl, sym, ap, ◌∙◌, arith, inl, inr, append_assoc, length-append}
use Rattle.std.specs.Int.{w64, from_be_bytes}
use Rattle.std.proofs.lemmas.Bool.{cases_lt}
use Rattle.std.proofs.lemmas.Nat.{be_bytes_8}
use Rattle.std.proofs.lemmas.List.{take-append-drop, take_at, take-take, take-append-le, drop_at, drop-append-le, length-take-le, length-drop, length-replicate, replicate-append-replicate, get_or-take, get_or-drop, get_or-replicate, get_or_append_left, get_or-append_right, get_or_past}
use Rattle.std.proofs.lemmas.List.Concat.{flat_map-append}
use Rattle.xs_lists.specs.Bits.{bits_of, bits_of_bytes}
use Rattle.xs_lists.proofs.Bits.{length-bits_of, length-bits_of_bytes, bits_split, bits_mod}
use Rattle.xs_bits.proofs.Laws.{word_bytes}

-- how many bits are left
pub length-left : (bytes : List ℕ) (place : ℕ) → length (drop place (bits_of_bytes bytes)) ≡ 8 * length bytes - place
length-left bytes place = length-drop place (bits_of_bytes bytes) ∙ ap (λ n. n - place) (length-bits_of_bytes bytes)

-- a list with zeros behind, cut where it has a length
zeros_cut : (list : List ℕ) (n more : ℕ) → length list + n ≡ more → take more (list ++ replicate more 0) ≡ list ++ replicate n 0
zeros_cut list n more size =
    let behind : List ℕ = replicate (length list) 0 in
    let filled : length (list ++ replicate n 0) ≡ more = omega (arith, size, length-append list (replicate n 0), length-replicate {A = ℕ} n 0) in
    let sum : n + length list ≡ more = omega (arith, size) in
    let zeros : replicate n 0 ++ behind ≡ replicate more 0 = replicate-append-replicate n (length list) 0 ∙ ap (λ k. replicate {A = ℕ} k 0) sum in
    let whole : (list ++ replicate n 0) ++ behind ≡ list ++ replicate more 0 = append_assoc list (replicate n 0) behind ∙ ap (λ l. list ++ l) zeros in
    ap (take more) (sym whole) ∙ take_at (list ++ replicate n 0) behind more filled

-- the end of a list, filled up to a length
pub filled_up : (bytes : List ℕ) (at n : ℕ) → at ≤ length bytes → length bytes - at ≤ n → drop at bytes ++ replicate (n - length (drop at bytes)) 0 ≡ take n (drop at (bytes ++ replicate n 0))
filled_up bytes at n there few =
    let short : length (drop at bytes) ≤ n = omega (arith, length-drop at bytes, few) in
    let size : length (drop at bytes) + (n - length (drop at bytes)) ≡ n = omega (arith, short) in
    sym (zeros_cut (drop at bytes) (n - length (drop at bytes)) n size) ∙ ap (take n) (sym (drop-append-le at bytes (replicate n 0) there))

-- a list that is long enough, and what is behind it
pub long_enough : (bytes behind : List ℕ) (at n : ℕ) → at + n ≤ length bytes → take n (drop at bytes) ≡ take n (drop at (bytes ++ behind))
long_enough bytes behind at n there =
    let inside : at ≤ length bytes = omega (arith, there) in
    let enough : n ≤ length (drop at bytes) = omega (arith, there, length-drop at bytes) in
    sym (ap (take n) (drop-append-le at bytes behind inside) ∙ take-append-le n (drop at bytes) behind enough)

-- the number of eight bytes has their bits
pub number_bits : (bytes : List ℕ) (number : ℕ) → length bytes ≡ 8 → ((i : ℕ) → get_or bytes i 0 < 256) → number ≡ from_be_bytes w64 bytes → bits_of 64 number ≡ bits_of_bytes bytes
number_bits bytes number size small is = sym (word_bytes number) ∙ ap bits_of_bytes (be_bytes_8 bytes number size small is)

-- the part of a list that stands between two others
middle : (before part after : List ℕ) (m n : ℕ) → length before ≡ m → length part ≡ n → take n (drop m (before ++ (part ++ after))) ≡ part
middle before part after m n p q = ap (take n) (drop_at before (part ++ after) m p) ∙ take_at part after n q

-- bits inside the number that some bytes spell
window_bits : (front window rest : List ℕ) (place width low number : ℕ) → place + width + low ≡ 8 * (length front + length window) → 8 * length front ≤ place
    → bits_of (8 * length window) number ≡ bits_of_bytes window
    → bits_of width (number / 2 ^ low % 2 ^ width) ≡ take width (drop place (bits_of_bytes (front ++ (window ++ rest))))
window_bits front window rest place width low number total after spelled =
    let over = place - 8 * length front in
    let size : 8 * length window ≡ over + (width + low) = omega arith in
    let first = bits_of over (number / 2 ^ (width + low)) in
    let wanted = bits_of width (number / 2 ^ low) in
    let last = bits_of low number in
    let inside : bits_of_bytes window ≡ first ++ (wanted ++ last) =
    sym spelled ∙ ap (λ k. bits_of k number) size ∙ bits_split over (width + low) number ∙ ap (λ l. first ++ l) (bits_split width low number) in
    let tail = bits_of_bytes rest in
    let whole : bits_of_bytes (front ++ (window ++ rest)) ≡ (bits_of_bytes front ++ first) ++ (wanted ++ (last ++ tail)) =
    flat_map-append (bits_of 8) front (window ++ rest) ∙ ap (λ l. bits_of_bytes front ++ l) (flat_map-append (bits_of 8) window rest ∙ ap (λ l. l ++ tail) inside)
    ∙ simp append_assoc in
    let before : length (bits_of_bytes front ++ first) ≡ place =
    omega (arith, length-append (bits_of_bytes front) first, length-bits_of_bytes front, length-bits_of over (number / 2 ^ (width + low))) in
    bits_mod width (number / 2 ^ low) ∙ sym (ap (λ l. take width (drop place l)) whole ∙ middle (bits_of_bytes front ++ first) wanted (last ++ tail) place width before (length-bits_of width (number / 2 ^ low)))

parts : (bytes : List ℕ) (f k : ℕ) → bytes ≡ take f bytes ++ (take k (drop f bytes) ++ drop k (drop f bytes))
parts bytes f k = sym (ap (λ l. take f bytes ++ l) (take-append-drop k (drop f bytes)) ∙ take-append-drop f bytes)

zero_bytes : bits_of_bytes (replicate 8 0) ≡ replicate 64 0
unfolding bits_of
zero_bytes = refl

-- the bits of bytes behind which there are zeros
behind_left : (bytes : List ℕ) (place : ℕ) → place ≤ 8 * length bytes
    → take 57 (drop place (bits_of_bytes (bytes ++ replicate 8 0))) ≡ take 57 (drop place (bits_of_bytes bytes) ++ replicate 57 0)
behind_left bytes place there =
    let bits = bits_of_bytes bytes in
    let rest = drop place bits in
    let zeros : List ℕ = replicate 57 0 in
    let within : place ≤ length bits = omega (arith, there, length-bits_of_bytes bytes) in
    let enough : 57 ≤ length (rest ++ zeros) = omega (arith, length-append rest zeros, length-replicate {A = ℕ} 57 0) in
    let cut : rest ++ replicate 64 0 ≡ (rest ++ zeros) ++ replicate 7 0 = sym (append_assoc rest zeros (replicate 7 0)) in
    ap (λ l. take 57 (drop place l)) (flat_map-append (bits_of 8) bytes (replicate 8 0) ∙ ap (λ l. bits ++ l) zero_bytes) ∙ ap (take 57) (drop-append-le place bits (replicate 64 0) within ∙ cut)
    ∙ take-append-le 57 (rest ++ zeros) (replicate 7 0) enough

-- a window inside eight bytes
pub window_inside : (bytes chunk : List ℕ) (place number window : ℕ) → place ≤ 8 * length bytes → chunk ≡ take 8 (drop (place / 8) (bytes ++ replicate 8 0)) → bits_of 64 number ≡ bits_of_bytes chunk
    → window ≡ number / 2 ^ (7 - place % 8) % 2 ^ 57 → bits_of 57 window ≡ take 57 (drop place (bits_of_bytes bytes) ++ replicate 57 0)
window_inside bytes chunk place number window inside is spelled picked =
    let padded = bytes ++ replicate {A = ℕ} 8 0 in
    let f = place / 8 in
    let there : f + 8 ≤ length padded = omega (arith, length-append bytes (replicate {A = ℕ} 8 0), inside) in
    let front : length (take f padded) ≡ f = length-take-le f padded (omega (arith, there)) in
    let size : length chunk ≡ 8 = ap length is ∙ length-take-le 8 (drop f padded) (omega (arith, there, length-drop f padded)) in
    let total : place + 57 + (7 - place % 8) ≡ 8 * (length (take f padded) + length chunk) = omega (arith, front, size) in
    let after : 8 * length (take f padded) ≤ place = omega (arith, front) in
    let eight : 8 * length chunk ≡ 64 = omega (arith, size) in
    let cut : padded ≡ take f padded ++ (chunk ++ drop 8 (drop f padded)) = parts padded f 8 ∙ ap (λ l. take f padded ++ (l ++ drop 8 (drop f padded))) (sym is) in
    ap (bits_of 57) picked ∙ window_bits (take f padded) chunk (drop 8 (drop f padded)) place 57 (7 - place % 8) number total after (ap (λ k. bits_of k number) eight ∙ spelled)
    ∙ ap (λ l. take 57 (drop place (bits_of_bytes l))) (sym cut) ∙ behind_left bytes place inside

-- what a window's highest bits are of the bits that are left
pub taken : (bits : List ℕ) (width window value : ℕ) → width ≤ 57 → width ≤ length bits → bits_of 57 window ≡ take 57 (bits ++ replicate 57 0) → value ≡ window / 2 ^ (57 - width)
    → bits ≡ bits_of width value ++ drop width bits
taken bits width window value narrow enough seen is =
    let zeros : List ℕ = replicate 57 0 in
    let sum : 57 ≡ width + (57 - width) = omega (arith, narrow) in
    let cut : bits_of 57 window ≡ bits_of width value ++ bits_of (57 - width) window = ap (λ k. bits_of k window) sum ∙ bits_split width (57 - width) window ∙ ap (λ v. bits_of width v ++ bits_of (57 - width) window) (sym is) in
    let front : bits_of width value ≡ take width bits =
    sym (take_at (bits_of width value) (bits_of (57 - width) window) width (length-bits_of width value)) ∙ ap (take width) (sym cut ∙ seen) ∙ take-take width 57 (bits ++ zeros) narrow
    ∙ take-append-le width bits zeros enough in
    sym (take-append-drop width bits) ∙ ap (λ l. l ++ drop width bits) (sym front)

-- zeros behind a list change no item, where 0 stands for what is past the end
zeros_behind : (items : List ℕ) (n i : ℕ) → get_or (items ++ replicate n 0) i 0 ≡ get_or items i 0
zeros_behind items n i = elim (cases_lt i (length items)) [
  | inl inside ↦ get_or_append_left items (replicate n 0) 0 i inside
  | inr past ↦ get_or-append_right items (replicate n 0) (length items) i 0 refl past ∙ of_zeros n (i - length items) ∙ sym (get_or_past items i 0 past)
]
  where
    of_zeros : (n j : ℕ) → get_or {A = ℕ} (replicate n 0) j 0 ≡ 0
    of_zeros n j = elim (cases_lt j n) [
      | inl inside ↦ get_or-replicate n j 0 0 inside
      | inr past ↦ let short : length (replicate {A = ℕ} n 0) ≤ j = omega (arith, past, length-replicate {A = ℕ} n 0) in get_or_past (replicate n 0) j 0 short
    ]

-- the bits of a window, one by one
pub window_of_left : (bits : List ℕ) (window : ℕ) → bits_of 57 window ≡ take 57 (bits ++ replicate 57 0) → (k : ℕ) → k < 57 → get_or (bits_of 57 window) k 0 ≡ get_or bits k 0
window_of_left bits window seen k inside = ap (λ l. get_or l k 0) seen ∙ get_or-take 57 (bits ++ replicate 57 0) k 0 inside ∙ zeros_behind bits 57 k

pub window_index : (bytes : List ℕ) (place window k : ℕ) → bits_of 57 window ≡ take 57 (drop place (bits_of_bytes bytes) ++ replicate 57 0) → k < 57
    → get_or (bits_of 57 window) k 0 ≡ get_or (bits_of_bytes bytes) (place + k) 0
window_index bytes place window k seen inside = window_of_left (drop place (bits_of_bytes bytes)) window seen k inside ∙ get_or-drop place (bits_of_bytes bytes) k 0
