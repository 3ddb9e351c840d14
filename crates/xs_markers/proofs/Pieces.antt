-- Segments at places of bytes.
use Rattle.std.proofs.Common.{◌≡◌, ℕ, ◌+◌, ◌-◌, ◌^◌, ◌<◌, ◌≤◌, List, ◌++◌, length, take, drop, sym, ap, ◌∙◌, arith, length-append, take-add}
use Rattle.std.specs.Int.{to_be_bytes, from_be_bytes, w16}
use Rattle.std.proofs.lemmas.Nat.{from_be_bytes-to_be_bytes_2}
use Rattle.std.proofs.lemmas.List.{take_at, drop_at, drop-drop}
use Rattle.xs_lists.specs.Fields.{half_word_at}
use Rattle.xs_grammar.specs.Header.{segment_bytes}
use Rattle.xs_markers.proofs.Cut.{IsBytes, half_word_bytes, piece_size}

-- the body of a segment at a place, whose length field has this value
abbrev pub segment_body_at : List ℕ → ℕ → ℕ → List ℕ
segment_body_at bytes place size = take (size - 2) (drop (place + 4) bytes)

-- a segment stands at a place, of a length that counts itself
pub record IsSegmentAt (bytes : List ℕ) (place code size : ℕ) : Type 0 where
  pub whole : place + 2 + size ≤ length bytes
  pub coded : half_word_at bytes place ≡ code
  pub sized : half_word_at bytes (place + 2) ≡ size

-- Bytes of segments

-- a piece of two parts
pub cut_on : (n m p : ℕ) (bytes : List ℕ) → take (n + m) (drop p bytes) ≡ take n (drop p bytes) ++ take m (drop (p + n) bytes)
cut_on n m p bytes = take-add n m (drop p bytes) ∙ ap (λ l. take n (drop p bytes) ++ take m l) (drop-drop n p bytes)

pub join : (a b x y : List ℕ) → a ≡ b → x ≡ y → a ++ x ≡ b ++ y
join a b x y p q = ap (λ l. l ++ x) p ∙ ap (λ l. b ++ l) q

-- the bytes of a segment that stands at a place
pub segment_here : (bytes : List ℕ) (place code size : ℕ) → IsBytes bytes → 2 ≤ size → IsSegmentAt bytes place code size
    → take (2 + size) (drop place bytes) ≡ segment_bytes (record { code = code; body = segment_body_at bytes place size })
segment_here bytes place code size small counted h =
    let whole : place + 2 + size ≤ length bytes = h.whole in
    let sum : 2 + size ≡ 2 + (2 + (size - 2)) = omega (arith, counted) in
    let place_is : place + 2 + 2 ≡ place + 4 = omega arith in
    let body_size : size ≡ length (segment_body_at bytes place size) + 2 = omega (arith, piece_size (size - 2) (place + 4) bytes (omega (arith, whole, counted)), counted) in
    ap (λ n. take n (drop place bytes)) sum ∙ cut_on 2 (2 + (size - 2)) place bytes
    ∙ join _ _ _ _ (half_word_bytes bytes place code small (omega (arith, whole)) h.coded)
    (cut_on 2 (size - 2) (place + 2) bytes
    ∙ join _ _ _ _ (half_word_bytes bytes (place + 2) size small (omega (arith, whole, counted)) h.sized) (ap (λ p. take (size - 2) (drop p bytes)) place_is)
    ∙ ap (λ n. to_be_bytes w16 n ++ segment_body_at bytes place size) body_size)

-- a segment stands where its bytes do
pub segment_seen : (bytes front tail : List ℕ) (place code size : ℕ) (body : List ℕ) → bytes ≡ front ++ (segment_bytes (record { code = code; body = body }) ++ tail) → length front ≡ place → code < 2 ^ 16
    → length body + 2 ≡ size → size < 2 ^ 16 → IsSegmentAt bytes place code size × (segment_body_at bytes place size ≡ body)
segment_seen bytes front tail place code size body joined at small sized short =
    let seg : List ℕ = segment_bytes (record { code = code; body = body }) in
    let here : drop place bytes ≡ seg ++ tail = ap (drop place) joined ∙ drop_at front (seg ++ tail) place at in
    let next : drop (place + 2) bytes ≡ to_be_bytes w16 (length body + 2) ++ (body ++ tail) = sym (drop-drop 2 place bytes) ∙ ap (drop 2) here in
    let after : drop (place + 4) bytes ≡ body ++ tail = sym (drop-drop 4 place bytes) ∙ ap (drop 4) here in
    let total : length bytes ≡ place + (4 + (length body + length tail)) = ap length joined ∙ length-append front (seg ++ tail) ∙ ap (λ n. length front + n) (length_is tail) ∙ ap (λ n. n + (4 + (length body + length tail))) at in (
      record {
        whole = omega (arith, total, sized);
        coded = ap (λ l. from_be_bytes w16 (take 2 l)) here ∙ from_be_bytes-to_be_bytes_2 code small;
        sized = ap (λ l. from_be_bytes w16 (take 2 l)) next ∙ from_be_bytes-to_be_bytes_2 (length body + 2) (omega (arith, sized, short)) ∙ sized;
      },
      ap (take (size - 2)) after ∙ take_at body tail (size - 2) (omega (arith, sized)),
    )
  where
    length_is : (tail : List ℕ) → length (segment_bytes (record { code = code; body = body }) ++ tail) ≡ 4 + (length body + length tail)
    length_is tail = let e = length-append body tail in omega (arith, e)
