-- The bits of the bodies of a header's segments are those of the fields that are read.
use Rattle.std.specs.List.{flat_map, range_with_len}
use Rattle.std.proofs.Common.{◌≡◌, ℕ, zero, suc, ◌+◌, ◌*◌, List, [], ◌∷◌, ◌++◌, length, drop, sym, ap, ◌∙◌, arith, append_assoc, append-nil}
use Rattle.std.proofs.lemmas.List.{drop_all}
use Rattle.xs_lists.specs.Bits.{bits_of, bits_of_bytes, bits_of_fields, FieldsFit}
use Rattle.xs_lists.specs.Fields.{field, half_word_at, word_at}
use Rattle.xs_lists.proofs.FieldBits.{bits_of-field, bits_of-low}
use Rattle.xs_markers.specs.Values.{byte_at, depth_at, across_at, down_at}
use Rattle.xs_markers.proofs.Cut.{IsBytes, word_here, half_word_here, byte_here, word_small, half_word_small}

-- all fields of a picture header, those too that have no effect
abbrev pub picture_read : List ℕ → List (ℕ × ℕ)
picture_read body =
    (32, word_at body 0) ∷ (16, half_word_at body 4) ∷ (16, half_word_at body 6)
    ∷ (16, half_word_at body 8) ∷ (16, half_word_at body 10) ∷ (16, half_word_at body 12) ∷ (16, half_word_at body 14)
    ∷ (8, byte_at body 16) ∷ (8, byte_at body 17) ∷ (8, byte_at body 18) ∷ (8, byte_at body 19)
    ∷ (4, field 4 4 (byte_at body 20)) ∷ (4, field 4 0 (byte_at body 20))
    ∷ (1, field 1 7 (byte_at body 21)) ∷ (3, field 3 4 (byte_at body 21)) ∷ (4, field 4 0 (byte_at body 21))
    ∷ (4, field 4 4 (byte_at body 22)) ∷ (4, field 4 0 (byte_at body 22))
    ∷ (1, field 1 7 (byte_at body 23)) ∷ (1, field 1 6 (byte_at body 23)) ∷ (2, field 2 4 (byte_at body 23)) ∷ (2, field 2 2 (byte_at body 23)) ∷ (2, field 2 0 (byte_at body 23))
    ∷ []

-- the fields of a component, and of so many components from one on
abbrev pub component_at : List ℕ → ℕ → List (ℕ × ℕ)
component_at body component = (8, depth_at body component) ∷ (4, across_at body component) ∷ (4, down_at body component) ∷ []

abbrev pub components_from : List ℕ → ℕ → ℕ → List (ℕ × ℕ)
components_from body first count = flat_map (component_at body) (range_with_len first count)

-- Fields of a byte, and what follows them

before : (width value : ℕ) (x y : List ℕ) → x ≡ y → bits_of width value ++ x ≡ bits_of width value ++ y
before width value x y e = ap (λ l. bits_of width value ++ l) e

top : (width low value : ℕ) (rest : List ℕ) → bits_of (width + low) value ++ rest ≡ bits_of width (field width low value) ++ (bits_of low value ++ rest)
top width low value rest = ap (λ l. l ++ rest) (sym (bits_of-field width low value)) ∙ append_assoc (bits_of width (field width low value)) (bits_of low value) rest

last : (width value : ℕ) (rest : List ℕ) → bits_of width value ++ rest ≡ bits_of width (field width 0 value) ++ rest
last width value rest = ap (λ l. l ++ rest) (sym (sym (append-nil (bits_of width (field width 0 value))) ∙ bits_of-low width value))

nibbles : (value : ℕ) (rest : List ℕ) → bits_of 8 value ++ rest ≡ bits_of 4 (field 4 4 value) ++ (bits_of 4 (field 4 0 value) ++ rest)
nibbles value rest = top 4 4 value rest ∙ before 4 (field 4 4 value) (bits_of 4 value ++ rest) (bits_of 4 (field 4 0 value) ++ rest) (last 4 value rest)

codings : (value : ℕ) (rest : List ℕ) → bits_of 8 value ++ rest ≡ bits_of 1 (field 1 7 value) ++ (bits_of 3 (field 3 4 value) ++ (bits_of 4 (field 4 0 value) ++ rest))
codings value rest =
    top 1 7 value rest
    ∙ before 1 (field 1 7 value) _ _ (top 3 4 value rest ∙ before 3 (field 3 4 value) _ _ (last 4 value rest))

flags : (value : ℕ) (rest : List ℕ)
    → bits_of 8 value ++ rest ≡ bits_of 1 (field 1 7 value) ++ (bits_of 1 (field 1 6 value) ++ (bits_of 2 (field 2 4 value) ++ (bits_of 2 (field 2 2 value) ++ (bits_of 2 (field 2 0 value) ++ rest))))
flags value rest =
    top 1 7 value rest
    ∙ before 1 (field 1 7 value) _ _ (top 1 6 value rest
    ∙ before 1 (field 1 6 value) _ _ (top 2 4 value rest
    ∙ before 2 (field 2 4 value) _ _ (top 2 2 value rest ∙ before 2 (field 2 2 value) _ _ (last 2 value rest))))

-- The picture header

-- the bytes at the end, whose parts are fields
picture_end : (body : List ℕ) → length body ≡ 24
    → bits_of_bytes (drop 20 body)
    ≡ bits_of_fields (
    (4, field 4 4 (byte_at body 20)) ∷ (4, field 4 0 (byte_at body 20))
    ∷ (1, field 1 7 (byte_at body 21)) ∷ (3, field 3 4 (byte_at body 21)) ∷ (4, field 4 0 (byte_at body 21))
    ∷ (4, field 4 4 (byte_at body 22)) ∷ (4, field 4 0 (byte_at body 22))
    ∷ (1, field 1 7 (byte_at body 23)) ∷ (1, field 1 6 (byte_at body 23)) ∷ (2, field 2 4 (byte_at body 23)) ∷ (2, field 2 2 (byte_at body 23)) ∷ (2, field 2 0 (byte_at body 23))
    ∷ []
    )
picture_end body size =
    let none : bits_of_bytes (drop 24 body) ≡ [] = ap bits_of_bytes (drop_all 24 body (omega (arith, size))) in
    byte_here body 20 (omega (arith, size)) ∙ nibbles (byte_at body 20) (bits_of_bytes (drop 21 body))
    ∙ before 4 (field 4 4 (byte_at body 20)) _ _ (before 4 (field 4 0 (byte_at body 20)) _ _ (
    byte_here body 21 (omega (arith, size)) ∙ codings (byte_at body 21) (bits_of_bytes (drop 22 body))
    ∙ before 1 (field 1 7 (byte_at body 21)) _ _ (before 3 (field 3 4 (byte_at body 21)) _ _ (before 4 (field 4 0 (byte_at body 21)) _ _ (
    byte_here body 22 (omega (arith, size)) ∙ nibbles (byte_at body 22) (bits_of_bytes (drop 23 body))
    ∙ before 4 (field 4 4 (byte_at body 22)) _ _ (before 4 (field 4 0 (byte_at body 22)) _ _ (
    byte_here body 23 (omega (arith, size)) ∙ flags (byte_at body 23) (bits_of_bytes (drop 24 body))
    ∙ before 1 (field 1 7 (byte_at body 23)) _ _ (before 1 (field 1 6 (byte_at body 23)) _ _ (before 2 (field 2 4 (byte_at body 23)) _ _ (before 2 (field 2 2 (byte_at body 23)) _ _ (
    before 2 (field 2 0 (byte_at body 23)) _ _ none)))))))))))

pub picture_bits : (body : List ℕ) → IsBytes body → length body ≡ 24 → bits_of_bytes body ≡ bits_of_fields (picture_read body)
picture_bits body small size =
    word_here body 0 small (omega (arith, size))
    ∙ before 32 (word_at body 0) _ _ (half_word_here body 4 small (omega (arith, size))
    ∙ before 16 (half_word_at body 4) _ _ (half_word_here body 6 small (omega (arith, size))
    ∙ before 16 (half_word_at body 6) _ _ (half_word_here body 8 small (omega (arith, size))
    ∙ before 16 (half_word_at body 8) _ _ (half_word_here body 10 small (omega (arith, size))
    ∙ before 16 (half_word_at body 10) _ _ (half_word_here body 12 small (omega (arith, size))
    ∙ before 16 (half_word_at body 12) _ _ (half_word_here body 14 small (omega (arith, size))
    ∙ before 16 (half_word_at body 14) _ _ (byte_here body 16 (omega (arith, size))
    ∙ before 8 (byte_at body 16) _ _ (byte_here body 17 (omega (arith, size))
    ∙ before 8 (byte_at body 17) _ _ (byte_here body 18 (omega (arith, size))
    ∙ before 8 (byte_at body 18) _ _ (byte_here body 19 (omega (arith, size))
    ∙ before 8 (byte_at body 19) _ _ (picture_end body size)))))))))))

pub picture_room : (body : List ℕ) → IsBytes body → length body ≡ 24 → FieldsFit (picture_read body)
picture_room body small size =
    omega (
      arith,
      word_small body 0 small (omega (arith, size)),
      half_word_small body 4 small (omega (arith, size)),
      half_word_small body 6 small (omega (arith, size)),
      half_word_small body 8 small (omega (arith, size)),
      half_word_small body 10 small (omega (arith, size)),
      half_word_small body 12 small (omega (arith, size)),
      half_word_small body 14 small (omega (arith, size)),
      small 16,
      small 17,
      small 18,
      small 19,
    )

-- The components

components_rest : (body : List ℕ) (first count : ℕ) → length body ≡ 2 * (first + count) → bits_of_bytes (drop (2 * first) body) ≡ bits_of_fields (components_from body first count)
components_rest body first zero size = ap bits_of_bytes (drop_all (2 * first) body (omega (arith, size)))
components_rest body first (suc count) size =
    let next : 2 * first + 1 + 1 ≡ 2 * (first + 1) = omega arith in
    let rest = components_rest body (first + 1) count (omega (arith, size)) in
    byte_here body (2 * first) (omega (arith, size))
    ∙ before 8 (depth_at body first) _ _ (byte_here body (2 * first + 1) (omega (arith, size)) ∙ nibbles (byte_at body (2 * first + 1)) (bits_of_bytes (drop (2 * first + 1 + 1) body))
    ∙ before 4 (across_at body first) _ _ (before 4 (down_at body first) _ _ (ap (λ n. bits_of_bytes (drop n body)) next ∙ rest)))

pub components_bits : (body : List ℕ) (count : ℕ) → length body ≡ 2 * count → bits_of_bytes body ≡ bits_of_fields (components_from body 0 count)
components_bits body count size = components_rest body 0 count (omega (arith, size))

pub components_room : (body : List ℕ) (first count : ℕ) → IsBytes body → FieldsFit (components_from body first count)
components_room body first zero small = tt
components_room body first (suc count) small =
    (small (2 * first), (omega arith, (omega arith, components_room body (first + 1) count small)))
