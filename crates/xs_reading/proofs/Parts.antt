-- Parts of bytes and of their bits, and faults that there are not.
use Rattle.std.proofs.Common.{◌≡◌, ℕ, zero, suc, ◌+◌, ◌-◌, ◌*◌, ◌^◌, ◌<◌, ◌≤◌, List, [], ◌∷◌, ◌++◌, length, take, drop, refl, sym, ap, subst, ◌∙◌, arith, append_assoc}
use Rattle.std.specs.Prelude.{Bool, true, false, not, if◌then◌else◌, Option, None, Some}
use Rattle.std.specs.List.{fold}
use Rattle.std.specs.Option.{option_map}
use Rattle.std.proofs.Math.Nat.{pow-suc}
use Rattle.std.proofs.Math.Seq.{take-add}
use Rattle.std.proofs.lemmas.List.{length-take-le}
use Rattle.xs_lists.specs.Bits.{bits_of, bits_of_bytes, bits_of_fields, FieldsFit, bit_of}
use Rattle.xs_lists.specs.First.{when, first_some}
use Rattle.xs_lists.specs.Packing.{AreBits, AreBytes}
use Rattle.xs_lists.proofs.Bits.{length-bits_of, length-bits_of_bytes}
use Rattle.xs_lists.proofs.Bitwise.{join-are, bits_of-are}
use Rattle.xs_lists.proofs.FieldBits.{bit_of-eq}
use Rattle.xs_lists.proofs.Packing.{bits_of-number}
use Rattle.xs_grammar.specs.Packet.{packet_fields}
use Rattle.xs_spelling.proofs.Recounted.{drop-are, take-are}
use Rattle.xs_reading.specs.Packet.{field_at, packet_head}

-- Faults

pub none_first : {A : Type 0} (x : Option A) (xs : List (Option A)) → first_some (x ∷ xs) ≡ None → (x ≡ None) × (first_some xs ≡ None)
none_first None xs e = (refl, e)
none_first (Some a) xs e = absurd (cc e)

pub none_when : {A : Type 0} (test : Bool) (a : A) → when test a ≡ None → test ≡ false
none_when false a e = refl
none_when true a e = absurd (cc e)

pub none_map : {A B : Type 0} (f : A → B) (x : Option A) → option_map f x ≡ None → x ≡ None
none_map f None e = refl
none_map f (Some a) e = absurd (cc e)

pub not-false : (b : Bool) → not b ≡ false → b ≡ true
not-false true e = refl
not-false false e = absurd (cc e)

-- Bytes

pub bytes-drop : (n : ℕ) (bytes : List ℕ) → AreBytes bytes → AreBytes (drop n bytes)
bytes-drop zero bytes h = h
bytes-drop (suc n) [] h = tt
bytes-drop (suc n) (b ∷ bytes) h = bytes-drop n bytes h.1

pub bytes-take : (n : ℕ) (bytes : List ℕ) → AreBytes bytes → AreBytes (take n bytes)
bytes-take zero bytes h = tt
bytes-take (suc n) [] h = tt
bytes-take (suc n) (b ∷ bytes) h = (h.0, bytes-take n bytes h.1)

-- Bits of bytes

pub bytes-are : (bytes : List ℕ) → AreBits (bits_of_bytes bytes)
bytes-are bytes = join-are (bits_of 8) (λ b. bits_of-are 8 b) bytes

pub take-bytes : (n : ℕ) (bytes : List ℕ) → n ≤ length bytes → bits_of_bytes (take n bytes) ≡ take (8 * n) (bits_of_bytes bytes)
take-bytes zero bytes h = refl
take-bytes (suc n) [] h = absurd (omega (arith, h))
take-bytes (suc n) (b ∷ bytes) h =
    let size : 8 * suc n ≡ 8 + 8 * n = omega arith in
    ap (λ l. bits_of 8 b ++ l) (take-bytes n bytes (omega (arith, h))) ∙ sym (take_past (bits_of 8 b) (bits_of_bytes bytes) 8 (8 * n) (length-bits_of 8 b)) ∙ ap (λ k. take k (bits_of 8 b ++ bits_of_bytes bytes)) (sym size)
  where
    take_past : (xs ys : List ℕ) (k m : ℕ) → length xs ≡ k → take (k + m) (xs ++ ys) ≡ xs ++ take m ys
    take_past [] ys zero m e = let z : 0 + m ≡ m = omega arith in ap (λ k. take k ys) z
    take_past [] ys (suc k) m e = absurd (omega (arith, e))
    take_past (x ∷ xs) ys zero m e = absurd (omega (arith, e))
    take_past (x ∷ xs) ys (suc k) m e = let z : suc k + m ≡ suc (k + m) = omega arith in ap (λ n. take n (x ∷ (xs ++ ys))) z ∙ ap (λ l. x ∷ l) (take_past xs ys k m (omega (arith, e)))

-- Fields

number-below : (bits : List ℕ) (n m : ℕ) → AreBits bits → n < 2 ^ m → fold (λ number bit. 2 * number + bit) n bits < 2 ^ (m + length bits)
number-below [] n m h p = let e : m + 0 ≡ m = omega arith in subst (λ k. n < 2 ^ k) (sym e) p
number-below (b ∷ bits) n m h p =
    let e : m + suc (length bits) ≡ suc m + length bits = omega arith in
    subst (λ k. fold (λ number bit. 2 * number + bit) (2 * n + b) bits < 2 ^ k) (sym e) (number-below bits (2 * n + b) (suc m) h.1 (omega (arith, p, h.0, pow-suc 2 m)))

pub length-drop : (n : ℕ) (xs : List ℕ) → length (drop n xs) ≡ length xs - n
length-drop zero xs = omega arith
length-drop (suc n) [] = omega arith
length-drop (suc n) (x ∷ xs) = omega (arith, length-drop n xs)

pub field-size : (bits : List ℕ) (place width : ℕ) → place + width ≤ length bits → length (take width (drop place bits)) ≡ width
field-size bits place width room = length-take-le width (drop place bits) (omega (arith, room, length-drop place bits))

pub field-small : (bits : List ℕ) (place width : ℕ) → AreBits bits → place + width ≤ length bits → field_at bits place width < 2 ^ width
field-small bits place width are room =
    let size : 0 + length (take width (drop place bits)) ≡ width = omega (arith, field-size bits place width room) in
    subst (λ k. field_at bits place width < 2 ^ k) size (number-below (take width (drop place bits)) 0 0 (take-are width (drop place bits) (drop-are place bits are)) (omega arith))

pub field-bits : (bits : List ℕ) (place width : ℕ) → AreBits bits → place + width ≤ length bits → bits_of width (field_at bits place width) ≡ take width (drop place bits)
field-bits bits place width are room =
    ap (λ k. bits_of k (field_at bits place width)) (sym (field-size bits place width room)) ∙ bits_of-number (take width (drop place bits)) (take-are width (drop place bits) (drop-are place bits are))

pub five_parts : {A : Type 0} (a b c d e : ℕ) (l : List A)
    → take (a + b + c + d + e) l ≡ take a l ++ (take b (drop a l) ++ (take c (drop (a + b) l) ++ (take d (drop (a + b + c) l) ++ take e (drop (a + b + c + d) l))))
five_parts a b c d e l =
    take-add (a + b + c + d) e l ∙ ap (λ x. x ++ take e (drop (a + b + c + d) l)) (take-add (a + b + c) d l ∙ ap (λ x. x ++ take d (drop (a + b + c) l)) (take-add (a + b) c l ∙ ap (λ x. x ++ take c (drop (a + b) l)) (take-add a b l)))
    ∙ append_assoc ((take a l ++ take b (drop a l)) ++ take c (drop (a + b) l)) (take d (drop (a + b + c) l)) (take e (drop (a + b + c + d) l))
    ∙ append_assoc (take a l ++ take b (drop a l)) (take c (drop (a + b) l)) (take d (drop (a + b + c) l) ++ take e (drop (a + b + c + d) l))
    ∙ append_assoc (take a l) (take b (drop a l)) (take c (drop (a + b) l) ++ (take d (drop (a + b + c) l) ++ take e (drop (a + b + c + d) l)))

-- four fields at the front of bits
four_fields : (a b c d : ℕ) (bits : List ℕ) (first : ℕ) → AreBits bits → a + b + c + d ≤ length bits → first ≡ field_at bits 0 a
    → FieldsFit ((a, first) ∷ (b, field_at bits a b) ∷ (c, field_at bits (a + b) c) ∷ (d, field_at bits (a + b + c) d) ∷ [])
    × (take (a + b + c + d) bits ≡ bits_of_fields ((a, first) ∷ (b, field_at bits a b) ∷ (c, field_at bits (a + b) c) ∷ (d, field_at bits (a + b + c) d) ∷ []))
four_fields a b c d bits first are room same = (
  (subst (λ n. n < 2 ^ a) (sym same) (field-small bits 0 a are (omega (arith, room))), (field-small bits a b are (omega (arith, room)), (field-small bits (a + b) c are (omega (arith, room)), (field-small bits (a + b + c) d are (omega (arith, room)), tt)))),
  ap (λ k. take k bits) (zero-last (a + b + c + d)) ∙ five_parts a b c d 0 bits
      ∙ pieces (sym (field-bits bits 0 a are (omega (arith, room))) ∙ ap (bits_of a) (sym same)) (sym (field-bits bits a b are (omega (arith, room)))) (sym (field-bits bits (a + b) c are (omega (arith, room)))) (sym (field-bits bits (a + b + c) d are (omega (arith, room)))),
)
  where
    zero-last : (n : ℕ) → n ≡ n + 0
    zero-last n = omega arith

    pieces : {p q r s p' q' r' s' : List ℕ} → p ≡ p' → q ≡ q' → r ≡ r' → s ≡ s' → p ++ (q ++ (r ++ (s ++ []))) ≡ p' ++ (q' ++ (r' ++ (s' ++ [])))
    pieces e f g h = cc (e, f, g, h)

-- the header of a packet
pub head_fields : (long : Bool) (bytes : List ℕ) → (if long then 7 else 5) ≤ length bytes
    → FieldsFit (packet_fields long (packet_head long bytes).raw (packet_head long bytes).data_bytes (packet_head long bytes).count_bytes (packet_head long bytes).sign_bytes)
    × (bits_of_bytes (take (if long then 7 else 5) bytes) ≡ bits_of_fields (packet_fields long (packet_head long bytes).raw (packet_head long bytes).data_bytes (packet_head long bytes).count_bytes (packet_head long bytes).sign_bytes))
head_fields true bytes room =
    let bits : List ℕ = bits_of_bytes bytes in
    let size : length bits ≡ 8 * length bytes = length-bits_of_bytes bytes in
    let fields = four_fields 1 20 20 15 bits (bit_of (packet_head true bytes).raw) (bytes-are bytes) (omega (arith, size, room)) (bit_of-eq (field_at bits 0 1) (field-small bits 0 1 (bytes-are bytes) (omega (arith, size, room)))) in
    (fields.0, take-bytes 7 bytes room ∙ fields.1)
head_fields false bytes room =
    let bits : List ℕ = bits_of_bytes bytes in
    let size : length bits ≡ 8 * length bytes = length-bits_of_bytes bytes in
    let fields = four_fields 1 15 13 11 bits (bit_of (packet_head false bytes).raw) (bytes-are bytes) (omega (arith, size, room)) (bit_of-eq (field_at bits 0 1) (field-small bits 0 1 (bytes-are bytes) (omega (arith, size, room)))) in
    (fields.0, take-bytes 5 bytes room ∙ fields.1)
