-- The headers of packets and precincts.
use Rattle.std.proofs.Common.{◌≡◌, ℕ, ◌%◌, List, [], ◌∷◌, ◌++◌, length, map, refl, sym, ap, ◌∙◌, arith, append_assoc, append-nil, length-append}
use Rattle.std.specs.Prelude.{false}
use Rattle.std.specs.List.{flat_map}
use Rattle.std.proofs.lemmas.List.Concat.{flat_map-append}
use Rattle.std.proofs.lemmas.List.Folds.{flat_map-map}
use Rattle.xs_lists.specs.Bits.{bits_of, bits_of_bytes, bits_of_fields}
use Rattle.xs_lists.specs.Spelling.{upto}
use Rattle.xs_lists.proofs.Bits.{length-bits_of}
use Rattle.xs_grammar.specs.Packet.{packet_fields}

pub four_fields : (before a b c d : List ℕ) (numbers counts signs : ℕ) → a ≡ before ++ bits_of 1 0 → b ≡ a ++ bits_of 15 numbers → c ≡ b ++ bits_of 13 counts → d ≡ c ++ bits_of 11 signs
    → d ≡ before ++ bits_of_fields (packet_fields false false numbers counts signs)
four_fields before a b c d numbers counts signs p q r s =
    s ∙ ap (λ l. l ++ bits_of 11 signs) (r ∙ ap (λ l. l ++ bits_of 13 counts) (q ∙ ap (λ l. l ++ bits_of 15 numbers) p))
    ∙ joined before (bits_of 1 0) (bits_of 15 numbers) (bits_of 13 counts) (bits_of 11 signs)
  where
    joined : (o k l m n : List ℕ) → (((o ++ k) ++ l) ++ m) ++ n ≡ o ++ (k ++ (l ++ (m ++ (n ++ []))))
    joined o k l m n = simp (append_assoc, append-nil) refl

pub head_border : (before a b c d : List ℕ) (numbers counts signs : ℕ) → length before % 8 ≡ 0 → a ≡ before ++ bits_of 1 0 → b ≡ a ++ bits_of 15 numbers → c ≡ b ++ bits_of 13 counts → d ≡ c ++ bits_of 11 signs → length d % 8 ≡ 0
head_border before a b c d numbers counts signs border p q r s =
    omega (
      arith,
      border,
      ap length p,
      ap length q,
      ap length r,
      ap length s,
      length-append before (bits_of 1 0),
      length-append a (bits_of 15 numbers),
      length-append b (bits_of 13 counts),
      length-append c (bits_of 11 signs),
      length-bits_of 1 0,
      length-bits_of 15 numbers,
      length-bits_of 13 counts,
      length-bits_of 11 signs,
    )

-- the parts of a packet behind one another
pub five_bits : (before a b c d e : List ℕ) (v w x y z : List ℕ) → a ≡ before ++ bits_of_bytes v → b ≡ a ++ bits_of_bytes w → c ≡ b ++ bits_of_bytes x → d ≡ c ++ bits_of_bytes y → e ≡ d ++ bits_of_bytes z
    → e ≡ before ++ bits_of_bytes (v ++ (w ++ (x ++ (y ++ z))))
five_bits before a b c d e v w x y z p q r s t =
    t ∙ ap (λ l. l ++ bits_of_bytes z) (s ∙ ap (λ l. l ++ bits_of_bytes y) (r ∙ ap (λ l. l ++ bits_of_bytes x) (q ∙ ap (λ l. l ++ bits_of_bytes w) p)))
    ∙ joined before (bits_of_bytes v) (bits_of_bytes w) (bits_of_bytes x) (bits_of_bytes y) (bits_of_bytes z)
    ∙ ap (λ l. before ++ l) (sym (
    flat_map-append (bits_of 8) v (w ++ (x ++ (y ++ z))) ∙ ap (λ l. bits_of_bytes v ++ l) (
    flat_map-append (bits_of 8) w (x ++ (y ++ z)) ∙ ap (λ l. bits_of_bytes w ++ l) (
    flat_map-append (bits_of 8) x (y ++ z) ∙ ap (λ l. bits_of_bytes x ++ l) (flat_map-append (bits_of 8) y z)))))
  where
    joined : (o k l m n q : List ℕ) → ((((o ++ k) ++ l) ++ m) ++ n) ++ q ≡ o ++ (k ++ (l ++ (m ++ (n ++ q))))
    joined o k l m n q = simp append_assoc refl

-- the header of a precinct
pub precinct_head : (before a b c d : List ℕ) (size q r bands : ℕ) (mode : ℕ → ℕ) → a ≡ before ++ bits_of 24 size → b ≡ a ++ bits_of 8 q → c ≡ b ++ bits_of 8 r → d ≡ c ++ flat_map (λ band. bits_of 2 (mode band)) (upto bands)
    → d ≡ before ++ bits_of_fields ((24, size) ∷ (8, q) ∷ (8, r) ∷ map (λ band. (2, mode band)) (upto bands))
precinct_head before a b c d size q r bands mode p s t u =
    let modes = flat_map (λ band. bits_of 2 (mode band)) (upto bands) in
    u ∙ ap (λ l. l ++ modes) (t ∙ ap (λ l. l ++ bits_of 8 r) (s ∙ ap (λ l. l ++ bits_of 8 q) p))
    ∙ joined before (bits_of 24 size) (bits_of 8 q) (bits_of 8 r) modes
    ∙ ap (λ l. before ++ (bits_of 24 size ++ (bits_of 8 q ++ (bits_of 8 r ++ l)))) (sym (flat_map-map (λ (field : ℕ × ℕ). bits_of field.0 field.1) (λ band. (2, mode band)) (upto bands)))
  where
    joined : (o k l m n : List ℕ) → (((o ++ k) ++ l) ++ m) ++ n ≡ o ++ (k ++ (l ++ (m ++ n)))
    joined o k l m n = simp append_assoc refl
