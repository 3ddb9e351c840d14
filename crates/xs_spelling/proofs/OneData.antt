-- The bits of a line's numbers are of one list of numbers.
use Rattle.std.proofs.Common.{◌≡◌, ℕ, suc, ◌+◌, ◌-◌, ◌*◌, ◌/◌, ◌%◌, ◌^◌, ◌<◌, ◌≤◌, List, [], ◌∷◌, ◌++◌, refl, sym, ap, subst, ◌∙◌, arith, append_assoc, inl, inr}
use Rattle.std.specs.Prelude.{Bool, true, false, not, ◌&&◌, ◌≢◌, nat_lt, ℤ, pos, negsuc, unsigned_abs}
use Rattle.std.proofs.lemmas.Bool.{true≢false, false≢true, ltb-true, lt-ltb, and_from, cases_lt}
use Rattle.std.specs.Bool.{MatchBool}
use Rattle.std.specs.Int.{is_negative}
use Rattle.std.specs.List.{AllByRecursion, flat_map}
use Rattle.xs_lists.specs.Bits.{bit_of}
use Rattle.xs_lists.specs.Spelling.{upto, downto, SpellsEach}
use Rattle.xs_lists.proofs.Each.{each-agree, range-all, all-range}
use Rattle.xs_lists.proofs.Cut.{same_head, map_agree, flat_map_agree, same_bits, all-downto}
use Rattle.xs_spelling.specs.Counts.{Line}
use Rattle.xs_spelling.specs.Data.{SpellsSign, SpellsGroup, columns_of, plane_bits}
use Rattle.xs_spelling.specs.Laws.{SameSign, SameNumber, OneData}

pub bit_of-one : (a b : Bool) → bit_of a ≡ bit_of b → a ≡ b
bit_of-one true true e = refl
bit_of-one false false e = refl
bit_of-one true false e = absurd (omega (arith, e))
bit_of-one false true e = absurd (omega (arith, e))

-- numbers of one magnitude and of two signs
opposite : (a b : ℕ) → a ≡ suc b → SameSign (pos a) (negsuc b) → ⊥
opposite a b e s =
    let left : pos a ≢ pos 0 = λ z. let zero : a ≡ 0 = ap unsigned_abs z in omega (arith, e, zero) in
    let right : negsuc b ≢ pos 0 = λ z. let zero : suc b ≡ 0 = ap unsigned_abs z in omega (arith, zero) in
    let below : a < 0 = ltb-true a 0 (s left right) in
    omega (arith, below)

pub same_number : (v w : ℤ) → unsigned_abs v ≡ unsigned_abs w → SameSign v w → v ≡ w
same_number (pos a) (pos b) e s = ap pos e
same_number (negsuc a) (negsuc b) e s = ap negsuc (omega (arith, e))
same_number (pos a) (negsuc b) e s = absurd (opposite a b e s)
same_number (negsuc a) (pos b) e s = absurd (opposite b a (sym e) (λ nv nw. sym (s nw nv)))

sign_agrees : (v w : ℤ) (a b y z : List ℕ) → SpellsSign v a → SpellsSign w b → a ++ y ≡ b ++ z → (y ≡ z) × SameSign v w
sign_agrees v w a b y z p q e =
    let parts = same_head p.0 q.0 y z (ap (λ l. l ++ y) (sym p.3) ∙ e ∙ ap (λ l. l ++ z) q.3) in
    (parts.1, λ nv nw. bit_of-one (is_negative v) (is_negative w) (sym (p.2 nv) ∙ parts.0 ∙ q.2 nw))

-- the signs of a code group
signs_agree : (line other : Line) (columns : List ℕ) (signs others y z : List ℕ) (s r : Bool) → s ≡ r
    → MatchBool s (SpellsEach (λ column. SpellsSign (line.value column)) columns signs) (signs ≡ [])
    → MatchBool r (SpellsEach (λ column. SpellsSign (other.value column)) columns others) (others ≡ [])
    → signs ++ y ≡ others ++ z → (y ≡ z) × (s ≡ true → AllByRecursion (λ column. SameSign (line.value column) (other.value column)) columns)
signs_agree line other columns signs others y z true true same p q e =
    let each = each-agree (λ column. SpellsSign (line.value column)) (λ column. SpellsSign (other.value column)) (λ column. SameSign (line.value column) (other.value column)) columns
    (all-of (λ column a b y z. sign_agrees (line.value column) (other.value column) a b y z) columns) signs others y z p q e in
    (each.0, λ t. each.1)
  where
    all-of : {P : ℕ → Type 0} → ((x : ℕ) → P x) → (xs : List ℕ) → AllByRecursion P xs
    all-of h [] = tt
    all-of h (x ∷ xs) = (h x, all-of h xs)
signs_agree line other columns signs others y z false false same p q e = (ap (λ l. l ++ y) (sym p) ∙ e ∙ ap (λ l. l ++ z) q, λ f. absurd (false≢true f))
signs_agree line other columns signs others y z true false same p q e = absurd (true≢false same)
signs_agree line other columns signs others y z false true same p q e = absurd (false≢true same)

-- the planes of a code group
planes_agree : (line other : Line) (group : ℕ) (y z : List ℕ) → line.truncation ≡ other.truncation → line.count group ≡ other.count group
    → flat_map (plane_bits line group) (downto (line.count group) line.truncation) ++ y ≡ flat_map (plane_bits other group) (downto (other.count group) other.truncation) ++ z
    → (y ≡ z) × ((column : ℕ) → 4 * group ≤ column → column < 4 * group + 4 → (i : ℕ) → i < line.count group - line.truncation
    → unsigned_abs (line.value column) / 2 ^ i % 2 ≡ unsigned_abs (other.value column) / 2 ^ i % 2)
planes_agree line other group y z cut same e =
    let moved : flat_map (plane_bits line group) (downto (line.count group) line.truncation) ++ y ≡ flat_map (plane_bits other group) (downto (line.count group) line.truncation) ++ z =
    e ∙ ap (λ k. flat_map (plane_bits other group) (downto k other.truncation) ++ z) (sym same) ∙ ap (λ t. flat_map (plane_bits other group) (downto (line.count group) t) ++ z) (sym cut) in
    let pieces = flat_map_agree (plane_bits line group) (plane_bits other group) (downto (line.count group) line.truncation) y z (λ plane. refl) moved in (
      pieces.0,
      λ column low high i inside.
          let plane : plane_bits line group (line.truncation + i) ≡ plane_bits other group (line.truncation + i) =
          all-downto (λ plane. plane_bits line group plane ≡ plane_bits other group plane) (line.count group) line.truncation pieces.1 (line.truncation + i) (omega arith) (omega (arith, inside)) in
          let bits = map_agree (λ column. unsigned_abs (line.value column) / 2 ^ (line.truncation + i - line.truncation) % 2)
          (λ column. unsigned_abs (other.value column) / 2 ^ (line.truncation + i - other.truncation) % 2) (columns_of group) [] [] (ap (λ l. l ++ []) plane) in
          let here : line.truncation + i - line.truncation ≡ i = omega arith in
          let there : line.truncation + i - other.truncation ≡ i = omega (arith, cut) in
          ap (λ k. unsigned_abs (line.value column) / 2 ^ k % 2) (sym here)
          ∙ all-range (λ column. unsigned_abs (line.value column) / 2 ^ (line.truncation + i - line.truncation) % 2 ≡ unsigned_abs (other.value column) / 2 ^ (line.truncation + i - other.truncation) % 2)
          (4 * group) 4 bits.1 column low high
          ∙ ap (λ k. unsigned_abs (other.value column) / 2 ^ k % 2) there,
    )

-- a number that has no plane is 0
zero_of : (v : ℤ) (count truncation : ℕ) → count ≤ truncation → unsigned_abs v < 2 ^ (count - truncation) → v ≡ pos 0
zero_of v count truncation below small =
    let none : count - truncation ≡ 0 = omega (arith, below) in
    let least : unsigned_abs v ≡ 0 = let one : unsigned_abs v < 1 = subst (λ k. unsigned_abs v < 2 ^ k) none small in omega (arith, one) in
    same_number v (pos 0) least (λ nv nw. absurd (nw refl))

group_agrees : (apart : Bool) (line other : Line) (group : ℕ) → line.truncation ≡ other.truncation → line.count group ≡ other.count group
    → (a b y z : List ℕ) → SpellsGroup apart line group a → SpellsGroup apart other group b → a ++ y ≡ b ++ z
    → (y ≡ z) × ((column : ℕ) → 4 * group ≤ column → column < 4 * group + 4 → SameNumber apart (line.value column) (other.value column))
group_agrees apart line other group cut same a b y z p q e = (planes.0, numbers)
  where
    tail : Line → List ℕ
    tail l = flat_map (plane_bits l group) (downto (l.count group) l.truncation)

    tests : (nat_lt line.truncation (line.count group) && not apart) ≡ (nat_lt other.truncation (other.count group) && not apart)
    tests = ap (λ t. nat_lt t (line.count group) && not apart) cut ∙ ap (λ m. nat_lt other.truncation m && not apart) same

    joined : p.signs ++ (tail line ++ y) ≡ q.signs ++ (tail other ++ z)
    joined = sym (append_assoc p.signs (tail line) y) ∙ ap (λ l. l ++ y) (sym p.joined) ∙ e ∙ ap (λ l. l ++ z) q.joined ∙ append_assoc q.signs (tail other) z

    signs : (tail line ++ y ≡ tail other ++ z) × ((nat_lt line.truncation (line.count group) && not apart) ≡ true → AllByRecursion (λ column. SameSign (line.value column) (other.value column)) (columns_of group))
    signs = signs_agree line other (columns_of group) p.signs q.signs (tail line ++ y) (tail other ++ z) (nat_lt line.truncation (line.count group) && not apart) (nat_lt other.truncation (other.count group) && not apart) tests p.signed q.signed joined

    planes : (y ≡ z) × ((column : ℕ) → 4 * group ≤ column → column < 4 * group + 4 → (i : ℕ) → i < line.count group - line.truncation
        → unsigned_abs (line.value column) / 2 ^ i % 2 ≡ unsigned_abs (other.value column) / 2 ^ i % 2)
    planes = planes_agree line other group y z cut same signs.0

    small : (column : ℕ) → 4 * group ≤ column → column < 4 * group + 4 → unsigned_abs (line.value column) < 2 ^ (line.count group - line.truncation)
    small = all-range (λ column. unsigned_abs (line.value column) < 2 ^ (line.count group - line.truncation)) (4 * group) 4 p.small

    smaller : (column : ℕ) → 4 * group ≤ column → column < 4 * group + 4 → unsigned_abs (other.value column) < 2 ^ (line.count group - line.truncation)
    smaller column low high = subst (λ k. unsigned_abs (other.value column) < 2 ^ k) (ap (λ m. m - other.truncation) (sym same) ∙ ap (λ t. line.count group - t) (sym cut))
        (all-range (λ column. unsigned_abs (other.value column) < 2 ^ (other.count group - other.truncation)) (4 * group) 4 q.small column low high)

    magnitude : (column : ℕ) → 4 * group ≤ column → column < 4 * group + 4 → unsigned_abs (line.value column) ≡ unsigned_abs (other.value column)
    magnitude column low high = same_bits (line.count group - line.truncation) (unsigned_abs (line.value column)) (unsigned_abs (other.value column)) (small column low high) (smaller column low high) (planes.1 column low high)

    sign : (column : ℕ) → 4 * group ≤ column → column < 4 * group + 4 → apart ≡ false → SameSign (line.value column) (other.value column)
    sign column low high together = λ nv nw. elim (cases_lt line.truncation (line.count group)) [
      | inl above ↦ all-range (λ column. SameSign (line.value column) (other.value column)) (4 * group) 4
          (signs.1 (and_from (nat_lt line.truncation (line.count group)) (not apart) (lt-ltb line.truncation (line.count group) above) (ap not together))) column low high nv nw
      | inr below ↦ absurd (nv (zero_of (line.value column) (line.count group) line.truncation below (small column low high)))
    ]

    numbers : (column : ℕ) → 4 * group ≤ column → column < 4 * group + 4 → SameNumber apart (line.value column) (other.value column)
    numbers column low high = record {
      magnitude = magnitude column low high;
      number = λ together. same_number (line.value column) (other.value column) (magnitude column low high) (sign column low high together);
    }

-- the numbers of a line
pub one_data : OneData
one_data apart line other a b y z groups cut same p q e =
    let moved : SpellsEach (SpellsGroup apart other) (upto line.groups) b = subst (λ n. SpellsEach (SpellsGroup apart other) (upto n) b) (sym groups) q in
    let each = each-agree (SpellsGroup apart line) (SpellsGroup apart other)
    (λ group. (column : ℕ) → 4 * group ≤ column → column < 4 * group + 4 → SameNumber apart (line.value column) (other.value column)) (upto line.groups)
    (range-all _ 0 line.groups (λ group low high. group_agrees apart line other group cut (same group (omega (arith, high))))) a b y z p moved e in (
      each.0,
      λ column inside.
          all-range (λ group. (column : ℕ) → 4 * group ≤ column → column < 4 * group + 4 → SameNumber apart (line.value column) (other.value column)) 0 line.groups each.1
          (column / 4) (omega arith) (omega (arith, inside)) column (omega arith) (omega arith),
    )
