-- The size of a line's counts hangs on its counts and their predictions alone.
use Rattle.std.proofs.Common.{◌≡◌, ℕ, zero, suc, ◌+◌, ◌-◌, ◌*◌, ◌/◌, ◌<◌, ◌≤◌, min, List, [], ◌++◌, length, refl, ap, ◌∙◌, arith}
use Rattle.std.specs.Prelude.{Bool, nat_eq, ◌&&◌, if◌then◌else◌}
use Rattle.std.specs.List.{flat_map, list_all, range_with_len}
use Rattle.xs_lists.specs.Bits.{bit_of}
use Rattle.xs_spelling.specs.Counts.{Line, unary, has_flags}
use Rattle.xs_spelling.specs.Sizes.{count_size}
use Rattle.xs_spelling.specs.Written.{ones_of, count_bits, written_flag}

all_same : (f g : ℕ → Bool) (first n : ℕ) → ((i : ℕ) → first ≤ i → i < first + n → f i ≡ g i) → list_all f (range_with_len first n) ≡ list_all g (range_with_len first n)
all_same f g first zero same = refl
all_same f g first (suc n) same =
    ap (λ b. b && list_all f (range_with_len (first + 1) n)) (same first (omega arith) (omega arith))
    ∙ ap (λ b. g first && b) (all_same f g (first + 1) n (λ i low high. same i (omega (arith, low)) (omega (arith, high))))

pub flat_same : (f g : ℕ → List ℕ) (first n : ℕ) → ((i : ℕ) → first ≤ i → i < first + n → f i ≡ g i) → flat_map f (range_with_len first n) ≡ flat_map g (range_with_len first n)
flat_same f g first zero same = refl
flat_same f g first (suc n) same =
    ap (λ l. l ++ flat_map f (range_with_len (first + 1) n)) (same first (omega arith) (omega arith))
    ∙ ap (λ l. g first ++ l) (flat_same f g (first + 1) n (λ i low high. same i (omega (arith, low)) (omega (arith, high))))

-- two lines with the same counts under the same predictions, with flags or without
pub record SameCoded (line other : Line) : Type 0 where
  pub groups : line.groups ≡ other.groups
  pub truncation : line.truncation ≡ other.truncation
  pub flags : has_flags line.mode ≡ has_flags other.mode
  pub prediction : (group : ℕ) → group < line.groups → line.prediction group ≡ other.prediction group
  pub count : (group : ℕ) → group < line.groups → line.count group ≡ other.count group

flag_same : (line other : Line) (s : ℕ) → SameCoded line other → written_flag line s ≡ written_flag other s
flag_same line other s same =
    ap bit_of (all_same (λ group. nat_eq (line.count group) (line.prediction group)) (λ group. nat_eq (other.count group) (other.prediction group)) (8 * s) (min 8 (line.groups - 8 * s))
    (λ i low high. (let inside : i < line.groups = omega (arith, low, high) in
    ap (λ k. nat_eq k (line.prediction i)) (same.count i inside) ∙ ap (nat_eq (other.count i)) (same.prediction i inside)))
    ∙ ap (λ n. list_all (λ group. nat_eq (other.count group) (other.prediction group)) (range_with_len (8 * s) (min 8 (n - 8 * s)))) same.groups)

bits_same : (line other : Line) (group : ℕ) → group < line.groups → SameCoded line other → count_bits line (written_flag line) group ≡ count_bits other (written_flag other) group
bits_same line other group inside same =
    ap (λ (b : Bool). if b && nat_eq (written_flag line (group / 8)) 1 then [] else own) same.flags
    ∙ ap (λ k. if has_flags other.mode && nat_eq k 1 then [] else own) (flag_same line other (group / 8) same)
    ∙ ap (λ l. if has_flags other.mode && nat_eq (written_flag other (group / 8)) 1 then [] else l) own_same
  where
    own : List ℕ
    own = unary (ones_of (line.prediction group - line.truncation) (line.prediction group) (line.count group))

    own_same : own ≡ unary (ones_of (other.prediction group - other.truncation) (other.prediction group) (other.count group))
    own_same =
        ap (λ t. unary (ones_of (line.prediction group - t) (line.prediction group) (line.count group))) same.truncation
        ∙ ap (λ m. unary (ones_of (m - other.truncation) m (line.count group))) (same.prediction group inside)
        ∙ ap (λ k. unary (ones_of (other.prediction group - other.truncation) (other.prediction group) k)) (same.count group inside)

pub count_size_same : (line other : Line) → SameCoded line other → count_size line ≡ count_size other
count_size_same line other same =
    ap length (flat_same (count_bits line (written_flag line)) (count_bits other (written_flag other)) 0 line.groups (λ i low high. bits_same line other i (omega (arith, high)) same))
    ∙ ap (λ n. length (flat_map (count_bits other (written_flag other)) (range_with_len 0 n))) same.groups
