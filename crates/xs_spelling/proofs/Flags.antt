-- The flags that a writer gives, and that all it gives of a line are bits.
use Rattle.std.proofs.Common.{◌≡◌, ℕ, zero, suc, ◌+◌, ◌-◌, ◌*◌, ◌/◌, ◌<◌, ◌≤◌, refl, subst, arith, inl, inr}
use Rattle.std.specs.Prelude.{Bool, true, false, nat_eq, nat_le, min, ◌&&◌, if◌then◌else◌}
use Rattle.std.specs.List.{list_all, range_with_len}
use Rattle.std.proofs.lemmas.Bool.{and_parts, and_from, eqb-true, eq-eqb, cases_eq, le-leb, false≢true}
use Rattle.xs_lists.specs.Bits.{bit_of}
use Rattle.xs_lists.specs.Spelling.{upto}
use Rattle.xs_spelling.specs.Counts.{Line, has_flags, is_insignificant, unspelled_count}
use Rattle.xs_spelling.specs.Written.{has_bits, members_of, written_flag, IsWritableCount}
use Rattle.xs_spelling.specs.Laws.{WrittenCounts}
use Rattle.xs_spelling.proofs.Written.{counts_written}

-- a test that holds of each number of a range, and the other way round
pub list_all-range : (test : ℕ → Bool) (first n : ℕ) → ((i : ℕ) → first ≤ i → i < first + n → test i ≡ true) → list_all test (range_with_len first n) ≡ true
list_all-range test first zero h = refl
list_all-range test first (suc n) h =
    and_from (test first) (list_all test (range_with_len (first + 1) n)) (h first (omega arith) (omega arith))
    (list_all-range test (first + 1) n (λ i low high. h i (omega (arith, low)) (omega (arith, high))))

pub range-list_all : (test : ℕ → Bool) (first n : ℕ) → list_all test (range_with_len first n) ≡ true → (i : ℕ) → first ≤ i → i < first + n → test i ≡ true
range-list_all test first zero h i low high = absurd (omega (arith, low, high))
range-list_all test first (suc n) h i low high =
    let both = and_parts (test first) (list_all test (range_with_len (first + 1) n)) h in
    elim (cases_eq first i) [ inl e ↦ subst (λ k. test k ≡ true) e both.0 | inr d ↦ range-list_all test (first + 1) n both.1 i (omega (arith, low, d)) (omega (arith, high)) ]

set_bit : (test : Bool) → nat_eq (bit_of test) 1 ≡ true → test ≡ true
set_bit true e = refl
set_bit false e = absurd (false≢true e)

-- where the writer's flag skips a code group, its residual is 0
pub skipped_count : (line : Line) (group : ℕ) → group < line.groups → is_insignificant line (written_flag line) group ≡ true → line.count group ≡ line.prediction group
skipped_count line group inside skipped =
    let both = and_parts (has_flags line.mode) (nat_eq (written_flag line (group / 8)) 1) skipped in
    let all = set_bit (list_all (λ group. nat_eq (line.count group) (line.prediction group)) (members_of line (group / 8))) both.1 in
    eqb-true (line.count group) (line.prediction group)
    (range-list_all (λ group. nat_eq (line.count group) (line.prediction group)) (8 * (group / 8)) (min 8 (line.groups - 8 * (group / 8))) all group (omega arith) (omega (arith, inside)))

-- with the writer's flags each count has its bits
pub has_written_bits : (line : Line) (group : ℕ) → group < line.groups → IsWritableCount line group → has_bits 0 line (written_flag line) group ≡ true
has_written_bits line group inside p =
    and_from (nat_le (line.count group) 15) _ (le-leb (line.count group) 15 p.most) (cases (is_insignificant line (written_flag line) group) refl)
  where
    cases : (skipped : Bool) → is_insignificant line (written_flag line) group ≡ skipped
        → (if skipped then nat_eq (line.count group) (unspelled_count 0 line group) else nat_le line.truncation (line.prediction group) && nat_le line.truncation (line.count group)) ≡ true
    cases true e = eq-eqb (line.count group) (line.prediction group) (skipped_count line group inside e)
    cases false e =
        and_from (nat_le line.truncation (line.prediction group)) (nat_le line.truncation (line.count group)) (le-leb line.truncation (line.prediction group) p.predicted) (le-leb line.truncation (line.count group) p.cut)

pub has_written_line : (line : Line) → ((group : ℕ) → group < line.groups → IsWritableCount line group) → list_all (has_bits 0 line (written_flag line)) (upto line.groups) ≡ true
has_written_line line h = list_all-range (has_bits 0 line (written_flag line)) 0 line.groups (λ group low high. has_written_bits line group (omega (arith, high)) (h group (omega (arith, high))))

pub written_counts : WrittenCounts
written_counts line h = counts_written 0 line (written_flag line) (has_written_line line h)
