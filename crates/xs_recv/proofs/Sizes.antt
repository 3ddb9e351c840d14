-- How many bytes whole units have.
use Rattle.std.proofs.Common.{◌≡◌, ℕ, zero, suc, ◌+◌, ◌-◌, ◌<◌, ◌≤◌, ◌^◌, inl, inr, List, [], ◌∷◌, length, get_or, true, sym, ap, subst, ◌∙◌, arith, length-append}
use Rattle.std.specs.Prelude.{IsSomeAnd}
use Rattle.std.specs.List.{range_with_len, sum_by}
use Rattle.std.proofs.lemmas.Bool.{cases_eq, cases_lt}
use Rattle.std.proofs.lemmas.List.Concat.{length-flat_map}
use Rattle.std.proofs.lemmas.List.Sums.{sum_by-cons}
use Rattle.xs_lists.specs.Spelling.{upto}
use Rattle.xs_params.specs.declared.header.Header.{Header}
use Rattle.xs_lane_core.specs.Machine.{Actor}
use Rattle.xs_handover.specs.Blocks.{Carried}
use Rattle.xs_capture.specs.Offer.{last_unit, unit_places}
use Rattle.xs_capture.specs.Selection.{EndsAt, HasBytes, Held, IsBounded, bytes_at}
use Rattle.xs_recv.specs.Filed.{IsReceivable, held_size, unit_size}
use Rattle.xs_recv.specs.Received.{HasHeader}
use Rattle.xs_recv.specs.Reading.{AreHandedUpTo}

-- a sum over a front of a range
sum_front : (f : ℕ → ℕ) (first n more : ℕ) → sum_by f (range_with_len first n) ≤ sum_by f (range_with_len first (n + more))
sum_front f first zero more = omega arith
sum_front f first (suc n) more =
    let size : suc n + more ≡ suc (n + more) = omega arith in
    let all = ap (λ k. sum_by f (range_with_len first k)) size in
    omega (arith, all, sum_by-cons f first (range_with_len (first + 1) n), sum_by-cons f first (range_with_len (first + 1) (n + more)), sum_front f (first + 1) n more)

front : (f : ℕ → ℕ) (first n all : ℕ) → n ≤ all → sum_by f (range_with_len first n) ≤ sum_by f (range_with_len first all)
front f first n all less = let whole : n + (all - n) ≡ all = omega (arith, less) in subst (λ k. sum_by f (range_with_len first n) ≤ sum_by f (range_with_len first k)) whole (sum_front f first n (all - n))

-- one term of a sum
term : (f : ℕ → ℕ) (first n k : ℕ) → first ≤ k → k < first + n → f k ≤ sum_by f (range_with_len first n)
term f first zero k low high = absurd (omega (arith, low, high))
term f first (suc n) k low high = elim (cases_eq first k) [
  | inl same ↦ let here : f k ≡ f first = ap f (sym same) in omega (arith, here, sum_by-cons f first (range_with_len (first + 1) n))
  | inr other ↦
      let rest = term f (first + 1) n k (omega (arith, low, other)) (omega (arith, high)) in
      omega (arith, rest, sum_by-cons f first (range_with_len (first + 1) n))
]

-- Units

-- a unit ends at a place that there is
end_inside : (held : Held) (unit end : ℕ) → IsBounded held → EndsAt held unit end → end < unit_places
end_inside held unit end bounded ends = elim (cases_lt end unit_places) [
  | inl inside ↦ inside
  | inr past ↦ absurd (subst (λ o. IsSomeAnd o (λ p. p.last ≡ true)) (bounded unit end past) ends.closes)
]

pub whole_size : (held : Held) (unit : ℕ) (bytes : List ℕ) → IsBounded held → HasBytes held unit bytes → length bytes ≤ unit_size held unit
unfolding unit_size
whole_size held unit bytes bounded whole =
    let inside : whole.0 + 1 ≤ unit_places = next whole.0 unit_places (end_inside held unit whole.0 bounded whole.1) in
    at_most (length bytes) (sum_by (λ place. length (bytes_at held unit place)) (upto (whole.0 + 1))) (sum_by (λ place. length (bytes_at held unit place)) (upto unit_places))
    (ap length whole.2 ∙ length-flat_map (bytes_at held unit) (upto (whole.0 + 1))) (front (λ place. length (bytes_at held unit place)) 0 (whole.0 + 1) unit_places inside)
  where
    next : (a b : ℕ) → a < b → a + 1 ≤ b
    next a b less = omega (arith, less)

    at_most : (a b c : ℕ) → a ≡ b → b ≤ c → a ≤ c
    at_most a b c same less = omega (arith, same, less)

unit_held : (held : Held) (unit : ℕ) → unit ≤ last_unit → unit_size held unit ≤ held_size held
unfolding held_size
unit_held held unit there = term (unit_size held) 0 (last_unit + 1) unit (low unit) (high unit there)
  where
    low : (k : ℕ) → 0 ≤ k
    low k = omega arith

    high : (k : ℕ) → k ≤ last_unit → k < 0 + (last_unit + 1)
    high k less = omega (arith, less)

-- a whole unit has few bytes
pub whole_short : (held : Held) (unit : ℕ) (bytes : List ℕ) → IsReceivable held → unit ≤ last_unit → HasBytes held unit bytes → length bytes < 2 ^ 32
whole_short held unit bytes receivable there whole =
    short (length bytes) (unit_size held unit) (held_size held) (2 ^ 32) (whole_size held unit bytes receivable.bounded whole) (unit_held held unit there) receivable.size
  where
    short : (a b c d : ℕ) → a ≤ b → b ≤ c → c < d → a < d
    short a b c d p q r = omega (arith, p, q, r)

-- Several units

units_held : (held : Held) (units : List (List ℕ)) (first : ℕ) → ((k : ℕ) → k < length units → length (get_or units k []) ≤ unit_size held (first + k)) → sum_by length units ≤ sum_by (unit_size held) (range_with_len first (length units))
units_held held [] first each = omega arith
units_held held (unit ∷ units) first each =
    let here : first + 0 ≡ first = omega arith in
    let head : length unit ≤ unit_size held first = subst (λ k. length unit ≤ unit_size held k) here (each 0 (omega arith)) in
    let rest = units_held held units (first + 1) (λ k below. moved k (each (suc k) (omega (arith, below)))) in
    sum (sum_by length (unit ∷ units)) (length unit) (sum_by length units) (sum_by (unit_size held) (range_with_len first (suc (length units)))) (unit_size held first) (sum_by (unit_size held) (range_with_len (first + 1) (length units)))
    (sum_by-cons length unit units) (sum_by-cons (unit_size held) first (range_with_len (first + 1) (length units))) head rest
  where
    moved : (k : ℕ) → length (get_or units k []) ≤ unit_size held (first + suc k) → length (get_or units k []) ≤ unit_size held (first + 1 + k)
    moved k p = let e : first + suc k ≡ first + 1 + k = omega arith in subst (λ i. length (get_or units k []) ≤ unit_size held i) e p

    sum : (a b c d e f : ℕ) → a ≡ b + c → d ≡ e + f → b ≤ e → c ≤ f → a ≤ d
    sum a b c d e f p q r s = omega (arith, p, q, r, s)

all_held : (held : Held) (count : ℕ) → count ≤ last_unit → unit_size held 0 + sum_by (unit_size held) (range_with_len 1 count) ≤ held_size held
unfolding held_size
all_held held count few = sum (sum_by (unit_size held) (range_with_len 0 (suc count))) (unit_size held 0) (sum_by (unit_size held) (range_with_len 1 count)) (sum_by (unit_size held) (upto (last_unit + 1)))
    (sum_by-cons (unit_size held) 0 (range_with_len 1 count)) (front (unit_size held) 0 (suc count) (last_unit + 1) (next count few))
  where
    next : (k : ℕ) → k ≤ last_unit → suc k ≤ last_unit + 1
    next k less = omega (arith, less)

    sum : (a b c d : ℕ) → a ≡ b + c → a ≤ d → b + c ≤ d
    sum a b c d p q = omega (arith, p, q)

-- the header is within its unit
header_size : (held : Held) (h : Header) (size : ℕ) → IsBounded held → HasHeader held h size → size ≤ unit_size held 0
header_size held h size bounded headed =
    within size (length headed.spelled.1) (length headed.spelled.0) (length headed.bytes) (unit_size held 0) headed.spelled.5 (ap length headed.spelled.3 ∙ length-append headed.spelled.0 headed.spelled.1)
    (whole_size held 0 headed.bytes bounded headed.whole)
  where
    within : (size stream boxes bytes all : ℕ) → size ≡ stream → bytes ≡ boxes + stream → bytes ≤ all → size ≤ all
    within size stream boxes bytes all p q r = omega (arith, p, q, r)

-- and all that was handed of a codestream has few bytes
pub handed_short : (held : Held) (h : Header) (size count : ℕ) (v : Actor Carried) (total : ℕ) → IsReceivable held → HasHeader held h size → count ≤ last_unit → AreHandedUpTo held h size count v total → total < 2 ^ 32
handed_short held h size count v total receivable headed few so =
    let some : length so.units ≤ last_unit = fewer (length so.units) count last_unit so.as_many few in
    let sum = units_held held so.units 1 (λ k there. moved k (whole_size held (k + 1) (get_or so.units k []) receivable.bounded (so.whole k (inside k (length so.units) count there so.as_many)))) in
    short total size (sum_by length so.units) (unit_size held 0) (sum_by (unit_size held) (range_with_len 1 (length so.units))) (held_size held) so.sized (header_size held h size receivable.bounded headed) sum (all_held held (length so.units) some) receivable.size
  where
    fewer : (a b c : ℕ) → a ≡ b → b ≤ c → a ≤ c
    fewer a b c p q = omega (arith, p, q)

    inside : (k a b : ℕ) → k < a → a ≡ b → k < b
    inside k a b p q = omega (arith, p, q)

    moved : (k : ℕ) → length (get_or so.units k []) ≤ unit_size held (k + 1) → length (get_or so.units k []) ≤ unit_size held (1 + k)
    moved k p = let e : k + 1 ≡ 1 + k = omega arith in subst (λ i. length (get_or so.units k []) ≤ unit_size held i) e p

    short : (total size units first rest all : ℕ) → total ≡ size + units → size ≤ first → units ≤ rest → first + rest ≤ all → all < 2 ^ 32 → total < 2 ^ 32
    short total size units first rest all p q r s t = omega (arith, p, q, r, s, t)
