-- What a step from one candidate to another changes in a packet, a precinct and a slice.
use Rattle.std.proofs.Common.{◌≡◌, ℕ, zero, suc, ◌+◌, ◌-◌, ◌<◌, ◌≤◌, List, length, sum_by, get_or, refl, sym, ap, subst, ◌∙◌, arith, inl, inr}
use Rattle.std.specs.Prelude.{Bool, true, false, not, min, nat_eq, if◌then◌else◌}
use Rattle.std.proofs.lemmas.Bool.{cases_eq, cases_lt, eqb-true}
use Rattle.std.specs.List.{range_with_len}
use Rattle.std.proofs.lemmas.List.Sums.{sum_by-cons}
use Rattle.xs_layout.specs.Geometry.{PacketPlace}
use Rattle.xs_layout.specs.Weighting.{truncation_of}
use Rattle.xs_layout.specs.declared.Candidate.{Candidate}
use Rattle.xs_layout.specs.declared.Weight.{Weight}
use Rattle.xs_params.specs.declared.header.Header.{Header}
use Rattle.xs_params.specs.Rows.{Rows}
use Rattle.xs_params.specs.Geometry.{packet_bands}
use Rattle.xs_geometry.specs.SliceLines.{BandLines, rows_held}
use Rattle.xs_spelling.specs.Counts.{Line, flag_bits}
use Rattle.xs_spelling.specs.Data.{sign_bits}
use Rattle.xs_spelling.specs.Written.{line_count_bits, line_data_bits, written_flag}
use Rattle.xs_grammar.specs.Precinct.{weight_of}
use Rattle.xs_grammar.specs.Coded.{packet_line}
use Rattle.xs_rate.specs.Chosen.{content_at, mode_of}
use Rattle.xs_sizes.specs.Cut.{cut_line}
use Rattle.xs_sizes.specs.Precincts.{mode_at}
use Rattle.xs_sizes.specs.Measured.{IsPacketOf, header_in, packet_size_at}
use Rattle.xs_sizes.specs.Stepped.{AreAlike, IsChange, IsShift, IsStep}
use Rattle.xs_sizes.specs.declared.packets.Coding.{Coding}
use Rattle.xs_sizes.specs.declared.precincts.PacketBands.{PacketBands}
use Rattle.xs_sizes.specs.declared.precincts.PrecinctCounts.{PrecinctCounts}
use Rattle.xs_sizes.specs.declared.steps.Change.{Change}
use Rattle.xs_sizes.specs.declared.steps.Shift.{Shift}
use Rattle.xs_sizes.proofs.PacketSizes.{whole_size}

-- A packet whose bands have the same truncations at two candidates

abbrev line_at : Header → Rows → Candidate → ℕ → PacketPlace → ℕ → Line
line_at h rows candidate precinct place = packet_line h (content_at h rows candidate) (mode_of h (content_at h rows candidate) precinct) place

same_line : (h : Header) (rows : Rows) (old new : Candidate) (precinct band : ℕ) (place : PacketPlace) → truncation_of old.q old.r (weight_of h band) ≡ truncation_of new.q new.r (weight_of h band)
    → line_at h rows old precinct place band ≡ line_at h rows new precinct place band
same_line h rows old new precinct band place e = ap (λ t. cut_line h h.quant rows t (mode_at h rows precinct band t) band place.line) e

same_sum : (f g : ℕ → ℕ) (first n : ℕ) → ((i : ℕ) → first ≤ i → i < first + n → f i ≡ g i) → sum_by f (range_with_len first n) ≡ sum_by g (range_with_len first n)
same_sum f g first zero same = refl
same_sum f g first (suc n) same =
    omega (arith, sum_by-cons f first (range_with_len (first + 1) n), sum_by-cons g first (range_with_len (first + 1) n), same first (omega arith) (omega arith), same_sum f g (first + 1) n (λ i low high. same i (omega (arith, low)) (omega (arith, high))))

pub packet_same : (h : Header) (rows : Rows) (old new : Candidate) (precinct first end : ℕ) (place : PacketPlace) → first ≤ end → packet_bands h place ≡ range_with_len first (end - first)
    → ((band : ℕ) → first ≤ band → band < end → truncation_of old.q old.r (weight_of h band) ≡ truncation_of new.q new.r (weight_of h band))
    → packet_size_at h rows old precinct place ≡ packet_size_at h rows new precinct place
packet_same h rows old new precinct first end place order bands same =
    ap (λ f. whole_size h.long_heads h.signs_apart f (counts old) (numbers old) (signs old)) (each (λ line. length (flag_bits line (written_flag line))))
    ∙ ap (λ c. whole_size h.long_heads h.signs_apart (flags new) c (numbers old) (signs old)) (each (λ line. length (line_count_bits false line (written_flag line))))
    ∙ ap (λ n. whole_size h.long_heads h.signs_apart (flags new) (counts new) n (signs old)) (each (λ line. length (line_data_bits h.signs_apart line)))
    ∙ ap (λ s. whole_size h.long_heads h.signs_apart (flags new) (counts new) (numbers new) s) (each (λ line. length (sign_bits line)))
  where
    flags : Candidate → ℕ
    flags candidate = sum_by (λ band. length (flag_bits (line_at h rows candidate precinct place band) (written_flag (line_at h rows candidate precinct place band)))) (packet_bands h place)

    counts : Candidate → ℕ
    counts candidate = sum_by (λ band. length (line_count_bits false (line_at h rows candidate precinct place band) (written_flag (line_at h rows candidate precinct place band)))) (packet_bands h place)

    numbers : Candidate → ℕ
    numbers candidate = sum_by (λ band. length (line_data_bits h.signs_apart (line_at h rows candidate precinct place band))) (packet_bands h place)

    signs : Candidate → ℕ
    signs candidate = sum_by (λ band. length (sign_bits (line_at h rows candidate precinct place band))) (packet_bands h place)

    each : (size : Line → ℕ) → sum_by (λ band. size (line_at h rows old precinct place band)) (packet_bands h place) ≡ sum_by (λ band. size (line_at h rows new precinct place band)) (packet_bands h place)
    each size =
        ap (sum_by (λ band. size (line_at h rows old precinct place band))) bands
        ∙ same_sum (λ band. size (line_at h rows old precinct place band)) (λ band. size (line_at h rows new precinct place band)) first (end - first) (λ band low high. ap size (same_line h rows old new precinct band place (same band low (omega (arith, high, order)))))
        ∙ sym (ap (sum_by (λ band. size (line_at h rows new precinct place band))) bands)

-- a packet that has none of the bands of a change
pub untouched : (slice : ℕ) (bands : List BandLines) (weights : List Weight) (old new : Candidate) (precinct : ℕ) (place : PacketPlace) (coding : Coding) (kept : PrecinctCounts) (packet : PacketBands) (change : Change)
    → packet.end ≤ 30 → ((band : ℕ) → packet.first ≤ band → band < packet.end → change.first ≤ band → change.end ≤ band) → IsChange change
    → IsStep slice bands weights old new coding change → IsPacketOf slice bands precinct place coding kept packet
    → packet_size_at (header_in coding weights) (rows_held bands) old precinct place ≡ packet_size_at (header_in coding weights) (rows_held bands) new precinct place
untouched slice bands weights old new precinct place coding kept packet change few apart is step at =
    packet_same (header_in coding weights) (rows_held bands) old new precinct packet.first packet.end place at.at.order at.at.bands
    (λ band low high. (let inside : band < length weights = omega (arith, high, at.at.there, step.before.count) in
    sym (step.before.truncations band inside) ∙ is.alike band (omega (arith, high, few)) (apart band low high) ∙ step.after.truncations band inside))

-- Sums of changes

-- of a whole and what is left of it: what was taken and added so far
pub record IsSoFar (old new old_left new_left : ℕ) (shift : Shift) : Type 0 where
  pub balance : shift.removed + new + old_left ≡ shift.added + old + new_left
  pub least : shift.removed + old_left ≤ old

pub shift_more : (old new old_left new_left old_own new_own old_rest new_rest : ℕ) (shift more both : Shift) → old_left ≡ old_own + old_rest → new_left ≡ new_own + new_rest → IsShift old_own new_own more
    → both.removed ≡ shift.removed + more.removed → both.added ≡ shift.added + more.added → IsSoFar old new old_left new_left shift → IsSoFar old new old_rest new_rest both
shift_more old new old_left new_left old_own new_own old_rest new_rest shift more both p q own removed added before = record {
  balance = omega (arith, p, q, own.balance, removed, added, before.balance);
  least = omega (arith, p, own.least, removed, before.least);
}

pub shift_done : (old new old_left new_left : ℕ) (shift : Shift) → old_left ≡ 0 → new_left ≡ 0 → IsSoFar old new old_left new_left shift → IsShift old new shift
shift_done old new old_left new_left shift p q known = record { balance = omega (arith, p, q, known.balance); least = omega (arith, p, known.least) }

-- behind the same head
pub shift_behind : (head old new : ℕ) (shift : Shift) → IsShift old new shift → IsShift (head + old) (head + new) shift
shift_behind head old new shift known = record { balance = omega (arith, known.balance); least = omega (arith, known.least) }

-- The bands that changed

pub alike_more : (from to : List ℕ) (first end k new_first new_end : ℕ) (changed : Bool) → changed ≡ not (nat_eq (get_or from k 0) (get_or to k 0))
    → new_first ≡ (if changed then min first k else first) → new_end ≡ (if changed then k + 1 else end) → AreAlike from to first end k → AreAlike from to new_first new_end (k + 1)
alike_more from to first end k new_first new_end true test p q before j below apart = elim (cases_eq j k) [
  | inl here ↦ absurd (omega (arith, here, q, apart (omega (arith, here, p))))
  | inr other ↦ elim (cases_lt j new_first) [
    | inl low ↦ before j (omega (arith, other, below)) (λ from. absurd (omega (arith, low, from, p)))
    | inr high ↦ absurd (omega (arith, other, below, q, apart high))
  ]
]
alike_more from to first end k new_first new_end false test p q before j below apart = elim (cases_eq j k) [
  | inl here ↦ subst (λ i. get_or from i 0 ≡ get_or to i 0) (sym here) (eqb-true (get_or from k 0) (get_or to k 0) (not_not (nat_eq (get_or from k 0) (get_or to k 0)) test))
  | inr other ↦ before j (omega (arith, other, below)) (λ low. omega (arith, q, apart (omega (arith, p, low))))
]
  where
    not_not : (b : Bool) → false ≡ not b → b ≡ true
    not_not true e = refl
    not_not false e = absurd (cc e)
