-- Slices without a fault are those of the content that is read.
use Rattle.std.proofs.Common.{◌≡◌, ℕ, zero, suc, ◌+◌, ◌-◌, ◌*◌, ◌<◌, ◌≤◌, List, [], ◌∷◌, ◌++◌, length, take, drop, refl, sym, ap, ◌∙◌, arith}
use Rattle.std.specs.Prelude.{true, not, min, nat_eq, nat_lt, Option, None, Some}
use Rattle.std.specs.List.{range_with_len}
use Rattle.std.specs.Option.{option_map}
use Rattle.std.proofs.Math.Seq.{take-add}
use Rattle.std.proofs.lemmas.Bool.{eqb-true, ltb-false, and_parts}
use Rattle.xs_lists.specs.First.{when, first_some}
use Rattle.xs_lists.specs.Packing.{AreBytes}
use Rattle.xs_lists.specs.Spelling.{SpellsEach}
use Rattle.xs_params.specs.declared.header.Header.{Header}
use Rattle.xs_faults.specs.declared.SliceFault.TheVariants as fault
use Rattle.xs_params.specs.Geometry.{precinct_count, precincts_of, slice_count}
use Rattle.xs_params.specs.Accepted.{IsAccepted}
use Rattle.xs_grammar.specs.Precinct.{Content, precinct_of, IsPrecinct}
use Rattle.xs_grammar.specs.Slice.{slice_head, IsSliceFront}
use Rattle.xs_grammar.proofs.Local.{precinct_is_local}
use Rattle.xs_reading.specs.Precinct.{precinct_end, precinct_fault, with_precinct}
use Rattle.xs_reading.specs.Slice.{is_same, no_content, precincts_fault, with_precincts, precincts_end, slice_fault, slice_content, slice_end}
use Rattle.xs_reading.specs.Laws.{HasRange}
use Rattle.xs_reading.proofs.Parts.{none_first, none_when, none_map, not-false, bytes-drop, length-drop}
use Rattle.xs_reading.proofs.Precincts.{precinct_spelled, precinct_elsewhere}

pub all_same : (xs ys : List ℕ) → is_same xs ys ≡ true → xs ≡ ys
all_same [] [] e = refl
all_same [] (y ∷ ys) e = absurd (cc e)
all_same (x ∷ xs) [] e = absurd (cc e)
all_same (x ∷ xs) (y ∷ ys) e = let both = and_parts (nat_eq x y) (is_same xs ys) e in ap (λ k. k ∷ xs) (eqb-true x y both.0) ∙ ap (λ l. y ∷ l) (all_same xs ys both.1)

-- precincts that come later leave those before them
record AgreeBelow (h : Header) (content other : Content) (first : ℕ) : Type 0 where
  pub q : (precinct : ℕ) → precinct < first → content.q precinct ≡ other.q precinct
  pub r : (precinct : ℕ) → precinct < first → content.r precinct ≡ other.r precinct
  pub count : (band line : ℕ) → precinct_of h band line < first → content.count band line ≡ other.count band line
  pub value : (band line : ℕ) → precinct_of h band line < first → content.value band line ≡ other.value band line

later : (h : Header) → h.nly ≤ h.nlx → (first n : ℕ) (content : Content) (bytes : List ℕ) → AgreeBelow h content (with_precincts h (range_with_len first n) content bytes) first
later h below first zero content bytes = record { q = λ p l. refl; r = λ p l. refl; count = λ b l e. refl; value = λ b l e. refl }
later h below first (suc n) content bytes =
    let one = precinct_elsewhere h first content bytes below in
    let rest = later h below (first + 1) n (with_precinct h first content bytes) (drop (precinct_end h bytes) bytes) in
    record {
      q = λ p less. sym (one.q p (λ e. omega (arith, e, less))) ∙ rest.q p (omega (arith, less));
      r = λ p less. sym (one.r p (λ e. omega (arith, e, less))) ∙ rest.r p (omega (arith, less));
      count = λ b l less. sym (one.count b l (λ e. omega (arith, e, less))) ∙ rest.count b l (omega (arith, less));
      value = λ b l less. sym (one.value b l (λ e. omega (arith, e, less))) ∙ rest.value b l (omega (arith, less));
    }

pub precincts_spelled : (h : Header) → IsAccepted h → (first n : ℕ) (content : Content) (bytes : List ℕ) → AreBytes bytes → HasRange h content → precincts_fault h (range_with_len first n) content bytes ≡ None
    → (precincts_end h (range_with_len first n) bytes ≤ length bytes)
    × SpellsEach (IsPrecinct h (with_precincts h (range_with_len first n) content bytes)) (range_with_len first n) (take (precincts_end h (range_with_len first n) bytes) bytes)
precincts_spelled h accepted first zero content bytes are range none = (omega arith, refl)
precincts_spelled h accepted first (suc n) content bytes are range none =
    let next : Content = with_precinct h first content bytes in
    let left : List ℕ = drop (precinct_end h bytes) bytes in
    let two = none_first (option_map (fault.Precinct first) (precinct_fault h first content bytes)) (precincts_fault h (range_with_len (first + 1) n) next left ∷ []) none in
    let one = precinct_spelled h first content bytes accepted are range (none_map (fault.Precinct first) (precinct_fault h first content bytes) two.0) in
    let rest = precincts_spelled h accepted (first + 1) n next left (bytes-drop (precinct_end h bytes) bytes are) one.range (none_first (precincts_fault h (range_with_len (first + 1) n) next left) [] two.1).0 in
    let agree = later h (omega (arith, accepted.geometry.nly)) (first + 1) n next left in (
      omega (arith, rest.0, one.within, length-drop (precinct_end h bytes) bytes),
      (
        take (precinct_end h bytes) bytes,
        take (precincts_end h (range_with_len (first + 1) n) left) left,
        take-add (precinct_end h bytes) (precincts_end h (range_with_len (first + 1) n) left) bytes,
        precinct_is_local h next (with_precincts h (range_with_len (first + 1) n) next left) first (take (precinct_end h bytes) bytes) accepted.geometry.hsl (omega (arith, accepted.geometry.nly))
            (record {
              q = λ p e most. agree.q p (omega (arith, most));
              r = λ p e most. agree.r p (omega (arith, most));
              count = λ b l e most. agree.count b l (omega (arith, most));
              value = λ b l e most. agree.value b l (omega (arith, most));
            }) one.spelled,
        rest.1,
      ),
    )

three_none : {A : Type 0} (a b c : Option A) → first_some (a ∷ b ∷ c ∷ []) ≡ None → (a ≡ None) × (b ≡ None) × (c ≡ None)
three_none None None None e = (refl, refl, refl)
three_none (Some x) b c e = absurd (cc e)
three_none None (Some x) c e = absurd (cc e)
three_none None None (Some x) e = absurd (cc e)

pub slice_spelled : (h : Header) (slice : ℕ) (bytes : List ℕ) → IsAccepted h → slice < slice_count h → AreBytes bytes → slice_fault h slice bytes ≡ None → IsSliceFront h (slice_content h slice bytes) slice bytes (slice_end h slice bytes)
slice_spelled h slice bytes accepted inside are none = (
  omega (arith, precincts.0, six, length-drop 6 bytes),
  record {
    index = omega (arith, inside, accepted.geometry.slices);
    body = take (precincts_end h (precincts_of h slice) (drop 6 bytes)) (drop 6 bytes);
    joined = take-add 6 (precincts_end h (precincts_of h slice) (drop 6 bytes)) bytes ∙ ap (λ l. l ++ take (precincts_end h (precincts_of h slice) (drop 6 bytes)) (drop 6 bytes)) head;
    spelled = precincts.1;
  },
)
  where
    all : (when (nat_lt (length bytes) 6) fault.Short ≡ None) × (when (not (is_same (take 6 bytes) (slice_head slice))) fault.Head ≡ None) × (precincts_fault h (precincts_of h slice) no_content (drop 6 bytes) ≡ None)
    all = three_none (when (nat_lt (length bytes) 6) fault.Short) (when (not (is_same (take 6 bytes) (slice_head slice))) fault.Head) (precincts_fault h (precincts_of h slice) no_content (drop 6 bytes)) none

    six : 6 ≤ length bytes
    six = ltb-false (length bytes) 6 (none_when (nat_lt (length bytes) 6) fault.Short all.0)

    head : take 6 bytes ≡ slice_head slice
    head = all_same (take 6 bytes) (slice_head slice) (not-false (is_same (take 6 bytes) (slice_head slice)) (none_when (not (is_same (take 6 bytes) (slice_head slice))) fault.Head all.1))

    precincts : (precincts_end h (precincts_of h slice) (drop 6 bytes) ≤ length (drop 6 bytes)) × SpellsEach (IsPrecinct h (slice_content h slice bytes)) (precincts_of h slice) (take (precincts_end h (precincts_of h slice) (drop 6 bytes)) (drop 6 bytes))
    precincts = precincts_spelled h accepted (slice * h.hsl) (min ((slice + 1) * h.hsl) (precinct_count h) - slice * h.hsl) no_content (drop 6 bytes) (bytes-drop 6 bytes are) (λ band line group. omega arith) all.2
