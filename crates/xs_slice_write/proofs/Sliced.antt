-- The precincts of a slice, with filler in the last of them.
use Rattle.std.proofs.Common.{◌≡◌, ℕ, zero, suc, ◌+◌, ◌-◌, ◌*◌, ◌^◌, ◌<◌, ◌≤◌, min, List, [], ◌∷◌, ◌++◌, length, get_or, sum_by, refl, sym, ap, subst, ◌∙◌, arith, length-append}
use Rattle.std.specs.Prelude.{Bool, true, false, nat_eq, nat_le, nat_lt, if◌then◌else◌, find, unwrap_or, Result, Ok, Err, Some, replicate, All}
use Rattle.std.specs.List.{flat_map, list_all, Contains}
use Rattle.std.proofs.lemmas.Bool.{and_from, and_parts, false≢true, leb-true, lt-ltb, ltb-false, ltb-true}
use Rattle.std.proofs.lemmas.List.Elements.{All-contains, All-from_recursion, recursion_from_All}
use Rattle.std.proofs.lemmas.List.Sums.{sum_by-cons}
use Rattle.xs_layout.specs.declared.Candidate.{Candidate}
use Rattle.xs_layout.specs.declared.Weight.{Weight}
use Rattle.xs_faults.specs.declared.Budget.{Budget}
use Rattle.xs_params.specs.declared.header.Header.{Header}
use Rattle.xs_params.specs.Accepted.{IsAccepted}
use Rattle.xs_params.specs.Geometry.{coding_header, geometry_of, packets_of, precinct_count, precincts_of}
use Rattle.xs_params.specs.Rows.{Rows}
use Rattle.xs_spelling.proofs.Redata.{flat-range}
use Rattle.xs_grammar.specs.Coded.{no_filler, packet_fits, packets_bytes, precinct_body, precinct_bytes, precinct_fits, slice_bytes}
use Rattle.xs_grammar.specs.Precinct.{Content}
use Rattle.xs_grammar.specs.Slice.{slice_head}
use Rattle.xs_grammar.proofs.Coded.{list_all-all}
use Rattle.xs_grammar.proofs.Sizes.{size_of_slice}
use Rattle.xs_rate.specs.Chosen.{candidates, chosen_candidate, coarsest, content_at, fields_fit_at, fits_at, is_over, mode_of, size_at}
use Rattle.xs_rate.specs.Choice.{choice_of, filled_slice_at, filler_of}
use Rattle.xs_rate.specs.Laws.{AreSmall}
use Rattle.xs_rate.proofs.Bodies.{chosen_fits}
use Rattle.xs_slice_write.specs.Written.{IsWrittenSlice, last_filler}

-- The chosen candidate

record IsChosen (test : Bool) (c d : Candidate) : Type 0 where
  within : test ≡ false
  same : c ≡ d

chosen_of : (test : Bool) (b : Budget) (c d : Candidate) → (if test then Err b else Ok c) ≡ Ok d → IsChosen test c d
chosen_of true b c d e = absurd (false≢true (sym (ap (λ (r : Result Candidate Budget). elim r [ Ok x ↦ false | Err x ↦ true ]) e)))
chosen_of false b c d e = record { within = refl; same = ap (λ (r : Result Candidate Budget). elim r [ Ok x ↦ x | Err x ↦ c ]) e }

pub record IsWithin (h : Header) (rows : Rows) (share slice : ℕ) (candidate : Candidate) : Type 0 where
  pub within : is_over h rows share slice ≡ false
  pub same : chosen_candidate h rows share slice ≡ candidate
  pub size : size_at h rows slice candidate ≤ share

found_holds : (P : Candidate → Type 0) (test : Candidate → Bool) (xs : List Candidate) (last : Candidate) → ((x : Candidate) → test x ≡ true → P x) → P last → P (unwrap_or (find test xs) last)
found_holds P test [] last h p = p
found_holds P test (x ∷ xs) last h p = cases (test x) refl (found_holds P test xs last h p)
  where
    cases : (t : Bool) → test x ≡ t → P (unwrap_or (find test xs) last) → P (unwrap_or (if t then Some x else find test xs) last)
    cases true e rest = h x e
    cases false e rest = rest

pub is_within : (h : Header) (rows : Rows) (share slice : ℕ) (candidate : Candidate) → choice_of h rows share slice ≡ Ok candidate → IsWithin h rows share slice candidate
is_within h rows share slice candidate e =
    let is = chosen_of (is_over h rows share slice) (record { slice = slice; size = size_at h rows slice (coarsest h); share = share }) (chosen_candidate h rows share slice) candidate e in
    record {
      within = is.within;
      same = is.same;
      size = subst (λ x. size_at h rows slice x ≤ share) is.same
          (found_holds (λ x. size_at h rows slice x ≤ share) (fits_at h rows share slice) (candidates h) (coarsest h)
          (λ x passes. leb-true (size_at h rows slice x) share ((and_parts (nat_le (size_at h rows slice x) share) (fields_fit_at h rows slice x) passes).0))
          (ltb-false share (size_at h rows slice (coarsest h)) is.within));
    }

-- Filler

-- the filler of a slice is that of its last precinct
pub filler_same : (h : Header) (rows : Rows) (share slice : ℕ) (fill : Bool) (candidate : Candidate) (precinct : ℕ)
    → last_filler h slice (if fill then share - size_at h rows slice candidate else 0) precinct ≡ filler_of h rows share fill slice candidate precinct
filler_same h rows share slice true candidate precinct = refl
filler_same h rows share slice false candidate precinct = cases (nat_eq (precinct + 1) (min ((slice + 1) * h.hsl) (precinct_count h)))
  where
    cases : (last : Bool) → ◌≡◌ {A = ℕ} (if last then 0 else 0) 0
    cases true = refl
    cases false = refl

pub slice_same : (h : Header) (rows : Rows) (share slice : ℕ) (fill : Bool) (candidate : Candidate)
    → slice_bytes h (content_at h rows candidate) (mode_of h (content_at h rows candidate)) (last_filler h slice (if fill then share - size_at h rows slice candidate else 0)) slice ≡ filled_slice_at h rows share fill slice candidate
slice_same h rows share slice fill candidate =
    ap (λ l. slice_head slice ++ l) (flat-range (precinct_bytes h content mode (last_filler h slice (if fill then share - size_at h rows slice candidate else 0))) (precinct_bytes h content mode (filler_of h rows share fill slice candidate))
    (slice * h.hsl) (min ((slice + 1) * h.hsl) (precinct_count h) - slice * h.hsl)
    (λ precinct low high. ap (λ n. precinct_bytes h content mode (λ x. n) precinct) (filler_same h rows share slice fill candidate precinct)))
  where
    content : Content
    content = content_at h rows candidate

    mode : ℕ → ℕ → ℕ
    mode = mode_of h content

-- Fields

within_flat : (f : ℕ → List ℕ) (xs : List ℕ) (k x : ℕ) → k < length xs → get_or xs k x ≡ x → length (f x) ≤ length (flat_map f xs)
within_flat f [] k x inside e = absurd (omega (arith, inside))
within_flat f (y ∷ xs) zero x inside e = omega (arith, length-append (f y) (flat_map f xs), ap (λ n. length (f n)) e)
within_flat f (y ∷ xs) (suc k) x inside e = omega (arith, length-append (f y) (flat_map f xs), within_flat f xs k x (omega (arith, inside)) e)

none_filled : (xs : List ℕ) → sum_by no_filler xs ≡ 0
none_filled [] = refl
none_filled (x ∷ xs) = omega (arith, sum_by-cons no_filler x xs, none_filled xs)

-- a precinct's packets are no longer than the slice
packets_within : (h : Header) (rows : Rows) (slice : ℕ) (candidate : Candidate) (precinct : ℕ) → Contains (precincts_of h slice) precinct
    → length (packets_bytes h (content_at h rows candidate) (mode_of h (content_at h rows candidate)) precinct) ≤ size_at h rows slice candidate
packets_within h rows slice candidate precinct there =
    omega (arith, within_flat f (precincts_of h slice) there.0 precinct there.1 there.2, whole, none_filled (precincts_of h slice), length-append (slice_head slice) (flat_map f (precincts_of h slice)), body, packets)
  where
    content : Content
    content = content_at h rows candidate

    mode : ℕ → ℕ → ℕ
    mode = mode_of h content

    f : ℕ → List ℕ
    f = precinct_bytes h content mode no_filler

    whole : length (slice_bytes h content mode no_filler slice) ≡ size_at h rows slice candidate + sum_by no_filler (precincts_of h slice)
    whole = size_of_slice h content mode no_filler slice

    body : length (precinct_body h content mode no_filler precinct) ≤ length (f precinct)
    body = after _ (precinct_body h content mode no_filler precinct)
      where
        after : (head tail : List ℕ) → length tail ≤ length (head ++ tail)
        after head tail = omega (arith, length-append head tail)

    packets : length (packets_bytes h content mode precinct) ≤ length (precinct_body h content mode no_filler precinct)
    packets = omega (arith, length-append (packets_bytes h content mode precinct) (replicate {A = ℕ} 0 0))

-- with the filler each length still has room in its field
pub filled_fits : (h : Header) (rows : Rows) (share slice : ℕ) (fill : Bool) (candidate : Candidate) (filler precinct : ℕ) → fields_fit_at h rows slice candidate ≡ true → size_at h rows slice candidate ≤ share → (fill ≡ true → share < 2 ^ 24)
    → filler ≡ (if fill then share - size_at h rows slice candidate else 0) → Contains (precincts_of h slice) precinct
    → precinct_fits h (content_at h rows candidate) (mode_of h (content_at h rows candidate)) (last_filler h slice filler) precinct ≡ true
filled_fits h rows share slice fill candidate filler precinct fits size small is there =
    and_from packets (nat_lt (length (precinct_body h content mode (last_filler h slice filler) precinct)) (2 ^ 24)) both.0
    (lt-ltb (length (precinct_body h content mode (last_filler h slice filler) precinct)) (2 ^ 24) (omega (arith, sized (last_filler h slice filler precinct), room fill small is (nat_eq (precinct + 1) (min ((slice + 1) * h.hsl) (precinct_count h))))))
  where
    content : Content
    content = content_at h rows candidate

    mode : ℕ → ℕ → ℕ
    mode = mode_of h content

    packets : Bool
    packets = list_all (packet_fits h content (mode precinct)) (packets_of h precinct)

    both : (packets ≡ true) × (nat_lt (length (precinct_body h content mode no_filler precinct)) (2 ^ 24) ≡ true)
    both = and_parts packets (nat_lt (length (precinct_body h content mode no_filler precinct)) (2 ^ 24))
        (All-contains (λ p. precinct_fits h content mode no_filler p ≡ true) (precincts_of h slice) precinct (All-from_recursion (λ p. precinct_fits h content mode no_filler p ≡ true) (precincts_of h slice) (list_all-all (precinct_fits h content mode no_filler) (precincts_of h slice) fits)) there)

    sized : (n : ℕ) → length (packets_bytes h content mode precinct ++ replicate n 0) ≡ length (packets_bytes h content mode precinct) + n
    sized n = length-append (packets_bytes h content mode precinct) (replicate {A = ℕ} n 0) ∙ ap (λ k. length (packets_bytes h content mode precinct) + k) (zeros n)
      where
        zeros : (n : ℕ) → length (replicate {A = ℕ} n 0) ≡ n
        zeros zero = refl
        zeros (suc n) = ap suc (zeros n)

    plain : length (packets_bytes h content mode precinct) < 2 ^ 24
    plain = omega (arith, ltb-true (length (precinct_body h content mode no_filler precinct)) (2 ^ 24) both.1, sized 0)

    room : (fill : Bool) → (fill ≡ true → share < 2 ^ 24) → filler ≡ (if fill then share - size_at h rows slice candidate else 0) → (last : Bool) → length (packets_bytes h content mode precinct) + (if last then filler else 0) < 2 ^ 24
    room fill small is false = omega (arith, plain)
    room true small is true = omega (arith, small refl, is, size, packets_within h rows slice candidate precinct there)
    room false small is true = omega (arith, plain, is)

-- Headers

abbrev short_of : Header → Bool → Header
short_of h long = record (coding_header (geometry_of h) h.weights h.signs_apart h.quant) { long_heads = long }

pub size_coded : (h : Header) (rows : Rows) (slice : ℕ) (candidate : Candidate) → h.long_heads ≡ false → size_at (coding_header (geometry_of h) h.weights h.signs_apart h.quant) rows slice candidate ≡ size_at h rows slice candidate
size_coded h rows slice candidate heads = from ∙ ap (λ long. size_at (short_of h long) rows slice candidate) (sym heads) ∙ back
  where
    from : size_at (coding_header (geometry_of h) h.weights h.signs_apart h.quant) rows slice candidate ≡ size_at (short_of h false) rows slice candidate
    from = refl

    back : size_at (short_of h h.long_heads) rows slice candidate ≡ size_at h rows slice candidate
    back = refl

-- The slice

pub fits_chosen : (h : Header) (rows : Rows) (share slice : ℕ) (candidate : Candidate) → IsAccepted h → h.long_heads ≡ false → All (λ (weight : Weight). weight.gain ≤ 15) h.weights → AreSmall rows → choice_of h rows share slice ≡ Ok candidate
    → fields_fit_at h rows slice candidate ≡ true
fits_chosen h rows share slice candidate accepted heads gains small e =
    let is = is_within h rows share slice candidate e in
    subst (λ x. fields_fit_at h rows slice x ≡ true) is.same (chosen_fits h rows share slice accepted.geometry heads (recursion_from_All (λ (weight : Weight). weight.gain ≤ 15) h.weights gains) small is.within)

-- each length in it has room in its field
pub slice_fits : (h : Header) (rows : Rows) (share slice : ℕ) (fill : Bool) (candidate : Candidate) (filler : ℕ) → IsAccepted h → h.long_heads ≡ false → All (λ (weight : Weight). weight.gain ≤ 15) h.weights → AreSmall rows → (fill ≡ true → share < 2 ^ 24)
    → choice_of h rows share slice ≡ Ok candidate → filler ≡ (if fill then share - size_at h rows slice candidate else 0) → (precinct : ℕ) → Contains (precincts_of h slice) precinct
    → precinct_fits h (content_at h rows candidate) (mode_of h (content_at h rows candidate)) (last_filler h slice filler) precinct ≡ true
slice_fits h rows share slice fill candidate filler accepted heads gains small room e is precinct there =
    filled_fits h rows share slice fill candidate filler precinct (fits_chosen h rows share slice candidate accepted heads gains small e) (is_within h rows share slice candidate e).size room is there

pub written_slice : (h : Header) (rows : Rows) (share slice : ℕ) (fill : Bool) (candidate : Candidate) (filler : ℕ) (bytes : List ℕ) → choice_of h rows share slice ≡ Ok candidate → filler ≡ (if fill then share - size_at h rows slice candidate else 0)
    → bytes ≡ slice_bytes h (content_at h rows candidate) (mode_of h (content_at h rows candidate)) (last_filler h slice filler) slice → IsWrittenSlice h rows share fill slice bytes
written_slice h rows share slice fill candidate filler bytes e is same = record {
  candidate = candidate;
  chosen = e;
  written = same ∙ ap (λ n. slice_bytes h (content_at h rows candidate) (mode_of h (content_at h rows candidate)) (last_filler h slice n) slice) is ∙ slice_same h rows share slice fill candidate;
}
