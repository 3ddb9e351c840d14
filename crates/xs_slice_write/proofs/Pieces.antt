-- A precinct of a slice that is written.
use Rattle.std.proofs.Common.{◌≡◌, ℕ, ◌+◌, ◌-◌, ◌*◌, ◌<◌, ◌≤◌, min, List, ◌++◌, refl, sym, ap, ◌∙◌, arith, append-nil}
use Rattle.std.proofs.lemmas.Bool.{false≢true}
use Rattle.std.specs.Prelude.{Bool, true, false, nat_eq, if◌then◌else◌}
use Rattle.std.specs.List.{flat_map, range_with_len, Contains}
use Rattle.xs_lists.proofs.Ranges.{range_end}
use Rattle.xs_params.specs.declared.header.Header.{Header}
use Rattle.xs_params.specs.Geometry.{precinct_count, precincts_of}
use Rattle.xs_geometry.proofs.PlaceFacts.{in_range}
use Rattle.xs_grammar.specs.Coded.{precinct_bytes, precinct_fits, slice_bytes}
use Rattle.xs_grammar.specs.Precinct.{Content}
use Rattle.xs_grammar.specs.Slice.{slice_head}
use Rattle.xs_precinct_write.proofs.Coded.{lines_of_geometry}
use Rattle.xs_slice_write.specs.Coded.{AreKeptOf, IsCountedSlice}
use Rattle.xs_slice_write.specs.Written.{last_filler}
use Rattle.xs_slice_write.specs.declared.write.CountedSlice.{CountedSlice}
use Rattle.xs_slice_write.specs.declared.write.WantedSlice.{WantedSlice}

-- the precincts that are gone over
pub record AreOf (h : Header) (slice first end : ℕ) : Type 0 where
  pub first_is : first ≡ slice * h.hsl
  pub end_is : end ≡ min ((slice + 1) * h.hsl) (precinct_count h)

pub is_there : (h : Header) (slice first end precinct : ℕ) → AreOf h slice first end → first ≤ precinct → precinct < end → Contains (precincts_of h slice) precinct
is_there h slice first end precinct are low high =
    in_range (slice * h.hsl) (min ((slice + 1) * h.hsl) (precinct_count h) - slice * h.hsl) precinct (omega (arith, low, are.first_is)) (omega (arith, low, high, are.first_is, are.end_is))

-- the filler of one of them
pub filler_is : (h : Header) (slice first end filler precinct n : ℕ) → AreOf h slice first end → n ≡ (if nat_eq (precinct + 1) end then filler else 0) → n ≡ last_filler h slice filler precinct
filler_is h slice first end filler precinct n are e = e ∙ ap (λ k. if nat_eq (precinct + 1) k then filler else 0) are.end_is

pub piece_is : (h : Header) (content : Content) (mode : ℕ → ℕ → ℕ) (filler : ℕ → ℕ) (precinct p n : ℕ) → p ≡ precinct → n ≡ filler precinct → precinct_bytes h content mode (λ x. n) p ≡ precinct_bytes h content mode filler precinct
piece_is h content mode filler precinct p n same is = ap (precinct_bytes h content mode (λ x. n)) same ∙ ap (λ k. precinct_bytes h content mode (λ x. k) precinct) is

pub piece_fits : (h : Header) (content : Content) (mode : ℕ → ℕ → ℕ) (filler : ℕ → ℕ) (precinct p n : ℕ) → p ≡ precinct → n ≡ filler precinct → precinct_fits h content mode filler precinct ≡ true → precinct_fits h content mode (λ x. n) p ≡ true
piece_fits h content mode filler precinct p n same is fits = ap (precinct_fits h content mode (λ x. n)) same ∙ ap (λ k. precinct_fits h content mode (λ x. k) precinct) is ∙ fits

-- all of them are the slice
pub slice_is : (h : Header) (content : Content) (mode : ℕ → ℕ → ℕ) (filler : ℕ → ℕ) (slice first end precinct : ℕ) (out : List ℕ) → AreOf h slice first end → end ≤ precinct
    → slice_head slice ++ flat_map (precinct_bytes h content mode filler) (range_with_len first (end - first)) ≡ out ++ flat_map (precinct_bytes h content mode filler) (range_with_len precinct (end - precinct))
    → out ≡ slice_bytes h content mode filler slice
slice_is h content mode filler slice first end precinct out are past whole =
    let f = precinct_bytes h content mode filler in
    sym (append-nil out) ∙ ap (λ l. out ++ flat_map f l) (sym (range_end precinct end past)) ∙ sym whole
    ∙ ap (λ n. slice_head slice ++ flat_map f (range_with_len n (end - n))) are.first_is
    ∙ ap (λ n. slice_head slice ++ flat_map f (range_with_len (slice * h.hsl) (n - slice * h.hsl))) are.end_is

-- What is kept of the rows of a slice

pub kept_of : (s : CountedSlice) (wanted : WantedSlice) → IsCountedSlice s wanted → AreKeptOf s.header.now wanted.slice wanted.rows.now s.geometry.now s.counts.now
kept_of s wanted k = record {
  heads = k.heads;
  geometry = k.geometry;
  weights = k.accepted.weights;
  kept = record { counted = record { lines = lines_of_geometry s.header.now s.geometry.now wanted.slice wanted.rows.now k.geometry k.lines; counted = k.counts }; signs = λ apart. k.signs ∙ apart };
}

-- Filler where it is asked

pub filler_none : (fill : Bool) (more : ℕ) → fill ≡ false → ◌≡◌ {A = ℕ} 0 (if fill then more else 0)
filler_none true more e = absurd (false≢true (sym e))
filler_none false more e = refl

pub filler_some : (fill : Bool) (more : ℕ) → fill ≡ true → more ≡ (if fill then more else 0)
filler_some true more e = refl
filler_some false more e = absurd (false≢true e)
