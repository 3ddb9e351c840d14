-- Bytes are of one codestream.
use Rattle.std.proofs.Common.{◌≡◌, ℕ, zero, suc, ◌+◌, ◌-◌, ◌*◌, ◌^◌, ◌<◌, ◌≤◌, List, ◌∷◌, ◌++◌, refl, sym, ap, subst, ◌∙◌, arith, append_assoc, inl, inr}
use Rattle.std.proofs.Math.Nat.{lt-div-mul-add}
use Rattle.std.proofs.lemmas.Nat.{pow_pos}
use Rattle.std.proofs.lemmas.Bool.{cases_eq}
use Rattle.std.specs.Prelude.{◌⊎◌}
use Rattle.std.specs.List.{AllByRecursion}
use Rattle.xs_params.specs.declared.header.Header.{Header}
use Rattle.xs_lists.specs.Spelling.{upto, BeginsWith, SpellsEach}
use Rattle.xs_lists.proofs.Each.{each-agree, range-all}
use Rattle.xs_lists.proofs.Cut.{append_cut}
use Rattle.xs_layout.specs.Geometry.{ceil_div}
use Rattle.xs_params.specs.Geometry.{precinct_count, slice_count, precincts_of}
use Rattle.xs_grammar.specs.Precinct.{Content}
use Rattle.xs_grammar.specs.Slice.{IsSlice, slice_head}
use Rattle.xs_params.specs.Markers.{slh, eoc}
use Rattle.xs_grammar.specs.Codestream.{IsCodestream}
use Rattle.xs_grammar.specs.Laws.{FollowsHeader, SamePrecinct, OneCodestream}
use Rattle.xs_grammar.proofs.OneHeader.{one_header}
use Rattle.xs_grammar.proofs.OneSlice.{one_slice}

ceil_some : (n d : ℕ) → 0 < n → 0 < d → 0 < ceil_div n d
ceil_some n d some size = at (cases_eq (ceil_div n d) 0)
  where
    above : n + d - 1 < ceil_div n d * d + d
    above = lt-div-mul-add size

    at : (ceil_div n d ≡ 0) ⊎ (ceil_div n d ≡ 0 → ⊥) → 0 < ceil_div n d
    at (inl none) = let flat : ceil_div n d * d ≡ 0 * d = ap (λ q. q * d) none in absurd (omega (arith, above, flat, some))
    at (inr more) = omega (arith, more)

-- slices begin with a slice's marker
slices_begin : (h : Header) (content : Content) (n : ℕ) (slices rest : List ℕ) → 0 < n → SpellsEach (IsSlice h content) (upto n) slices → BeginsWith (slices ++ rest) slh
slices_begin h content zero slices rest some p = absurd (omega (arith, some))
slices_begin h content (suc n) slices rest some p =
    (0 ∷ 4 ∷ 0 ∷ 0 ∷ p.3.body ++ (p.1 ++ rest), ap (λ l. l ++ rest) (p.2 ∙ ap (λ l. l ++ p.1) p.3.joined) ∙ append_assoc (slice_head 0 ++ p.3.body) p.1 rest ∙ append_assoc (slice_head 0) p.3.body (p.1 ++ rest))

pub follows : (h : Header) (content : Content) (bytes rest : List ℕ) (p : IsCodestream h content bytes) → FollowsHeader (p.slices ++ rest)
follows h content bytes rest p =
    inr (slices_begin h content (slice_count h) p.slices rest
    (ceil_some (precinct_count h) h.hsl (ceil_some h.shape.height (2 ^ h.nly) (omega (arith, p.headed.accepted.geometry.shape.height)) (pow_pos h.nly)) p.headed.accepted.geometry.hsl) p.spelled)

pub one_codestream : OneCodestream
one_codestream h other content contents a b y z p q e = (end.1, same.1, slices.1)
  where
    regroup : (header slices y : List ℕ) → (header ++ (slices ++ eoc)) ++ y ≡ header ++ (slices ++ (eoc ++ y))
    regroup header slices y = append_assoc header (slices ++ eoc) y ∙ ap (λ l. header ++ l) (append_assoc slices eoc y)

    whole : p.header ++ (p.slices ++ (eoc ++ y)) ≡ q.header ++ (q.slices ++ (eoc ++ z))
    whole = sym (regroup p.header p.slices y) ∙ ap (λ l. l ++ y) (sym p.joined) ∙ e ∙ ap (λ l. l ++ z) q.joined ∙ regroup q.header q.slices z

    same : (p.slices ++ (eoc ++ y) ≡ q.slices ++ (eoc ++ z)) × (h ≡ other)
    same = one_header h other p.header q.header (p.slices ++ (eoc ++ y)) (q.slices ++ (eoc ++ z)) p.headed q.headed (follows h content a (eoc ++ y) p) (follows other contents b (eoc ++ z) q) whole

    moved : SpellsEach (IsSlice h contents) (upto (slice_count h)) q.slices
    moved = subst (λ x. SpellsEach (IsSlice x contents) (upto (slice_count x)) q.slices) (sym same.1) q.spelled

    slices : (eoc ++ y ≡ eoc ++ z) × AllByRecursion (λ slice. AllByRecursion (SamePrecinct h content contents) (precincts_of h slice)) (upto (slice_count h))
    slices = each-agree (IsSlice h content) (IsSlice h contents) (λ slice. AllByRecursion (SamePrecinct h content contents) (precincts_of h slice)) (upto (slice_count h))
        (range-all _ 0 (slice_count h) (λ slice _ _ a b y z p q e. one_slice h content contents slice a b y z below p q e)) p.slices q.slices (eoc ++ y) (eoc ++ z) p.spelled moved same.0
      where
        below : h.nly ≤ h.nlx
        below = let least = p.headed.accepted.geometry.nly in omega (arith, least)

    end : (eoc ≡ eoc) × (y ≡ z)
    end = append_cut eoc eoc y z refl slices.0
