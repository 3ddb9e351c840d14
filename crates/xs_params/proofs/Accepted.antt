-- What the accepted values of a header allow.
use Rattle.std.proofs.Common.{◌≡◌, ℕ, ◌≤◌, ◌⊎◌, refl, sym, ap, subst, ◌∙◌, arith, inl, inr, List}
use Rattle.xs_layout.specs.Limits.{IsDepth, fq_of}
use Rattle.xs_layout.specs.declared.Weight.{Weight}
use Rattle.xs_params.specs.declared.header.Header.{Header}
use Rattle.xs_params.specs.declared.settings.Settings.{Settings}
use Rattle.xs_params.specs.Accepted.{IsAccepted}
use Rattle.xs_params.specs.Check.{AreInRange}
use Rattle.xs_params.specs.Headers.{header_of}
use Rattle.xs_params.proofs.HeaderWeights.{header_weights}

pub depth_most : (depth : ℕ) → IsDepth depth → (8 ≤ depth) × (depth ≤ 12)
depth_most depth (inl e) = omega (arith, e)
depth_most depth (inr (inl e)) = omega (arith, e)
depth_most depth (inr (inr e)) = omega (arith, e)

-- the two pairs of bits
pub bits_are : (h : Header) → IsAccepted h → ((h.bw ≡ 18) × (h.fq ≡ 6)) ⊎ ((h.bw ≡ 20) × (h.fq ≡ 8))
bits_are h p = elim p.bits.0 [ inl e ↦ inl (e, p.bits.1 ∙ ap fq_of e) | inr e ↦ inr (e, p.bits.1 ∙ ap fq_of e) ]

pub bits_most : (h : Header) → IsAccepted h → (18 ≤ h.bw) × (h.bw ≤ 20) × (6 ≤ h.fq) × (h.fq ≤ 8)
bits_most h p = elim (bits_are h p) [ inl e ↦ omega (arith, e) | inr e ↦ omega (arith, e) ]

-- the header of settings in range is accepted, whatever length it states
pub header_accepted : (s : Settings) (lcod : ℕ) → AreInRange s → IsAccepted (record (header_of s) { lcod = lcod })
header_accepted s lcod range = record {
  geometry = record {
    shape = range.shape;
    hsl = range.hsl.0;
    nlx = range.nlx;
    nly = range.nly;
    slices = range.slices;
    narrow = range.narrow;
  };
  bits = (range.bits, refl);
  colour = range.colour;
  run_mode = omega arith;
  weights = (header_weights s range).one_each;
}

-- a header with the same values is accepted
pub accepted_as : (h : Header) (fq : ℕ) (weights : List Weight) → IsAccepted h → fq ≡ h.fq → weights ≡ h.weights → IsAccepted (record h { fq = fq; weights = weights })
accepted_as h fq weights p e f =
    subst (λ n. IsAccepted (record h { fq = n; weights = weights })) (sym e) (subst (λ w. IsAccepted (record h { weights = w })) (sym f) p)
