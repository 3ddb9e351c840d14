-- The bits of a band's lines in each mode.
use Rattle.std.proofs.Common.{◌≡◌, ℕ, zero, suc, ◌+◌, ◌*◌, ◌<◌, ◌≤◌, List, [], ◌∷◌, length, get_or, refl, ap, ◌∙◌, arith}
use Rattle.xs_layout.specs.declared.Candidate.{Candidate}
use Rattle.xs_layout.specs.declared.Format.{Format}
use Rattle.xs_layout.specs.declared.Format.TheVariants.{Mono, C422, C444}
use Rattle.xs_layout.specs.Geometry.{components_of}
use Rattle.xs_params.specs.declared.header.Header.{Header}
use Rattle.xs_params.specs.Accepted.{IsGeometry}
use Rattle.xs_params.specs.Geometry.{bands_of}
use Rattle.xs_params.specs.Rows.{Rows}
use Rattle.xs_spelling.specs.Sizes.{count_size, flag_size}
use Rattle.xs_grammar.specs.Precinct.{coded_line}
use Rattle.xs_rate.specs.Chosen.{content_at}
use Rattle.xs_precinct_write.specs.Outgoing.{Outgoing, IsCounted, line_counted}
use Rattle.xs_precinct_write.proofs.Alike.{counts_out}

pub zeros_at : (mode : ℕ) → get_or {A = ℕ} (0 ∷ 0 ∷ 0 ∷ 0 ∷ []) mode 0 ≡ 0
zeros_at zero = refl
zeros_at (suc zero) = refl
zeros_at (suc (suc zero)) = refl
zeros_at (suc (suc (suc zero))) = refl
zeros_at (suc (suc (suc (suc mode)))) = refl

pub four_listed : (bits : List ℕ) (size : ℕ → ℕ) → length bits ≡ 4 → ((mode : ℕ) → mode < 4 → get_or bits mode 0 ≡ size mode) → bits ≡ size 0 ∷ size 1 ∷ size 2 ∷ size 3 ∷ []
four_listed [] size e same = absurd (omega (arith, e))
four_listed (a ∷ []) size e same = absurd (omega (arith, e))
four_listed (a ∷ b ∷ []) size e same = absurd (omega (arith, e))
four_listed (a ∷ b ∷ c ∷ []) size e same = absurd (omega (arith, e))
four_listed (a ∷ b ∷ c ∷ d ∷ []) size e same =
    ap (λ n. n ∷ b ∷ c ∷ d ∷ []) (same 0 (omega arith)) ∙ ap (λ n. size 0 ∷ n ∷ c ∷ d ∷ []) (same 1 (omega arith)) ∙ ap (λ n. size 0 ∷ size 1 ∷ n ∷ d ∷ []) (same 2 (omega arith)) ∙ ap (λ n. size 0 ∷ size 1 ∷ size 2 ∷ n ∷ []) (same 3 (omega arith))
four_listed (a ∷ b ∷ c ∷ d ∷ x ∷ bits) size e same = absurd (omega (arith, e))

-- those of a line that was counted
pub counted_size : (h : Header) (rows : Rows) (candidate : Candidate) (band line mode : ℕ) (o : Outgoing) → IsCounted h rows candidate band line o
    → flag_size (line_counted o mode) + count_size (line_counted o mode) ≡ flag_size (coded_line h (content_at h rows candidate) mode band line) + count_size (coded_line h (content_at h rows candidate) mode band line)
counted_size h rows candidate band line mode o is =
    let out = counts_out h rows candidate band line o is in
    ap (λ n. n + count_size (line_counted o mode)) (ap length (out.flags mode)) ∙ ap (λ n. flag_size (coded_line h (content_at h rows candidate) mode band line) + n) (ap length (out.counts mode))

few_of : (format : Format) (n : ℕ) → n ≤ 10 → n * components_of format ≤ 30
few_of Mono n few = omega (arith, few)
few_of C422 n few = omega (arith, few)
few_of C444 n few = omega (arith, few)

pub few_bands : (h : Header) → IsGeometry h → bands_of h ≤ 30
few_bands h geometry = few_of h.shape.format (2 * h.nly + h.nlx + 1) (omega (arith, geometry.nlx.1, geometry.nly))
