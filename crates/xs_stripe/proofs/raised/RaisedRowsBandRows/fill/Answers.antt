use Rattle.std.proofs.Common.{◌≡◌, ◌^◌, pos, ◌*ℤ◌, ap, sym, subst, ◌∙◌}
use Rattle.std.proofs.lemmas.List.{ext_get_or}
use Rattle.xs_layout.specs.Limits.{fq_of}
use Rattle.xs_signal.specs.Lines.{IsBelow, entries_of}
use Rattle.xs_stripe.specs.Raised.{band_of}
use Rattle.xs_stripe.proofs.Fresh.{raised_entry}
use Rattle.xs_stripe.proofs.raised.RaisedRowsBandRows.fill.Goals as goal

pub raise_row-requires-clause-small : goal.raise_row-requires-clause-small
raise_row-requires-clause-small g c k =
    let s = c.args.self.now in
    let rows = g.S.CoefficientRows.rows s.rows.now in
    let row = rows (band_of s.header.now s.component c.args.band) c.args.row in
    let same : c.row-coefficients.result.now ≡ row = c.row-coefficients.ensures ∙ ap (λ b. rows b c.args.row) c.band_number.ensures in
    subst (λ xs. IsBelow (2 ^ 23) (entries_of xs k *ℤ pos (2 ^ c.fraction_of.result))) (sym same)
    (subst (λ f. IsBelow (2 ^ 23) (entries_of row k *ℤ pos (2 ^ f))) (sym c.fraction_of.ensures.fraction) (subst (IsBelow (2 ^ 23)) (raised_entry (fq_of s.header.now.bw) row k) (c.requires.known.small k)))

pub returns : goal.returns
returns g c =
    let s = c.args.self.now in
    let rows = g.S.CoefficientRows.rows s.rows.now in
    let row = rows (band_of s.header.now s.component c.args.band) c.args.row in
    let same : c.row-coefficients.result.now ≡ row = c.row-coefficients.ensures ∙ ap (λ b. rows b c.args.row) c.band_number.ensures in
    ext_get_or (pos 0) _ _ (c.raise_row.auto.raised ∙ sym c.requires.known.wide)
    (λ i inside.
    c.raise_row.ensures i inside ∙ ap (λ xs. entries_of xs i *ℤ pos (2 ^ c.fraction_of.result)) same ∙ ap (λ f. entries_of row i *ℤ pos (2 ^ f)) c.fraction_of.ensures.fraction
    ∙ sym (raised_entry (fq_of s.header.now.bw) row i))
