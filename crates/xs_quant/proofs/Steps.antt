-- What is put for a number that is sent, by its factor.
use Rattle.std.proofs.Common.{◌≡◌, ℕ, ◌*◌, ◌/◌, ◌^◌, ◌<◌, List, ℤ, pos, length, sym, ap, subst, ◌∙◌, arith}
use Rattle.std.specs.Prelude.{◌*ℤ◌, slice_index_or, unsigned_abs}
use Rattle.xs_layout.specs.declared.Quant.TheVariants.{Uniform}
use Rattle.xs_signal.specs.Quantiser.{dequantised}
use Rattle.xs_quant.specs.declared.rows.Raise.{Raise}
use Rattle.xs_quant.specs.Rows.{AreSent, factor_of, raised, signed_step}
use Rattle.xs_quant.proofs.Factors.{by_factor, product_fits}
use Rattle.xs_quant.proofs.Raised.{by_step}

module _ (by : Raise) (counts : List ℕ) (values : List ℤ) (column factor : ℕ) (sent : AreSent by.t counts values) (there : column < length values)
    (is : factor ≡ factor_of by.t (slice_index_or counts (column / 4) 0)) where
  range : slice_index_or counts (column / 4) 0 < 16
  range = let size = sent.size in let most = sent.range (column / 4) (omega (arith, there, size)) in omega (arith, most)

  pub step_fits : unsigned_abs (slice_index_or values column (pos 0)) * factor < 2 ^ 31
  step_fits = subst (λ f. unsigned_abs (slice_index_or values column (pos 0)) * f < 2 ^ 31) (sym is)
      (product_fits (slice_index_or counts (column / 4) 0) by.t (unsigned_abs (slice_index_or values column (pos 0))) (omega (arith, range)) (sent.small column there))

  pub step_is : by.kind ≡ Uniform → signed_step factor by.fq (slice_index_or values column (pos 0)) ≡ raised by counts values column
  step_is kind =
      let count = slice_index_or counts (column / 4) 0 in
      let z = slice_index_or values column (pos 0) in
      ap (λ f. signed_step f by.fq z) is
      ∙ by_step count by.t (2 ^ by.fq) z (unsigned_abs z * factor_of by.t count / 65536) (by_factor count by.t (unsigned_abs z) (omega (arith, range)) (sent.small column there))
      ∙ ap (λ k. dequantised k count by.t z *ℤ pos (2 ^ by.fq)) (sym kind)
