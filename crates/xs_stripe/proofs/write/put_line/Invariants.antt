use Rattle.std.proofs.Common.{◌≡◌, ◌≢◌, ◌<◌, ℕ}
use Rattle.std.specs.Prelude.{slice_index}
use Rattle.xs_params.specs.Picture.{IsPlace, sample_at}
use Rattle.xs_stripe.specs.Stripe.{stripe_row}
use Rattle.xs_stripe.proofs.write.put_line.Given as goal

abbrev pub invariant-components : goal.invariant-components
invariant-components l = record {
  shape : l.picture.shape ≡ l.fn.picture.shape;
  written : (k column : ℕ) → k < l.component → IsPlace l.fn.picture.shape k l.line column → slice_index (stripe_row l.stripe k l.line) column ≡ sample_at l.picture k l.line column;
  others : (k other column : ℕ) → IsPlace l.fn.picture.shape k other column → other ≢ l.line → sample_at l.picture k other column ≡ sample_at l.fn.picture k other column;
}
