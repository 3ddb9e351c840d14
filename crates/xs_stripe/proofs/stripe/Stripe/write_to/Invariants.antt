use Rattle.std.proofs.Common.{◌≡◌, ◌⊎◌, ◌<◌, ◌≤◌, ℕ}
use Rattle.std.specs.Prelude.{slice_index}
use Rattle.xs_params.specs.Picture.{IsPlace, sample_at}
use Rattle.xs_stripe.specs.Stripe.{stripe_row}
use Rattle.xs_stripe.proofs.stripe.Stripe.write_to.Given as goal

abbrev pub invariant-lines : goal.invariant-lines
invariant-lines l = record {
  shape : l.picture.shape ≡ l.fn.picture.shape;
  lines : (component line column : ℕ) → IsPlace l.fn.picture.shape component line column → l.self.first ≤ line → line < l.line
      → slice_index (stripe_row l.self component line) column ≡ sample_at l.picture component line column;
  others : (component line column : ℕ) → IsPlace l.fn.picture.shape component line column → (line < l.self.first) ⊎ (l.line ≤ line)
      → sample_at l.picture component line column ≡ sample_at l.fn.picture component line column;
}
