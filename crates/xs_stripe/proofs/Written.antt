-- A stripe of a picture fits into it.
use Rattle.std.proofs.Common.{◌≡◌, ℕ, ◌+◌, ◌*◌, ◌^◌, ◌≤◌, arith}
use Rattle.std.proofs.Math.Nat.{mul-le-mul_right, mul_comm}
use Rattle.xs_params.specs.declared.header.Header.{Header}
use Rattle.xs_params.specs.Rows.{Rows}
use Rattle.xs_stripe.specs.declared.stripe.Stripe.{Stripe}
use Rattle.xs_stripe.specs.Stripe.{IsStripeOf}
use Rattle.xs_stripe.specs.Written.{IsStripeFor}

-- a later slice begins further down
rising : (unit hsl slice : ℕ) → unit * (slice * hsl) ≤ unit * ((slice + 1) * hsl)
rising unit hsl slice =
    let next : (slice + 1) * hsl ≡ slice * hsl + hsl = omega arith in
    let more : slice * hsl * unit ≤ (slice + 1) * hsl * unit = mul-le-mul_right unit (omega (arith, next)) in
    let first : unit * (slice * hsl) ≡ slice * hsl * unit = mul_comm unit (slice * hsl) in
    let end : unit * ((slice + 1) * hsl) ≡ (slice + 1) * hsl * unit = mul_comm unit ((slice + 1) * hsl) in
    omega (arith, more, first, end)

-- a stripe of the picture fits into it
pub fits_picture : (h : Header) (slice : ℕ) (stripe : Stripe) (rows : Rows) → IsStripeOf h slice stripe rows → IsStripeFor h.shape stripe
fits_picture h slice stripe rows is = record {
  order =
      let first = is.first_is in
      let end = is.end_is in
      let more : 2 ^ h.nly * (slice * h.hsl) ≤ 2 ^ h.nly * ((slice + 1) * h.hsl) = rising (2 ^ h.nly) h.hsl slice in omega (arith, first, end, more);
  within = let e = is.end_is in omega (arith, e);
  there = is.there;
  rows = λ component line inside from to. let row = is.lines component line inside from to in record { wide = row.wide; small = row.small };
}
