use Rattle.std.proofs.Common.{◌+◌, ◌-◌, Bor}
use Rattle.std.specs.Prelude.{IfSome}
use Rattle.xs_params.specs.Rows.{Rows}
use Rattle.xs_geometry.specs.SliceLines.{ShowRows}
use Rattle.xs_stripe.specs.Edges.{EdgeRows, ShowsDown, ShowsUp}
use Rattle.xs_stripe.specs.Stripe.{IsStripeOf}
use Rattle.xs_stripe.specs.declared.stripe.Stripe.{Stripe}
use Rattle.xs_picture.proofs.Grown.{lent_edge}
use Rattle.xs_picture.proofs.Results.{ok_weaker}
use Rattle.xs_picture.proofs.decode.stripes.Waiting.stripe.Goals as goal

pub returns : goal.returns
returns c coefficients shows below =
    let h = c.args.header.now in
    let w = c.args.self.now in
    ok_weaker c.synthesise_stripe.result
    (λ (stripe : Stripe). (rows : Rows) → ShowRows h rows w.body → IfSome c.as_ref-above.result (λ (edge : Bor EdgeRows). ShowsDown h (w.slice - 1) edge.now rows) → IfSome c.args.below (λ (edge : Bor EdgeRows). ShowsUp h (w.slice + 1) edge.now rows) → IsStripeOf h w.slice stripe rows)
    (λ (stripe : Stripe). IsStripeOf h w.slice stripe coefficients) c.synthesise_stripe.ensures
    (λ stripe made. made coefficients shows.body (lent_edge (λ edge. ShowsDown h (w.slice - 1) edge coefficients) c.as_ref-above.result w.above c.as_ref-above.ensures.value shows.above) below)
