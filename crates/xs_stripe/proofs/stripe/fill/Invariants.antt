use Rattle.std.proofs.Common.{◌≡◌, ◌≤◌, ◌-◌, ◌*◌, length}
use Rattle.xs_layout.specs.Geometry.{components_of}
use Rattle.xs_rate.specs.Coefficients.{Rows}
use Rattle.xs_stripe.specs.Lines.{AreLines, HoldRows}
use Rattle.xs_stripe.specs.Near.{near_rows}
use Rattle.xs_stripe.specs.Source.{ShowRowsOf}
use Rattle.xs_stripe.specs.Stripe.{AreDecodedFrom}
use Rattle.xs_stripe.proofs.stripe.fill.Given as goal

abbrev pub invariant-filling : goal.invariant-filling
invariant-filling l = record {
  state : AreLines l.lines;
  header : l.lines.header ≡ l.fn.lines.header;
  first : l.lines.first ≡ l.fn.lines.first;
  from : l.fn.lines.given ≤ l.lines.given;
  to : l.lines.given ≤ l.end;
  end : l.end ≡ l.fn.stripe.end;
  width : length l.scratch ≡ length l.fn.scratch;
  stripe_first : l.stripe.first ≡ l.fn.stripe.first;
  stripe_end : l.stripe.end ≡ l.fn.stripe.end;
  components : l.stripe.components ≡ l.fn.stripe.components;
  count : length l.stripe.rows ≡ (l.lines.given - l.fn.stripe.first) * components_of l.fn.lines.header.now.shape.format;
  decoded : (coefficients : Rows) → HoldRows coefficients l.fn.lines → ShowRowsOf coefficients (near_rows l.source.above l.source.body.now l.source.below) → HoldRows coefficients l.lines × AreDecodedFrom l.fn.lines.header.now coefficients l.fn.stripe.first l.stripe.rows;
}

abbrev pub decreases-filling : goal.decreases-filling
decreases-filling l = l.end - l.lines.given
