use Rattle.std.proofs.Common.{◌≡◌, ℕ, arith, List, Err, subst, ◌∙◌, rules}
use Rattle.std.specs.Io.KnownBytes.{Appends}
use Rattle.xs_layout.specs.declared.Shape.{Shape}
use Rattle.xs_params.specs.Picture.{row_first}
use Rattle.xs_endings.specs.declared.stop.Stop.TheVariants as stop
use Rattle.xs_endings.specs.Ends.{change_of}
use Rattle.xs_endings.specs.Steps.{IsGiven}
use Rattle.xs_samples.specs.Rows.{rows_bytes}
use Rattle.xs_cli.proofs.RawGiven.{given_cut, given_more, given_short}
use Rattle.xs_cli.proofs.raw_output.write_raw.Goals as goal

pub returns-in_err-bytes : goal.returns-in_err-bytes
returns-in_err-bytes g c =
    let e : c.from_residual.result ≡ Err stop.Memory = search rules in
    rw e (given_short c.args.planes.now _ (g.W.Sink.held c.args.output.now) (g.W.Sink.held c.chunks.output) (g.W.Sink.faults c.args.output.now) (g.W.Sink.faults c.chunks.output) c.chunks.invariant.given c.chunks.invariant.later)

pub returns-in_err-give : goal.returns-in_err-give
returns-in_err-give g c =
    let e : c.from_residual-in_err-give.result ≡ Err c.in_err-give.field-0.0 = search rules in
    let sink = change_of (g.W.Sink.held c.chunks.output) (g.W.Sink.held c.give.new.sink) (g.W.Sink.faults c.chunks.output) (g.W.Sink.faults c.give.new.sink) in
    let piece : c.as_slice.result.now ≡ rows_bytes c.args.planes.now c.chunks.rows = c.as_slice.ensures.items ∙ c.in_ok-bytes.ensures in
    let cut = subst (λ (l : List ℕ). IsGiven {T = Unit {0}} sink l (Err c.in_err-give.field-0.0)) piece c.in_err-give.ensures in
    rw e (given_cut c.args.planes.now c.chunks.rows (g.W.Sink.held c.args.output.now) (g.W.Sink.held c.chunks.output) (g.W.Sink.held c.give.new.sink) (g.W.Sink.faults c.args.output.now) (g.W.Sink.faults c.chunks.output) (g.W.Sink.faults c.give.new.sink)
    c.in_err-give.field-0.0 c.chunks.invariant.rows.some c.chunks.invariant.given c.chunks.invariant.later cut)

pub chunks-preserved : goal.chunks-preserved
chunks-preserved g c =
    let rows = c.chunks.rows in
    let next = c.next-rows.result in
    let same = c.shape-shape.ensures.shape in
    let place = subst (λ (s : Shape). row_first s next.component next.first ≡ row_first s rows.component rows.end) same c.next-rows.ensures.place in
    let piece : c.as_slice.result.now ≡ rows_bytes c.args.planes.now rows = c.as_slice.ensures.items ∙ c.in_ok-bytes.ensures in
    let got = subst (Appends (g.W.Sink.held c.chunks.output) (g.W.Sink.held c.give.new.sink)) piece c.in_ok-give.ensures.whole in
    record {
      rows = c.next-rows.ensures.rows;
      given = given_more c.args.planes.now rows _ (g.W.Sink.held c.args.output.now) (g.W.Sink.held c.chunks.output) (g.W.Sink.held c.give.new.sink) c.chunks.invariant.rows.some place c.chunks.invariant.given got;
      later = omega (arith, c.chunks.invariant.later, c.give.ensures.later);
    }
