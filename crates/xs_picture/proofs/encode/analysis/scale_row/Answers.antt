use Rattle.std.proofs.Common.{◌^◌, sym, subst, arith}
use Rattle.std.specs.Prelude.{slice_index}
use Rattle.xs_signal.specs.Lines.{IsBelow}
use Rattle.xs_signal.specs.Samples.{scale_in}
use Rattle.xs_picture.proofs.Analysed.{sample_small, scaled_below}
use Rattle.xs_picture.proofs.Bounds.{list_small}
use Rattle.xs_picture.proofs.encode.analysis.scale_row.Goals as goal

pub scale_row_in-requires-clause-samples : goal.scale_row_in-requires-clause-samples
scale_row_in-requires-clause-samples c k inside = c.requires.small k 0 inside

pub returns-clause-small : goal.returns-clause-small
returns-clause-small c =
    let depth = c.args.scaling.depth in
    let bw = c.args.scaling.bw in
    list_small (2 ^ 20) c.scale_row_in.new.row (omega arith)
    (λ k inside.
    let sample = slice_index c.args.samples.now k in
    subst (IsBelow (2 ^ 20)) (sym (c.scale_row_in.ensures k inside))
    (scaled_below (2 ^ 20) (scale_in depth bw sample) (omega arith) (sample_small depth bw sample c.requires.depth c.requires.bw (c.requires.small k 0 (omega (arith, inside, c.scale_row_in.auto.row, c.requires.width))))))
