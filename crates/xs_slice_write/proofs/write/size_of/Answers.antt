use Rattle.std.proofs.Common.{sym, ap, ◌∙◌}
use Rattle.xs_params.specs.declared.header.Header.{Header}
use Rattle.xs_params.specs.Geometry.{bands_of, coding_header}
use Rattle.xs_geometry.specs.SliceLines.{rows_held}
use Rattle.xs_rate.specs.Chosen.{size_at}
use Rattle.xs_slice_write.proofs.Sliced.{size_coded}
use Rattle.xs_slice_write.proofs.write.size_of.Goals as goal

pub returns : goal.returns
returns c = λ bands known.
    (let h = c.args.counted.now.header.now in
    c.slice_size.ensures.size bands h.weights c.args.plan.candidate (record { coded = known.kept; count = known.weights ∙ ap bands_of (sym known.geometry); truncations = c.cuts_of.ensures.cuts })
    ∙ ap (λ (g : Header). size_at (coding_header g h.weights h.signs_apart h.quant) (rows_held bands) c.args.plan.slice c.args.plan.candidate) known.geometry
    ∙ size_coded h (rows_held bands) c.args.plan.slice c.args.plan.candidate known.heads)
