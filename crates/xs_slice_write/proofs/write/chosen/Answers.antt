use Rattle.std.proofs.Common.{◌<◌, refl, sym, ap, subst, ◌∙◌}
use Rattle.xs_layout.specs.Candidates.{finest}
use Rattle.xs_params.specs.declared.header.Header.{Header}
use Rattle.xs_params.specs.Geometry.{bands_of, coding_header, slice_count}
use Rattle.xs_geometry.specs.SliceLines.{rows_held}
use Rattle.xs_rate.proofs.Alike.{choose_alike}
use Rattle.xs_slice_write.proofs.write.chosen.Goals as goal

pub choose-requires-clause-slice : goal.choose-requires-clause-slice
choose-requires-clause-slice c = subst (λ (g : Header). c.args.wanted.now.slice < slice_count g) (sym c.requires.kept.1.geometry) c.requires.slice

pub choose-requires-clause-kept : goal.choose-requires-clause-kept
choose-requires-clause-kept c = (c.requires.kept.0, c.requires.kept.1.kept)

pub choose-requires-clause-weights : goal.choose-requires-clause-weights
choose-requires-clause-weights c = c.requires.kept.1.weights ∙ ap bands_of (sym c.requires.kept.1.geometry)

pub returns : goal.returns
returns c = λ bands known.
    (let h = c.args.counted.now.header.now in
    let g = c.args.counted.now.geometry.now in
    c.choose.ensures bands known.kept
    ∙ (choose_alike (coding_header g h.weights h.signs_apart h.quant) h (rows_held bands) c.args.wanted.now.share c.args.wanted.now.slice 0 finest (record {
      shape = ap (λ (g : Header). g.shape) known.geometry;
      hsl = ap (λ (g : Header). g.hsl) known.geometry;
      across = ap (λ (g : Header). g.nlx) known.geometry;
      down = ap (λ (g : Header). g.nly) known.geometry;
      heads = sym known.heads;
      quant = refl;
      signs = refl;
      weights = refl;
    })).0)
