use Rattle.std.proofs.Common.{◌-◌, refl, sym, ap, ◌∙◌}
use Rattle.xs_geometry.specs.SliceLines.{rows_held}
use Rattle.xs_rate.specs.Chosen.{size_at}
use Rattle.xs_slice_write.proofs.Pieces.{filler_none, filler_some}
use Rattle.xs_slice_write.proofs.write.plan_slice.Goals as goal

pub returns-then-not-wanted-clause-planned : goal.returns-then-not-wanted-clause-planned
returns-then-not-wanted-clause-planned c = λ bands known. record {
  slice = refl;
  chosen = sym (c.chosen.ensures bands known) ∙ c.in-Ok.is;
  filler = filler_none c.args.wanted.now.fill (c.args.wanted.now.share - size_at c.args.counted.now.header.now (rows_held bands) c.args.wanted.now.slice c.in-Ok.candidate) c.if-not-wanted.true;
}

pub returns-clause-planned : goal.returns-clause-planned
returns-clause-planned c = λ bands known. record {
  slice = refl;
  chosen = sym (c.chosen.ensures bands known) ∙ c.in-Ok.is;
  filler = c.rest_of.ensures ∙ ap (λ n. c.args.wanted.now.share - n) (c.size_of-size.ensures bands known)
      ∙ filler_some c.args.wanted.now.fill (c.args.wanted.now.share - size_at c.args.counted.now.header.now (rows_held bands) c.args.wanted.now.slice c.in-Ok.candidate) c.if-not-wanted.false;
}
