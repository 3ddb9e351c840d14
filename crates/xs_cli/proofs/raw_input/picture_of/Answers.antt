use Rattle.std.proofs.Common.{refl, sym, ap, subst, ◌∙◌}
use Rattle.xs_params.specs.Picture.{over_sample, sample_count}
use Rattle.xs_samples.specs.Rows.{IsReadOf}
use Rattle.xs_samples.proofs.RawPictures.{none_over, picture_read}
use Rattle.xs_cli.proofs.raw_input.picture_of.Goals as goal

pub returns-in-Ok : goal.returns-in-Ok
returns-in-Ok c = λ bytes some size read.
    let picture = c.args.planes in
    let is = c.shape-shape.ensures.picture in
    let done = subst (λ said. IsReadOf picture (sample_count picture.shape) said bytes) c.in-Ok.is read in
    let same = picture_read picture picture.shape (sample_count picture.shape) bytes is.shaped is refl refl size done in
    (some, size, sym (ap over_sample same) ∙ none_over picture is, same)
