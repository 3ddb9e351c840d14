use Rattle.std.proofs.Common.{◌≡◌, ℕ, ap, sym, ◌∙◌, arith}
use Rattle.std.specs.List.{flat_map}
use Rattle.xs_params.specs.Picture.{sample_bytes}
use Rattle.xs_samples.proofs.RawPictures.{single_bytes}
use Rattle.xs_samples.proofs.raw.fill_row.Goals as goal

pub returns-then-depth-eq8 : goal.returns-then-depth-eq8
returns-then-depth-eq8 c =
    let row = c.args.row.now in
    let eight : c.args.depth ≡ 8 = omega (arith, c.if-depth-eq8.true) in
    c.fill_bytes.ensures ∙ sym (single_bytes row) ∙ ap (λ (d : ℕ). flat_map (sample_bytes d) row) (sym eight)
