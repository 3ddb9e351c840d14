use Rattle.std.proofs.Common.{◌≡◌, ℕ, ◌-◌, ap, ◌∙◌}
use Rattle.std.specs.List.{range_with_len}
use Rattle.xs_geometry.specs.SliceLines.{rows_held}
use Rattle.xs_rate.specs.Modes.{band_lines, fewest}
use Rattle.xs_sizes.specs.Precincts.{lines_bits}
use Rattle.xs_sizes.proofs.precincts.band_modes.Goals as goal

pub returns : goal.returns
returns c t le =
    let g = c.args.counting.now.geometry.now in
    let rows = rows_held c.args.counting.now.rows.now in
    let band = c.args.at.1 in
    let lines : range_with_len c.lines_in.result.0 (c.lines_in.result.1 - c.lines_in.result.0) ≡ band_lines g c.args.at.0 band = ap (λ (p : ℕ × ℕ). range_with_len p.0 (p.1 - p.0)) c.lines_in.ensures.lines in
    c.modes_in.ensures g c.args.counting.now.rows.now c.args.counting.now.signs band t c.requires.counted le ∙ ap (λ l. fewest (λ mode. lines_bits g rows band t mode l)) lines
