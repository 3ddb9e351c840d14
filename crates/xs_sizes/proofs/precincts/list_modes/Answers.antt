use Rattle.std.proofs.Common.{ℕ, ◌+◌, List, sym, ap, subst, ◌∙◌}
use Rattle.xs_geometry.specs.SliceLines.{rows_held}
use Rattle.xs_sizes.specs.Precincts.{AreModes}
use Rattle.xs_sizes.proofs.Sets.{pushed_more}
use Rattle.xs_sizes.proofs.precincts.list_modes.Goals as goal

pub bands-preserved : goal.bands-preserved
bands-preserved c =
    let P : ℕ → List ℕ → Type 0 = λ band modes. AreModes c.args.counting.now.geometry.now (rows_held c.args.counting.now.rows.now) c.args.precinct band modes in
    let size = c.bands.invariant.count in
    let more = pushed_more P c.bands.modes.items c.push_modes.new.modes.items c.band_modes-own.result c.bands.invariant.each (subst (λ k. P k c.band_modes-own.result) (sym size) c.band_modes-own.ensures) c.in_ok-push_modes.ensures in
    record { count = more.0 ∙ ap (λ n. n + 1) size; each = more.1 }
