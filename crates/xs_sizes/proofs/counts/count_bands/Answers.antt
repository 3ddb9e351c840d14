use Rattle.std.proofs.Common.{ℕ, ◌+◌, ◌∷◌, [], length, slice_index_or, sym, ap, subst, ◌∙◌, arith, length-append}
use Rattle.xs_sizes.specs.Counted.{IsBandCounted}
use Rattle.xs_sizes.specs.declared.bands.BandCounts.{BandCounts}
use Rattle.xs_sizes.proofs.Sets.{each_pushed}
use Rattle.xs_sizes.proofs.counts.count_bands.Goals as goal

pub bands-preserved : goal.bands-preserved
bands-preserved c =
    let old = c.bands.bands.items in
    let counts = c.in_ok-counts.counts in
    let P : ℕ → BandCounts → Type 0 = λ band counts. IsBandCounted c.args.counting.now.geometry.now c.args.counting.now.rows.now c.args.counting.now.signs band counts in
    let pushed = c.in_ok-push_band.ensures in
    let size = c.bands.invariant.count in
    record {
      count = ap length pushed ∙ length-append old (counts ∷ []) ∙ ap (λ n. n + 1) size;
      each = λ band none below. subst (λ l. P band (slice_index_or l band none)) (sym pushed)
          (each_pushed P old counts (λ k d inside. c.bands.invariant.each k d (omega (arith, inside, size))) (subst (λ k. P k counts) (sym size) c.in_ok-counts.ensures) band none (omega (arith, below, size)));
    }
