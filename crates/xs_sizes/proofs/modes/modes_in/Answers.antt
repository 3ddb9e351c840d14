use Rattle.std.proofs.Common.{◌≡◌, ℕ, ◌-◌, ◌≤◌, ◌∙◌, arith}
use Rattle.std.specs.List.{range_with_len}
use Rattle.std.proofs.lemmas.List.{length-set}
use Rattle.xs_geometry.specs.SliceLines.{rows_held}
use Rattle.xs_rate.specs.Modes.{fewest}
use Rattle.xs_sizes.specs.Precincts.{lines_bits}
use Rattle.xs_sizes.proofs.Moded.{four_same}
use Rattle.xs_sizes.proofs.Sets.{done_more}
use Rattle.xs_sizes.proofs.modes.modes_in.Goals as goal

pub cuts-preserved : goal.cuts-preserved
cuts-preserved c =
    let t = c.cuts.t in
    let le : t ≤ 15 = omega (arith, c.cuts-test.true) in
    record {
      size = length-set c.cuts.modes t c.first_fewest.result ∙ c.cuts.invariant.size;
      done = λ h bands signs band known. (
          let size : ℕ → ℕ = λ mode. lines_bits h (rows_held bands) band t mode (range_with_len c.args.lines.0 (c.args.lines.1 - c.args.lines.0)) in
          done_more (λ j mode. mode ≡ fewest (λ m. lines_bits h (rows_held bands) band j m (range_with_len c.args.lines.0 (c.args.lines.1 - c.args.lines.0)))) c.cuts.modes t c.first_fewest.result
          (omega (arith, c.cuts-test.true, c.cuts.invariant.size)) (c.cuts.invariant.done h bands signs band known)
          (c.first_fewest.ensures size
          (four_same _ _ _ _ (size 0) (size 1) (size 2) (size 3) (c.bits_in-plain.ensures h bands signs band t known le) (c.bits_in-predicted.ensures h bands signs band t known le) (c.bits_in-plain_kept.ensures h bands signs band t known le) (c.bits_in-predicted_kept.ensures h bands signs band t known le))));
    }

pub returns : goal.returns
returns c h bands signs band t known le = c.cuts.invariant.done h bands signs band known t (omega (arith, le, c.cuts-test.false))
