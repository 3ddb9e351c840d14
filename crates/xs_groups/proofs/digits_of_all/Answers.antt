use Rattle.std.proofs.Common.{◌≡◌, ℕ, ◌<◌, ◌^◌, length, slice_index_or, sym, ap, ◌∙◌, arith}
use Rattle.xs_rate.specs.Content.{digits_of}
use Rattle.xs_groups.proofs.Planes.{digits_together, fold_four}
use Rattle.xs_groups.proofs.digits_of_all.Goals as goal

pub digits-requires : goal.digits-requires
digits-requires c =
    let m = c.args.magnitudes in
    let four : length m ≡ 4 = omega (arith, c.well_formed) in
    let small : (i : ℕ) → i < 4 → slice_index_or m i 0 < 2 ^ 15 = λ i below. c.requires i 0 (omega (arith, four, below)) in
    let known = digits_together (slice_index_or m 0 0) (slice_index_or m 1 0) (slice_index_or m 2 0) (slice_index_or m 3 0) (small 0 (omega arith)) (small 1 (omega arith)) (small 2 (omega arith)) (small 3 (omega arith)) in
    omega (arith, c.any_of.ensures, known.0)

pub returns : goal.returns
returns c =
    let m = c.args.magnitudes in
    let four : length m ≡ 4 = omega (arith, c.well_formed) in
    let small : (i : ℕ) → i < 4 → slice_index_or m i 0 < 2 ^ 15 = λ i below. c.requires i 0 (omega (arith, four, below)) in
    let known = digits_together (slice_index_or m 0 0) (slice_index_or m 1 0) (slice_index_or m 2 0) (slice_index_or m 3 0) (small 0 (omega arith)) (small 1 (omega arith)) (small 2 (omega arith)) (small 3 (omega arith)) in
    c.digits.ensures.digits ∙ ap digits_of c.any_of.ensures ∙ known.1 ∙ sym (ap digits_of (fold_four m four))
