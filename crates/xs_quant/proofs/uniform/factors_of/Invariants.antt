use Rattle.std.proofs.Common.{◌≡◌, ℕ, ◌<◌, length, slice_index_or}
use Rattle.xs_quant.specs.Rows.{factor_of}
use Rattle.xs_quant.proofs.uniform.factors_of.Given as goal

abbrev pub invariant-counts : goal.invariant-counts
invariant-counts l = record {
  size : length l.factors ≡ 16;
  done : (k : ℕ) → k < l.count → slice_index_or l.factors k 0 ≡ factor_of l.t k;
}
