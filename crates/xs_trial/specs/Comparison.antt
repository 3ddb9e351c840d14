-- How two pictures differ: 'Trial'.
use Rattle.std.specs.Prelude.{ℕ, ◌+◌, max, List, map, fold, sum, zip}
use Rattle.std.specs.Int.{abs_diff}
use Rattle.xs_trial.specs.declared.comparison.Comparison.{Comparison}

-- the difference of two samples at each place
abbrev pub differences : List ℕ → List ℕ → List ℕ
differences samples others = map (λ (pair : ℕ × ℕ). abs_diff pair.0 pair.1) (zip samples others)

-- what was found so far goes on with more samples
abbrev pub compared : Comparison → List ℕ → List ℕ → Comparison
compared before samples others = record { worst = fold max before.worst (differences samples others); sum = before.sum + sum others }

-- the greatest difference of two samples at one place, and the sum of the other samples
abbrev pub comparison_of : List ℕ → List ℕ → Comparison
comparison_of samples others = record { worst = fold max 0 (differences samples others); sum = sum others }
