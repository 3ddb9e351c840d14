-- The candidates of a slice, from the finest to the coarsest: 'Rate choice'.
use Rattle.std.specs.Prelude.{ℕ, ◌+◌, max, List, ◌∷◌, map}
use Rattle.std.specs.List.{flat_map, fold, range_with_len}
use Rattle.xs_lists.specs.Spelling.{downto}
use Rattle.xs_layout.specs.declared.Candidate.{Candidate}
use Rattle.xs_layout.specs.declared.Weight.{Weight}

-- nothing is cut off
abbrev pub finest : Candidate
finest = record { q = 0; r = 0 }

-- the greatest gain of some weights
abbrev pub greatest_gain : List Weight → ℕ
greatest_gain weights = fold (λ most (weight : Weight). max most weight.gain) 0 weights

-- (0, 0); then, for each quantisation from 1 to 15 and the greatest gain, the refinements from the number of bands less 1 down to 0
abbrev pub candidates_of : ℕ → List Weight → List Candidate
candidates_of bands weights =
    finest ∷ flat_map (λ q. map (λ r. record { q = q; r = r }) (downto bands 0)) (range_with_len 1 (15 + greatest_gain weights))
