use Rattle.std.proofs.Common.{◌≡◌, ℕ, ◌<◌, length, slice_index_or}
use Rattle.std.specs.Prelude.{count_by, nat_lt}
use Rattle.xs_sizes.proofs.signs.four_signs.Given as goal

abbrev pub invariant-cuts : goal.invariant-cuts
invariant-cuts l = record { size : length l.signs ≡ 16; done : (j : ℕ) → j < l.t → slice_index_or l.signs j 0 ≡ count_by (λ end. nat_lt j end) l.ends }
