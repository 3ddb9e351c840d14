use Rattle.std.proofs.Common.{◌≡◌, nat_lt, take}
use Rattle.std.specs.List.{list_any}
use Rattle.xs_params.specs.Picture.{pair_numbers}
use Rattle.xs_params.proofs.raw.is_any_over.Given as goal

abbrev pub invariant-looking : goal.invariant-looking
invariant-looking l = record { looked : l.over ≡ list_any (nat_lt l.most) (pair_numbers (take l.pair-index l.pairs)) }
