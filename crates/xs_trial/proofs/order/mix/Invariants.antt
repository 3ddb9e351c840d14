use Rattle.std.proofs.Common.{◌≡◌, ◌-◌, ◌≤◌, length}
use Rattle.xs_trial.specs.Generator.{shuffled}
use Rattle.xs_trial.proofs.order.mix.Given as goal

abbrev pub invariant-mixing : goal.invariant-mixing
invariant-mixing l = record {
  size : length l.entries ≡ length l.fn.entries;
  within : l.last ≤ length l.entries;
  rest : shuffled (l.last - 1) l.state l.entries ≡ shuffled (length l.fn.entries - 1) l.fn.start l.fn.entries;
}

abbrev pub decreases-mixing : goal.decreases-mixing
decreases-mixing l = l.last
