use Rattle.std.proofs.Common.{◌-◌, ◌*◌, sym, ap, ◌∙◌, arith}
use Rattle.xs_geometry.proofs.Counts.{few_places}
use Rattle.xs_geometry.proofs.Places.{places_counted}
use Rattle.xs_geometry.proofs.packets.count_places.Goals as goal

pub returns-clause-count : goal.returns-clause-count
returns-clause-count c = λ nlx precinct. places_counted nlx c.args.nly precinct c.requires ∙ sym (ap (λ n. 3 * n - 2) c.power.ensures.value)

pub returns-clause-few : goal.returns-clause-few
returns-clause-few c = omega (arith, c.power.ensures.value, few_places c.args.nly c.requires)
