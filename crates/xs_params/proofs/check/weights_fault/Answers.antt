use Rattle.std.proofs.Common.{◌≡◌, ◌||◌, rules, tests, arith}
use Rattle.std.specs.Prelude.{nat_lt, nat_le, position}
use Rattle.std.proofs.lemmas.Iterator.{YieldsList-from_slice}
use Rattle.std.proofs.lemmas.Iterator.Search.{position_from_yields_List}
use Rattle.std.proofs.lemmas.Bool.Decides.{nat_tests}
use Rattle.xs_layout.specs.declared.Weight.{Weight}
use Rattle.xs_params.proofs.check.weights_fault.Goals as goal

pub returns : goal.returns
returns c =
    let place : c.position.result ≡ position (λ (weight : Weight). nat_lt 15 weight.gain || nat_le c.args.bands weight.priority) c.args.weights.now =
    position_from_yields_List (λ (weight : Weight). nat_lt 15 weight.gain || nat_le c.args.bands weight.priority) _ _ c.position.result c.position.ensures.ran (YieldsList-from_slice c.args.weights.now cc) (λ x b q k. search (rules, tests)) in
    grind (arith, nat_tests)
