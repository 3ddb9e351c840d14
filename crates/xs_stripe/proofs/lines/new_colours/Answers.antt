use Rattle.std.proofs.Common.{subst, arith}
use Rattle.std.proofs.lemmas.Int.{ints}
use Rattle.xs_stripe.specs.Colours.{HaveWidth}
use Rattle.xs_stripe.proofs.lines.new_colours.Goals as goal

pub returns : goal.returns
returns c = record {
  width = λ coloured. subst (λ n. HaveWidth n c.in_ok-colours.colours) (c.colour_width.ensures coloured) c.in_ok-colours.ensures.width;
  small = λ component k. let none = c.in_ok-colours.ensures.zeros component k in record { least = omega (arith, ints, none); most = omega (arith, ints, none) };
}
