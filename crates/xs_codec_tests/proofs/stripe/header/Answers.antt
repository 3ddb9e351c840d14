use Rattle.std.proofs.Common.{refl, ap, length, arith, inl, inr}
use Rattle.std.proofs.lemmas.Bool.{false≢true}
use Rattle.xs_codec_tests.proofs.stripe.header.Goals as goal

pub returns-clause-accepted : goal.returns-clause-accepted
returns-clause-accepted c = record {
  geometry = record {
    shape = record { width = omega arith; height = omega arith; area = omega arith; depth = inl refl };
    hsl = omega arith;
    nlx = omega arith;
    nly = omega arith;
    slices = omega arith;
    narrow = omega arith;
  };
  bits = (inr refl, refl);
  colour = λ e. absurd (false≢true e);
  run_mode = omega arith;
  weights = ap length c.in_ok-default_weights.ensures.default;
}
