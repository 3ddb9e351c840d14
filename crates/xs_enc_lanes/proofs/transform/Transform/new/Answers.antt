use Rattle.std.proofs.Common.{refl, sym, true≢false, arith}
use Rattle.xs_enc_lanes.proofs.transform.Transform.new.Goals as goal

pub returns-clause-state : goal.returns-clause-state
returns-clause-state c = record {
  same = refl;
  component = c.requires.component;
  rows = c.in_ok-rows.ensures;
  given = λ _. c.in_ok-splitter.ensures c.args.component.picture.now 0;
  most = omega arith;
  split = λ done. absurd (true≢false (sym done));
}
