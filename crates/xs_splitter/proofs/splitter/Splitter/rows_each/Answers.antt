use Rattle.std.proofs.Common.{◌-◌, ◌≤◌, arith, sym, subst}
use Rattle.std.proofs.Math.Nat.{pow-le-pow_right}
use Rattle.std.proofs.lemmas.Nat.{one_shl}
use Rattle.xs_splitter.proofs.splitter.Splitter.rows_each.Goals as goal

pub returns-clause-few : goal.returns-clause-few
returns-clause-few c =
    let steps = c.args.self.now.down - c.min.result in
    let two : steps ≤ 2 = omega (arith, c.requires.few) in
    subst (λ n. n ≤ 4) (sym (one_shl steps 64 (omega (arith, two)))) (pow-le-pow_right {n = 2} (omega arith) two)
