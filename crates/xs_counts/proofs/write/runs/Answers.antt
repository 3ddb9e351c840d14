use Rattle.std.proofs.Common.{◌+◌, ◌-◌, ◌*◌, ◌%◌, ◌^◌, ◌<◌, ◌≤◌, ◌≡◌, suc, sym, ap, ◌∙◌, arith}
use Rattle.std.proofs.Math.Nat.{pow-suc, mul_comm}
use Rattle.std.proofs.lemmas.Nat.{pow_pos, shl_whole}
use Rattle.xs_counts.proofs.write.runs.Goals as goal

pub returns-clause-value : goal.returns-clause-value
returns-clause-value c =
    let two : 2 < 2 ^ 2 = omega arith in
    let fits : 2 + c.args.ones ≤ 64 = omega arith in
    let one : c.args.ones + 1 ≡ suc c.args.ones = omega arith in
    ap (λ n. n - 2) (shl_whole 2 2 c.args.ones 64 two fits ∙ mul_comm 2 (2 ^ c.args.ones) ∙ sym (ap (λ k. 2 ^ k) one ∙ pow-suc 2 c.args.ones))

pub returns-clause-small : goal.returns-clause-small
returns-clause-small c = omega (arith, returns-clause-value c, pow_pos (c.args.ones + 1))
