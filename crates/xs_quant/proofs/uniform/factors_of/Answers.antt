use Rattle.std.proofs.Common.{◌≡◌, ℕ, suc, ◌+◌, ◌-◌, ◌*◌, ◌^◌, ◌<◌, ◌∙◌, inl, inr, sym, ap, arith, length, length-set, get_or-set_other}
use Rattle.std.specs.Prelude.{nat_lt, if◌then◌else◌}
use Rattle.std.proofs.Math.Nat.{pow-suc}
use Rattle.std.proofs.lemmas.Bool.{cases_eq, lt-ltb}
use Rattle.std.proofs.lemmas.Grind.{get_or-set_at}
use Rattle.std.proofs.lemmas.Nat.{pow_pos}
use Rattle.xs_signal.specs.Quantiser.{shift_sum}
use Rattle.xs_quant.proofs.uniform.factors_of.Goals as goal

pub sum_of_shifts-requires-clause-small : goal.sum_of_shifts-requires-clause-small
sum_of_shifts-requires-clause-small c =
    let t = c.args.t in
    let one : t + 17 ≡ suc (t + 16) = omega arith in
    let twice : 2 ^ (t + 17) ≡ 2 ^ (t + 16) * 2 = ap (λ k. 2 ^ k) one ∙ pow-suc 2 (t + 16) in
    let some = pow_pos (t + 16) in
    omega (arith, c.power_of.ensures, twice, some)

pub counts-preserved : goal.counts-preserved
counts-preserved c =
    let t = c.args.t in
    let count = c.counts.count in
    let inside : count < length c.counts.factors = omega (arith, c.counts-test.true, c.counts.auto.count-end, c.counts.invariant.size) in
    let there : t < count = omega (arith, c.counts.auto.count) in
    let value = c.sum_of_shifts.ensures ∙ ap (shift_sum (count - t + 1) (t + 17)) c.power_of.ensures ∙ sym (ap (λ b. if b then shift_sum (count - t + 1) (t + 17) (2 ^ (t + 16)) else 0) (lt-ltb t count there)) in
    record {
      size = length-set c.counts.factors count c.sum_of_shifts.result ∙ c.counts.invariant.size;
      done = λ (k : ℕ) below.
          elim (cases_eq k count) [
            | inl same ↦ get_or-set_at c.counts.factors count k c.sum_of_shifts.result 0 same inside ∙ value ∙ ap (λ n. if nat_lt t n then shift_sum (n - t + 1) (t + 17) (2 ^ (t + 16)) else 0) (sym same)
            | inr other ↦ get_or-set_other c.counts.factors count k c.sum_of_shifts.result 0 other ∙ c.counts.invariant.done k (omega (arith, below, other))
          ];
    }
