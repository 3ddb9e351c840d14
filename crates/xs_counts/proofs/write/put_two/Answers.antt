use Rattle.std.proofs.Common.{ℕ, ◌≡◌, ◌+◌, ◌-◌, ◌*◌, ◌^◌, ◌<◌, ◌≤◌, ◌++◌, sym, ap, subst, ◌∙◌, arith}
use Rattle.std.proofs.Math.Pow.{pow_mono}
use Rattle.xs_bits.proofs.Laws.{bits_of_unary, join_below}
use Rattle.xs_lists.specs.Bits.{bits_of}
use Rattle.xs_lists.proofs.Bits.{bits_cat}
use Rattle.xs_spelling.specs.Counts.{unary}
use Rattle.xs_counts.proofs.write.put_two.Goals as goal

pub joined-number-requires-clause-high : goal.joined-number-requires-clause-high
joined-number-requires-clause-high c =
    let most : 2 ^ (c.args.first + 1) ≤ 2 ^ 30 = pow_mono {i = c.args.first + 1} {j = 30} (omega (arith, c.requires.few)) in
    omega (arith, c.runs.ensures.small, most)

pub put_wide-requires-clause-fits : goal.put_wide-requires-clause-fits
put_wide-requires-clause-fits c =
    let size : c.args.first + 1 + (c.args.second + 1) ≡ c.args.first + c.args.second + 2 = omega arith in
    subst (λ k. c.joined-number.result < 2 ^ k) size
    (rw c.joined-number.ensures (join_below c.runs.result c.runs-2.result (c.args.first + 1) (c.args.second + 1) c.runs.ensures.small c.runs-2.ensures.small))

pub returns-clause-bits : goal.returns-clause-bits
returns-clause-bits c =
    let a = c.args.first in
    let b = c.args.second in
    let out = c.args.out.now.bits in
    let size : a + b + 2 ≡ a + 1 + (b + 1) = omega arith in
    let run = λ (n v : ℕ) (e : v ≡ 2 ^ (n + 1) - 2). ap (bits_of (n + 1)) e ∙ bits_of_unary n in
    c.put_wide.ensures.bits
    ∙ ap (λ l. out ++ l)
    (ap (λ k. bits_of k c.joined-number.result) size ∙ ap (bits_of (a + 1 + (b + 1))) c.joined-number.ensures ∙ bits_cat (a + 1) (b + 1) c.runs.result c.runs-2.result c.runs-2.ensures.small
    ∙ ap (λ l. l ++ bits_of (b + 1) c.runs-2.result) (run a c.runs.result c.runs.ensures.value) ∙ ap (λ l. unary a ++ l) (run b c.runs-2.result c.runs-2.ensures.value))
