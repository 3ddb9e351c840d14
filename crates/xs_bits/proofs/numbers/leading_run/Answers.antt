use Rattle.std.proofs.Common.{get_or, ◌+◌, ◌-◌, ◌*◌, ◌%◌, ◌^◌, ◌<◌, ◌≤◌, ◌≡◌, ap, sym, ◌∙◌, arith}
use Rattle.std.proofs.lemmas.Nat.{leading_length}
use Rattle.xs_lists.specs.Bits.{bits_of}
use Rattle.xs_bits.proofs.Runs.{run_ones, run_zero, run_within, zeros_after}
use Rattle.xs_bits.proofs.numbers.leading_run.Goals as goal

pub returns-clause-most : goal.returns-clause-most
returns-clause-most c =
    let word = c.args.window * 2 ^ 7 % 2 ^ 64 in
    let rest = leading_length 64 (2 ^ 64 - 1 - word) (omega arith) in
    let many : 127 ≤ 2 ^ 64 - 1 - word = omega arith in
    omega (arith, rest.1, c.leading_ones.ensures, run_within rest.0 _ many rest.2)

pub returns-clause-ones : goal.returns-clause-ones
returns-clause-ones c = λ k inside.
    let word = c.args.window * 2 ^ 7 % 2 ^ 64 in
    let same : word ≡ c.args.window * 2 ^ 7 = omega (arith, c.requires) in
    let rest = leading_length 64 (2 ^ 64 - 1 - word) (omega arith) in
    let sum : c.leading_ones.result + rest.0 ≡ 64 = omega (arith, rest.1, c.leading_ones.ensures) in
    let within : k < 57 = omega (arith, inside, returns-clause-most c) in
    sym (ap (λ n. get_or (bits_of 64 n) k 0) same ∙ zeros_after c.args.window k within) ∙ run_ones 64 rest.0 c.leading_ones.result word sum (omega arith) rest.2 k inside

pub returns-clause-zero : goal.returns-clause-zero
returns-clause-zero c = λ inside.
    let word = c.args.window * 2 ^ 7 % 2 ^ 64 in
    let same : word ≡ c.args.window * 2 ^ 7 = omega (arith, c.requires) in
    let rest = leading_length 64 (2 ^ 64 - 1 - word) (omega arith) in
    let sum : c.leading_ones.result + rest.0 ≡ 64 = omega (arith, rest.1, c.leading_ones.ensures) in
    let within : c.leading_ones.result < 64 = omega (arith, inside) in
    sym (ap (λ n. get_or (bits_of 64 n) c.leading_ones.result 0) same ∙ zeros_after c.args.window c.leading_ones.result inside)
    ∙ run_zero 64 rest.0 c.leading_ones.result word sum (omega arith) rest.2 rest.3 within
