use Rattle.std.proofs.Common.{ℕ, replicate, length, take, ap, ◌++◌, ◌+◌, ◌-◌, ◌≤◌, ◌∙◌, arith}
use Rattle.std.proofs.lemmas.List.{take_rest}
use Rattle.xs_lists.specs.Bits.{bits_of_bytes}
use Rattle.xs_bits.proofs.Windows.{filled_up, long_enough}
use Rattle.xs_bits.proofs.window.number_at.Goals as goal

pub returns-then-bytes-at-lt-AROUND : goal.returns-then-bytes-at-lt-AROUND
returns-then-bytes-at-lt-AROUND c =
    let few : length c.args.bytes.now - c.args.at ≤ 8 = omega (arith, c.if-bytes-at-lt-AROUND.true) in
    c.number_of.ensures ∙ ap bits_of_bytes (c.filled_bytes.ensures ∙ ap (λ l. l ++ replicate {A = ℕ} (8 - length l) 0) (take_rest c.args.bytes.now c.args.at) ∙ filled_up c.args.bytes.now c.args.at 8 c.requires.there few)

pub returns-else-bytes-at-lt-AROUND : goal.returns-else-bytes-at-lt-AROUND
returns-else-bytes-at-lt-AROUND c =
    let there : c.args.at + 8 ≤ length c.args.bytes.now = omega (arith, c.requires.there, c.if-bytes-at-lt-AROUND.false) in
    c.number_of-else-bytes-at-lt-AROUND.ensures ∙ ap bits_of_bytes (c.first_bytes.ensures ∙ ap (take 8) (take_rest c.args.bytes.now c.args.at) ∙ long_enough c.args.bytes.now (replicate {A = ℕ} 8 0) c.args.at 8 there)
