use Rattle.std.proofs.Common.{ℕ, length, get_or, ap, sym, ◌+◌, ◌*◌, ◌≡◌, ◌<◌, ◌≤◌, ◌∙◌, arith}
use Rattle.std.proofs.lemmas.List.{get_or_past}
use Rattle.xs_lists.specs.Bits.{bits_of_bytes}
use Rattle.xs_lists.proofs.Bits.{length-bits_of_bytes}
use Rattle.xs_bits.proofs.Windows.{window_index}
use Rattle.xs_bits.proofs.Runs.{more_ones, ones_within}
use Rattle.xs_bits.proofs.window.ones_at.Goals as goal

pub counting-preserved : goal.counting-preserved
counting-preserved c =
    let bits = bits_of_bytes c.args.bytes.now in
    let place = c.args.place in
    let count : ℕ = c.counting.count in
    let run : ℕ = c.leading_run-run.result in
    let size : length bits ≡ 8 * length c.args.bytes.now = length-bits_of_bytes c.args.bytes.now in
    let more : (k : ℕ) → k < run → get_or bits (place + count + k) 0 ≡ 1 = λ k inside.
    let below : k < 57 = omega (arith, inside, c.leading_run-run.ensures.most) in
    sym (window_index c.args.bytes.now (place + count) c.window_at.result k c.window_at.ensures.bits below) ∙ c.leading_run-run.ensures.ones k inside in
    let ones : (k : ℕ) → k < count + run → get_or bits (place + k) 0 ≡ 1 = more_ones bits place count run c.counting.invariant.ones more in
    let there : place ≤ length bits = omega (arith, size, c.requires.there) in
    let within : place + (count + run) ≤ length bits = ones_within bits place (count + run) there ones in
    record { within = omega (arith, size, within); ones = ones }

pub returns-then-run-lt-WINDOW-clause-ones : goal.returns-then-run-lt-WINDOW-clause-ones
returns-then-run-lt-WINDOW-clause-ones c =
    let bits = bits_of_bytes c.args.bytes.now in
    more_ones bits c.args.place c.counting.count c.leading_run-run.result c.counting.invariant.ones (λ k inside.
    let below : k < 57 = omega (arith, inside, c.leading_run-run.ensures.most) in
    sym (window_index c.args.bytes.now (c.args.place + c.counting.count) c.window_at.result k c.window_at.ensures.bits below) ∙ c.leading_run-run.ensures.ones k inside)

pub returns-then-run-lt-WINDOW-clause-within : goal.returns-then-run-lt-WINDOW-clause-within
returns-then-run-lt-WINDOW-clause-within c =
    let bits = bits_of_bytes c.args.bytes.now in
    let size : length bits ≡ 8 * length c.args.bytes.now = length-bits_of_bytes c.args.bytes.now in
    let there : c.args.place ≤ length bits = omega (arith, size, c.requires.there) in
    let within : c.args.place + (c.counting.count + c.leading_run-run.result) ≤ length bits = ones_within bits c.args.place (c.counting.count + c.leading_run-run.result) there (returns-then-run-lt-WINDOW-clause-ones c) in
    omega (arith, size, within)

pub returns-then-run-lt-WINDOW-clause-stops : goal.returns-then-run-lt-WINDOW-clause-stops
returns-then-run-lt-WINDOW-clause-stops c =
    let bits = bits_of_bytes c.args.bytes.now in
    let at : c.args.place + (c.counting.count + c.leading_run-run.result) ≡ c.args.place + c.counting.count + c.leading_run-run.result = omega arith in
    ap (λ i. get_or bits i 0) at ∙ sym (window_index c.args.bytes.now (c.args.place + c.counting.count) c.window_at.result c.leading_run-run.result c.window_at.ensures.bits c.if-run-lt-WINDOW.true)
    ∙ c.leading_run-run.ensures.zero c.if-run-lt-WINDOW.true

pub returns-clause-stops : goal.returns-clause-stops
returns-clause-stops c =
    let bits = bits_of_bytes c.args.bytes.now in
    let past : length bits ≤ c.args.place + c.counting.count = omega (arith, length-bits_of_bytes c.args.bytes.now, c.counting-test.false) in
    get_or_past bits (c.args.place + c.counting.count) 0 past
