use Rattle.std.proofs.Common.{ℕ, ◌∷◌, ◌++◌, replicate, drop, length, get_or, ap, ◌+◌, ◌-◌, ◌*◌, ◌≡◌, ◌<◌, ◌≤◌, ◌∙◌, arith, sym}
use Rattle.std.proofs.lemmas.Bool.{leb-true}
use Rattle.std.proofs.lemmas.List.{drop-drop}
use Rattle.xs_lists.specs.Bits.{bits_of_bytes}
use Rattle.xs_lists.proofs.Bits.{length-bits_of_bytes}
use Rattle.xs_bits.specs.Reading.{BitReading, left}
use Rattle.xs_bits.proofs.Windows.{length-left, window_of_left}
use Rattle.xs_bits.proofs.Runs.{ones_first, ones_ended, ones_to_end}
use Rattle.xs_bits.proofs.reader.BitReader.ones.Goals as goal

pub invariant_of-self : goal.invariant_of-self
invariant_of-self c =
    let size : 8 * length c.self.inside.bytes.now - c.self.inside.place ≡ length (left c.args.self.now) = sym (length-left c.self.inside.bytes.now c.self.inside.place) ∙ ap (λ (r : BitReading). length (left r)) c.self.view_is in
    let enough : c.leading_run-run.result + 1 ≤ length (left c.args.self.now) = leb-true (c.leading_run-run.result + 1) _ (sym c.has.ensures ∙ c.if-has.true) in
    (c.self.invariant.0, omega (arith, size, enough, c.self.invariant.1))

pub returns-then-has-clause-value : goal.returns-then-has-clause-value
returns-then-has-clause-value c =
    let run = c.leading_run-run.result in
    let enough : run + 1 ≤ length (left c.args.self.now) = leb-true (run + 1) _ (sym c.has.ensures ∙ c.if-has.true) in
    let window = window_of_left (left c.args.self.now) c.peek.result c.peek.ensures.bits in
    let ones : (k : ℕ) → k < run → get_or (left c.args.self.now) k 0 ≡ 1 = λ k inside.
    let below : k < 57 = omega (arith, inside, c.leading_run-run.ensures.most) in
    sym (window k below) ∙ c.leading_run-run.ensures.ones k inside in
    let zero : get_or (left c.args.self.now) run 0 ≡ 0 = sym (window run c.if-run-lt-WINDOW.true) ∙ c.leading_run-run.ensures.zero c.if-run-lt-WINDOW.true in
    ones_first (left c.args.self.now) run enough ones zero
    ∙ ap (λ l. replicate {A = ℕ} run 1 ++ 0 ∷ l) (ap (λ (r : BitReading). drop (run + 1) (left r)) (sym c.self.view_is) ∙ drop-drop (run + 1) c.self.inside.place (bits_of_bytes c.self.inside.bytes.now))

pub invariant_of-self-2 : goal.invariant_of-self-2
invariant_of-self-2 c =
    let size : 8 * length c.self.inside.bytes.now - c.self.inside.place ≡ length (left c.args.self.now) = sym (length-left c.self.inside.bytes.now c.self.inside.place) ∙ ap (λ (r : BitReading). length (left r)) c.self.view_is in
    (c.self.invariant.0, omega (arith, size, c.remaining.ensures, c.if-count-remaining.false, c.ones_at-count.ensures.within, c.self.invariant.1))

pub returns-clause-value : goal.returns-clause-value
returns-clause-value c =
    let bits = bits_of_bytes c.self.inside.bytes.now in
    let size : 8 * length c.self.inside.bytes.now - c.self.inside.place ≡ length (left c.args.self.now) = sym (length-left c.self.inside.bytes.now c.self.inside.place) ∙ ap (λ (r : BitReading). length (left r)) c.self.view_is in
    let within : c.self.inside.place + c.ones_at-count.result < length bits = omega (arith, size, length-bits_of_bytes c.self.inside.bytes.now, c.remaining.ensures, c.if-count-remaining.false, c.ones_at-count.ensures.within, c.self.invariant.1) in
    ap left (sym c.self.view_is) ∙ ones_ended bits c.self.inside.place c.ones_at-count.result within c.ones_at-count.ensures.ones c.ones_at-count.ensures.stops

pub returns-then-count-remaining-clause-ended : goal.returns-then-count-remaining-clause-ended
returns-then-count-remaining-clause-ended c =
    let bits = bits_of_bytes c.self.inside.bytes.now in
    let size : 8 * length c.self.inside.bytes.now - c.self.inside.place ≡ length (left c.args.self.now) = sym (length-left c.self.inside.bytes.now c.self.inside.place) ∙ ap (λ (r : BitReading). length (left r)) c.self.view_is in
    let count : c.ones_at-count.result ≡ length (left c.args.self.now) = c.if-count-remaining.true ∙ c.remaining.ensures in
    let all : c.self.inside.place + c.ones_at-count.result ≡ length bits = omega (arith, size, count, length-bits_of_bytes c.self.inside.bytes.now, c.self.invariant.1) in
    ap left (sym c.self.view_is) ∙ ones_to_end bits c.self.inside.place c.ones_at-count.result all c.ones_at-count.ensures.ones ∙ ap (λ n. replicate {A = ℕ} n 1) count
