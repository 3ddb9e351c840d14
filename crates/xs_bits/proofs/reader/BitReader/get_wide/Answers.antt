use Rattle.std.proofs.Common.{◌++◌, length, drop, ap, ◌+◌, ◌-◌, ◌*◌, ◌/◌, ◌^◌, refl, ◌<◌, ◌≡◌, ◌≤◌, ◌∙◌, subst, arith, sym}
use Rattle.std.proofs.lemmas.Bool.{leb-true}
use Rattle.std.proofs.lemmas.Nat.{shr_below}
use Rattle.std.proofs.lemmas.List.{drop-drop}
use Rattle.xs_lists.specs.Bits.{bits_of, bits_of_bytes}
use Rattle.xs_bits.specs.Reading.{BitReading, left}
use Rattle.xs_bits.proofs.Windows.{length-left, taken}
use Rattle.xs_bits.proofs.reader.BitReader.get_wide.Goals as goal

pub invariant_of-self : goal.invariant_of-self
invariant_of-self c =
    let size : 8 * length c.self.inside.bytes.now - c.self.inside.place ≡ length (left c.args.self.now) = sym (length-left c.self.inside.bytes.now c.self.inside.place) ∙ ap (λ (r : BitReading). length (left r)) c.self.view_is in
    let enough : c.args.width ≤ length (left c.args.self.now) = leb-true c.args.width _ (sym c.has.ensures ∙ c.if-not-has.false) in
    (c.self.invariant.0, omega (arith, size, enough, c.self.invariant.1))

pub returns-clause-value : goal.returns-clause-value
returns-clause-value c =
    let enough : c.args.width ≤ length (left c.args.self.now) = leb-true c.args.width _ (sym c.has.ensures ∙ c.if-not-has.false) in
    taken (left c.args.self.now) c.args.width c.peek-window.result _ c.requires.width enough c.peek-window.ensures.bits refl
    ∙ ap (λ l. bits_of c.args.width (c.peek-window.result / 2 ^ (57 - c.args.width)) ++ l)
    (ap (λ (r : BitReading). drop c.args.width (left r)) (sym c.self.view_is) ∙ drop-drop c.args.width c.self.inside.place (bits_of_bytes c.self.inside.bytes.now))

pub returns-clause-fits : goal.returns-clause-fits
returns-clause-fits c =
    let sum : 57 ≡ c.args.width + (57 - c.args.width) = omega (arith, c.requires.width) in
    shr_below c.peek-window.result c.args.width (57 - c.args.width) (subst (λ k. c.peek-window.result < 2 ^ k) sum c.peek-window.ensures.fits)
