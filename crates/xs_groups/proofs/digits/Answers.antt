use Rattle.std.proofs.Common.{◌≡◌, ◌+◌, ◌-◌, ◌*◌, sym, ◌∙◌, arith}
use Rattle.std.proofs.lemmas.Nat.{leading_length}
use Rattle.std.specs.Int.Count.{count_leading_zeros}
use Rattle.xs_rate.proofs.Digits.{digits-most}
use Rattle.xs_groups.proofs.Planes.{digits_half}
use Rattle.xs_groups.proofs.digits.Goals as goal

pub returns : goal.returns
returns c =
    let m = c.args.magnitude in
    let known = leading_length 32 (2 * m + 1) (omega (arith, c.requires)) in
    let same : 31 - count_leading_zeros 32 (2 * m + 1) ≡ known.0 - 1 = omega (arith, known.1) in
    let digits = same ∙ sym (digits_half m known.0 c.requires known.2 known.3) in
    record { digits = digits; most = omega (arith, digits, digits-most m) }
