use Rattle.std.proofs.Common.{◌≡◌, ◌-◌, sym, ◌∙◌, arith}
use Rattle.std.proofs.lemmas.Nat.{leading_length}
use Rattle.std.specs.Int.Count.{count_leading_zeros}
use Rattle.xs_rate.proofs.Digits.{digits-most}
use Rattle.xs_groups.proofs.Planes.{digits_is}
use Rattle.xs_sizes.proofs.signs.digits.Goals as goal

pub returns : goal.returns
returns c =
    let m = c.args.magnitude in
    let known = leading_length 32 m (omega (arith, c.requires)) in
    let same : 32 - count_leading_zeros 32 m ≡ known.0 = omega (arith, known.1) in
    let digits = same ∙ sym (digits_is m known.0 c.requires known.2 known.3) in
    record { digits = digits; most = omega (arith, digits, digits-most m) }
