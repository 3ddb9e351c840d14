use Rattle.std.proofs.Common.{◌+◌, ◌-◌, ◌*◌, ◌/◌, ◌%◌, ◌^◌, ◌≡◌, ap, sym, ◌∙◌, arith}
use Rattle.std.proofs.lemmas.Nat.{field_of, shl-shr, shr-shr}
use Rattle.xs_bits.proofs.numbers.bits_after.Goals as goal

pub returns : goal.returns
returns c =
    let seven : 7 ≡ c.args.skipped + (7 - c.args.skipped) = omega (arith, c.requires) in
    field_of (c.args.number * 2 ^ c.args.skipped) 57 7
    ∙ ap (λ k. c.args.number * 2 ^ c.args.skipped / 2 ^ k % 2 ^ 57) seven
    ∙ ap (λ n. n % 2 ^ 57) (sym (shr-shr (c.args.number * 2 ^ c.args.skipped) c.args.skipped (7 - c.args.skipped)) ∙ ap (λ n. n / 2 ^ (7 - c.args.skipped)) (shl-shr c.args.number c.args.skipped))
