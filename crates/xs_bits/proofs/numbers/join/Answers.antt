use Rattle.std.proofs.Common.{◌≡◌, ◌*◌, ◌%◌, ◌^◌, ◌<◌, ◌∙◌, ap, subst, arith, inl, inr}
use Rattle.std.proofs.lemmas.Bool.{cases_lt}
use Rattle.std.proofs.lemmas.Nat.{or_shifted}
use Rattle.xs_bits.proofs.numbers.join.Goals as goal

pub returns : goal.returns
returns c = elim (cases_lt c.args.width 64) [
  | inl narrow ↦
      let same : c.args.width % 64 ≡ c.args.width = omega (arith, narrow) in
      let whole : c.args.high * 2 ^ c.args.width % 2 ^ 64 ≡ c.args.high * 2 ^ c.args.width = omega (arith, c.requires.high) in
      let shifted : c.wrapping_shl.result ≡ c.args.high * 2 ^ c.args.width =
      c.wrapping_shl.ensures ∙ ap (λ k. c.args.high * 2 ^ k % 2 ^ 64) same ∙ whole in
      rw shifted (or_shifted _ _ _ c.requires.low)
  | inr wide ↦
      let width : c.args.width ≡ 64 = omega (arith, wide, c.requires.width) in
      let none : c.args.high ≡ 0 = omega (arith, subst (λ k. c.args.high * 2 ^ k < 2 ^ 64) width c.requires.high) in
      let nothing : 0 * 2 ^ (c.args.width % 64) % 2 ^ 64 ≡ 0 * 2 ^ c.args.width = omega arith in
      let shifted : c.wrapping_shl.result ≡ 0 * 2 ^ c.args.width = c.wrapping_shl.ensures ∙ ap (λ n. n * 2 ^ (c.args.width % 64) % 2 ^ 64) none ∙ nothing in
      rw (shifted, none) (or_shifted _ _ _ c.requires.low)
]
