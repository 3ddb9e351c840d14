-- Rows of colours are turned entry by entry.
use Rattle.std.proofs.Common.{◌≡◌, ℕ, ◌+◌, ◌^◌, ◌<◌, ◌≤◌, List, length, ℤ, pos, ◌+ℤ◌, ◌*ℤ◌, ap, sym, ◌∙◌, arith, inl, inr, get_or-set_other, w32, to_z, of_z}
use Rattle.std.proofs.lemmas.Bool.{cases_eq}
use Rattle.std.proofs.lemmas.Grind.{get_or-set_at}
use Rattle.std.proofs.lemmas.Int.{ints}
use Rattle.std.proofs.Math.ListN.{set}
use Rattle.xs_signal.specs.Colour.{rct, unrct}
use Rattle.xs_signal.specs.Lines.{IsBelow, entries_of}
use Rattle.xs_signal.proofs.Floors.{quarter_low, quarter_high}

-- a number that was passed
abbrev pub passed : ℤ → ℤ
passed z = to_z w32 (of_z w32 z)

pub passed_same : (y z : ℤ) → y ≡ z → IsBelow (2 ^ 28) z → passed y ≡ z
passed_same y z e small = omega (arith, ints, e, small.least, small.most)

-- three small numbers are turned into three that are kept whole
pub record IsKept (t u : ℤ × ℤ × ℤ) : Type 0 where
  pub first : passed t.0 ≡ u.0
  pub second : passed t.1 ≡ u.1
  pub third : passed t.2 ≡ u.2

pub turned_kept : (r g b x y z : ℤ) (t : ℤ × ℤ × ℤ) → IsBelow (2 ^ 28) r → IsBelow (2 ^ 28) g → IsBelow (2 ^ 28) b → x ≡ r → y ≡ g → z ≡ b → t ≡ rct x y z → IsKept t (rct r g b)
turned_kept r g b x y z t red green blue is_r is_g is_b is =
    let same : t ≡ rct r g b = is ∙ ap (λ k. rct k y z) is_r ∙ ap (λ k. rct r k z) is_g ∙ ap (λ k. rct r g k) is_b in
    let sum = r +ℤ pos 2 *ℤ g +ℤ b in
    let luma = ap (λ k. k.0) same in
    let first = ap (λ k. k.1) same in
    let second = ap (λ k. k.2) same in
    record {
      first = omega (arith, ints, luma, quarter_low sum, quarter_high sum, red.least, red.most, green.least, green.most, blue.least, blue.most);
      second = omega (arith, ints, first, green.least, green.most, blue.least, blue.most);
      third = omega (arith, ints, second, red.least, red.most, green.least, green.most);
    }

pub turned_back_kept : (y u v k l m : ℤ) (t : ℤ × ℤ × ℤ) → IsBelow (2 ^ 28) y → IsBelow (2 ^ 28) u → IsBelow (2 ^ 28) v → k ≡ y → l ≡ u → m ≡ v → t ≡ unrct k l m → IsKept t (unrct y u v)
turned_back_kept y u v k l m t luma first second is_y is_u is_v is =
    let same : t ≡ unrct y u v = is ∙ ap (λ x. unrct x l m) is_y ∙ ap (λ x. unrct y x m) is_u ∙ ap (λ x. unrct y u x) is_v in
    let sum = u +ℤ v in
    let red = ap (λ x. x.0) same in
    let green = ap (λ x. x.1) same in
    let blue = ap (λ x. x.2) same in
    record {
      first = omega (arith, ints, red, quarter_low sum, quarter_high sum, luma.least, luma.most, first.least, first.most, second.least, second.most);
      second = omega (arith, ints, green, quarter_low sum, quarter_high sum, luma.least, luma.most, first.least, first.most, second.least, second.most);
      third = omega (arith, ints, blue, quarter_low sum, quarter_high sum, luma.least, luma.most, first.least, first.most, second.least, second.most);
    }

-- one more entry is written
pub entry_more : (xs : List ℤ) (line : ℕ → ℤ) (k : ℕ) (v : ℤ) → k < length xs → v ≡ line k → ((j : ℕ) → j < k → entries_of xs j ≡ line j) → (j : ℕ) → j < k + 1 → entries_of (set xs k v) j ≡ line j
entry_more xs line k v inside new old j below =
    elim (cases_eq j k) [
      | inl same ↦ get_or-set_at xs k j v (pos 0) same inside ∙ new ∙ ap line (sym same)
      | inr other ↦ let less : j < k = omega (arith, below, other) in get_or-set_other xs k j v (pos 0) other ∙ old j less
    ]

-- and those after it are as they were
pub entry_later : (xs old : List ℤ) (k : ℕ) (v : ℤ) → ((j : ℕ) → k ≤ j → entries_of xs j ≡ entries_of old j) → (j : ℕ) → k + 1 ≤ j → entries_of (set xs k v) j ≡ entries_of old j
entry_later xs old k v same j past = get_or-set_other xs k j v (pos 0) (λ e. omega (arith, past, e)) ∙ same j (omega (arith, past))
