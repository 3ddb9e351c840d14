-- The numbers of a line, before and after colour is turned back.
use Rattle.std.proofs.Common.{◌≡◌, ℕ, zero, suc, ◌-◌, ◌^◌, ◌<◌, List, length, ℤ, ◌+ℤ◌, ap, subst, ◌∙◌, arith}
use Rattle.std.proofs.lemmas.Int.{ints}
use Rattle.xs_params.specs.declared.header.Header.{Header}
use Rattle.xs_params.specs.Geometry.{component_width}
use Rattle.xs_rate.specs.Coefficients.{Rows}
use Rattle.xs_signal.specs.Colour.{unrct}
use Rattle.xs_signal.specs.Lines.{IsBelow, AllBelow, Shows, entries_of}
use Rattle.xs_signal.specs.Picture.{one_of}
use Rattle.xs_signal.specs.Wavelet.{Split, inverse_plane}
use Rattle.xs_signal.proofs.Floors.{quarter_low, quarter_high}
use Rattle.xs_rows.proofs.Shown.{shown_below}
use Rattle.xs_joiner.specs.Chain.{split_of}
use Rattle.xs_joiner.specs.declared.joiner.Joiner.{Joiner}
use Rattle.xs_stripe.specs.Colours.{HaveWidth, colour_row}
use Rattle.xs_stripe.specs.Joined.{IsComponentJoiner, joined_planes, raised_bands}
use Rattle.xs_stripe.specs.Lines.{HoldColours}
use Rattle.xs_stripe.specs.declared.colours.ColourRows.{ColourRows}

-- the line of a component's joiner
pub line_is : (h : Header) (coefficients : Rows) (component first given : ℕ) (joiner : Joiner) (line : List ℤ) → IsComponentJoiner h component first given joiner
    → Shows line (inverse_plane (split_of joiner) (raised_bands h coefficients component) (joiner.given - 1)) → Shows line (joined_planes h coefficients component (given - 1))
line_is h coefficients component first given joiner line is shown =
    subst (λ g. Shows line (joined_planes h coefficients component (g - 1))) is.given_is (subst (λ s. Shows line (inverse_plane s (raised_bands h coefficients component) (joiner.given - 1))) is.split shown)

pub line_wide : (h : Header) (component first given : ℕ) (joiner : Joiner) → IsComponentJoiner h component first given joiner → joiner.width ≡ component_width h component
line_wide h component first given joiner is = ap (λ (s : Split). s.width) is.split

-- ---- colour

turned_below : (component : ℕ) (y u v : ℤ) → IsBelow (2 ^ 27) y → IsBelow (2 ^ 27) u → IsBelow (2 ^ 27) v → IsBelow (2 ^ 29) (one_of (unrct y u v) component)
turned_below zero y u v ys us vs = record {
  least = omega (arith, ints, ys.least, ys.most, us.least, us.most, vs.least, vs.most, quarter_low (u +ℤ v), quarter_high (u +ℤ v));
  most = omega (arith, ints, ys.least, ys.most, us.least, us.most, vs.least, vs.most, quarter_low (u +ℤ v), quarter_high (u +ℤ v));
}
turned_below (suc zero) y u v ys us vs = record {
  least = omega (arith, ints, ys.least, ys.most, us.least, us.most, vs.least, vs.most, quarter_low (u +ℤ v), quarter_high (u +ℤ v));
  most = omega (arith, ints, ys.least, ys.most, us.least, us.most, vs.least, vs.most, quarter_low (u +ℤ v), quarter_high (u +ℤ v));
}
turned_below (suc (suc component)) y u v ys us vs = record {
  least = omega (arith, ints, ys.least, ys.most, us.least, us.most, vs.least, vs.most, quarter_low (u +ℤ v), quarter_high (u +ℤ v));
  most = omega (arith, ints, ys.least, ys.most, us.least, us.most, vs.least, vs.most, quarter_low (u +ℤ v), quarter_high (u +ℤ v));
}

-- three rows hold red, green and blue of three others
pub record AreTurned (y u v : List ℤ) (colours : ColourRows) : Type 0 where
  pub width : HaveWidth (length y) colours
  pub red : Shows colours.red.items (λ k. (unrct (entries_of y k) (entries_of u k) (entries_of v k)).0)
  pub green : Shows colours.green.items (λ k. (unrct (entries_of y k) (entries_of u k) (entries_of v k)).1)
  pub blue : Shows colours.blue.items (λ k. (unrct (entries_of y k) (entries_of u k) (entries_of v k)).2)

turned_row : (component : ℕ) (y u v : List ℤ) (colours : ColourRows) → AreTurned y u v colours → Shows (colour_row colours component) (λ k. one_of (unrct (entries_of y k) (entries_of u k) (entries_of v k)) component)
turned_row zero y u v colours t = t.red
turned_row (suc zero) y u v colours t = t.green
turned_row (suc (suc component)) y u v colours t = t.blue

turned_wide : (component : ℕ) (y u v : List ℤ) (colours : ColourRows) → AreTurned y u v colours → length (colour_row colours component) ≡ length y
turned_wide zero y u v colours t = t.width.red
turned_wide (suc zero) y u v colours t = t.width.green
turned_wide (suc (suc component)) y u v colours t = t.width.blue

pub turned_small : (y u v : List ℤ) (colours : ColourRows) → AreTurned y u v colours → AllBelow (2 ^ 27) (entries_of y) → AllBelow (2 ^ 27) (entries_of u) → AllBelow (2 ^ 27) (entries_of v)
    → (component : ℕ) → AllBelow (2 ^ 29) (entries_of (colour_row colours component))
turned_small y u v colours t ys us vs component =
    shown_below (2 ^ 29) (2 ^ 29) (λ k. k) (colour_row colours component) (λ k. one_of (unrct (entries_of y k) (entries_of u k) (entries_of v k)) component) (omega arith) (omega arith) (turned_row component y u v colours t)
    (λ k. turned_below component (entries_of y k) (entries_of u k) (entries_of v k) (ys k) (us k) (vs k))

pub turned_holds : (h : Header) (coefficients : Rows) (line : ℕ) (y u v : List ℤ) (colours : ColourRows) → AreTurned y u v colours → length u ≡ length y → length v ≡ length y
    → Shows y (joined_planes h coefficients 0 line) → Shows u (joined_planes h coefficients 1 line) → Shows v (joined_planes h coefficients 2 line) → HoldColours h coefficients line colours
turned_holds h coefficients line y u v colours t wide_u wide_v sy su sv component few k inside =
    let here : k < length y = omega (arith, inside, turned_wide component y u v colours t) in
    let p = joined_planes h coefficients in
    turned_row component y u v colours t k inside ∙ ap (λ x. one_of (unrct x (entries_of u k) (entries_of v k)) component) (sy k here)
    ∙ ap (λ x. one_of (unrct (p 0 line k) x (entries_of v k)) component) (su k (omega (arith, here, wide_u))) ∙ ap (λ x. one_of (unrct (p 0 line k) (p 1 line k) x) component) (sv k (omega (arith, here, wide_v)))
