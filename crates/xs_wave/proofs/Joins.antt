-- A plane is joined level by level.
use Rattle.std.proofs.Common.{◌≡◌, ℕ, zero, suc, ◌+◌, ◌-◌, ◌*◌, ◌/◌, ◌%◌, ◌^◌, ◌<◌, ◌≤◌, min, List, [], get_or, ℤ, refl, ap, sym, subst, ◌∙◌, arith, inl, inr, Bool, true, false, nat_lt}
use Rattle.std.specs.Prelude.{if◌then◌else◌}
use Rattle.std.proofs.Math.Nat.{pow-suc}
use Rattle.std.proofs.lemmas.Bool.{cases_eq, cases_lt, lt-ltb, le-ltb, ltb-true, ltb-false}
use Rattle.xs_layout.specs.Geometry.{BandType, ll, hl, lh, hh}
use Rattle.xs_signal.specs.Lines.{IsBelow, AllBelow, column_of}
use Rattle.xs_signal.specs.Wavelet.{Split, Bands, band_plane, low_count, high_count, low_count_at, inverse_line, rows_joined, columns_joined, joined, restored, inverse_plane}
use Rattle.xs_signal.specs.Stripe.{IsSplit, rows_at}
use Rattle.xs_wave.specs.Within.{SameWithin, SameBandsWithin}
use Rattle.xs_signal.proofs.LineLaws.{at_even, at_odd, even_below, odd_below}
use Rattle.xs_wave.proofs.WithinLaws.{transforms_within, rows_deep, rows_kept, inverse_within, step_within}
use Rattle.xs_wave.specs.Planes.{plane_of, HasSize, IsSmall}
use Rattle.xs_wave.specs.Corners.{drawn, rows_by, part_at}
use Rattle.xs_wave.specs.Bands.{IsComponent, type_at, columns_in, rows_in, HasBandSize, ShowsBand, AreBandPlanes, ShowBands, first_number, bands_in}
use Rattle.xs_wave.specs.Steps.{four_joined, IsLevelJoined, half_reach, steps_to, IsJoinedTo}
use Rattle.xs_wave.proofs.Shown.{below_more}
use Rattle.xs_wave.proofs.Small.{plane_small}
use Rattle.xs_wave.proofs.Splits.{same_trans, high_columns, low_columns, rows_wide}
use Rattle.xs_wave.proofs.Corners.{drawn_size, drawn_same, rows_by_one}
use Rattle.xs_wave.proofs.Types.{first_type, wide_type, deep_type, first_next, room_wide, room_deep, all_counted}

-- ---- small numbers

pub inverse_below : (a n : ℕ) (low high : ℕ → ℤ) → AllBelow (2 * a) low → AllBelow (2 * a) high → AllBelow (5 * a) (inverse_line n low high)
inverse_below a n low high lows highs k =
    elim (cases_eq (k % 2) 0) [
      | inl e ↦ subst (IsBelow (5 * a)) (sym (at_even n low high k e)) (below_more (3 * a) (5 * a) _ (omega arith) (even_below a n low high lows highs (k / 2)))
      | inr ne ↦ let one : k % 2 ≡ 1 = omega (arith, ne) in subst (IsBelow (5 * a)) (sym (at_odd n low high k one)) (odd_below a n low high lows highs (k / 2))
    ]

abbrev pub IsLow : ℕ → (ℕ → ℕ → ℤ) → Type 0
IsLow b p = (row column : ℕ) → IsBelow b (p row column)

half_next : (steps : ℕ) → steps < 39 → 5 * half_reach steps ≡ 2 * half_reach (suc steps)
half_next steps inside =
    let next : 39 - steps ≡ suc (39 - suc steps) = omega (arith, inside) in
    let two : 2 ^ (39 - steps) ≡ 2 ^ (39 - suc steps) * 2 = ap (λ k. 2 ^ k) next ∙ pow-suc 2 (39 - suc steps) in
    let five : 5 ^ suc steps ≡ 5 ^ steps * 5 = pow-suc 5 steps in
    let left = ap (λ x. 5 ^ steps * x) two in
    let right = ap (λ x. x * 2 ^ (39 - suc steps)) five in
    omega (arith, left, right)

pub half_least : (steps : ℕ) → steps ≤ 39 → 2 ^ 40 ≤ 2 * half_reach steps
half_least zero inside = omega arith
half_least (suc steps) inside = omega (arith, half_next steps (omega (arith, inside)), half_least steps (omega (arith, inside)))

pub half_most : (steps : ℕ) → steps ≤ 5 → 2 * half_reach steps ≤ 2 ^ 48
half_most zero inside = omega arith
half_most (suc zero) inside = omega arith
half_most (suc (suc zero)) inside = omega arith
half_most (suc (suc (suc zero))) inside = omega arith
half_most (suc (suc (suc (suc zero)))) inside = omega arith
half_most (suc (suc (suc (suc (suc zero))))) inside = omega arith
half_most (suc (suc (suc (suc (suc (suc n)))))) inside = absurd (omega (arith, inside))

rows_low_enough : (s : Split) (level steps : ℕ) (p u : ℕ → ℕ → ℤ) → steps < 39 → IsLow (2 * half_reach steps) p → IsLow (2 * half_reach steps) u → IsLow (2 * half_reach (suc steps)) (rows_joined s level p u)
rows_low_enough s level steps p u inside lp lu row column =
    subst (λ b. IsBelow b (rows_joined s level p u row column)) (half_next steps inside) (inverse_below (half_reach steps) (low_count_at s.width level) (p row) (u row) (lp row) (lu row) column)

columns_low_enough : (s : Split) (level steps : ℕ) (p u : ℕ → ℕ → ℤ) → steps < 39 → IsLow (2 * half_reach steps) p → IsLow (2 * half_reach steps) u
    → IsLow (2 * half_reach (suc steps)) (columns_joined s level p u)
columns_low_enough s level steps p u inside lp lu row column =
    subst (λ b. IsBelow b (columns_joined s level p u row column)) (half_next steps inside)
    (inverse_below (half_reach steps) (low_count_at s.height level) (column_of p column) (column_of u column) (λ k. lp k column) (λ k. lu k column) row)

abbrev pub ArePlanesLow : List (List (List ℤ)) → Type 0
ArePlanesLow planes = (number : ℕ) → IsSmall (2 ^ 40) (get_or planes number [])

plane_low : (planes : List (List (List ℤ))) (number steps : ℕ) → steps ≤ 39 → ArePlanesLow planes → IsLow (2 * half_reach steps) (plane_of (get_or planes number []))
plane_low planes number steps inside lows row column = below_more (2 ^ 40) (2 * half_reach steps) _ (half_least steps inside) (lows number row column)

-- ---- one level

abbrev stepped : Split → Bands → ℕ → (ℕ → ℕ → ℤ) → Bool → ℕ → ℕ → ℤ
stepped s b level p deep =
    if deep then columns_joined s level (rows_joined s level p (b.hl (level + 1))) (rows_joined s level (b.lh (level + 1)) (b.hh (level + 1))) else rows_joined s level p (b.hl (level + 1))

pub across_joined : (s : Split) (level : ℕ) (p q : ℕ → ℕ → ℤ) (planes : List (List (List ℤ))) → s.down ≤ level
    → SameWithin (low_count_at s.width level) (rows_at s level) q (λ row. inverse_line (low_count_at s.width level) (p row) (plane_of (get_or planes (first_number s (level + 1)) []) row))
    → IsLevelJoined s level p planes (drawn (low_count_at s.width level) (rows_at s level) q)
across_joined s level p q planes more same =
    let w = low_count_at s.width level in
    let h = rows_at s level in
    record {
      size = drawn_size w h q;
      same = same_trans w h _ _ _ (drawn_same w h q) (subst (λ t. SameWithin w h q (stepped s (bands_in s planes) level p t)) (sym (le-ltb level s.down more)) same);
    }

pub four_within : (width height : ℕ) (p r a b c : ℕ → ℕ → ℤ) → 2 ≤ width → 2 ≤ height → SameWithin (low_count width) (low_count height) p r → SameWithin width height (four_joined width height p a b c) (four_joined width height r a b c)
four_within width height p r a b c two_columns two_rows same row column inside within =
    inverse_within height (λ k. inverse_line width (p k) (a k) column) (λ k. inverse_line width (r k) (a k) column) (λ k. inverse_line width (b k) (c k) column) (λ k. inverse_line width (b k) (c k) column) two_rows
    (λ k less. inverse_within width (p k) (r k) (a k) (a k) two_columns (λ j below. same k j less below) (λ j below. refl) column within) (λ k less. refl) row inside

pub both_joined : (s : Split) (level : ℕ) (p q : ℕ → ℕ → ℤ) (planes : List (List (List ℤ))) → level < s.down
    → SameWithin (low_count_at s.width level) (low_count_at s.height level) q
    (four_joined (low_count_at s.width level) (low_count_at s.height level) p (plane_of (get_or planes (first_number s (level + 1)) [])) (plane_of (get_or planes (first_number s (level + 1) + 1) []))
    (plane_of (get_or planes (first_number s (level + 1) + 2) [])))
    → IsLevelJoined s level p planes (drawn (low_count_at s.width level) (rows_at s level) q)
both_joined s level p q planes less same =
    let w = low_count_at s.width level in
    let h = rows_at s level in
    let tall = rows_deep s level (omega (arith, less)) in
    let all : SameWithin w h q (stepped s (bands_in s planes) level p true) = subst (λ k. SameWithin w k q (stepped s (bands_in s planes) level p true)) (sym tall) same in
    record {
      size = drawn_size w h q;
      same = same_trans w h _ _ _ (drawn_same w h q) (subst (λ t. SameWithin w h q (stepped s (bands_in s planes) level p t)) (sym (lt-ltb level s.down less)) all);
    }

-- the same in the upper left of a plane
pub across_rejoined : (s : Split) (level width height : ℕ) (old new high : List (List ℤ)) (planes : List (List (List ℤ))) → IsSplit s → s.down ≤ level → level < s.across
    → width ≡ low_count_at s.width level → height ≡ rows_at s level → high ≡ get_or planes (first_number s (level + 1)) []
    → SameWithin width height (rows_by 1 (plane_of new)) (λ row. inverse_line width (plane_of old row) (plane_of high row))
    → IsLevelJoined s level (plane_of (part_at s (suc level) old)) planes (part_at s level new)
across_rejoined s level width height old new high planes split more inside columns tall there same =
    let w = low_count_at s.width level in
    let h = rows_at s level in
    let p = plane_of (part_at s (suc level) old) in
    let hl = plane_of (get_or planes (first_number s (level + 1)) []) in
    let kept = rows_kept s level more in
    let here : SameWithin w h (rows_by 1 (plane_of new)) (λ row. inverse_line w (plane_of old row) (hl row)) =
    subst (λ x. SameWithin w h (rows_by 1 (plane_of new)) (λ row. inverse_line w (plane_of old row) (plane_of x row))) there
    (subst (λ k. SameWithin k h (rows_by 1 (plane_of new)) (λ row. inverse_line k (plane_of old row) (plane_of high row))) columns
    (subst (λ k. SameWithin width k (rows_by 1 (plane_of new)) (λ row. inverse_line width (plane_of old row) (plane_of high row))) tall same)) in
    across_joined s level p (plane_of new) planes more
    (λ row column below within.
    sym (rows_by_one w h (plane_of new) row column below within) ∙ here row column below within
    ∙ inverse_within w (plane_of old row) (p row) (hl row) (hl row) (split.wide level inside)
    (λ j less. sym (drawn_same (low_count w) (rows_at s (suc level)) (plane_of old) row j (omega (arith, below, kept)) less)) (λ j less. refl) column within)

pub both_rejoined : (s : Split) (level width height : ℕ) (old new a b c : List (List ℤ)) (planes : List (List (List ℤ))) → IsSplit s → level < s.down
    → width ≡ low_count_at s.width level → height ≡ rows_at s level → a ≡ get_or planes (first_number s (level + 1)) [] → b ≡ get_or planes (first_number s (level + 1) + 1) []
    → c ≡ get_or planes (first_number s (level + 1) + 2) [] → SameWithin width height (plane_of new) (four_joined width height (plane_of old) (plane_of a) (plane_of b) (plane_of c))
    → IsLevelJoined s level (plane_of (part_at s (suc level) old)) planes (part_at s level new)
both_rejoined s level width height old new a b c planes split less columns tall first second third same =
    let w = low_count_at s.width level in
    let h = low_count_at s.height level in
    let f = first_number s (level + 1) in
    let deep = split.deep in
    let p = plane_of (part_at s (suc level) old) in
    let rows = rows_deep s level (omega (arith, less)) in
    let next = rows_deep s (suc level) less in
    let x = get_or planes f [] in
    let y = get_or planes (f + 1) [] in
    let z = get_or planes (f + 2) [] in
    let old_p = plane_of old in
    let q = plane_of new in
    let sized : SameWithin w h q (four_joined w h old_p (plane_of a) (plane_of b) (plane_of c)) =
    subst (λ k. SameWithin k h q (four_joined k h old_p (plane_of a) (plane_of b) (plane_of c))) columns (subst (λ k. SameWithin width k q (four_joined width k old_p (plane_of a) (plane_of b) (plane_of c))) (tall ∙ rows) same) in
    let here : SameWithin w h q (four_joined w h old_p (plane_of x) (plane_of y) (plane_of z)) =
    subst (λ r. SameWithin w h q (four_joined w h old_p (plane_of x) (plane_of y) (plane_of r))) third
    (subst (λ r. SameWithin w h q (four_joined w h old_p (plane_of x) (plane_of r) (plane_of c))) second (subst (λ r. SameWithin w h q (four_joined w h old_p (plane_of r) (plane_of b) (plane_of c))) first sized)) in
    let source : SameWithin (low_count w) (low_count h) old_p p =
    λ row column inside within. sym (drawn_same (low_count w) (rows_at s (suc level)) old_p row column (omega (arith, inside, next)) within) in
    both_joined s level p q planes less (same_trans w h _ _ _ here (four_within w h old_p p (plane_of x) (plane_of y) (plane_of z) (split.wide level (omega (arith, less, deep))) (split.high level less) source))

joined_low : (s : Split) (level steps : ℕ) (p : ℕ → ℕ → ℤ) (planes : List (List (List ℤ))) (deep : Bool) → steps ≤ 30 → ArePlanesLow planes → IsLow (2 * half_reach steps) p
    → IsLow (2 * half_reach (if deep then suc (suc steps) else suc steps)) (stepped s (bands_in s planes) level p deep)
joined_low s level steps p planes true inside lows low =
    let b = bands_in s planes in
    let f = first_number s (level + 1) in
    columns_low_enough s level (suc steps) (rows_joined s level p (b.hl (level + 1))) (rows_joined s level (b.lh (level + 1)) (b.hh (level + 1))) (omega (arith, inside))
    (rows_low_enough s level steps p (b.hl (level + 1)) (omega (arith, inside)) low (plane_low planes f steps (omega (arith, inside)) lows))
    (rows_low_enough s level steps (b.lh (level + 1)) (b.hh (level + 1)) (omega (arith, inside)) (plane_low planes (f + 1) steps (omega (arith, inside)) lows) (plane_low planes (f + 2) steps (omega (arith, inside)) lows))
joined_low s level steps p planes false inside lows low =
    let b = bands_in s planes in
    rows_low_enough s level steps p (b.hl (level + 1)) (omega (arith, inside)) low (plane_low planes (first_number s (level + 1)) steps (omega (arith, inside)) lows)

steps_next : (s : Split) (level : ℕ) (deep : Bool) → nat_lt level s.down ≡ deep → level < s.across → (if deep then suc (suc (steps_to s (suc level))) else suc (steps_to s (suc level))) ≡ steps_to s level
steps_next s level true is inside = let less = ltb-true level s.down is in omega (arith, less, inside)
steps_next s level false is inside = let more = ltb-false level s.down is in omega (arith, more, inside)

pub steps_few : (s : Split) (level : ℕ) → IsComponent s → level < s.across → steps_to s (suc level) ≤ 5
steps_few s level c inside = let few = c.few in let two = c.two in omega (arith, few, two, inside)

same_bands : (s : Split) (b : Bands) → SameBandsWithin s b b
same_bands s b = record {
  ll = λ row column inside within. refl;
  hl = λ level less row column inside within. refl;
  lh = λ level less row column inside within. refl;
  hh = λ level less row column inside within. refl;
}

pub join_more : (s : Split) (planes : List (List (List ℤ))) (level : ℕ) (part next : List (List ℤ)) → IsComponent s → IsSplit s → level < s.across → ArePlanesLow planes → IsJoinedTo s planes (suc level) part
    → IsLevelJoined s level (plane_of part) planes next → IsJoinedTo s planes level next
join_more s planes level part next component split inside lows before step =
    let w = low_count_at s.width level in
    let b = bands_in s planes in
    let p = plane_of part in
    let rest = restored s b (s.across - suc level) in
    let more : s.across - level ≡ suc (s.across - suc level) = omega (arith, inside) in
    let here : s.across - suc (s.across - suc level) ≡ level = omega (arith, inside) in
    let again : restored s b (s.across - level) ≡ joined s b level rest = ap (restored s b) more ∙ ap (λ l. joined s b l rest) here in
    let steps = steps_to s (suc level) in
    let few = steps_few s level component inside in
    let low = joined_low s level steps p planes (nat_lt level s.down) (omega (arith, few)) lows before.small in
    let reach = ap half_reach (steps_next s level (nat_lt level s.down) refl inside) in
    let known : IsLow (2 * half_reach (steps_to s level)) (joined s b level p) = subst (λ r. IsLow (2 * r) (joined s b level p)) reach low in
    let least = half_least (steps_to s level) (steps_most s level component) in
    record {
      size = step.size;
      same = same_trans w (rows_at s level) _ _ _ step.same
          (subst (λ q. SameWithin w (rows_at s level) (joined s b level p) q) (sym again) (step_within s b b level p rest split (same_bands s b) inside before.same));
      small = plane_small (2 * half_reach (steps_to s level)) (2 * half_reach (steps_to s level)) w (rows_at s level) next (joined s b level p) (omega (arith, least)) (omega arith) step.size step.same known;
    }
  where
    steps_most : (s : Split) (level : ℕ) → IsComponent s → steps_to s level ≤ 39
    steps_most s level c = let few = c.few in let two = c.two in omega (arith, few, two)

-- ---- from the last level to the plane

shown_as : (s : Split) (planes : List (List (List ℤ))) (c : Bands) (number : ℕ) (t : BandType) (width height : ℕ) (q : ℕ → ℕ → ℤ) → type_at s number ≡ t → columns_in s t ≡ width → rows_in s t ≡ height → band_plane c t ≡ q
    → ShowsBand s planes c number → SameWithin width height (plane_of (get_or planes number [])) q
shown_as s planes c number t width height q et ew eh eq shown =
    let p = plane_of (get_or planes number []) in
    subst (λ r. SameWithin width height p r) eq
    (subst (λ h. SameWithin width h p (band_plane c t)) eh (subst (λ w. SameWithin w (rows_in s t) p (band_plane c t)) ew (subst (λ u. SameWithin (columns_in s u) (rows_in s u) p (band_plane c u)) et shown)))

hl_within : (s : Split) (planes : List (List (List ℤ))) (c : Bands) → s.down ≤ s.across → ShowBands s planes c → (level : ℕ) → level < s.across
    → SameWithin (high_count (low_count_at s.width level)) (rows_at s (level + 1)) ((bands_in s planes).hl (level + 1)) (c.hl (level + 1))
hl_within s planes c deep shown level inside =
    let f = first_number s (level + 1) in
    let number = first_next s level in
    let next : suc level ≡ level + 1 = omega arith in
    let rows : rows_at s (suc level) ≡ rows_at s (level + 1) = ap (rows_at s) next in
    elim (cases_lt level s.down) [
      | inl less ↦
          let none : f + 0 ≡ f = omega arith in
          let zeroth : first_number s (suc level) + 0 ≡ first_number s (suc level) = omega arith in
          let type : type_at s f ≡ hl (suc level) (suc level) = ap (type_at s) (number ∙ sym zeroth) ∙ deep_type s level 0 deep less (omega arith) in
          shown_as s planes c f (hl (suc level) (suc level)) (high_count (low_count_at s.width level)) (rows_at s (level + 1)) (c.hl (level + 1)) type (high_columns s.width level)
          (low_columns s.height (suc level) ∙ sym (rows_deep s (suc level) (omega (arith, less))) ∙ rows) (ap c.hl next) (shown f (omega (arith, number, room_deep s level deep less)))
      | inr more ↦
          let type : type_at s f ≡ hl (suc level) s.down = ap (type_at s) number ∙ wide_type s level more inside in
          shown_as s planes c f (hl (suc level) s.down) (high_count (low_count_at s.width level)) (rows_at s (level + 1)) (c.hl (level + 1)) type (high_columns s.width level)
          (low_columns s.height s.down ∙ sym (rows_wide s (suc level) (omega (arith, more))) ∙ rows) (ap c.hl next) (shown f (omega (arith, number, room_wide s level deep more inside)))
    ]

pub shown_within : (s : Split) (planes : List (List (List ℤ))) (c : Bands) → s.down ≤ s.across → ShowBands s planes c → SameBandsWithin s (bands_in s planes) c
shown_within s planes c deep shown = record {
  ll = shown_as s planes c 0 (ll s.across s.down) (low_count_at s.width s.across) (rows_at s s.across) c.ll (first_type s) (low_columns s.width s.across) (low_columns s.height s.down ∙ sym (rows_wide s s.across deep)) refl
      (shown 0 (omega (arith, all_counted s deep)));
  hl = hl_within s planes c deep shown;
  lh = λ level less.
      let next : suc level ≡ level + 1 = omega arith in
      let number : first_number s (level + 1) + 1 ≡ first_number s (suc level) + 1 = ap (λ k. k + 1) (first_next s level) in
      shown_as s planes c (first_number s (level + 1) + 1) (lh (suc level) (suc level)) (low_count (low_count_at s.width level)) (high_count (low_count_at s.height level)) (c.lh (level + 1))
      (ap (type_at s) number ∙ deep_type s level 1 deep less (omega arith)) (low_columns s.width (suc level)) (high_columns s.height level) (ap c.lh next)
      (shown (first_number s (level + 1) + 1) (omega (arith, number, room_deep s level deep less)));
  hh = λ level less.
      let next : suc level ≡ level + 1 = omega arith in
      let number : first_number s (level + 1) + 2 ≡ first_number s (suc level) + 2 = ap (λ k. k + 2) (first_next s level) in
      shown_as s planes c (first_number s (level + 1) + 2) (hh (suc level) (suc level)) (high_count (low_count_at s.width level)) (high_count (low_count_at s.height level)) (c.hh (level + 1))
      (ap (type_at s) number ∙ deep_type s level 2 deep less (omega arith)) (high_columns s.width level) (high_columns s.height level) (ap c.hh next)
      (shown (first_number s (level + 1) + 2) (omega (arith, number, room_deep s level deep less)));
}

pub join_start : (s : Split) (planes : List (List (List ℤ))) → s.down ≤ s.across → AreBandPlanes s planes → ArePlanesLow planes → IsJoinedTo s planes s.across (get_or planes 0 [])
join_start s planes deep are lows =
    let none : s.across - s.across ≡ 0 = omega arith in
    let part = get_or planes 0 [] in
    let w = low_count_at s.width s.across in
    let first : HasSize (columns_in s (ll s.across s.down)) (rows_in s (ll s.across s.down)) part = are.sizes 0 (omega (arith, all_counted s deep)) in
    let rows : rows_in s (ll s.across s.down) ≡ rows_at s s.across = low_columns s.height s.down ∙ sym (rows_wide s s.across deep) in
    let start : steps_to s s.across ≤ 39 = omega (arith, deep) in
    record {
      size = subst (λ k. HasSize w k part) rows (subst (λ k. HasSize k (rows_in s (ll s.across s.down)) part) (low_columns s.width s.across) first);
      same = subst (λ k. SameWithin w (rows_at s s.across) (plane_of part) (restored s (bands_in s planes) k)) (sym none) (λ row column inside within. refl);
      small = λ row column. below_more (2 ^ 40) (2 * half_reach (steps_to s s.across)) _ (half_least (steps_to s s.across) start) (lows 0 row column);
    }

pub join_size : (s : Split) (planes : List (List (List ℤ))) (part : List (List ℤ)) → IsJoinedTo s planes 0 part → HasSize s.width s.height part
join_size s planes part done = let none : min 0 s.down ≡ 0 = omega arith in subst (λ h. HasSize s.width h part) (ap (low_count_at s.height) none) done.size

pub join_done : (s : Split) (planes : List (List (List ℤ))) (part : List (List ℤ)) (c : Bands) → s.down ≤ s.across → IsSplit s → IsJoinedTo s planes 0 part → ShowBands s planes c
    → SameWithin s.width s.height (plane_of part) (inverse_plane s c)
join_done s planes part c deep split done shown =
    let none : min 0 s.down ≡ 0 = omega arith in
    let all : s.across - 0 ≡ s.across = omega arith in
    let b = bands_in s planes in
    let plane : SameWithin s.width s.height (plane_of part) (inverse_plane s b) =
    subst (λ k. SameWithin s.width s.height (plane_of part) (restored s b k)) all (subst (λ h. SameWithin s.width h (plane_of part) (restored s b (s.across - 0))) (ap (low_count_at s.height) none) done.same) in
    same_trans s.width s.height _ _ _ plane (transforms_within.joined s b c split (shown_within s planes c deep shown))

-- ---- the sizes of a level's planes

size_as : (s : Split) (planes : List (List (List ℤ))) (number : ℕ) (t : BandType) (width height : ℕ) → type_at s number ≡ t → columns_in s t ≡ width → rows_in s t ≡ height → HasBandSize s planes number
    → HasSize width height (get_or planes number [])
size_as s planes number t width height et ew eh size =
    let x = get_or planes number [] in
    subst (λ h. HasSize width h x) eh (subst (λ w. HasSize w (rows_in s t) x) ew (subst (λ u. HasSize (columns_in s u) (rows_in s u) x) et size))

pub hl_across : (s : Split) (planes : List (List (List ℤ))) (level : ℕ) → s.down ≤ s.across → AreBandPlanes s planes → s.down ≤ level → level < s.across
    → HasSize (high_count (low_count_at s.width level)) (rows_at s level) (get_or planes (first_number s (level + 1)) [])
hl_across s planes level deep are more inside =
    let f = first_number s (level + 1) in
    let number = first_next s level in
    size_as s planes f (hl (suc level) s.down) (high_count (low_count_at s.width level)) (rows_at s level) (ap (type_at s) number ∙ wide_type s level more inside) (high_columns s.width level)
    (low_columns s.height s.down ∙ sym (rows_wide s level more)) (are.sizes f (omega (arith, number, room_wide s level deep more inside)))

pub hl_both : (s : Split) (planes : List (List (List ℤ))) (level : ℕ) → s.down ≤ s.across → AreBandPlanes s planes → level < s.down
    → HasSize (high_count (low_count_at s.width level)) (low_count (low_count_at s.height level)) (get_or planes (first_number s (level + 1)) [])
hl_both s planes level deep are less =
    let f = first_number s (level + 1) in
    let zeroth : first_number s (level + 1) ≡ first_number s (suc level) + 0 = omega (arith, first_next s level) in
    size_as s planes f (hl (suc level) (suc level)) (high_count (low_count_at s.width level)) (low_count (low_count_at s.height level)) (ap (type_at s) zeroth ∙ deep_type s level 0 deep less (omega arith))
    (high_columns s.width level) (low_columns s.height (suc level)) (are.sizes f (omega (arith, zeroth, room_deep s level deep less)))

pub lh_both : (s : Split) (planes : List (List (List ℤ))) (level : ℕ) → s.down ≤ s.across → AreBandPlanes s planes → level < s.down
    → HasSize (low_count (low_count_at s.width level)) (high_count (low_count_at s.height level)) (get_or planes (first_number s (level + 1) + 1) [])
lh_both s planes level deep are less =
    let f = first_number s (level + 1) + 1 in
    let number : f ≡ first_number s (suc level) + 1 = ap (λ k. k + 1) (first_next s level) in
    size_as s planes f (lh (suc level) (suc level)) (low_count (low_count_at s.width level)) (high_count (low_count_at s.height level)) (ap (type_at s) number ∙ deep_type s level 1 deep less (omega arith))
    (low_columns s.width (suc level)) (high_columns s.height level) (are.sizes f (omega (arith, number, room_deep s level deep less)))

pub hh_both : (s : Split) (planes : List (List (List ℤ))) (level : ℕ) → s.down ≤ s.across → AreBandPlanes s planes → level < s.down
    → HasSize (high_count (low_count_at s.width level)) (high_count (low_count_at s.height level)) (get_or planes (first_number s (level + 1) + 2) [])
hh_both s planes level deep are less =
    let f = first_number s (level + 1) + 2 in
    let number : f ≡ first_number s (suc level) + 2 = ap (λ k. k + 2) (first_next s level) in
    size_as s planes f (hh (suc level) (suc level)) (high_count (low_count_at s.width level)) (high_count (low_count_at s.height level)) (ap (type_at s) number ∙ deep_type s level 2 deep less (omega arith))
    (high_columns s.width level) (high_columns s.height level) (are.sizes f (omega (arith, number, room_deep s level deep less)))
