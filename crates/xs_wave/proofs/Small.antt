-- A plane is small where what it shows is small.
use Rattle.std.proofs.Common.{◌≡◌, ℕ, ◌<◌, ◌≤◌, List, [], length, ℤ, pos, get_or, arith, ap, ◌∙◌, inl, inr}
use Rattle.std.proofs.lemmas.Bool.{cases_lt}
use Rattle.std.proofs.lemmas.Int.{ints}
use Rattle.std.proofs.lemmas.List.{get_or_past}
use Rattle.xs_signal.specs.Lines.{entries_of, IsBelow}
use Rattle.xs_wave.specs.Within.{SameWithin}
use Rattle.xs_wave.specs.Planes.{plane_of, HasSize, IsSmall}
use Rattle.xs_wave.proofs.Shown.{below_more}
use Rattle.xs_wave.proofs.Values.{below_same}

pub zero_below : (b : ℕ) (z : ℤ) → 0 < b → z ≡ pos 0 → IsBelow b z
zero_below b z some none = record { least = omega (arith, ints, none, some); most = omega (arith, ints, none, some) }

pub plane_small : (b c width height : ℕ) (rows : List (List ℤ)) (f : ℕ → ℕ → ℤ) → 0 < c → b ≤ c → HasSize width height rows → SameWithin width height (plane_of rows) f
    → ((row column : ℕ) → IsBelow b (f row column)) → IsSmall c rows
plane_small b c width height rows f some more size same small row column =
    elim (cases_lt row height) [
      | inl inside ↦ elim (cases_lt column width) [
        | inl within ↦ below_more b c _ more (below_same b _ _ (same row column inside within) (small row column))
        | inr past ↦
            let wide : length (get_or rows row []) ≡ width = size.wide row (omega (arith, inside, size.high)) in
            zero_below c _ some (get_or_past (get_or rows row []) column (pos 0) (omega (arith, wide, past)))
      ]
      | inr past ↦ zero_below c _ some (ap (λ r. entries_of r column) (get_or_past rows row [] (omega (arith, past, size.high))) ∙ get_or_past [] column (pos 0) (omega arith))
    ]

pub plane_more : (b c : ℕ) (rows : List (List ℤ)) → b ≤ c → IsSmall b rows → IsSmall c rows
plane_more b c rows more small row column = below_more b c _ more (small row column)
