-- What a step leaves behind is small and has the width.
use Rattle.std.proofs.Common.{◌≡◌, ◌+◌, ◌≤◌, ◌^◌, List, length, ℤ, pos, ◌+ℤ◌, ◌-ℤ◌, arith, ap, sym, subst, ◌∙◌}
use Rattle.std.specs.Int.{int_shr}
use Rattle.xs_signal.specs.Lines.{entries_of, Shows, AllBelow}
use Rattle.xs_joiner.specs.Units.{BelowUnits}
use Rattle.xs_joiner.specs.Columns.{IsColumns, IsSameColumns}
use Rattle.xs_joiner.specs.declared.columns.Columns.{Columns}
use Rattle.xs_joiner.proofs.Bounds.{units_below, even_units, odd_units}

-- a state where only some rows are new
pub state_with : (old new : Columns) → IsColumns old → IsSameColumns old new → length new.even ≡ old.width → length new.odd ≡ old.width → length new.high ≡ old.width → length new.spare ≡ old.width
    → BelowUnits (old.reach + 11) (entries_of new.even) → BelowUnits (old.reach + 21) (entries_of new.odd) → BelowUnits 10 (entries_of new.high) → IsColumns new
state_with old new s same we wo wh ws even odd high =
    let w = same.width in
    let r = same.reach in
    record {
      two = subst (λ k. 2 ≤ k) (sym w) s.two;
      few = subst (λ k. k ≤ 43) (sym r) s.few;
      even_width = we ∙ sym w;
      odd_width = wo ∙ sym w;
      high_width = wh ∙ sym w;
      spare_width = ws ∙ sym w;
      even = subst (λ k. BelowUnits (k + 11) (entries_of new.even)) (sym r) even;
      odd = subst (λ k. BelowUnits (k + 21) (entries_of new.odd)) (sym r) odd;
      high = high;
    }

pub even_fits : (old : Columns) (row above below new : List ℤ) → IsColumns old → BelowUnits (old.reach + 6) (entries_of row) → BelowUnits 10 (entries_of above) → BelowUnits 10 (entries_of below)
    → Shows new (λ j. entries_of row j -ℤ int_shr (entries_of above j +ℤ entries_of below j +ℤ pos 2) 2) → AllBelow (2 ^ 29) (entries_of new)
even_fits old row above below new s small sa sb shown =
    let few = s.few in
    units_below (old.reach + 11) (2 ^ 29) (entries_of new) (omega (arith, few)) (even_units old.reach row above below new small sa sb shown)

pub lifted_state : (old new : Columns) (row : List ℤ) → IsColumns old → BelowUnits 10 (entries_of old.spare) → IsSameColumns old new → BelowUnits (old.reach + 6) (entries_of row)
    → length new.even ≡ old.width → Shows new.even (λ j. entries_of row j -ℤ int_shr (entries_of old.high j +ℤ entries_of old.spare j +ℤ pos 2) 2)
    → length new.odd ≡ old.width → Shows new.odd (λ j. entries_of old.high j +ℤ int_shr (entries_of old.even j +ℤ entries_of new.even j) 1) → new.high ≡ old.spare → new.spare ≡ old.even → IsColumns new
lifted_state old new row s small same row_small we even wo odd high spare =
    let made = even_units old.reach row old.high old.spare new.even row_small s.high small even in
    state_with old new s same we wo (ap length high ∙ s.spare_width) (ap length spare ∙ s.even_width) made (odd_units old.reach old.high old.even new.even new.odd s.high s.even made odd)
    (subst (λ l. BelowUnits 10 (entries_of l)) (sym high) small)
