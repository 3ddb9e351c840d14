-- What a list shows of a small line is small.
use Rattle.std.proofs.Common.{◌≡◌, ℕ, ◌<◌, ◌≤◌, List, length, ℤ, pos, arith, inl, inr}
use Rattle.std.proofs.lemmas.Bool.{cases_lt}
use Rattle.std.proofs.lemmas.Int.{ints}
use Rattle.std.proofs.lemmas.List.{get_or_past}
use Rattle.xs_signal.specs.Lines.{entries_of, IsBelow, AllBelow}
use Rattle.xs_rows.proofs.Values.{below_same}

pub below_more : (b c : ℕ) (z : ℤ) → b ≤ c → IsBelow b z → IsBelow c z
below_more b c z more small = record { least = omega (arith, ints, small.least, small.most); most = omega (arith, ints, small.least, small.most) }

-- the entries at these places are the line's, and past the end they are 0
pub shown_below : (b c : ℕ) (place : ℕ → ℕ) (xs : List ℤ) (line : ℕ → ℤ) → 0 < c → b ≤ c → ((k : ℕ) → place k < length xs → entries_of xs (place k) ≡ line k) → AllBelow b line
    → (k : ℕ) → IsBelow c (entries_of xs (place k))
shown_below b c place xs line some more shown small k =
    elim (cases_lt (place k) (length xs)) [
      | inl inside ↦ below_more b c _ more (below_same b _ _ (shown k inside) (small k))
      | inr past ↦ let none : entries_of xs (place k) ≡ pos 0 = get_or_past xs (place k) (pos 0) past in record { least = omega (arith, ints, none); most = omega (arith, ints, none) }
    ]
