-- Bounds of numbers and of rows.
use Rattle.std.proofs.Common.{◌≡◌, ℕ, ◌<◌, ◌≤◌, List, length, ℤ, pos, arith, inl, inr}
use Rattle.std.proofs.lemmas.Bool.{cases_lt}
use Rattle.std.proofs.lemmas.Int.{ints}
use Rattle.std.proofs.lemmas.List.{get_or_past}
use Rattle.xs_signal.specs.Lines.{IsBelow, AllBelow, entries_of}

pub below_more : (b c : ℕ) (z : ℤ) → b ≤ c → IsBelow b z → IsBelow c z
below_more b c z more small = record { least = omega (arith, ints, small.least, small.most, more); most = omega (arith, ints, small.least, small.most, more) }

pub zero_below : (b : ℕ) (z : ℤ) → 0 < b → z ≡ pos 0 → IsBelow b z
zero_below b z some none = record { least = omega (arith, ints, none, some); most = omega (arith, ints, none, some) }

-- a list is small where its entries are
pub list_small : (b : ℕ) (xs : List ℤ) → 0 < b → ((k : ℕ) → k < length xs → IsBelow b (entries_of xs k)) → AllBelow b (entries_of xs)
list_small b xs some small k =
    elim (cases_lt k (length xs)) [
      | inl inside ↦ small k inside
      | inr past ↦ zero_below b (entries_of xs k) some (get_or_past xs k (pos 0) past)
    ]
