-- Orders keep what they have.
use Rattle.std.proofs.Common.{◌≡◌, ℕ, zero, suc, ◌+◌, ◌*◌, ◌-◌, ◌<◌, ◌≤◌, ◌++◌, List, [], Contains, length, length-append, get_or, refl, sym, ◌∙◌, arith, inl, inr}
use Rattle.std.specs.List.{swap}
use Rattle.std.proofs.lemmas.List.Edits.{length-swap}
use Rattle.std.proofs.lemmas.List.Elements.{Contains-append_cases, Contains-append_left}
use Rattle.std.proofs.lemmas.List.FromFn.{length-range_with_len}
use Rattle.std.proofs.lemmas.List.Sorted.{Contains-permutation, IsPermutation-swap, IsPermutation-sym}
use Rattle.xs_lists.specs.Spelling.{upto}
use Rattle.xs_trial.specs.Generator.{next_state, place_of, shuffle_of, shuffled}

pub length-shuffled : (last state : ℕ) (entries : List ℕ) → length (shuffled last state entries) ≡ length entries
length-shuffled zero state entries = refl
length-shuffled (suc last) state entries =
    let other = place_of (next_state state) (suc last) in length-shuffled last (next_state state) (swap entries (suc last) other) ∙ length-swap entries (suc last) other

place_within : (state last : ℕ) → place_of state last ≤ last
unfolding place_of
place_within state last = omega arith

-- the entries stay the same
shuffled_has : (last state : ℕ) (entries : List ℕ) (n : ℕ) → last ≤ length entries - 1 → Contains entries n → Contains (shuffled last state entries) n
shuffled_has zero state entries n inside has = has
shuffled_has (suc last) state entries n inside has =
    let other = place_of (next_state state) (suc last) in
    let within = place_within (next_state state) (suc last) in
    let size = length-swap entries (suc last) other in
    shuffled_has last (next_state state) (swap entries (suc last) other) n (omega (arith, inside, size))
    (Contains-permutation entries (swap entries (suc last) other) n (IsPermutation-swap entries (swap entries (suc last) other) (suc last) other (omega (arith, inside)) (omega (arith, inside, within)) refl) has)

has_shuffled : (last state : ℕ) (entries : List ℕ) (n : ℕ) → last ≤ length entries - 1 → Contains (shuffled last state entries) n → Contains entries n
has_shuffled zero state entries n inside has = has
has_shuffled (suc last) state entries n inside has =
    let other = place_of (next_state state) (suc last) in
    let within = place_within (next_state state) (suc last) in
    let size = length-swap entries (suc last) other in
    Contains-permutation (swap entries (suc last) other) entries n
    (IsPermutation-sym entries (swap entries (suc last) other) (IsPermutation-swap entries (swap entries (suc last) other) (suc last) other (omega (arith, inside)) (omega (arith, inside, within)) refl))
    (has_shuffled last (next_state state) (swap entries (suc last) other) n (omega (arith, inside, size)) has)

twice_size : (count : ℕ) → length (upto count ++ upto count) ≡ 2 * count
twice_size count = length-append (upto count) (upto count) ∙ omega (arith, length-range_with_len 0 count)

-- each packet is in the order, which has each twice, and no other
pub length-order : (count state : ℕ) → length (shuffle_of count state) ≡ 2 * count
length-order count state = length-shuffled (2 * count - 1) state (upto count ++ upto count) ∙ twice_size count

pub in_shuffle : (count state n : ℕ) → Contains (upto count) n → Contains (shuffle_of count state) n
in_shuffle count state n has = shuffled_has (2 * count - 1) state (upto count ++ upto count) n (omega (arith, twice_size count)) (Contains-append_left (upto count) (upto count) n has)

pub of_shuffle : (count state n : ℕ) → Contains (shuffle_of count state) n → Contains (upto count) n
of_shuffle count state n has = elim (Contains-append_cases (upto count) (upto count) n (has_shuffled (2 * count - 1) state (upto count ++ upto count) n (omega (arith, twice_size count)) has)) [
  | inl first ↦ first
  | inr again ↦ again
]
