-- Rows that stand one behind the other in one block.
use Rattle.std.specs.Prelude.{ℕ, ◌-◌, ◌≤◌, List, [], ◌∷◌, take, drop, map}
use Rattle.xs_stripe.specs.declared.place.RowPlace.{RowPlace}

-- the rows that stand at these places
abbrev pub rows_at_places : {T : Type 0} → List RowPlace → List T → List (List T)
rows_at_places places numbers = map (λ place. take (place.end - place.start) (drop place.start numbers)) places

-- each place is one among so many numbers
abbrev pub StandIn : ℕ → List RowPlace → Type 0
StandIn all [] = 0 ≤ all
StandIn all (place ∷ places) = (place.start ≤ place.end) × (place.end ≤ all) × StandIn all places
