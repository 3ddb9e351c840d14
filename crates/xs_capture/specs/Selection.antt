-- What is selected of the offers of one picture, and the units that are whole in it: 'RTP packets and captures'.
use Rattle.std.specs.Prelude.{◌≡◌, ℕ, ◌+◌, ◌<◌, ◌≤◌, true, false, Option, None, IsSome, IfSome, IsSomeAnd, List, [], Contains, flat_map}
use Rattle.std.specs.Option.{option_map_or}
use Rattle.xs_lists.specs.Spelling.{upto}
use Rattle.xs_lists.specs.Ascending.{ListsAscending}
use Rattle.xs_capture.specs.Offer.{Offer}
use Rattle.xs_capture.specs.Offer.{unit_places}

-- at each unit and place one packet at most
abbrev pub Held : Type 0
Held = ℕ → ℕ → Option Offer

-- nothing is held past the last place
abbrev pub IsBounded : Held → Type 0
IsBounded held = (unit place : ℕ) → unit_places ≤ place → held unit place ≡ None

-- The packets that are held are a selection of the offers of one picture: one offer for each unit and place that has one, and nothing else.
pub record IsSelection (offers : List Offer) (held : Held) : Type 0 where
  pub offered : (unit place : ℕ) → IfSome (held unit place) (λ p. Contains offers p × (p.unit ≡ unit) × (p.place ≡ place))
  pub filled : (p : Offer) → Contains offers p → IsSome (held p.unit p.place)

-- the unit's packets run to the place `end`, the first that closes the unit, and each before it is held
pub record EndsAt (held : Held) (unit end : ℕ) : Type 0 where
  pub closes : IsSomeAnd (held unit end) (λ p. p.last ≡ true)
  pub before : (place : ℕ) → place < end → IsSomeAnd (held unit place) (λ p. p.last ≡ false)

-- some place closes the unit, and all places before it are held
abbrev pub IsWholeUnit : Held → ℕ → Type 0
IsWholeUnit held unit = (end : ℕ) × EndsAt held unit end

-- the bytes of the packet at a place
abbrev pub bytes_at : Held → ℕ → ℕ → List ℕ
bytes_at held unit place = option_map_or (λ (p : Offer). p.bytes) (held unit place) []

-- the bytes of a unit whose packets run to a place
abbrev pub unit_bytes : Held → ℕ → ℕ → List ℕ
unit_bytes held unit end = flat_map (bytes_at held unit) (upto (end + 1))

-- the unit is whole, and these are its bytes
abbrev pub HasBytes : Held → ℕ → List ℕ → Type 0
HasBytes held unit bytes = (end : ℕ) × EndsAt held unit end × (bytes ≡ unit_bytes held unit end)

-- the slices below a number whose units are not whole, ascending
abbrev pub AreMissing : Held → ℕ → List ℕ → Type 0
AreMissing held slices = ListsAscending (λ slice. (slice < slices) × ¬ IsWholeUnit held (slice + 1))
