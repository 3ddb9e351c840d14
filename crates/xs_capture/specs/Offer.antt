-- A packet as contracts see it: 'RTP packets and captures'.
use Rattle.std.specs.Prelude.{ℕ, Bool, List}

-- the picture, the unit and the place that a packet is of, whether it closes the unit, and its piece of the unit's bytes
pub record Offer : Type 0 where
  pub timestamp : ℕ
  pub unit : ℕ
  pub place : ℕ
  pub last : Bool
  pub bytes : List ℕ

-- the greatest unit
abbrev pub last_unit : ℕ
last_unit = 2047

-- a unit has at most so many packets
abbrev pub unit_places : ℕ
unit_places = 512
