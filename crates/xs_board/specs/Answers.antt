-- What the claims of a board answer.
use Rattle.std.specs.Prelude.{◌≡◌, ℕ, ◌<◌, ◌^◌, ⊤, List, ◌++◌, length, Option, IsSome}
use Rattle.xs_lane_core.specs.Places.{every_word}
use Rattle.xs_lane_core.specs.Machine.{Actor, sees}
use Rattle.xs_lane_core.specs.declared.values.Stand.TheVariants.{Saw}
use Rattle.xs_lanes.specs.Claiming.{HasGot, HasFoundGone, HasSeenPart}
use Rattle.xs_capture.specs.Offer.{Offer}
use Rattle.xs_stored.specs.Stored.{packets, joined_bytes}
use Rattle.xs_board.specs.declared.head.HeadRead.{HeadRead}
use Rattle.xs_board.specs.declared.claim.Claimed.{Claimed}
use Rattle.xs_board.specs.declared.claim.Claimed.TheVariants as header
use Rattle.xs_board.specs.declared.claim.SliceClaim.{SliceClaim}
use Rattle.xs_board.specs.declared.claim.SliceClaim.TheVariants as slice

-- the pass files nothing
pub record FilesNothing (v w : Actor Offer) : Type 0 where
  pub stored : w.stored ≡ v.stored
  pub repeated : w.repeated ≡ v.repeated

-- what the pass got before it has still
abbrev pub GetsMore : Actor Offer → Actor Offer → Type 0
GetsMore v w = (values : List Offer) × (w.got ≡ v.got ++ values)

-- The pass v got the packets of the unit, whose bytes these are, and is now w.
pub record HasUnit (v : Actor Offer) (unit : ℕ) (bytes : List ℕ) (w : Actor Offer) : Type 0 where
  pub values : List Offer
  pub got : HasGot packets v unit values w
  pub joins : bytes ≡ joined_bytes values
  pub few : length bytes < 2 ^ 32

-- the pass v was answered so for the unit, and is now w
abbrev pub UnitAnswers : Actor Offer → ℕ → SliceClaim → Actor Offer → Type 0
UnitAnswers v unit (slice.Got bytes) w = HasUnit v unit bytes w
UnitAnswers v unit (slice.NotWhole seen) w = HasSeenPart packets v unit seen w
UnitAnswers v unit slice.Gone w = HasFoundGone packets v unit w

-- the pass saw the unit whole
abbrev pub saw_whole : ℕ → Actor Offer → Actor Offer
saw_whole unit v = sees (Saw unit) unit every_word v

-- the pass v looked at the unit before it claimed it, was answered so, and is now w
abbrev pub SliceAnswers : Actor Offer → ℕ → SliceClaim → Actor Offer → Type 0
SliceAnswers v unit (slice.Got bytes) w = HasUnit (saw_whole unit v) unit bytes w
SliceAnswers v unit (slice.NotWhole seen) w = HasSeenPart packets v unit seen w
SliceAnswers v unit slice.Gone w = HasFoundGone packets (saw_whole unit v) unit w

-- the same of the header unit
abbrev pub HeaderAnswers : Actor Offer → Claimed → Actor Offer → Type 0
HeaderAnswers v (header.Got read) w = HasUnit (saw_whole 0 v) 0 read.bytes w
HeaderAnswers v (header.NotWhole seen) w = HasSeenPart packets v 0 seen w
HeaderAnswers v header.Gone w = HasFoundGone packets (saw_whole 0 v) 0 w

-- who got the header knows one
abbrev pub HasLearned : Claimed → Option HeadRead → Type 0
HasLearned (header.Got read) known = IsSome known
HasLearned (header.NotWhole seen) known = ⊤
HasLearned header.Gone known = ⊤
