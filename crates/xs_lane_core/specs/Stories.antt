-- Short lists of events and what is answered to them.
use Rattle.std.specs.Prelude.{ℕ, Bool, true, false, List, [], ◌∷◌}
use Rattle.xs_lane_core.specs.declared.values.Numbered.{Numbered}
use Rattle.xs_lane_core.specs.declared.values.Event.{Event}
use Rattle.xs_lane_core.specs.declared.values.Event.TheVariants as event
use Rattle.xs_lane_core.specs.declared.values.Outcome.{Outcome}
use Rattle.xs_lane_core.specs.declared.values.Outcome.TheVariants as outcome

-- a value of lane 0
abbrev pub valued : ℕ → Bool → ℕ → Numbered
valued place closes number = record { lane = 0; place = place; closes = closes; number = number }

-- Two actors come to place 0, then place 1 closes the lane, and both claim it. Lane 1 stays empty.
abbrev pub one_place : List Event
one_place =
    event.Split 0
    ∷ event.Take 0 (valued 0 false 10) ∷ event.Put 0 ∷ event.Home 0
    ∷ event.Take 1 (valued 0 false 20)
    ∷ event.Take 1 (valued 1 true 30) ∷ event.Put 1 ∷ event.Home 1 ∷ event.Sum 1
    ∷ event.Look 0 0 ∷ event.Look 1 0 ∷ event.Claim 0 ∷ event.Pull 0 ∷ event.Pull 0 ∷ event.Claim 1
    ∷ event.Look 0 1 ∷ event.Claim 0
    ∷ []

abbrev pub one_place_answers : List Outcome
one_place_answers =
    outcome.Split 1
    ∷ outcome.Taken ∷ outcome.Laid ∷ outcome.Stored
    ∷ outcome.Back (valued 0 false 20)
    ∷ outcome.Taken ∷ outcome.Laid ∷ outcome.Owing ∷ outcome.Made
    ∷ outcome.Seen 255 ∷ outcome.Seen 255 ∷ outcome.Claimed ∷ outcome.Pulled (valued 0 false 10) ∷ outcome.Pulled (valued 1 true 30) ∷ outcome.Gone
    ∷ outcome.Seen 0 ∷ outcome.Refused
    ∷ []

-- A value that closes the lane at place 1 comes first: all words but the first are told to be full. Then place 0 fills that.
abbrev pub closing_first : List Event
closing_first =
    event.Take 0 (valued 1 true 30) ∷ event.Put 0 ∷ event.Home 0 ∷ event.Sum 0 ∷ event.Look 0 0
    ∷ event.Take 0 (valued 0 false 10) ∷ event.Put 0 ∷ event.Home 0 ∷ event.Sum 0 ∷ event.Look 0 0
    ∷ []

abbrev pub closing_first_answers : List Outcome
closing_first_answers =
    outcome.Taken ∷ outcome.Laid ∷ outcome.Owing ∷ outcome.Stored ∷ outcome.Seen 254
    ∷ outcome.Taken ∷ outcome.Laid ∷ outcome.Owing ∷ outcome.Made ∷ outcome.Seen 255
    ∷ []
