-- What became of the claim of a slice.
use Rattle.std.specs.Prelude.{ℕ, List}
use Rattle.xs_lane_core.specs.Machine.{Actor}
use Rattle.xs_lanes.specs.Claiming.{HasFoundGone, HasGot, HasSeenPart}
use Rattle.xs_enc_lanes.specs.declared.claim.Tried.{Tried}
use Rattle.xs_enc_lanes.specs.declared.claim.Tried.TheVariants.{Got, NotWhole, Gone, Starved}
use Rattle.xs_enc_lanes.specs.Rows.{Carried, parts}

-- the pass v was told so of the slice, got these values, and is now w
abbrev pub Tells : Actor Carried → ℕ → Tried → List Carried → Actor Carried → Type 0
Tells v slice Got values w = HasGot parts v slice values w
Tells v slice NotWhole values w = (set : ℕ) × HasSeenPart parts v slice set w
Tells v slice Gone values w = HasFoundGone parts v slice w
Tells v slice Starved values w = ⊥
