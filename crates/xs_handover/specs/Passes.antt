-- The passes of a handover.
use Rattle.std.specs.Prelude.{ℕ, All}
use Rattle.xs_lane_core.specs.Machine.{Actor}
use Rattle.xs_lanes.specs.Passes.{IsPassOf, view, lane_count}
use Rattle.xs_handover.specs.declared.handover.Handover.{Handover}
use Rattle.xs_handover.specs.declared.handover.HandPass.{HandPass}
use Rattle.xs_handover.specs.Blocks.{Carried}
use Rattle.xs_handover.specs.Decoded.{IsDecodedBlock}

-- how many stripes a handover has
abbrev pub stripe_count : Handover → ℕ
stripe_count h = lane_count h.lanes

-- what a pass stored, repeated, got and saw, and its share
abbrev pub actor : HandPass → Actor Carried
actor p = view p.pass

-- The pass is of this handover, and the rows of what it stored are those that the bytes give.
pub record IsHandPass (h : Handover) (p : HandPass) : Type 0 where
  pub pass : IsPassOf h.lanes p.pass
  pub decoded : All IsDecodedBlock (actor p).stored
