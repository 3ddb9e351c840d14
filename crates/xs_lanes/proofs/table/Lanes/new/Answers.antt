use Rattle.std.proofs.Common.{◌*◌, replicate, None, refl, sym, ◌∙◌, subst, ℕ, List}
use Rattle.atomic_table.specs.Table.{opening}
use Rattle.xs_lane_core.specs.Machine.{newcomer}
use Rattle.xs_lanes.specs.Filing.{placing, Filed}
use Rattle.xs_lanes.proofs.Shares.{opens}
use Rattle.xs_lanes.proofs.table.Lanes.new.Goals as goal

pub vacant-requires : goal.vacant-requires
vacant-requires g c = subst (λ (ws : List ℕ). Filed (placing g.T.Placed.lane_of g.T.Placed.slot_of g.T.Placed.closes_of) (opening ws (replicate (512 * c.args.lanes) None) newcomer)) (sym (c.as_slice.ensures.value ∙ c.in_ok-words.ensures))
    (opens (placing g.T.Placed.lane_of g.T.Placed.slot_of g.T.Placed.closes_of) c.args.lanes (19 * c.args.lanes) (512 * c.args.lanes) refl refl)
