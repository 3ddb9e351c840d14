use Rattle.std.proofs.Common.{Option, ap, ◌∙◌, subst, sym}
use Rattle.atomic_table.specs.declared.shared.Seat.{Seat}
use Rattle.xs_lane_core.specs.Machine.{Actor}
use Rattle.xs_lanes.specs.Passes.{IsPassOf, view}
use Rattle.xs_enc_lanes.specs.Rows.{Carried}
use Rattle.xs_enc_lanes.specs.Working.{IsRoleOf}
use Rattle.xs_enc_lanes.proofs.Teams.{forked_more, role_new, role_still}
use Rattle.xs_enc_lanes.proofs.activity.Team.add.Goals as goal

pub returns-clause-forked : goal.returns-clause-forked
returns-clause-forked c =
    let theirs = subst (IsPassOf c.args.lanes.now) (sym c.new-activity.ensures.pass) c.split-pass.ensures.new.0 in
    let copy = ap (λ (p : Seat (Option Carried) (Actor Carried)). view p) c.new-activity.ensures.pass ∙ c.split-pass.ensures.new.1 in
    λ n role f. forked_more c.args.lanes.now n c.args.self.now.pass c.split-pass.new.pass c.args.self.now.others.items c.add_activity.new.others.items c.new-activity.result c.in_ok-add_activity.ensures.added c.split-pass.ensures.old.0 c.split-pass.ensures.old.1 theirs copy
    c.new-activity.ensures.kept (subst (IsRoleOf n) (sym c.new-activity.ensures.role) role) f

pub returns-clause-there : goal.returns-clause-there
returns-clause-there c = λ k is. role_new c.args.self.now.others.items c.add_activity.new.others.items c.new-activity.result k c.in_ok-add_activity.ensures.added (c.new-activity.ensures.role ∙ is)

pub returns-clause-others : goal.returns-clause-others
returns-clause-others c = λ k has. role_still c.args.self.now.others.items c.add_activity.new.others.items c.new-activity.result k c.in_ok-add_activity.ensures.added has
