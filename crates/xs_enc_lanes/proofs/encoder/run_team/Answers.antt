use Rattle.std.proofs.Common.{ℕ, ◌<◌, Option, List, length, get_or, sym, subst}
use Rattle.xs_layout.specs.Geometry.{components_of}
use Rattle.atomic_table.specs.declared.shared.Seat.{Seat}
use Rattle.xs_lane_core.specs.Machine.{Actor}
use Rattle.xs_lanes.specs.Passes.{view}
use Rattle.xs_enc_lanes.specs.declared.activity.Activity.{Activity}
use Rattle.xs_enc_lanes.specs.Rows.{Carried}
use Rattle.xs_enc_lanes.specs.Working.{HasRun, IsUnusedPass, MayJoin}
use Rattle.xs_enc_lanes.proofs.Ending.{swept_of}
use Rattle.xs_enc_lanes.proofs.Lent.{back, each_back, length_back}
use Rattle.xs_enc_lanes.proofs.Teams.{are_joined, may_join}
use Rattle.xs_enc_lanes.proofs.encoder.run_team.Goals as goal

pub gather-requires-clause-join : goal.gather-requires-clause-join
gather-requires-clause-join g c =
    let job = c.args.job.now in
    let old = c.args.team.others.items in
    let new = c.run_all.new.activities in
    let n = c.args.team.others.len in
    let size = c.args.team.others.ok.0 in
    let made = subst (λ (l : List Activity). (i : ℕ) (d : Activity) → i < length l → HasRun c.args.job.now (get_or l i d) (get_or c.run_all.new.activities i d)) c.as_mut_slice.ensures.value c.run_all.ensures in
    subst (λ (p : Seat (Option Carried) (Actor Carried)). MayJoin c.args.job.now.lanes.now (length (back c.args.team.others.items c.run_all.new.activities c.args.team.others.len c.args.team.others.ok.0)) p
    (back c.args.team.others.items c.run_all.new.activities c.args.team.others.len c.args.team.others.ok.0)) (sym c.new-caller.ensures.pass)
    (may_join job (components_of job.header.now.shape.format) c.args.team.pass old (back old new n size) (length_back old new n size) c.requires.forked (each_back old new n size (HasRun job) made))

pub gather-requires-clause-joined : goal.gather-requires-clause-joined
gather-requires-clause-joined g c =
    let job = c.args.job.now in
    let old = c.args.team.others.items in
    let new = c.run_all.new.activities in
    let n = c.args.team.others.len in
    let size = c.args.team.others.ok.0 in
    let made = subst (λ (l : List Activity). (i : ℕ) (d : Activity) → i < length l → HasRun c.args.job.now (get_or l i d) (get_or c.run_all.new.activities i d)) c.as_mut_slice.ensures.value c.run_all.ensures in
    let fresh = subst (λ (p : Seat (Option Carried) (Actor Carried)). IsUnusedPass (view p)) (sym c.new-caller.ensures.pass) c.requires.forked.fresh in
    are_joined job c.new-caller.result old (back old new n size) (length_back old new n size) fresh c.new-caller.ensures.kept (each_back old new n size (HasRun job) made) c.requires.roles

pub sweep-requires-clause-ready : goal.sweep-requires-clause-ready
sweep-requires-clause-ready g c = record { pass = c.gather.ensures.pass; keeps = c.gather.ensures.all.keeps }

pub returns : goal.returns
returns g c = swept_of c.args.job.now c.gather.new.self c.sweep.new.self c.gather.ensures.all c.gather.ensures.alone c.sweep.ensures.goes c.sweep.ensures.all c.if-caller.false
