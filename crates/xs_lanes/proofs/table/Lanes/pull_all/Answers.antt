use Rattle.std.proofs.Common.{rules, ◌≡◌, ◌-◌, ◌+◌, ◌<◌, ◌∷◌, [], List, length, length-append, arith, sym, ap, ◌∙◌, subst}
use Rattle.xs_lane_core.specs.declared.values.Stand.TheVariants.{Idle}
use Rattle.xs_lane_core.specs.Machine.{Actor}
use Rattle.xs_lanes.specs.Filing.{placing}
use Rattle.xs_lanes.specs.Claiming.{gets_all, IsRun}
use Rattle.xs_lanes.specs.Passes.{view}
use Rattle.xs_lanes.proofs.Runs.{HasPulled, pulled_more, pulled_last, claim_of}
use Rattle.xs_lanes.proofs.table.Lanes.pull_all.Goals as goal

pub pull-value-requires-clause-pulling : goal.pull-value-requires-clause-pulling
pull-value-requires-clause-pulling g c = λ _ _. (length c.pulling.into.items, ap (λ (v : Actor g.row.T.Denot). v.stand) c.pulling.invariant.pulled.0)

pub keep-requires : goal.keep-requires
keep-requires g c = let d = c.pull-value.ensures.drawn (length c.pulling.into.items) (ap (λ (v : Actor g.row.T.Denot). v.stand) c.pulling.invariant.pulled.0) in let low = d.low in (search rules, (let e : length c.pulling.into.items < 512 = low in e))

pub pulling-smaller : goal.pulling-smaller
pulling-smaller g c = let d = c.pull-value.ensures.drawn (length c.pulling.into.items) (ap (λ (v : Actor g.row.T.Denot). v.stand) c.pulling.invariant.pulled.0) in let low = d.low in let more : length c.keep.new.into.items ≡ length c.pulling.into.items + 1 = ap (λ (l : List g.row.T.Denot). length l) c.keep.ensures ∙ length-append c.pulling.into.items (c.pull-value.result ∷ []) in
    let e : 512 - length c.keep.new.into.items < 512 - length c.pulling.into.items = omega arith in e

pub pulling-preserved : goal.pulling-preserved
pulling-preserved g c = let d = c.pull-value.ensures.drawn (length c.pulling.into.items) (ap (λ (v : Actor g.row.T.Denot). v.stand) c.pulling.invariant.pulled.0) in record {
  fits = c.pull-value.ensures.same.0 ∙ c.pulling.invariant.fits;
  idle = c.pull-value.ensures.same.1;
  pulled = subst (λ (ys : List g.row.T.Denot). HasPulled (placing g.T.Placed.lane_of g.T.Placed.slot_of g.T.Placed.closes_of) (view c.args.pass.now) c.args.lane ys (view c.pull-value.new.pass)) (sym c.keep.ensures)
      (pulled_more (placing g.T.Placed.lane_of g.T.Placed.slot_of g.T.Placed.closes_of) (view c.args.pass.now) c.args.lane c.pulling.into.items c.pull-value.result (view c.pulling.pass) (view c.pull-value.new.pass) c.pulling.invariant.pulled d (sym c.closes-closes.ensures ∙ c.if-closes.false));
}

pub returns-clause-run : goal.returns-clause-run
returns-clause-run g c = let d = c.pull-value.ensures.drawn (length c.pulling.into.items) (ap (λ (v : Actor g.row.T.Denot). v.stand) c.pulling.invariant.pulled.0) in let p = pulled_last (placing g.T.Placed.lane_of g.T.Placed.slot_of g.T.Placed.closes_of) (view c.args.pass.now) c.args.lane c.pulling.into.items c.pull-value.result (view c.pulling.pass) (view c.pull-value.new.pass) c.pulling.invariant.pulled d (sym c.closes-closes.ensures ∙ c.if-closes.true) in
    subst (λ (ys : List g.row.T.Denot). IsRun (placing g.T.Placed.lane_of g.T.Placed.slot_of g.T.Placed.closes_of) c.args.lane 0 ys) (sym c.keep.ensures) p.1

pub returns-clause-got : goal.returns-clause-got
returns-clause-got g c = let d = c.pull-value.ensures.drawn (length c.pulling.into.items) (ap (λ (v : Actor g.row.T.Denot). v.stand) c.pulling.invariant.pulled.0) in let p = pulled_last (placing g.T.Placed.lane_of g.T.Placed.slot_of g.T.Placed.closes_of) (view c.args.pass.now) c.args.lane c.pulling.into.items c.pull-value.result (view c.pulling.pass) (view c.pull-value.new.pass) c.pulling.invariant.pulled d (sym c.closes-closes.ensures ∙ c.if-closes.true) in
    subst (λ (ys : List g.row.T.Denot). view c.pull-value.new.pass ≡ gets_all ys Idle (view c.args.pass.now)) (sym c.keep.ensures) p.0

pub returns-clause-stored : goal.returns-clause-stored
returns-clause-stored g c = let d = c.pull-value.ensures.drawn (length c.pulling.into.items) (ap (λ (v : Actor g.row.T.Denot). v.stand) c.pulling.invariant.pulled.0) in let p = pulled_last (placing g.T.Placed.lane_of g.T.Placed.slot_of g.T.Placed.closes_of) (view c.args.pass.now) c.args.lane c.pulling.into.items c.pull-value.result (view c.pulling.pass) (view c.pull-value.new.pass) c.pulling.invariant.pulled d (sym c.closes-closes.ensures ∙ c.if-closes.true) in
    claim_of (placing g.T.Placed.lane_of g.T.Placed.slot_of g.T.Placed.closes_of) (view c.args.pass.now) (view c.pull-value.new.pass) c.args.lane c.keep.new.into.items Idle
    (subst (λ (ys : List g.row.T.Denot). IsRun (placing g.T.Placed.lane_of g.T.Placed.slot_of g.T.Placed.closes_of) c.args.lane 0 ys) (sym c.keep.ensures) p.1) c.pull-value.ensures.actor
    (subst (λ (ys : List g.row.T.Denot). view c.pull-value.new.pass ≡ gets_all ys Idle (view c.args.pass.now)) (sym c.keep.ensures) p.0)
