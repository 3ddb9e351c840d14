use Rattle.std.proofs.Common.{rules, true, false, inr, subst}
use Rattle.xs_lanes.specs.declared.lanes.Put.TheVariants.{Stored, Made, Repeat}
use Rattle.xs_lanes.specs.Filing.{placing}
use Rattle.xs_lanes.specs.Answers.{HasJoined}
use Rattle.xs_lanes.proofs.Exactly.{put_exactly}
use Rattle.xs_lanes.proofs.Tells.{stored_free, summed_up}
use Rattle.xs_lanes.proofs.table.Lanes.put.Goals as goal

pub returns-then-not-take-clause-exact : goal.returns-then-not-take-clause-exact
returns-then-not-take-clause-exact g c = put_exactly (placing g.T.Placed.lane_of g.T.Placed.slot_of g.T.Placed.closes_of) _ c.args.pass.now.me.0 c.args.value c.take.new.pass.me.0 (Repeat c.args.value) c.requires.pass.2 c.requires.lane c.requires.slot (search rules)

pub returns-then-words-eq0-clause-answer : goal.returns-then-words-eq0-clause-answer
returns-then-words-eq0-clause-answer g c = stored_free (placing g.T.Placed.lane_of g.T.Placed.slot_of g.T.Placed.closes_of) c.args.pass.now.me.0 c.args.value c.take.new.pass.me.0 c.bring-words.new.pass.me.0 c.bring-words.result c.if-not-take.ensures.taken.0 c.bring-words.ensures.brought c.if-words-eq0.true

pub returns-then-words-eq0-clause-exact : goal.returns-then-words-eq0-clause-exact
returns-then-words-eq0-clause-exact g c = put_exactly (placing g.T.Placed.lane_of g.T.Placed.slot_of g.T.Placed.closes_of) _ c.args.pass.now.me.0 c.args.value c.bring-words.new.pass.me.0 Stored c.requires.pass.2 c.requires.lane c.requires.slot (stored_free (placing g.T.Placed.lane_of g.T.Placed.slot_of g.T.Placed.closes_of) c.args.pass.now.me.0 c.args.value c.take.new.pass.me.0 c.bring-words.new.pass.me.0 c.bring-words.result c.if-not-take.ensures.taken.0 c.bring-words.ensures.brought c.if-words-eq0.true)

pub returns-then-sum-clause-answer : goal.returns-then-sum-clause-answer
returns-then-sum-clause-answer g c = let t = summed_up (placing g.T.Placed.lane_of g.T.Placed.slot_of g.T.Placed.closes_of) c.args.pass.now.me.0 c.args.value c.take.new.pass.me.0 c.bring-words.new.pass.me.0 c.sum.new.pass.me.0 c.bring-words.result true c.if-not-take.ensures.taken.0 c.bring-words.ensures.brought c.if-words-eq0.false
    (subst (λ l. HasJoined (placing g.T.Placed.lane_of g.T.Placed.slot_of g.T.Placed.closes_of) c.bring-words.new.pass.me.0 l c.bring-words.result c.sum.new.pass.me.0 true) c.lane-lane.ensures c.if-sum.ensures.summed) in (t.0, t.1, t.2, t.3.0, t.3.1)

pub returns-then-sum-clause-exact : goal.returns-then-sum-clause-exact
returns-then-sum-clause-exact g c = let t = summed_up (placing g.T.Placed.lane_of g.T.Placed.slot_of g.T.Placed.closes_of) c.args.pass.now.me.0 c.args.value c.take.new.pass.me.0 c.bring-words.new.pass.me.0 c.sum.new.pass.me.0 c.bring-words.result true c.if-not-take.ensures.taken.0 c.bring-words.ensures.brought c.if-words-eq0.false
    (subst (λ l. HasJoined (placing g.T.Placed.lane_of g.T.Placed.slot_of g.T.Placed.closes_of) c.bring-words.new.pass.me.0 l c.bring-words.result c.sum.new.pass.me.0 true) c.lane-lane.ensures c.if-sum.ensures.summed) in
    put_exactly (placing g.T.Placed.lane_of g.T.Placed.slot_of g.T.Placed.closes_of) _ c.args.pass.now.me.0 c.args.value c.sum.new.pass.me.0 Made c.requires.pass.2 c.requires.lane c.requires.slot (t.0, t.1, t.2, t.3.0, t.3.1)

pub returns-else-sum-clause-answer : goal.returns-else-sum-clause-answer
returns-else-sum-clause-answer g c = let t = summed_up (placing g.T.Placed.lane_of g.T.Placed.slot_of g.T.Placed.closes_of) c.args.pass.now.me.0 c.args.value c.take.new.pass.me.0 c.bring-words.new.pass.me.0 c.sum.new.pass.me.0 c.bring-words.result false c.if-not-take.ensures.taken.0 c.bring-words.ensures.brought c.if-words-eq0.false
    (subst (λ l. HasJoined (placing g.T.Placed.lane_of g.T.Placed.slot_of g.T.Placed.closes_of) c.bring-words.new.pass.me.0 l c.bring-words.result c.sum.new.pass.me.0 false) c.lane-lane.ensures c.if-sum.ensures.summed) in inr (t.0, t.1, t.2, t.3)

pub returns-else-sum-clause-exact : goal.returns-else-sum-clause-exact
returns-else-sum-clause-exact g c = let t = summed_up (placing g.T.Placed.lane_of g.T.Placed.slot_of g.T.Placed.closes_of) c.args.pass.now.me.0 c.args.value c.take.new.pass.me.0 c.bring-words.new.pass.me.0 c.sum.new.pass.me.0 c.bring-words.result false c.if-not-take.ensures.taken.0 c.bring-words.ensures.brought c.if-words-eq0.false
    (subst (λ l. HasJoined (placing g.T.Placed.lane_of g.T.Placed.slot_of g.T.Placed.closes_of) c.bring-words.new.pass.me.0 l c.bring-words.result c.sum.new.pass.me.0 false) c.lane-lane.ensures c.if-sum.ensures.summed) in
    put_exactly (placing g.T.Placed.lane_of g.T.Placed.slot_of g.T.Placed.closes_of) _ c.args.pass.now.me.0 c.args.value c.sum.new.pass.me.0 Stored c.requires.pass.2 c.requires.lane c.requires.slot (inr (t.0, t.1, t.2, t.3))
