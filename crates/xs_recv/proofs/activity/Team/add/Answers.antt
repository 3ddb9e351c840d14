use Rattle.std.proofs.Common.{ap, ◌∙◌, subst, sym}
use Rattle.xs_board.specs.Passes.{IsBoardPass, actor}
use Rattle.xs_handover.specs.Passes.{IsHandPass, actor as hand_actor}
use Rattle.xs_recv.proofs.Teams.{forked_more, hands_more, then_ok}
use Rattle.xs_recv.proofs.activity.Team.add.Goals as goal

pub returns-clause-forked : goal.returns-clause-forked
returns-clause-forked c =
    let b = c.args.exchange.now.board in
    let a = c.new-activity.result in
    let theirs = subst (IsBoardPass c.args.exchange.now.board) (sym c.new-activity.ensures.pass) c.split.ensures.other in
    let copy = ap actor c.new-activity.ensures.pass ∙ c.split.ensures.new.0 in
    then_ok _ _ c.push_activity.result
    (λ added offers f. forked_more b offers c.args.part.items c.args.self.now.pass c.split.new.pass c.args.self.now.others.items c.push_activity.new.others.items a added c.split.ensures.pass c.split.ensures.old.0 theirs copy
    c.new-activity.ensures.part c.requires.units f) c.push_activity.ensures

pub returns-clause-hands : goal.returns-clause-hands
returns-clause-hands c =
    let h = c.args.exchange.now.handover in
    let a = c.new-activity.result in
    let theirs = subst (IsHandPass c.args.exchange.now.handover) (sym c.new-activity.ensures.hand) c.split-2.ensures.other in
    let copy = ap hand_actor c.new-activity.ensures.hand ∙ c.split-2.ensures.new in
    then_ok _ _ c.push_activity.result
    (λ added. hands_more h c.args.self.now.hand c.split-2.new.pass c.args.self.now.others.items c.push_activity.new.others.items a added c.split-2.ensures.pass c.split-2.ensures.old theirs copy c.requires.hands) c.push_activity.ensures
