use Rattle.std.proofs.Common.{◌≡◌, length, true≢false, sym, subst, arith}
use Rattle.xs_lanes.specs.Gathering.{HasRest}
use Rattle.xs_lanes.proofs.Gathering.{rest_alone}
use Rattle.xs_board.specs.Passes.{actor}
use Rattle.xs_handover.specs.Passes.{actor as hand_actor}
use Rattle.xs_recv.proofs.Teams.{filed_all, filed_one, join_hand, join_one, not_some}
use Rattle.xs_recv.proofs.activity.Activity.gather.Goals as goal

pub gathering-preserved : goal.gathering-preserved
gathering-preserved c = let i = c.gathering.invariant in let rest = c.pop.new.self.items in let old = c.gathering.others.items in let o = c.in-Some.other in let e = c.in-Some.ensures.items in record {
  join = join_one c.args.exchange.now.board (length c.args.others.items) c.gathering.self.pass c.absorb.new.self.pass old rest o e c.absorb.ensures.pass c.absorb.ensures.union i.join;
  hands = join_hand c.args.exchange.now.handover (length c.args.others.items) c.gathering.self.hand c.absorb.new.self.hand old rest o e c.absorb.ensures.hand c.absorb.ensures.both i.hands;
  filed = λ offers so. filed_one offers (actor c.gathering.self.pass) (actor c.absorb.new.self.pass) old rest o e c.absorb.ensures.union (i.filed offers so);
}

pub returns-clause-alone : goal.returns-clause-alone
returns-clause-alone c =
    let none : length c.gathering.others.items ≡ 0 = not_some (length c.gathering.others.items) (λ lt. true≢false (sym (c.in_default.ensures.variant.1 (let e = c.gathering.others.ok.0 in omega arith)))) in
    rest_alone (length c.args.others.items) (actor c.gathering.self.pass) (subst (λ k. HasRest (length c.args.others.items) k (actor c.gathering.self.pass)) none c.gathering.invariant.join.share)

pub returns-clause-single : goal.returns-clause-single
returns-clause-single c =
    let none : length c.gathering.others.items ≡ 0 = not_some (length c.gathering.others.items) (λ lt. true≢false (sym (c.in_default.ensures.variant.1 (let e = c.gathering.others.ok.0 in omega arith)))) in
    rest_alone (length c.args.others.items) (hand_actor c.gathering.self.hand) (subst (λ k. HasRest (length c.args.others.items) k (hand_actor c.gathering.self.hand)) none c.gathering.invariant.hands.share)

pub returns-clause-filed : goal.returns-clause-filed
returns-clause-filed c =
    let none : length c.gathering.others.items ≡ 0 = not_some (length c.gathering.others.items) (λ lt. true≢false (sym (c.in_default.ensures.variant.1 (let e = c.gathering.others.ok.0 in omega arith)))) in
    λ offers so. filed_all offers (actor c.gathering.self.pass) c.gathering.others.items none (c.gathering.invariant.filed offers so)
