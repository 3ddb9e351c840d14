use Rattle.std.proofs.Common.{ℕ, ◌<◌, List, length, get_or, sym, subst, ◌∙◌}
use Rattle.xs_lane_core.specs.Machine.{Actor}
use Rattle.xs_capture.specs.Offer.{Offer}
use Rattle.xs_board.specs.declared.board.BoardPass.{BoardPass}
use Rattle.xs_board.specs.Passes.{actor}
use Rattle.xs_handover.specs.declared.handover.HandPass.{HandPass}
use Rattle.xs_recv.specs.Activities.{Doing}
use Rattle.xs_recv.specs.Filing.{AreFiledBy, HasFiled, HasRun, MayJoin, MayJoinHands, fed}
use Rattle.xs_recv.specs.Received.{offers_of_parts}
use Rattle.xs_recv.specs.Sweeping.{IsSettled}
use Rattle.xs_recv.proofs.Ending.{settled_after}
use Rattle.xs_recv.proofs.Lent.{back, each_back, length_back}
use Rattle.xs_recv.proofs.Teams.{filed_by, may_join, may_join_hands}
use Rattle.xs_recv.proofs.receiver.collect.Goals as goal

pub gather-requires : goal.gather-requires
gather-requires g c =
    let x = c.in_ok-exchange.exchange in
    let old = c.fork.new.self.others.items in
    let new = c.run_all.new.activities in
    let n = c.fork.new.self.others.len in
    let size = c.fork.new.self.others.ok.0 in
    let made = subst (λ (l : List Doing). (i : ℕ) (d : Doing) → i < length l → HasRun c.in_ok-exchange.exchange (get_or l i d) (get_or c.run_all.new.activities i d)) c.as_mut_slice.ensures.value c.run_all.ensures in
    let ran = each_back old new n size (HasRun c.in_ok-exchange.exchange) made in
    record {
      join = subst (λ (p : BoardPass). MayJoin c.in_ok-exchange.exchange.board (length (back c.fork.new.self.others.items c.run_all.new.activities c.fork.new.self.others.len c.fork.new.self.others.ok.0)) p
          (back c.fork.new.self.others.items c.run_all.new.activities c.fork.new.self.others.len c.fork.new.self.others.ok.0)) (sym c.new-caller.ensures.pass)
          (may_join x (fed c.in_ok-feeds.feeds.items) c.fork.new.self.pass old (back old new n size) (length_back old new n size) c.in_ok-fork.ensures.forked ran);
      hands = subst (λ (p : HandPass). MayJoinHands c.in_ok-exchange.exchange.handover (length (back c.fork.new.self.others.items c.run_all.new.activities c.fork.new.self.others.len c.fork.new.self.others.ok.0)) p
          (back c.fork.new.self.others.items c.run_all.new.activities c.fork.new.self.others.len c.fork.new.self.others.ok.0)) (sym c.new-caller.ensures.hand)
          (may_join_hands x c.fork.new.self.hand old (back old new n size) (length_back old new n size) c.in_ok-fork.ensures.hands ran);
    }

pub returns-clause-settled : goal.returns-clause-settled
returns-clause-settled g c =
    let x = c.in_ok-exchange.exchange in
    let old = c.fork.new.self.others.items in
    let new = c.run_all.new.activities in
    let n = c.fork.new.self.others.len in
    let size = c.fork.new.self.others.ok.0 in
    let made = subst (λ (l : List Doing). (i : ℕ) (d : Doing) → i < length l → HasRun c.in_ok-exchange.exchange (get_or l i d) (get_or c.run_all.new.activities i d)) c.as_mut_slice.ensures.value c.run_all.ensures in
    let dealt = subst (λ (p : BoardPass). AreFiledBy (fed c.in_ok-feeds.feeds.items) (actor p) (back c.fork.new.self.others.items c.run_all.new.activities c.fork.new.self.others.len c.fork.new.self.others.ok.0)) (sym c.new-caller.ensures.pass)
    (filed_by x (fed c.in_ok-feeds.feeds.items) c.fork.new.self.pass old (back old new n size) (length_back old new n size) c.in_ok-fork.ensures.forked (each_back old new n size (HasRun c.in_ok-exchange.exchange) made)) in
    let filed = subst (λ (l : List Offer). HasFiled l (actor c.gather.new.self.pass)) c.in_ok-feeds.ensures.all (c.gather.ensures.filed (fed c.in_ok-feeds.feeds.items) dealt) in
    subst (λ (v : Actor Offer). IsSettled (offers_of_parts c.args.parts) v) (sym c.end.ensures.actor)
    (settled_after x.board (offers_of_parts c.args.parts) c.gather.new.self c.sweep.new.self c.requires.bytes filed c.gather.ensures.alone c.sweep.ensures.pass c.sweep.ensures.files (sym c.is_starved.ensures ∙ c.if-is_starved.false)
    c.sweep.ensures.all c.end.ensures.done)
