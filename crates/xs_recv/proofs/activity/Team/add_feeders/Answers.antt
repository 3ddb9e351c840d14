use Rattle.std.proofs.Common.{◌<◌, ◌∷◌, ◌++◌, [], List, All, append_assoc, append-nil, true≢false, sym, ap, ◌∙◌, arith}
use Rattle.xs_capture.specs.Offer.{Offer}
use Rattle.xs_board.specs.Passes.{unit_count}
use Rattle.xs_recv.specs.declared.activity.Feed.{Feed}
use Rattle.xs_recv.specs.Filing.{fed}
use Rattle.xs_recv.proofs.Teams.{forked_all, pops}
use Rattle.xs_recv.proofs.activity.Team.add_feeders.Goals as goal

pub feeding-init : goal.feeding-init
feeding-init c = (c.requires.units, [], sym (append-nil c.args.feeds.items), c.requires.forked, c.requires.hands)

pub add-requires-clause-units : goal.add-requires-clause-units
add-requires-clause-units c =
    (pops (λ j (f : Feed). All (λ (p : Offer). p.unit < unit_count c.args.exchange.now.board) f.part.items) c.feeding.feeds.items c.pop.new.self.items c.in-Some.feed c.in-Some.ensures.items c.feeding.invariant.0).1

pub feeding-preserved : goal.feeding-preserved
feeding-preserved c = let i = c.feeding.invariant in let rest = c.pop.new.self.items in let e = c.in-Some.ensures.items in (
  (pops (λ j (f : Feed). All (λ (p : Offer). p.unit < unit_count c.args.exchange.now.board) f.part.items) c.feeding.feeds.items rest c.in-Some.feed e i.0).0,
  c.in-Some.feed ∷ i.1,
  i.2 ∙ (ap (λ (l : List Feed). l ++ i.1) e ∙ append_assoc rest (c.in-Some.feed ∷ []) i.1),
  c.in_ok-add.ensures.forked (fed i.1) i.3,
  c.in_ok-add.ensures.hands,
)

pub returns-clause-forked : goal.returns-clause-forked
returns-clause-forked c =
    let i = c.feeding.invariant in
    forked_all c.args.exchange.now.board c.args.feeds.items c.feeding.feeds.items i.1 c.feeding.self.pass c.feeding.self.others.items (λ lt. true≢false (sym (c.in_default.ensures.variant.1 (let e = c.feeding.feeds.ok.0 in omega arith)))) i.2 i.3
