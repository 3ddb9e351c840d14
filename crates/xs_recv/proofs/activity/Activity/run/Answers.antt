use Rattle.std.proofs.Common.{◌∙◌, subst}
use Rattle.xs_board.specs.Passes.{actor}
use Rattle.xs_handover.specs.declared.handover.HandPass.{HandPass}
use Rattle.xs_recv.specs.Activities.{HasHand}
use Rattle.xs_recv.proofs.Feeding.{runs_on}
use Rattle.xs_recv.proofs.activity.Activity.run.Goals as goal

pub returns-in-Worker : goal.returns-in-Worker
returns-in-Worker g c =
    let on = runs_on c.args.self.now.part (actor c.args.self.now.pass) (actor c.feed.new.self.pass) (actor c.work.new.self.pass) c.work.ensures.files c.feed.ensures.files c.feed.ensures.each in
    record {
      pass = c.work.ensures.pass;
      hand = subst (λ (z : HandPass). HasHand c.args.exchange.now.handover z c.work.new.self.hand) c.feed.ensures.hand c.work.ensures.hand;
      share = (c.work.ensures.share.0 ∙ c.feed.ensures.share.0, c.work.ensures.share.1 ∙ c.feed.ensures.share.1);
      files = on.0;
      each = on.1;
    }
