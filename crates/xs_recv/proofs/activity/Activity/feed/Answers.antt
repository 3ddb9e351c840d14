use Rattle.std.proofs.Common.{All, ap, ◌∙◌, subst}
use Rattle.xs_stored.specs.Stored.{IsFiled}
use Rattle.xs_board.specs.Passes.{actor, knows}
use Rattle.xs_handover.specs.Passes.{actor as hand_actor}
use Rattle.xs_recv.specs.Activities.{Doing}
use Rattle.xs_recv.specs.Filing.{FilesOf}
use Rattle.xs_recv.proofs.Keeping.{keeps_same, still_same}
use Rattle.xs_recv.proofs.Rows.{rows_known}
use Rattle.xs_recv.proofs.activity.Activity.feed.Goals as goal

pub invariant_of-self : goal.invariant_of-self
invariant_of-self c = λ sated. let k = c.self.invariant sated in (
  keeps_same (actor c.self.inside.pass).got (actor c.file_all.new.pass).got c.self.inside.head c.self.inside.kept.items k.0 c.file_all.ensures.got,
  rows_known (knows c.self.inside.pass) (knows c.file_all.new.pass) c.self.inside.kept.items (hand_actor c.self.inside.hand) c.self.inside.stripes.items
      (still_same (knows c.self.inside.pass) (knows c.file_all.new.pass) c.file_all.ensures.knows) k.1,
)

pub returns-clause-each : goal.returns-clause-each
returns-clause-each c = subst (All (IsFiled (actor c.file_all.new.pass))) (ap (λ v. v.items) c.replace-part.ensures.value ∙ ap (λ (z : Doing). z.part) c.self.view_is) c.file_all.ensures.each

pub returns-clause-files : goal.returns-clause-files
returns-clause-files c =
    let part = ap (λ v. v.items) c.replace-part.ensures.value ∙ ap (λ (z : Doing). z.part) c.self.view_is in
    let w = actor c.file_all.new.pass in
    subst (λ l. FilesOf l (actor c.args.self.now.pass) w) part (subst (λ (z : Doing). FilesOf c.replace-part.result.items (actor z.pass) w) c.self.view_is c.file_all.ensures.files)
