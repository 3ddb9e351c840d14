use Rattle.std.proofs.Common.{ap, ◌∙◌, set}
use Rattle.xs_capture.proofs.Edits.{item_back}
use Rattle.xs_capture.proofs.parts.Parts.take.Goals as goal

pub returns-clause-left : goal.returns-clause-left
returns-clause-left c =
    item_back c.self.inside.lists.items c.args.self.now c.args.part c.replace.new.dest c.self.view_is
    ∙ ap (λ l. set c.args.self.now c.args.part l) (ap (λ v. v.items) c.replace.ensures.after ∙ c.new-none.ensures.items)
