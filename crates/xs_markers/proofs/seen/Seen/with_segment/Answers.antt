use Rattle.std.proofs.Common.{sym, ap, ◌∙◌}
use Rattle.xs_markers.specs.Segments.{rules_of}
use Rattle.xs_markers.specs.Values.{fields_fault}
use Rattle.xs_markers.proofs.seen.Seen.with_segment.Goals as goal

pub returns-in-Picture-clause-first : goal.returns-in-Picture-clause-first
returns-in-Picture-clause-first c = c.with_picture.ensures.first ∙ ap (λ k. fields_fault (rules_of c.args.self.now k c.args.body.now)) (sym c.in-Picture.is)
