use Rattle.xs_planes.proofs.write.parts.Goals as goal

pub returns-then-planes-le7 : goal.returns-then-planes-le7
returns-then-planes-le7 c = c.short_parts.ensures c.args.planes c.if-planes-le7.true c.requires.small
