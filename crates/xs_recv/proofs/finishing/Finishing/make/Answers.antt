use Rattle.xs_recv.proofs.finishing.Finishing.make.Goals as goal

pub returns-clause-made : goal.returns-clause-made
returns-clause-made c = λ held by. let made = c.in_ok-try_make.ensures.made held by in (made.0, made.1 c.if-not-branch.false)
