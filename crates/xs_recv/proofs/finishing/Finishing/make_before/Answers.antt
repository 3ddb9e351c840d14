use Rattle.xs_recv.proofs.finishing.Finishing.make_before.Goals as goal

pub returns-in_ok-try_make-clause-made : goal.returns-in_ok-try_make-clause-made
returns-in_ok-try_make-clause-made c = λ held by. (c.in_ok-try_make.ensures.made held by).0
