use Rattle.std.proofs.Common.{sym, subst}
use Rattle.std.specs.Prelude.{Option}
use Rattle.xs_handover.specs.Blocks.{Carried}
use Rattle.xs_handover.specs.Passes.{actor}
use Rattle.xs_handover.specs.Handing.{FilesAll, listed}
use Rattle.xs_handover.proofs.Filing.{files_none}
use Rattle.xs_handover.proofs.handover.Handover.put_if.Goals as goal

pub returns-in-None-clause-files : goal.returns-in-None-clause-files
returns-in-None-clause-files c = subst (λ (o : Option Carried). FilesAll (listed o) (actor c.args.pass.now) (actor c.args.pass.now)) (sym c.in-None.is) (files_none (actor c.args.pass.now))
