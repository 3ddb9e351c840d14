use Rattle.std.proofs.Common.{rules, ◌≡◌, Some}
use Rattle.xs_handover.specs.declared.piece.Piece.TheVariants.{Down}
use Rattle.xs_handover.proofs.Absent.{not_carried}
use Rattle.xs_handover.proofs.block.RowBlock.down_of.Goals as goal

pub returns-in-None-clause-edge : goal.returns-in-None-clause-edge
returns-in-None-clause-edge c =
    let same : c.args.self.now ≡ Some c.deref.result.now = search rules in
    λ edge. not_carried c.args.header.now c.args.slice (Down edge) c.args.self.now c.deref.result.now same (c.in-None.ensures.piece (Down edge))
