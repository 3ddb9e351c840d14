use Rattle.std.proofs.Common.{inl, inr}
use Rattle.xs_rows.proofs.Values.{shifted_six, shifted_eight}
use Rattle.xs_rows.proofs.scaling.raise_entry.Goals as goal

pub returns : goal.returns
returns c =
    elim c.requires.fraction [
      | inl six ↦ shifted_six _ _ six c.ranges.number c.requires.small
      | inr eight ↦ shifted_eight _ _ eight c.ranges.number c.requires.small
    ]
