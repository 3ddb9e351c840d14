use Rattle.std.proofs.Common.{[], ◌∷◌, ◌/◌, ap, ◌∙◌, arith}
use Rattle.xs_planes.proofs.Gather.{all_bytes, lane_number_of, lanes_number}
use Rattle.xs_planes.proofs.read.numbers_of.Goals as goal

pub returns : goal.returns
returns c =
    ap (λ v. lane_number_of v ∷ lane_number_of (v / 65536) ∷ lane_number_of (v / 65536 / 65536) ∷ lane_number_of (v / 65536 / 65536 / 65536) ∷ []) (all_bytes c.args.word (omega arith))
    ∙ lanes_number c.args.word
