use Rattle.std.proofs.Common.{◌+◌, ap}
use Rattle.std.specs.Prelude.{nat_eq}
use Rattle.xs_rate.specs.Coefficients.{rows_of_picture}
use Rattle.xs_enc_lanes.proofs.Known.{carries, made_carries, slice_known}
use Rattle.xs_enc_lanes.proofs.UnderWay.{scratched}
use Rattle.xs_enc_lanes.proofs.transform.Transform.slice.Goals as goal

pub folded_bands-requires-clause-known : goal.folded_bands-requires-clause-known
folded_bands-requires-clause-known c = slice_known c.args.self.now.component c.args.self.now c.args.slice c.requires.state c.requires.reached c.requires.kept

pub returns-clause-carries : goal.returns-clause-carries
returns-clause-carries c =
    let component = c.args.self.now.component in
    let last = ap (λ n. nat_eq (c.args.self.now.component.number + 1) n) c.components-components.ensures.count in
    made_carries component.header.now (rows_of_picture component.header.now component.picture.now) c.new.result _ c.new.ensures (carries component c.args.self.now c.args.slice c.in_ok-bands.bands.items _ c.requires.state c.requires.reached c.requires.kept c.requires.there c.in_ok-bands.ensures last)

pub returns-clause-state : goal.returns-clause-state
returns-clause-state c = scratched c.args.self.now.component c.args.self.now c.folded_bands.new.scratch c.requires.state
