use Rattle.std.proofs.Common.{length, ap, ◌-◌, ◌*◌, ◌≡◌, ◌∙◌, arith, sym}
use Rattle.xs_bits.specs.Reading.{BitReading, left}
use Rattle.xs_bits.proofs.Windows.{length-left}
use Rattle.xs_bits.proofs.reader.BitReader.remaining.Goals as goal

pub returns : goal.returns
returns c =
    let size : 8 * length c.self.inside.bytes.now - c.self.inside.place ≡ length (left c.args.self.now) = sym (length-left c.self.inside.bytes.now c.self.inside.place) ∙ ap (λ (r : BitReading). length (left r)) c.self.view_is in
    omega (arith, size)
