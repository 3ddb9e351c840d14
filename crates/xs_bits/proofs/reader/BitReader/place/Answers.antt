use Rattle.std.proofs.Common.{length, ap, ◌*◌, ◌≡◌, ◌∙◌, arith, sym}
use Rattle.xs_lists.proofs.Bits.{length-bits_of_bytes}
use Rattle.xs_bits.specs.Reading.{BitReading}
use Rattle.xs_bits.proofs.reader.BitReader.place.Goals as goal

pub returns-clause-within : goal.returns-clause-within
returns-clause-within c =
    let place : c.self.inside.place ≡ c.args.self.now.place = ap (λ (r : BitReading). r.place) c.self.view_is in
    let size : 8 * length c.self.inside.bytes.now ≡ length c.args.self.now.bits = sym (length-bits_of_bytes c.self.inside.bytes.now) ∙ ap (λ (r : BitReading). length r.bits) c.self.view_is in
    omega (arith, place, size, c.self.invariant.1)
