use Rattle.std.proofs.Common.{length, ap, ◌-◌, ◌*◌, ◌/◌, ◌≡◌, ◌≤◌, ◌∙◌, arith, sym}
use Rattle.std.proofs.lemmas.Bool.{le-leb}
use Rattle.xs_bits.specs.Reading.{BitReading, left}
use Rattle.xs_bits.proofs.Windows.{length-left}
use Rattle.xs_bits.proofs.reader.BitReader.has.Goals as goal

pub returns-then-self-ge-AROUND : goal.returns-then-self-ge-AROUND
returns-then-self-ge-AROUND c =
    let size : 8 * length c.self.inside.bytes.now - c.self.inside.place ≡ length (left c.args.self.now) = sym (length-left c.self.inside.bytes.now c.self.inside.place) ∙ ap (λ (r : BitReading). length (left r)) c.self.view_is in
    let far : 8 ≤ length c.self.inside.bytes.now - c.self.inside.place / 8 = c.if-self-ge-AROUND.true in
    let enough : c.args.width ≤ length (left c.args.self.now) = omega (arith, size, far, c.requires, c.self.invariant.1) in
    le-leb 8 _ far ∙ sym (le-leb c.args.width _ enough)
