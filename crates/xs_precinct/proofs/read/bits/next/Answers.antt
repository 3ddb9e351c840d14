use Rattle.std.proofs.Common.{rules, ◌≡◌, ◌<◌, ◌^◌, ◌++◌, length, length-append, ap, arith}
use Rattle.xs_bits.specs.Reading.{left}
use Rattle.xs_lists.specs.Bits.{bits_of}
use Rattle.xs_lists.proofs.Bits.{length-bits_of}
use Rattle.xs_precinct.proofs.Fields.{field_got}
use Rattle.xs_precinct.proofs.read.bits.next.Goals as goal

pub returns-clause-field : goal.returns-clause-field
returns-clause-field c =
    let got : left c.args.input.now ≡ bits_of c.args.width c.unwrap.result ++ left c.get.new.self = search rules in
    let fits : c.unwrap.result < 2 ^ c.args.width = search rules in
    field_got c.args.input.now.place c.args.width c.unwrap.result c.args.input.now.bits (left c.get.new.self) fits got

pub returns-clause-left : goal.returns-clause-left
returns-clause-left c =
    let got : left c.args.input.now ≡ bits_of c.args.width c.unwrap.result ++ left c.get.new.self = search rules in
    omega (arith, ap length got, length-append (bits_of c.args.width c.unwrap.result) (left c.get.new.self), length-bits_of c.args.width c.unwrap.result)
