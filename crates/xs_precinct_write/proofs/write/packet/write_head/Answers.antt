use Rattle.std.proofs.Common.{refl, sym, ap, ◌∙◌, ◌++◌}
use Rattle.std.specs.Prelude.{false}
use Rattle.xs_grammar.specs.Packet.{packet_fields}
use Rattle.xs_grammar.proofs.Coded.{fields_whole}
use Rattle.xs_precinct_write.proofs.Heads.{four_fields, head_border}
use Rattle.xs_precinct_write.proofs.write.packet.write_head.Goals as goal

pub returns-clause-bits : goal.returns-clause-bits
returns-clause-bits c =
    four_fields c.args.out.now.bits c.put.new.self.bits c.put-2.new.self.bits c.put-3.new.self.bits c.put-4.new.self.bits c.args.numbers c.args.counts c.args.signs
    c.put.ensures.bits c.put-2.ensures.bits c.put-3.ensures.bits c.put-4.ensures.bits
    ∙ ap (λ l. c.args.out.now.bits ++ l) (sym (fields_whole (packet_fields false false c.args.numbers c.args.counts c.args.signs) refl))

pub returns-clause-border : goal.returns-clause-border
returns-clause-border c =
    head_border c.args.out.now.bits c.put.new.self.bits c.put-2.new.self.bits c.put-3.new.self.bits c.put-4.new.self.bits c.args.numbers c.args.counts c.args.signs c.requires.border
    c.put.ensures.bits c.put-2.ensures.bits c.put-3.ensures.bits c.put-4.ensures.bits
