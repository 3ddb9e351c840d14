use Rattle.std.proofs.Common.{◌++◌, ap, ◌∙◌}
use Rattle.xs_grammar.specs.Coded.{packets_bytes}
use Rattle.xs_precinct_write.specs.Sent.{content_in, modes_in}
use Rattle.xs_precinct_write.proofs.Precincts.{each_fits, finished, packets_are}
use Rattle.xs_precinct_write.proofs.write.precinct.precinct_body.Goals as goal

pub write_packets-requires-clause-fits : goal.write_packets-requires-clause-fits
write_packets-requires-clause-fits c = λ number inside. (let s = c.args.at.now in each_fits s.header.now (content_in s) (modes_in s) (λ _. c.args.wanted.filler) c.args.wanted.precinct number c.requires.fits inside)

pub returns-clause-body : goal.returns-clause-body
returns-clause-body c =
    let s = c.args.at.now in
    let packets = packets_bytes s.header.now (content_in s) (modes_in s) c.args.wanted.precinct in
    let body = finished c.finish-body.result packets c.new-out.result.bits c.write_packets.new.out.bits c.finish-body.ensures.bytes (packets_are s.header.now (content_in s) (modes_in s) c.args.wanted.precinct)
    c.finish-body.ensures.bits c.new-out.ensures.empty c.in_ok-write_packets.ensures.bits in
    c.in_ok-extend.ensures.appended ∙ ap (λ l. l ++ c.as_slice.result.now) body ∙ ap (λ l. packets ++ l) (c.as_slice.ensures.value ∙ c.in_ok-filler.ensures)
