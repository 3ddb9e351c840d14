use Rattle.std.proofs.Common.{arith, rules}
use Rattle.xs_picture.specs.StreamRead.{IsPictureRead}
use Rattle.xs_cli.proofs.Streams.{are_bytes, some_there, told_next, unwritten}
use Rattle.xs_cli.proofs.decoding.next.Goals as goal

pub returns-in-Ok-clause-next : goal.returns-in-Ok-clause-next
returns-in-Ok-clause-next g c = λ sequence.
    let read : IsPictureRead c.in-Ok.planes c.args.rest.now c.in-Ok.size = search rules in
    unwritten (record { pictures = c.args.picture; bytes = c.args.place; sequence = sequence }) c.args.rest.now c.in-Ok.planes c.in-Ok.size _ c.in-Err-write_raw.why (some_there c.args.rest.now c.requires.some) c.requires.few read c.in-Err-write_raw.ensures

pub returns-clause-next : goal.returns-clause-next
returns-clause-next g c = λ sequence.
    told_next (record { pictures = c.args.picture; bytes = c.args.place; sequence = sequence }) c.args.rest.now (g.W.Sink.held c.args.output.now) (g.W.Sink.faults c.args.output.now) c.refusal.result (are_bytes c.args.rest.now (λ i. omega (arith, c.type_inv.rest i))) (c.refusal.ensures.told sequence)
