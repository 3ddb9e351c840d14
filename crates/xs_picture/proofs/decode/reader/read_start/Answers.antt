use Rattle.std.proofs.Common.{sym, ap, ◌∙◌}
use Rattle.std.specs.Prelude.{Some}
use Rattle.xs_picture.proofs.StreamsRead.{header_refused}
use Rattle.xs_picture.proofs.decode.reader.read_start.Goals as goal

pub returns-in-Err-clause-refused : goal.returns-in-Err-clause-refused
returns-in-Err-clause-refused c = λ other.
    let both = c.stream_fault_of_header.ensures other in
    header_refused c.args.bytes.now c.in-Err.fault (c.in-Err.ensures.refused both.0) ∙ ap Some (sym both.1)
