use Rattle.std.proofs.Common.{ℕ, List, ◌+◌, length, sum_by, ap, arith}
use Rattle.xs_picture.proofs.Encoded as pictures
use Rattle.xs_picture.proofs.encode.encoder.assemble_stream.Goals as goal

pub overflow_cast-size : goal.overflow_cast-size
overflow_cast-size c =
    let short = pictures.header_short c.args.settings.now c.in_ok-header.header c.header.ensures.in_range c.in_ok-header.ensures.header in
    omega (arith, c.len-size.ensures.count, ap length c.in_ok-write_header.ensures.written, short)

pub overflow_add-header : goal.overflow_add-header
overflow_add-header c =
    let short = pictures.header_short c.args.settings.now c.in_ok-header.header c.header.ensures.in_range c.in_ok-header.ensures.header in
    omega (arith, c.len-size.ensures.count, ap length c.in_ok-write_header.ensures.written, short, c.total_bytes.ensures.sum, ap (λ (l : List (List ℕ)). sum_by length l) c.as_slice.ensures.value, c.requires.room)

pub overflow_add-header-2 : goal.overflow_add-header-2
overflow_add-header-2 c =
    let short = pictures.header_short c.args.settings.now c.in_ok-header.header c.header.ensures.in_range c.in_ok-header.ensures.header in
    omega (arith, c.len-size.ensures.count, ap length c.in_ok-write_header.ensures.written, short, c.total_bytes.ensures.sum, ap (λ (l : List (List ℕ)). sum_by length l) c.as_slice.ensures.value, c.requires.room)

pub write_header-requires-2-clause-accepted : goal.write_header-requires-2-clause-accepted
write_header-requires-2-clause-accepted c = pictures.accepted_header c.args.settings.now c.in_ok-header.header (c.len-size.result + c.total_bytes.result + 2) c.header.ensures.in_range c.in_ok-header.ensures.header
