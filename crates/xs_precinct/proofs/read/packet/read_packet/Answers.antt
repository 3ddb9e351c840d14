use Rattle.std.proofs.Common.{◌≤◌, length, ap, ◌∙◌, arith}
use Rattle.std.specs.Prelude.{None, Some}
use Rattle.std.specs.Result.{result_err}
use Rattle.std.proofs.lemmas.Result.{err_from_is_err_and}
use Rattle.xs_grammar.specs.Sizes.{head_size}
use Rattle.xs_precinct.proofs.Faults.{after_counts, followed, lines_held, places_known, stops_at_counts}
use Rattle.xs_precinct.proofs.read.packet.read_packet.Goals as goal

pub returns-in_err-read_all_counts-clause-fault : goal.returns-in_err-read_all_counts-clause-fault
returns-in_err-read_all_counts-clause-fault c =
    let p = err_from_is_err_and c.from_residual.result c.from_residual.ensures.1 in
    let h = c.args.header.now in
    let bytes = c.args.packet.now.bytes.now in
    let head = c.read_head-head.result in
    let places = c.places_of-places.result in
    let room : head_size h ≤ length bytes = omega (arith, c.head_size.ensures, c.if-packet-head_size.false) in
    λ lines known.
    ap result_err p.1 ∙ ap Some p.2
    ∙ stops_at_counts h c.args.packet.now.number lines bytes head.raw places.flags_at places.counts_at places.data_at places.signs_at places.end c.in_err-read_all_counts.field-0.0
    (places_known h c.args.bands.now lines bytes head.raw head.data_bytes head.count_bytes head.sign_bytes places.flags_at places.counts_at places.data_at places.signs_at places.end known room c.read_head-head.ensures.head
    c.places_of-places.ensures.flags c.places_of-places.ensures.counts c.places_of-places.ensures.data c.places_of-places.ensures.signs c.places_of-places.ensures.end)
    (c.in_err-read_all_counts.ensures.fault lines known)

pub returns-in_err-read_all_numbers-clause-fault : goal.returns-in_err-read_all_numbers-clause-fault
returns-in_err-read_all_numbers-clause-fault c =
    let p = err_from_is_err_and c.from_residual-in_err-read_all_numbers.result c.from_residual-in_err-read_all_numbers.ensures.1 in
    let h = c.args.header.now in
    let bytes = c.args.packet.now.bytes.now in
    let head = c.read_head-head.result in
    let places = c.places_of-places.result in
    let room : head_size h ≤ length bytes = omega (arith, c.head_size.ensures, c.if-packet-head_size.false) in
    λ lines known.
    let counted = c.in_ok-read_all_counts.ensures.read lines known in
    ap result_err p.1 ∙ ap Some p.2
    ∙ after_counts h c.args.packet.now.number lines counted.0 counted.1 bytes head.raw places.flags_at places.counts_at places.data_at places.signs_at places.end (Some c.in_err-read_all_numbers.field-0.0)
    (places_known h c.args.bands.now lines bytes head.raw head.data_bytes head.count_bytes head.sign_bytes places.flags_at places.counts_at places.data_at places.signs_at places.end known room c.read_head-head.ensures.head
    c.places_of-places.ensures.flags c.places_of-places.ensures.counts c.places_of-places.ensures.data c.places_of-places.ensures.signs c.places_of-places.ensures.end)
    counted.3 (c.in_ok-read_all_counts.ensures.fault lines known) (c.in_err-read_all_numbers.ensures.fault counted.0 counted.2)

pub returns-clause-fault : goal.returns-clause-fault
returns-clause-fault c =
    let h = c.args.header.now in
    let bytes = c.args.packet.now.bytes.now in
    let head = c.read_head-head.result in
    let places = c.places_of-places.result in
    let room : head_size h ≤ length bytes = omega (arith, c.head_size.ensures, c.if-packet-head_size.false) in
    λ lines known.
    let counted = c.in_ok-read_all_counts.ensures.read lines known in
    after_counts h c.args.packet.now.number lines counted.0 counted.1 bytes head.raw places.flags_at places.counts_at places.data_at places.signs_at places.end None
    (places_known h c.args.bands.now lines bytes head.raw head.data_bytes head.count_bytes head.sign_bytes places.flags_at places.counts_at places.data_at places.signs_at places.end known room c.read_head-head.ensures.head
    c.places_of-places.ensures.flags c.places_of-places.ensures.counts c.places_of-places.ensures.data c.places_of-places.ensures.signs c.places_of-places.ensures.end)
    counted.3 (c.in_ok-read_all_counts.ensures.fault lines known) (c.in_ok-read_all_numbers.ensures.fault counted.0 counted.2)

pub returns-clause-ends : goal.returns-clause-ends
returns-clause-ends c =
    let h = c.args.header.now in
    let bytes = c.args.packet.now.bytes.now in
    let head = c.read_head-head.result in
    let places = c.places_of-places.result in
    let room : head_size h ≤ length bytes = omega (arith, c.head_size.ensures, c.if-packet-head_size.false) in
    λ lines known.
    (places_known h c.args.bands.now lines bytes head.raw head.data_bytes head.count_bytes head.sign_bytes places.flags_at places.counts_at places.data_at places.signs_at places.end known room c.read_head-head.ensures.head
    c.places_of-places.ensures.flags c.places_of-places.ensures.counts c.places_of-places.ensures.data c.places_of-places.ensures.signs c.places_of-places.ensures.end).end_at

pub returns-clause-read : goal.returns-clause-read
returns-clause-read c =
    let h = c.args.header.now in
    let bytes = c.args.packet.now.bytes.now in
    let head = c.read_head-head.result in
    let places = c.places_of-places.result in
    let room : head_size h ≤ length bytes = omega (arith, c.head_size.ensures, c.if-packet-head_size.false) in
    λ lines known.
    let counted = c.in_ok-read_all_counts.ensures.read lines known in
    lines_held h c.read_all_numbers.new.bands lines counted.0 counted.1 bytes head.raw places.flags_at places.counts_at places.data_at places.signs_at places.end
    (places_known h c.args.bands.now lines bytes head.raw head.data_bytes head.count_bytes head.sign_bytes places.flags_at places.counts_at places.data_at places.signs_at places.end known room c.read_head-head.ensures.head
    c.places_of-places.ensures.flags c.places_of-places.ensures.counts c.places_of-places.ensures.data c.places_of-places.ensures.signs c.places_of-places.ensures.end)
    counted.3 (c.in_ok-read_all_numbers.ensures.read counted.0 counted.2)

pub returns-clause-follow : goal.returns-clause-follow
returns-clause-follow c = followed c.args.bands.now c.read_all_counts.new.bands c.read_all_numbers.new.bands c.in_ok-read_all_counts.ensures.follow c.in_ok-read_all_numbers.ensures.coded
