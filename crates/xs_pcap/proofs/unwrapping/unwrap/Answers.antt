use Rattle.std.proofs.Common.{◌≡◌, ◌+◌, ◌++◌, ◌<◌, length, Ok, Err, arith, sym, ap, ◌∙◌}
use Rattle.std.specs.Prelude.{slice_range}
use Rattle.std.proofs.lemmas.Result.{err_from_is_err_and}
use Rattle.xs_pcap.specs.Datagram.{payload_of}
use Rattle.xs_pcap.specs.File.{header_read, order_of, record_read}
use Rattle.xs_pcap.specs.Unwrapped.{frame_if, step_if}
use Rattle.xs_pcap.proofs.Parts.{are_bytes}
use Rattle.xs_pcap.proofs.Files.{as_fault, fault_of_header}
use Rattle.xs_pcap.proofs.Walks.{cut_walked, file_walked, step_least, walked_more}
use Rattle.xs_pcap.proofs.unwrapping.unwrap.Goals as goal

pub returns-in_err-order : goal.returns-in_err-order
returns-in_err-order c =
    let p = err_from_is_err_and c.from_residual.result c.from_residual.ensures.1 in
    let answer : header_read c.args.bytes.now ≡ Err c.in_err-order.field-0.0 = sym c.read_header.ensures.read ∙ c.in_err-order.was in
    record { unwrapped = rw (p.1, p.2) (as_fault c.args.bytes.now c.in_err-order.field-0.0 (fault_of_header c.args.bytes.now c.in_err-order.field-0.0 answer)) }

pub returns-in_err-first : goal.returns-in_err-first
returns-in_err-first c =
    let p = err_from_is_err_and c.from_residual-in_err-first.result c.from_residual-in_err-first.ensures.1 in
    let inside : c.unwrapping.place < length c.args.bytes.now = omega (arith, c.unwrapping-test.true) in
    let answer : record_read (order_of c.args.bytes.now) c.args.bytes.now c.unwrapping.place ≡ Err c.in_err-first.field-0.0 =
    ap (λ o. record_read o c.args.bytes.now c.unwrapping.place) (sym c.unwrapping.invariant.0) ∙ sym c.read_record.ensures.read ∙ c.in_err-first.was in
    record { unwrapped = rw (p.1, p.2) (cut_walked c.args.bytes.now c.args.port c.unwrapping.place c.in_err-first.field-0.0 c.unwrapping.unwrapped.capture c.unwrapping.unwrapped.stepped c.unwrapping.invariant.1 inside answer c.unwrapping.invariant.4) }

pub unwrapping-preserved : goal.unwrapping-preserved
unwrapping-preserved c =
    let all = are_bytes c.args.bytes.now (λ i. omega (arith, c.type_inv.bytes i)) in
    let answer : record_read (order_of c.args.bytes.now) c.args.bytes.now c.unwrapping.place ≡ Ok (c.in_ok-first.first, c.in_ok-first.end) =
    ap (λ o. record_read o c.args.bytes.now c.unwrapping.place) (sym c.unwrapping.invariant.0) ∙ sym c.read_record.ensures.read ∙ c.in_ok-first.was in
    let those : c.add.new.self.capture ≡ c.unwrapping.unwrapped.capture ++ frame_if (payload_of c.args.port (slice_range c.args.bytes.now c.in_ok-first.first c.in_ok-first.end)) =
    c.in_ok-add.ensures.capture ∙ ap (λ o. c.unwrapping.unwrapped.capture ++ frame_if o) c.payload_of.ensures.payload in
    let these : c.add.new.self.stepped ≡ c.unwrapping.unwrapped.stepped + step_if (payload_of c.args.port (slice_range c.args.bytes.now c.in_ok-first.first c.in_ok-first.end)) =
    c.in_ok-add.ensures.stepped ∙ ap (λ o. c.unwrapping.unwrapped.stepped + step_if o) c.payload_of.ensures.payload in
    let least = step_least (payload_of c.args.port (slice_range c.args.bytes.now c.in_ok-first.first c.in_ok-first.end)) in
    let ends = c.in_ok-first.ensures.inside in (
      c.unwrapping.invariant.0,
      c.unwrapping.invariant.1,
      ends.2,
      omega (arith, these, least, ends, c.unwrapping.invariant.3),
      walked_more c.args.bytes.now c.args.port c.unwrapping.place (c.in_ok-first.first, c.in_ok-first.end) c.unwrapping.unwrapped.capture c.unwrapping.unwrapped.stepped all answer c.unwrapping.invariant.4
          c.add.new.self.capture c.add.new.self.stepped those these,
    )

pub returns : goal.returns
returns c =
    let all = are_bytes c.args.bytes.now (λ i. omega (arith, c.type_inv.bytes i)) in
    let walked = c.unwrapping.invariant.4 in
    record {
      unwrapped = record {
        records = walked.records;
        file = file_walked c.args.bytes.now c.args.port c.unwrapping.place c.unwrapping.unwrapped.capture c.unwrapping.unwrapped.stepped all c.unwrapping.invariant.1 (omega (arith, c.unwrapping-test.false)) walked;
        capture = walked.capture_is;
        stepped = walked.stepped_is;
      };
    }
