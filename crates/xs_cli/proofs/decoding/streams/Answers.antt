use Rattle.std.proofs.Common.{◌≡◌, ◌≤◌, ℕ, List, length, drop, Result, Ok, Err, sym, subst, arith, rules}
use Rattle.std.proofs.lemmas.List.{drop_all, take_rest, length-drop}
use Rattle.xs_endings.specs.Ends.{change_of}
use Rattle.xs_endings.specs.Turns.{Before}
use Rattle.xs_cli.specs.Steps.{AreStreamsDecoded, IsNext}
use Rattle.xs_cli.proofs.Streams.{all_decoded, are_bytes, drop_bytes, many_next, one_decoded, stop_decoded, told_decoded}
use Rattle.xs_cli.specs.Encoded.{too_many}
use Rattle.xs_cli.proofs.decoding.streams.Goals as goal

pub returns-then-place-bytes-clause-decoded : goal.returns-then-place-bytes-clause-decoded
returns-then-place-bytes-clause-decoded g c =
    let p = g.W.Sink.held c.args.output.now in
    let q = g.W.Sink.held c.streams.output in
    let u = g.W.Sink.faults c.args.output.now in
    let v = g.W.Sink.faults c.streams.output in
    all_decoded c.args.bytes.now p q q u v v c.streams.picture c.streams.place c.streams.invariant.decoded (drop_all c.streams.place c.args.bytes.now (omega (arith, c.if-place-bytes.true)))

pub returns-in_err-place-clause-decoded : goal.returns-in_err-place-clause-decoded
returns-in_err-place-clause-decoded g c =
    let bytes = c.args.bytes.now in
    let p = g.W.Sink.held c.args.output.now in
    let q = g.W.Sink.held c.streams.output in
    let r = g.W.Sink.held c.next.new.output in
    let u = g.W.Sink.faults c.args.output.now in
    let v = g.W.Sink.faults c.streams.output in
    let w = g.W.Sink.faults c.next.new.output in
    let at : Before = record { pictures = c.streams.picture; bytes = c.streams.place; sequence = 0 } in
    let e : c.from_residual.result ≡ Err c.in_err-place.field-0.0 = search rules in
    let next = subst (λ (l : List ℕ). IsNext at l (change_of q r v w) (Err c.in_err-place.field-0.0)) (take_rest bytes c.streams.place) (c.in_err-place.ensures.next 0) in
    let are = drop_bytes c.streams.place bytes (are_bytes bytes (λ i. omega (arith, c.type_inv.bytes i))) in
    subst (λ (result : Result ℕ _). AreStreamsDecoded bytes (change_of p r u w) result) (sym e) (stop_decoded bytes p q r u v w c.streams.picture c.streams.place c.streams.invariant.decoded c.in_err-place.field-0.0 are next)

pub overflow_add-place : goal.overflow_add-place
overflow_add-place g c =
    let bytes = c.args.bytes.now in
    let q = g.W.Sink.held c.streams.output in
    let r = g.W.Sink.held c.next.new.output in
    let v = g.W.Sink.faults c.streams.output in
    let w = g.W.Sink.faults c.next.new.output in
    let at : Before = record { pictures = c.streams.picture; bytes = c.streams.place; sequence = 0 } in
    let next = subst (λ (l : List ℕ). IsNext at l (change_of q r v w) (Ok c.in_ok-place.field-0)) (take_rest bytes c.streams.place) (c.in_ok-place.ensures.next 0) in
    omega (arith, next.2, length-drop c.streams.place bytes, c.streams.invariant.within, c.requires)

pub streams-preserved : goal.streams-preserved
streams-preserved g c =
    let bytes = c.args.bytes.now in
    let p = g.W.Sink.held c.args.output.now in
    let q = g.W.Sink.held c.streams.output in
    let r = g.W.Sink.held c.next.new.output in
    let u = g.W.Sink.faults c.args.output.now in
    let v = g.W.Sink.faults c.streams.output in
    let w = g.W.Sink.faults c.next.new.output in
    let at : Before = record { pictures = c.streams.picture; bytes = c.streams.place; sequence = 0 } in
    let next = subst (λ (l : List ℕ). IsNext at l (change_of q r v w) (Ok c.in_ok-place.field-0)) (take_rest bytes c.streams.place) (c.in_ok-place.ensures.next 0) in
    record {
      within = omega (arith, next.2, length-drop c.streams.place bytes, c.streams.invariant.within);
      decoded = one_decoded bytes p q r u v w c.streams.picture c.streams.place c.streams.invariant.decoded c.in_ok-place.field-0 next c.next.ensures.later;
    }

pub returns-then-place-bytes-2-clause-decoded : goal.returns-then-place-bytes-2-clause-decoded
returns-then-place-bytes-2-clause-decoded g c =
    let p = g.W.Sink.held c.args.output.now in
    let q = g.W.Sink.held c.streams.output in
    let u = g.W.Sink.faults c.args.output.now in
    let v = g.W.Sink.faults c.streams.output in
    all_decoded c.args.bytes.now p q q u v v c.streams.picture c.streams.place c.streams.invariant.decoded (drop_all c.streams.place c.args.bytes.now (omega (arith, c.if-place-bytes-2.true)))

pub returns-clause-decoded : goal.returns-clause-decoded
returns-clause-decoded g c =
    let bytes = c.args.bytes.now in
    let p = g.W.Sink.held c.args.output.now in
    let q = g.W.Sink.held c.streams.output in
    let u = g.W.Sink.faults c.args.output.now in
    let v = g.W.Sink.faults c.streams.output in
    let at : Before = record { pictures = c.streams.picture; bytes = c.streams.place; sequence = 0 } in
    let some : 1 ≤ length (drop c.streams.place bytes) = omega (arith, length-drop c.streams.place bytes, c.streams.invariant.within, c.if-place-bytes-2.false) in
    told_decoded bytes p q q u v v c.streams.picture c.streams.place c.streams.invariant.decoded too_many c.streams.invariant.decoded.given (many_next at (drop c.streams.place bytes) some (omega (arith, c.streams-test.false)))
