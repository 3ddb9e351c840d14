use Rattle.std.proofs.Common.{◌≡◌, Some, arith}
use Rattle.xs_faults.specs.declared.StreamFault.TheVariants as stream
use Rattle.xs_picture.specs.Faults.{stream_fault}
use Rattle.xs_picture.proofs.Named.{faults_are_named}
use Rattle.xs_cli.proofs.Streams.{bad_end_told, some_there}
use Rattle.xs_cli.proofs.decoding.refusal.Goals as goal

pub returns-in-Head-clause-own : goal.returns-in-Head-clause-own
returns-in-Head-clause-own c =
    let e : stream_fault c.args.rest.now ≡ Some (stream.Head c.in-Head.fault) = rw c.in-Head.is at (c.requires.fault (rw c.in-Head.is (λ x. absurd (cc)))) in
    ((omega arith, omega arith), (faults_are_named c.args.rest.now (stream.Head c.in-Head.fault) e).1)

pub returns-in-Slice-clause-own : goal.returns-in-Slice-clause-own
returns-in-Slice-clause-own c =
    let e : stream_fault c.args.rest.now ≡ Some (stream.Slice c.in-Slice.slice c.in-Slice.fault) = rw c.in-Slice.is at (c.requires.fault (rw c.in-Slice.is (λ x. absurd (cc)))) in
    ((omega arith, omega arith), (faults_are_named c.args.rest.now (stream.Slice c.in-Slice.slice c.in-Slice.fault) e).1)

pub returns-in-End-clause-told : goal.returns-in-End-clause-told
returns-in-End-clause-told c = λ sequence.
    let e : stream_fault c.args.rest.now ≡ Some (stream.End c.in-End.place) = rw c.in-End.is at (c.requires.fault (rw c.in-End.is (λ x. absurd (cc)))) in
    bad_end_told (record { pictures = c.args.picture; bytes = c.args.place; sequence = sequence }) c.args.rest.now c.in-End.place c.bad_end.result (some_there c.args.rest.now c.requires.some) c.requires.few e c.bad_end.ensures
