use Rattle.std.proofs.Common.{◌≡◌, ◌+◌, ◌-◌, ◌<◌, take, drop, length, sym, ap, subst, ◌∙◌, arith}
use Rattle.std.specs.Prelude.{Some}
use Rattle.std.proofs.lemmas.List.{take_rest, length-drop}
use Rattle.xs_params.specs.Geometry.{slice_count}
use Rattle.xs_params.specs.Accepted.{IsAccepted}
use Rattle.xs_reading.specs.Slice.{slice_fault}
use Rattle.xs_slice_read.specs.Read.{IsFrontRead}
use Rattle.xs_picture.specs.StreamRead.{AreSlicesRead}
use Rattle.xs_picture.proofs.SlicesRead.{none_read, more_read}
use Rattle.xs_picture.proofs.StreamsRead.{slice_refused}
use Rattle.xs_picture.proofs.decode.reader.read_slices.Goals as goal

pub slices-init : goal.slices-init
slices-init c = record {
  header = c.new-coefs.ensures.header;
  within = c.requires.headed.spelled.0.0;
  read = none_read c.args.header c.args.bytes.now c.args.start c.new-coefs.result.slices c.new-coefs.ensures.none;
}

pub read_front-requires-clause-accepted : goal.read_front-requires-clause-accepted
read_front-requires-clause-accepted c = subst IsAccepted (sym (c.header.ensures ∙ c.slices.invariant.header)) c.requires.headed.spelled.0.1.accepted

pub read_front-requires-clause-there : goal.read_front-requires-clause-there
read_front-requires-clause-there c =
    let counted : c.slices-count.result ≡ slice_count c.args.header = c.slices-count.ensures.count ∙ ap slice_count c.of.ensures in
    subst (λ n. c.slices.slice < n) (counted ∙ ap slice_count (sym (c.header.ensures ∙ c.slices.invariant.header))) c.slices-test.true

pub returns-in-Err-clause-refused : goal.returns-in-Err-clause-refused
returns-in-Err-clause-refused c = λ other.
    let h = c.args.header in
    let bytes = c.args.bytes.now in
    let slice = c.slices.slice in
    let place = c.slices.place in
    let f = c.in-Err.fault in
    let counted : c.slices-count.result ≡ slice_count h = c.slices-count.ensures.count ∙ ap slice_count c.of.ensures in
    let both = c.stream_fault_of_slice.ensures other in
    let told : slice_fault h slice (drop place bytes) ≡ Some f =
    ap (λ x. slice_fault x slice (drop place bytes)) (sym (c.header.ensures ∙ c.slices.invariant.header)) ∙ ap (slice_fault c.header.result.now slice) (sym (take_rest bytes place)) ∙ c.in-Err.ensures.refused both.0 in
    slice_refused h bytes c.args.start slice c.slices.coefs.slices place f (omega (arith, counted, c.slices-test.true)) c.slices.invariant.read told ∙ ap Some (sym both.1)

pub slices-preserved : goal.slices-preserved
slices-preserved c =
    let h = c.args.header in
    let bytes = c.args.bytes.now in
    let slice = c.slices.slice in
    let place = c.slices.place in
    let rows = c.in-Ok.read.0 in
    let size = c.in-Ok.read.1 in
    let read : IsFrontRead h slice rows (drop place bytes) size = subst (λ l. IsFrontRead h slice rows l size) (take_rest bytes place)
    (subst (λ x. IsFrontRead x slice rows (take (length bytes - place) (drop place bytes)) size) (c.header.ensures ∙ c.slices.invariant.header) c.in-Ok.ensures.read) in
    record {
      header = c.in_ok-push.ensures.header ∙ c.slices.invariant.header;
      within = omega (arith, read.spelled.0, length-drop place bytes, c.slices.invariant.within);
      read = subst (λ s. AreSlicesRead h bytes c.args.start (slice + 1) s (place + size)) (sym c.in_ok-push.ensures.added)
          (more_read h bytes c.args.start slice c.slices.coefs.slices rows place size c.requires.headed.spelled.0.1.accepted c.slices.invariant.read read);
    }

pub returns-clause-header : goal.returns-clause-header
returns-clause-header c = c.slices.invariant.header

pub returns-clause-within : goal.returns-clause-within
returns-clause-within c = c.slices.invariant.within

pub returns-clause-read : goal.returns-clause-read
returns-clause-read c =
    let h = c.args.header in
    let counted : c.slices-count.result ≡ slice_count h = c.slices-count.ensures.count ∙ ap slice_count c.of.ensures in
    let end : c.slices.slice ≡ slice_count h = omega (arith, c.slices-test.false, c.slices.auto.slice-end, counted) in
    subst (λ n. AreSlicesRead h c.args.bytes.now c.args.start n c.slices.coefs.slices c.slices.place) end c.slices.invariant.read
