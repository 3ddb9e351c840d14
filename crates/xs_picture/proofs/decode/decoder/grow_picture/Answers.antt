use Rattle.std.proofs.Common.{◌≡◌, ◌-◌, take, drop, length, sym, ap, subst, ◌∙◌, arith}
use Rattle.std.specs.Prelude.{Some}
use Rattle.std.proofs.lemmas.List.{take_rest, length-drop}
use Rattle.xs_params.specs.declared.header.Header.{Header}
use Rattle.xs_params.specs.Accepted.{IsAccepted}
use Rattle.xs_params.specs.Geometry.{slice_count}
use Rattle.xs_geometry.specs.SliceLines.{ShowRows}
use Rattle.xs_magnitudes.proofs.Small.{spelled_small}
use Rattle.xs_reading.specs.Slice.{slice_fault}
use Rattle.xs_slice_read.specs.Read.{IsFrontRead}
use Rattle.xs_picture.specs.Growing.{IsGrownOf}
use Rattle.xs_picture.proofs.Grown.{held_with, more_grown, none_grown}
use Rattle.xs_picture.proofs.StreamsRead.{slice_refused}
use Rattle.xs_picture.proofs.decode.decoder.grow_picture.Goals as goal

pub slices-init : goal.slices-init
slices-init c =
    let made = c.in_ok-growing.ensures in
    record {
      header = made.header;
      within = c.requires.headed.spelled.0.0;
      state = made.state;
      next = made.next;
      read = none_grown c.args.header c.args.bytes.now c.args.start c.in_ok-growing.growing made.holds;
    }

pub returns-in-Err-clause-refused : goal.returns-in-Err-clause-refused
returns-in-Err-clause-refused c = λ other.
    let h = c.args.header in
    let bytes = c.args.bytes.now in
    let slice = c.slices.slice in
    let place = c.slices.place in
    let f = c.in-Err.fault in
    let so = c.slices.invariant.read in
    let counted : c.slices-count.result ≡ slice_count h = c.slices-count.ensures.count ∙ ap slice_count c.of.ensures in
    let both = c.stream_fault_of_slice.ensures other in
    let told : slice_fault h slice (drop place bytes) ≡ Some f =
    ap (λ x. slice_fault x slice (drop place bytes)) (sym (c.header.ensures ∙ c.slices.invariant.header)) ∙ ap (slice_fault c.header.result.now slice) (sym (take_rest bytes place)) ∙ c.in-Err.ensures.refused both.0 in
    slice_refused h bytes c.args.start slice so.slices place f (omega (arith, counted, c.slices-test.true)) so.read told ∙ ap Some (sym both.1)

pub push-requires-clause-small : goal.push-requires-clause-small
push-requires-clause-small c =
    let h = c.header.result.now in
    let read = c.in-Ok.ensures.read in
    let accepted : IsAccepted h = subst IsAccepted (sym (c.header.ensures ∙ c.slices.invariant.header)) c.requires.headed.spelled.0.1.accepted in
    spelled_small h read.content c.slices.slice _ c.in-Ok.read.0 accepted read.spelled.1 read.lines read.shown

pub push-requires-clause-held : goal.push-requires-clause-held
push-requires-clause-held c =
    let h = c.args.header in
    let bytes = c.args.bytes.now in
    let slice = c.slices.slice in
    let place = c.slices.place in
    let rows = c.in-Ok.read.0 in
    let size = c.in-Ok.read.1 in
    let read : IsFrontRead h slice rows (drop place bytes) size = subst (λ l. IsFrontRead h slice rows l size) (take_rest bytes place)
    (subst (λ x. IsFrontRead x slice rows (take (length bytes - place) (drop place bytes)) size) (c.header.ensures ∙ c.slices.invariant.header) c.in-Ok.ensures.read) in
    let held = held_with h bytes c.args.start slice c.slices.growing rows place size c.requires.headed.spelled.0.1.accepted c.slices.invariant.read read in
    (held.0, held.1, subst (λ (x : Header). ShowRows x held.0 rows) (sym c.slices.invariant.header) held.2)

pub slices-preserved : goal.slices-preserved
slices-preserved c =
    let h = c.args.header in
    let bytes = c.args.bytes.now in
    let slice = c.slices.slice in
    let place = c.slices.place in
    let rows = c.in-Ok.read.0 in
    let size = c.in-Ok.read.1 in
    let pushed = c.in_ok-push.ensures in
    let read : IsFrontRead h slice rows (drop place bytes) size = subst (λ l. IsFrontRead h slice rows l size) (take_rest bytes place)
    (subst (λ x. IsFrontRead x slice rows (take (length bytes - place) (drop place bytes)) size) (c.header.ensures ∙ c.slices.invariant.header) c.in-Ok.ensures.read) in
    record {
      header = pushed.header ∙ c.slices.invariant.header;
      within = omega (arith, read.spelled.0, length-drop place bytes, c.slices.invariant.within);
      state = pushed.state;
      next = pushed.next;
      read = more_grown h bytes c.args.start slice c.slices.growing c.push.new.self rows place size c.requires.headed.spelled.0.1.accepted c.slices.invariant.read read
          (λ coefficients holds shows. pushed.holds coefficients holds (subst (λ (x : Header). ShowRows x coefficients rows) (sym c.slices.invariant.header) shows));
    }

pub returns-clause-read : goal.returns-clause-read
returns-clause-read c =
    let h = c.args.header in
    let counted : c.slices-count.result ≡ slice_count h = c.slices-count.ensures.count ∙ ap slice_count c.of.ensures in
    let end : c.slices.slice ≡ slice_count h = omega (arith, c.slices-test.false, c.slices.auto.slice-end, counted) in
    subst (λ n. IsGrownOf h c.args.bytes.now c.args.start n c.slices.growing c.slices.place) end c.slices.invariant.read
