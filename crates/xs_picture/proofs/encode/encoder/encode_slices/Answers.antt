use Rattle.std.proofs.Common.{rules, ◌≡◌, ◌<◌, sym, ap, subst, arith}
use Rattle.std.specs.Prelude.{IfErr, Some}
use Rattle.std.specs.Result.{result_err}
use Rattle.xs_params.specs.Geometry.{slice_count}
use Rattle.xs_params.specs.Headers.{header_of}
use Rattle.xs_rate.specs.Coefficients.{rows_of_picture}
use Rattle.xs_picture.specs.Encoded.{WhyUnwritten}
use Rattle.xs_picture.proofs.Analysed.{picture_rows}
use Rattle.xs_picture.proofs.Encoded as pictures
use Rattle.xs_picture.proofs.Folded.{rows_small_held}
use Rattle.xs_picture.proofs.Results.{is_err}
use Rattle.xs_picture.proofs.encode.encoder.encode_slices.Goals as goal

pub blank-requires : goal.blank-requires
blank-requires c = subst (λ g. 0 < slice_count g) (sym c.of-geometry.ensures) (pictures.some_slices c.in_ok-header.header c.in_ok-header.ensures.accepted)

pub fold_slice-requires-clause-bands : goal.fold_slice-requires-clause-bands
fold_slice-requires-clause-bands c = picture_rows c.in_ok-header.header c.args.planes.now c.in_ok-bands.bands c.in_ok-bands.ensures

pub write_slice_in-requires-clause-small : goal.write_slice_in-requires-clause-small
write_slice_in-requires-clause-small c = rows_small_held c.in_ok-header.header c.in_ok-bands.bands c.fold_slice.new.rows c.in_ok-fold_slice.ensures.shown

pub returns-in_err-bytes-clause-refused : goal.returns-in_err-bytes-clause-refused
returns-in_err-bytes-clause-refused c =
    let s = c.args.settings.now in
    let h = c.in_ok-header.header in
    let why = c.in_err-bytes.field-0.0 in
    let told : result_err c.from_residual-in_err-bytes.result ≡ Some why = search rules in
    let inside : c.slices.slice < slice_count h = omega (arith, c.slices-test.true, c.slices.auto.slice-end, c.slices-slice-end.ensures.count, ap slice_count c.of-geometry.ensures) in
    subst (λ r. IfErr r (WhyUnwritten (header_of s) (rows_of_picture (header_of s) c.args.planes.now) s.share)) (sym (is_err c.from_residual-in_err-bytes.result why told))
    (pictures.refused_slice s c.settings-asked.result.now h c.args.planes.now c.in_ok-bands.bands c.slices.slice c.fold_slice.new.rows c.slices.slices.items why c.settings-asked.ensures.settings c.in_ok-header.ensures.header
    c.in_ok-header.ensures.accepted inside c.in_ok-bands.ensures c.in_ok-fold_slice.ensures.lines c.in_ok-fold_slice.ensures.shown c.slices.invariant.slices c.in_err-bytes.ensures.refused)

pub slices-preserved : goal.slices-preserved
slices-preserved c =
    let s = c.args.settings.now in
    let h = c.in_ok-header.header in
    let inside : c.slices.slice < slice_count h = omega (arith, c.slices-test.true, c.slices.auto.slice-end, c.slices-slice-end.ensures.count, ap slice_count c.of-geometry.ensures) in
    record {
      slices = pictures.slices_more (header_of s) (rows_of_picture (header_of s) c.args.planes.now) s.share s.fill c.slices.slice c.slices.slices.items c.add.new.slices.items c.in_ok-bytes.bytes c.in_ok-add.ensures.added
          (pictures.written_slice s c.settings-asked.result.now h c.args.planes.now c.in_ok-bands.bands c.slices.slice c.fold_slice.new.rows c.in_ok-bytes.bytes c.settings-asked.ensures.settings c.in_ok-header.ensures.header
          c.in_ok-header.ensures.accepted inside c.in_ok-bands.ensures c.in_ok-fold_slice.ensures.lines c.in_ok-fold_slice.ensures.shown c.in_ok-bytes.ensures.written)
          c.slices.invariant.slices;
      room = c.in_ok-bytes.ensures.room;
    }

pub returns-clause-slices : goal.returns-clause-slices
returns-clause-slices c =
    let s = c.args.settings.now in
    let end : c.slices.slice ≡ slice_count (header_of s) = omega (arith, c.slices-test.false, c.slices.auto.slice-end, c.slices-slice-end.ensures.count, ap slice_count c.of-geometry.ensures, ap slice_count c.in_ok-header.ensures.header) in
    pictures.slices_all (header_of s) (rows_of_picture (header_of s) c.args.planes.now) s.share s.fill c.slices.slice c.slices.slices.items end c.slices.invariant.slices
