use Rattle.std.proofs.Common.{rules, ◌≡◌, sym, ap, subst, ◌∙◌, arith}
use Rattle.std.specs.Prelude.{Ok, Some}
use Rattle.std.specs.Result.{result_err}
use Rattle.xs_params.specs.Headers.{header_of}
use Rattle.xs_rate.specs.Coefficients.{rows_of_picture}
use Rattle.xs_rate.specs.Encoding.{encoding_of}
use Rattle.xs_picture.proofs.Results.{is_err}
use Rattle.xs_picture.proofs.Encoded as pictures
use Rattle.xs_enc_lanes.specs.Answered.{AreInOrder}
use Rattle.xs_enc_lanes.specs.Encoded.{IsEncodedOrMemory}
use Rattle.xs_enc_lanes.proofs.InOrder.{all_right, all_there}
use Rattle.xs_enc_lanes.proofs.Pictures.{refused_encodes}
use Rattle.xs_enc_lanes.proofs.encoder.encode_threaded.Goals as goal

pub bytes_of-requires : goal.bytes_of-requires
bytes_of-requires g c =
    let s = c.args.settings.now in
    let h = header_of s in
    let order = subst (λ n. AreInOrder c.in_ok-lanes.field-0.slices.items n c.in_ok-places.places.items) c.in_ok-lanes.ensures.count c.in_ok-places.ensures in
    record { whole = all_there h (rows_of_picture h c.args.planes.now) s.share s.fill c.in_ok-lanes.field-0.slices.items c.in_ok-places.places.items c.in_ok-lanes.ensures.slices order }

pub returns-in_err-slices-clause-encoding : goal.returns-in_err-slices-clause-encoding
returns-in_err-slices-clause-encoding g c =
    let s = c.args.settings.now in
    let h = header_of s in
    let order = subst (λ n. AreInOrder c.in_ok-lanes.field-0.slices.items n c.in_ok-places.places.items) c.in_ok-lanes.ensures.count c.in_ok-places.ensures in
    let right = all_right h (rows_of_picture h c.args.planes.now) s.share s.fill c.in_ok-lanes.field-0.slices.items c.in_ok-places.places.items c.in_ok-lanes.ensures.slices order in
    let why = c.in_err-slices.field-0.0 in
    let told : result_err c.from_residual-in_err-slices.result ≡ Some why = search rules in
    subst (IsEncodedOrMemory (encoding_of c.args.settings.now c.args.planes.now)) (sym (is_err c.from_residual-in_err-slices.result why told))
    (refused_encodes s c.args.planes.now why (c.in_err-slices.ensures.refused h (rows_of_picture h c.args.planes.now) s.share s.fill right))

pub assemble_stream-requires-clause-few : goal.assemble_stream-requires-clause-few
assemble_stream-requires-clause-few g c =
    let s = c.args.settings.now in
    let h = header_of s in
    let order = subst (λ n. AreInOrder c.in_ok-lanes.field-0.slices.items n c.in_ok-places.places.items) c.in_ok-lanes.ensures.count c.in_ok-places.ensures in
    let right = all_right h (rows_of_picture h c.args.planes.now) s.share s.fill c.in_ok-lanes.field-0.slices.items c.in_ok-places.places.items c.in_ok-lanes.ensures.slices order in
    let count = (c.in_ok-slices.ensures.slices h (rows_of_picture h c.args.planes.now) s.share s.fill right).count in
    omega (arith, count, c.in_ok-lanes.ensures.in_range.slices)

pub assemble_stream-requires-clause-room : goal.assemble_stream-requires-clause-room
assemble_stream-requires-clause-room g c =
    let s = c.args.settings.now in
    let h = header_of s in
    let order = subst (λ n. AreInOrder c.in_ok-lanes.field-0.slices.items n c.in_ok-places.places.items) c.in_ok-lanes.ensures.count c.in_ok-places.ensures in
    let right = all_right h (rows_of_picture h c.args.planes.now) s.share s.fill c.in_ok-lanes.field-0.slices.items c.in_ok-places.places.items c.in_ok-lanes.ensures.slices order in
    pictures.slices_room s c.args.planes.now c.in_ok-slices.slices.items c.in_ok-lanes.ensures.in_range (c.in_ok-slices.ensures.slices h (rows_of_picture h c.args.planes.now) s.share s.fill right)

pub returns-clause-encoding : goal.returns-clause-encoding
returns-clause-encoding g c =
    let s = c.args.settings.now in
    let h = header_of s in
    let order = subst (λ n. AreInOrder c.in_ok-lanes.field-0.slices.items n c.in_ok-places.places.items) c.in_ok-lanes.ensures.count c.in_ok-places.ensures in
    let right = all_right h (rows_of_picture h c.args.planes.now) s.share s.fill c.in_ok-lanes.field-0.slices.items c.in_ok-places.places.items c.in_ok-lanes.ensures.slices order in
    pictures.encoded s c.args.planes.now c.in_ok-slices.slices.items (c.in_ok-slices.ensures.slices h (rows_of_picture h c.args.planes.now) s.share s.fill right) ∙ ap Ok (sym c.in_ok-stream.ensures.stream)
