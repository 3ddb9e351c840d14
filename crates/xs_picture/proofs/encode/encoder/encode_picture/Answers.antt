use Rattle.std.proofs.Common.{rules, ◌≡◌, sym, ap, subst, ◌∙◌}
use Rattle.std.specs.Prelude.{Ok, Some}
use Rattle.std.specs.Result.{result_err}
use Rattle.xs_rate.specs.Encoding.{encoding_of}
use Rattle.xs_picture.specs.Encoded.{IsEncodingOrMemory}
use Rattle.xs_picture.proofs.Results.{is_err}
use Rattle.xs_picture.proofs.Encoded as pictures
use Rattle.xs_picture.proofs.encode.encoder.encode_picture.Goals as goal

pub returns-in_err-slices : goal.returns-in_err-slices
returns-in_err-slices c =
    let told : result_err c.from_residual.result ≡ Some c.in_err-slices.field-0.0 = search rules in
    record {
      encoding = subst (IsEncodingOrMemory (encoding_of c.args.settings.now c.args.planes.now)) (sym (is_err c.from_residual.result c.in_err-slices.field-0.0 told))
          (pictures.refusal_encodes c.args.settings.now c.args.planes.now c.in_err-slices.field-0.0 c.in_err-slices.ensures.refused);
    }

pub assemble_stream-requires-clause-room : goal.assemble_stream-requires-clause-room
assemble_stream-requires-clause-room c = pictures.slices_room c.args.settings.now c.args.planes.now c.in_ok-slices.slices.items c.in_ok-slices.ensures.in_range c.in_ok-slices.ensures.slices

pub returns : goal.returns
returns c = record {
  encoding = pictures.encoded c.args.settings.now c.args.planes.now c.in_ok-slices.slices.items c.in_ok-slices.ensures.slices ∙ ap Ok (sym c.in_ok-stream.ensures.stream);
}
