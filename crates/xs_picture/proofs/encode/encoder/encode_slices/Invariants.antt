use Rattle.xs_params.specs.Headers.{header_of}
use Rattle.xs_rate.specs.Coefficients.{rows_of_picture}
use Rattle.xs_slice_write.specs.Coded.{HasSliceRoom}
use Rattle.xs_picture.proofs.Encoded.{AreSlicesTo}
use Rattle.xs_picture.proofs.encode.encoder.encode_slices.Given as goal

abbrev pub invariant-slices : goal.invariant-slices
invariant-slices l = record {
  slices : AreSlicesTo (header_of l.settings) (rows_of_picture (header_of l.settings) l.planes) l.settings.share l.settings.fill l.slice l.slices.items;
  room : HasSliceRoom l.header l.scratch;
}
