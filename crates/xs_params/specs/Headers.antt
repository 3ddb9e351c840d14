-- The header of a picture that is encoded: 'Picture header', with the default weights of 'Rate choice'.
use Rattle.std.specs.Prelude.{false, unwrap_or}
use Rattle.xs_layout.specs.Geometry.{components_of}
use Rattle.xs_layout.specs.Limits.{fq_of}
use Rattle.xs_layout.specs.Weighting.{default_weights_of}
use Rattle.xs_params.specs.declared.header.Header.{Header}
use Rattle.xs_params.specs.declared.settings.Settings.{Settings}

-- what the settings say, with the default weights where none are given; the length of the codestream is not stated
abbrev pub header_of : Settings → Header
header_of s = record {
  lcod = 0;
  shape = s.shape;
  hsl = s.hsl;
  bw = s.bits;
  fq = fq_of s.bits;
  colour = s.colour;
  nlx = s.nlx;
  nly = s.nly;
  long_heads = false;
  quant = s.quant;
  signs_apart = s.signs_apart;
  run_mode = 0;
  weights = unwrap_or s.weights (default_weights_of s.nlx s.nly (components_of s.shape.format));
}
