-- The coefficients that a content stands for: 'Quantisers'.
use Rattle.std.specs.Prelude.{◌/◌}
use Rattle.xs_params.specs.declared.header.Header.{Header}
use Rattle.xs_signal.specs.Quantiser.{dequantised}
use Rattle.xs_grammar.specs.Precinct.{Content, line_truncation}
use Rattle.xs_params.specs.Rows.{Rows, padded}

-- each number of a content dequantised, cut at the band's width
abbrev pub dequantised_rows : Header → Content → Rows
dequantised_rows h content =
    padded h (λ band line column. dequantised h.quant (content.count band line (column / 4)) (line_truncation h content band line) (content.value band line column))
