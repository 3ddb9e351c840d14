-- The band geometry of a header: how its picture is cut into bands, precincts, slices and packets. The formulas are those of 'Band geometry'.
use Rattle.std.specs.Prelude.{ℕ, ◌+◌, ◌-◌, ◌*◌, ◌%◌, ◌^◌, min, Bool, false, nat_lt, List, []}
use Rattle.std.specs.List.{range_with_len, filter}
use Rattle.xs_layout.specs.declared.Shape.{Shape}
use Rattle.xs_layout.specs.declared.Quant.{Quant}
use Rattle.xs_layout.specs.declared.Quant.TheVariants.{DeadZone}
use Rattle.xs_layout.specs.declared.Weight.{Weight}
use Rattle.xs_params.specs.declared.header.Header.{Header}
use Rattle.xs_layout.specs.Geometry.{components_of, component_width_of, side_size, BandType, band_count_of, type_of_band, precinct_count_of, slice_count_of, PacketPlace, packet_places_of}

-- how many columns a component has
abbrev pub component_width : Header → ℕ → ℕ
component_width h component = component_width_of h.shape.format h.shape.width component

-- Bands

-- how many bands there are
abbrev pub bands_of : Header → ℕ
bands_of h = band_count_of h.nlx h.nly (components_of h.shape.format)

-- the type of a band
abbrev pub band_type_of : Header → ℕ → BandType
band_type_of h band = type_of_band h.nlx h.nly (components_of h.shape.format) band

-- the component of a band
abbrev pub band_component : Header → ℕ → ℕ
band_component h band = band % components_of h.shape.format

-- how many columns a band has
abbrev pub band_width_of : Header → ℕ → ℕ
band_width_of h band = side_size (component_width h (band_component h band)) (band_type_of h band).across (band_type_of h band).high_across

-- how many lines a band has
abbrev pub band_height_of : Header → ℕ → ℕ
band_height_of h band = side_size h.shape.height (band_type_of h band).down (band_type_of h band).high_down

-- Precincts

-- how many precincts the picture has
abbrev pub precinct_count : Header → ℕ
precinct_count h = precinct_count_of h.shape.height h.nly

-- how many lines of a band a precinct has that is not cut at the end of the picture
abbrev pub precinct_lines : Header → ℕ → ℕ
precinct_lines h band = 2 ^ (h.nly - (band_type_of h band).down)

-- the first line of a band in a precinct, and one past the last
abbrev pub lines_of : Header → ℕ → ℕ → ℕ × ℕ
lines_of h precinct band =
    (min (precinct * precinct_lines h band) (band_height_of h band), min ((precinct + 1) * precinct_lines h band) (band_height_of h band))

-- Slices

-- how many slices the picture has
abbrev pub slice_count : Header → ℕ
slice_count h = slice_count_of h.shape.height h.nly h.hsl

-- the precincts of a slice, in order
abbrev pub precincts_of : Header → ℕ → List ℕ
precincts_of h slice = range_with_len (slice * h.hsl) (min ((slice + 1) * h.hsl) (precinct_count h) - slice * h.hsl)

-- Packets

-- the bands of a packet, in order
abbrev pub packet_bands : Header → PacketPlace → List ℕ
packet_bands h place = range_with_len (place.first_type * components_of h.shape.format) (place.types * components_of h.shape.format)

-- the packets of a precinct, those among them whose line does not exist
abbrev pub packet_places : Header → ℕ → List PacketPlace
packet_places h precinct = packet_places_of h.nlx h.nly precinct

-- whether the bands of a packet have its line
abbrev pub has_line : Header → PacketPlace → Bool
has_line h place = nat_lt place.line (band_height_of h (place.first_type * components_of h.shape.format))

-- the packets of a precinct, in order; one whose line its bands do not have is not there
abbrev pub packets_of : Header → ℕ → List PacketPlace
packets_of h precinct = filter (has_line h) (packet_places h precinct)

-- Headers of less

-- a header of this geometry, with nothing in its other fields
abbrev pub blank_header : Shape → ℕ → ℕ → ℕ → Header
blank_header shape hsl nlx nly = record {
  lcod = 0;
  shape = shape;
  hsl = hsl;
  bw = 0;
  fq = 0;
  colour = false;
  nlx = nlx;
  nly = nly;
  long_heads = false;
  quant = DeadZone;
  signs_apart = false;
  run_mode = 0;
  weights = [];
}

-- what coding asks of a header: its geometry, and weights, quantiser and where the signs stand
abbrev pub coding_header : Header → List Weight → Bool → Quant → Header
coding_header h weights signs_apart quant = record (blank_header h.shape h.hsl h.nlx h.nly) { quant = quant; signs_apart = signs_apart; weights = weights }

-- its geometry alone
abbrev pub geometry_of : Header → Header
geometry_of h = coding_header h [] false DeadZone
