-- Laws of the encoding.
use Rattle.std.specs.Prelude.{◌≡◌, ℕ, ◌^◌, ◌<◌, ◌≤◌, true, false, ℤ, pos, unsigned_abs}
use Rattle.std.specs.List.{sum_by, Contains}
use Rattle.xs_layout.specs.Geometry.{PacketPlace, groups_of}
use Rattle.xs_layout.specs.Limits.{most_across, most_down, most_width}
use Rattle.xs_params.specs.declared.header.Header.{Header}
use Rattle.xs_params.specs.Picture.{Picture}
use Rattle.xs_params.specs.Geometry.{band_width_of, packet_bands, packets_of}
use Rattle.xs_grammar.specs.Precinct.{Content, line_truncation}
use Rattle.xs_grammar.specs.Coded.{no_filler, slice_fits}
use Rattle.xs_rate.specs.Coefficients.{Rows, rows_of_picture}

-- Rows

-- the coefficients of every picture are small
abbrev pub SmallRows : Type 0
SmallRows = (h : Header) (picture : Picture) (band line column : ℕ) → unsigned_abs (rows_of_picture h picture band line column) ≤ 32767

-- the magnitudes of a row have 15 bits at most
abbrev pub IsSmallRow : (ℕ → ℤ) → Type 0
IsSmallRow row = (column : ℕ) → unsigned_abs (row column) < 2 ^ 15

abbrev pub AreSmall : Rows → Type 0
AreSmall rows = (band line : ℕ) → IsSmallRow (rows band line)

-- Fields

-- how many code groups a band's lines have
abbrev pub band_groups : Header → ℕ → ℕ
band_groups h band = groups_of (band_width_of h band)

-- each packet has at most so many code groups
abbrev pub HasNarrowPackets : ℕ → Header → Type 0
HasNarrowPackets most h = (precinct : ℕ) (place : PacketPlace) → Contains (packets_of h precinct) place → sum_by (band_groups h) (packet_bands h place) ≤ most

-- a packet of a picture has at most 6157 code groups
abbrev pub PacketsAreNarrow : Type 0
PacketsAreNarrow = (h : Header) → h.shape.width ≤ most_width → h.nlx ≤ most_across → h.nly ≤ h.nlx → HasNarrowPackets 6157 h

-- each count is in range and not below the truncation
pub record HasCountsInRange (h : Header) (content : Content) : Type 0 where
  pub most : (band line group : ℕ) → content.count band line group ≤ 15
  pub cut : (band line group : ℕ) → line_truncation h content band line ≤ content.count band line group

-- every plane is cut off: each truncation is 15, and so is each count, which is in range and not below it; each number is 0
pub record IsAllCut (h : Header) (content : Content) : Type 0 where
  pub truncations : (band line : ℕ) → line_truncation h content band line ≡ 15
  pub counts : (band line group : ℕ) → content.count band line group ≡ 15
  pub values : (band line column : ℕ) → content.value band line column ≡ pos 0

-- then each length has room in its field, however many columns there are: a code group has at most one bit of counts, and there are no data and no signs
abbrev pub AllCutFits : Type 0
AllCutFits = (h : Header) (content : Content) (mode : ℕ → ℕ → ℕ) (slice : ℕ) → h.long_heads ≡ false → h.nly ≤ most_down → HasNarrowPackets 6157 h → IsAllCut h content
    → slice_fits h content mode no_filler slice ≡ true
