-- How a picture is cut into components, bands, precincts, slices and packets, as formulas of plain numbers: 'Band geometry'.
use Rattle.std.specs.Prelude.{ℕ, ◌+◌, ◌-◌, ◌*◌, ◌/◌, ◌^◌, Bool, true, false, nat_eq, if◌then◌else◌, List, [], ◌∷◌, ◌++◌, map, slice_index_or}
use Rattle.std.specs.List.{range_with_len, flat_map}
use Rattle.xs_lists.specs.Spelling.{upto, downto}
use Rattle.xs_layout.specs.declared.Format.{Format}
use Rattle.xs_layout.specs.declared.Format.TheVariants.{Mono, C422, C444}

-- a quotient rounded up
abbrev pub ceil_div : ℕ → ℕ → ℕ
ceil_div n d = (n + d - 1) / d

-- Components

-- how many components a format has
abbrev pub components_of : Format → ℕ
components_of Mono = 1
components_of C422 = 3
components_of C444 = 3

-- by how much the components after the first are narrower
abbrev pub chroma_sampling : Format → ℕ
chroma_sampling Mono = 1
chroma_sampling C422 = 2
chroma_sampling C444 = 1

-- by how much a component is narrower than the picture (sx)
abbrev pub sampling_of : Format → ℕ → ℕ
sampling_of format component = if nat_eq component 0 then 1 else chroma_sampling format

-- how many columns a component has in a picture of so many columns
abbrev pub component_width_of : Format → ℕ → ℕ → ℕ
component_width_of format width component = ceil_div width (sampling_of format component)

-- the columns of the last component, which is the narrowest
abbrev pub narrowest_width : Format → ℕ → ℕ
narrowest_width format width = component_width_of format width (components_of format - 1)

-- Wavelet levels

-- what is left of n samples on the low side after some levels: each level halves, rounded up
abbrev pub low_size : ℕ → ℕ → ℕ
low_size n level = ceil_div n (2 ^ level)

-- what the last of some levels puts on the high side: half of what was there, rounded down
abbrev pub high_size : ℕ → ℕ → ℕ
high_size n level = low_size n (level - 1) / 2

-- one side of the last of some levels
abbrev pub side_size : ℕ → ℕ → Bool → ℕ
side_size n level high = if high then high_size n level else low_size n level

-- Band types

-- a band type: its level and its side in each direction
pub record BandType : Type 0 where
  pub across : ℕ
  pub down : ℕ
  pub high_across : Bool
  pub high_down : Bool

-- the band that is low in both directions
abbrev pub ll : ℕ → ℕ → BandType
ll across down = record { across = across; down = down; high_across = false; high_down = false }

-- high across, low down
abbrev pub hl : ℕ → ℕ → BandType
hl across down = record { across = across; down = down; high_across = true; high_down = false }

-- low across, high down
abbrev pub lh : ℕ → ℕ → BandType
lh across down = record { across = across; down = down; high_across = false; high_down = true }

-- high in both directions
abbrev pub hh : ℕ → ℕ → BandType
hh across down = record { across = across; down = down; high_across = true; high_down = true }

-- LL first; then HL of each level that is split across only; then HL, LH and HH of each level that is split both ways; the deepest level first
abbrev pub band_types : ℕ → ℕ → List BandType
band_types nlx nly =
    ll nlx nly ∷ map (λ level. hl level nly) (downto (nlx + 1) (nly + 1))
    ++ flat_map (λ level. hl level level ∷ lh level level ∷ hh level level ∷ []) (downto (nly + 1) 1)

-- Bands

-- how many bands there are: a type has one of each component
abbrev pub band_count_of : ℕ → ℕ → ℕ → ℕ
band_count_of nlx nly components = (2 * nly + nlx + 1) * components

-- the type of a band: bands are numbered by type, and in a type by component
abbrev pub type_of_band : ℕ → ℕ → ℕ → ℕ → BandType
type_of_band nlx nly components band = slice_index_or (band_types nlx nly) (band / components) (ll 0 0)

-- Groups of a line

-- how many code groups a line of so many columns has: four columns each
abbrev pub groups_of : ℕ → ℕ
groups_of width = ceil_div width 4

-- how many significance groups so many code groups have: eight code groups each
abbrev pub significance_groups_of : ℕ → ℕ
significance_groups_of groups = ceil_div groups 8

-- Precincts and slices

-- how many precincts a picture of so many lines has: 2 ^ nly picture lines each, the last one cut
abbrev pub precinct_count_of : ℕ → ℕ → ℕ
precinct_count_of height nly = ceil_div height (2 ^ nly)

-- how many slices it has: hsl precincts each, the last one cut
abbrev pub slice_count_of : ℕ → ℕ → ℕ → ℕ
slice_count_of height nly hsl = ceil_div (precinct_count_of height nly) hsl

-- Packets

-- where a packet stands: the first of its types, how many they are, and the line, counted in the whole band
pub record PacketPlace : Type 0 where
  pub first_type : ℕ
  pub types : ℕ
  pub line : ℕ

-- The packets of a precinct, those among them whose line does not exist.
-- One packet for the types that are not split down, each of which has one line. Then, for each level that is split both ways, the deepest first,
-- and for each of its lines, a packet for HL, one for LH and one for HH.
abbrev pub packet_places_of : ℕ → ℕ → ℕ → List PacketPlace
packet_places_of nlx nly precinct =
    record { first_type = 0; types = nlx - nly + 1; line = precinct }
    ∷ flat_map
    (λ level. flat_map
    (λ line. map (λ side. record { first_type = nlx - nly + 1 + 3 * (nly - level) + side; types = 1; line = line }) (upto 3))
    (range_with_len (precinct * 2 ^ (nly - level)) (2 ^ (nly - level))))
    (downto (nly + 1) 1)
