-- The joiners of the components of a picture: '5/3 wavelet'.
use Rattle.std.specs.Prelude.{◌≡◌, ℕ, ◌^◌, ◌<◌, List, length, slice_index_or, ℤ, pos, ◌*ℤ◌}
use Rattle.xs_layout.specs.Geometry.{components_of}
use Rattle.xs_params.specs.declared.header.Header.{Header}
use Rattle.xs_signal.specs.Wavelet.{Split, Bands}
use Rattle.xs_signal.specs.Picture.{each_entry, synthesised}
use Rattle.xs_rate.specs.Coefficients.{Rows, signal_of}
use Rattle.xs_decoding.specs.Decoded.{component_bands}
use Rattle.xs_joiner.specs.Chain.{IsChain, HoldsBands, split_of}
use Rattle.xs_joiner.specs.declared.joiner.Joiner.{Joiner}

-- how a component is split
abbrev pub component_split : Header → ℕ → Split
component_split h component = (signal_of h).split component

-- the bands of a component at full precision
abbrev pub raised_bands : Header → Rows → ℕ → Bands
raised_bands h rows component = each_entry (λ z. z *ℤ pos (2 ^ h.fq)) (component_bands h rows component)

-- the numbers of each component before colour is turned back
abbrev pub joined_planes : Header → Rows → ℕ → ℕ → ℕ → ℤ
joined_planes h rows = synthesised (signal_of h) (raised_bands h rows)

-- a joiner of a component that was begun at precinct `first`, before a line
pub record IsComponentJoiner (h : Header) (component first given : ℕ) (joiner : Joiner) : Type 0 where
  pub chain : IsChain joiner
  pub split : split_of joiner ≡ component_split h component
  pub first_is : joiner.first ≡ first
  pub given_is : joiner.given ≡ given

-- there is one for each component
pub record AreJoiners (h : Header) (first given : ℕ) (joiners : List Joiner) : Type 0 where
  pub many : length joiners ≡ components_of h.shape.format
  pub each : (component : ℕ) (other : Joiner) → component < components_of h.shape.format → IsComponentJoiner h component first given (slice_index_or joiners component other)

-- each holds what it needs of these coefficients
abbrev pub HoldJoiners : Header → Rows → List Joiner → Type 0
HoldJoiners h rows joiners = (component : ℕ) (other : Joiner) → component < components_of h.shape.format → HoldsBands (raised_bands h rows component) (slice_index_or joiners component other)
