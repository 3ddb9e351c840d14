-- The places of packets.
use Rattle.std.specs.Prelude.{ℕ, ◌+◌, ◌*◌, ◌≤◌, List, slice_index_or}
use Rattle.xs_layout.specs.Geometry.{PacketPlace, components_of}
use Rattle.xs_params.specs.declared.header.Header.{Header}
use Rattle.xs_params.specs.Geometry.{bands_of, packets_of}
use Rattle.xs_geometry.specs.declared.packets.PacketPlace.{PacketPlace as Place}

-- a place as the definitions have it
abbrev pub place_of : Place → PacketPlace
place_of place = record { first_type = place.first_type; types = place.types; line = place.line }

abbrev pub no_place : PacketPlace
no_place = record { first_type = 0; types = 0; line = 0 }

-- the place with this number
abbrev pub place_in : List PacketPlace → ℕ → PacketPlace
place_in places number = slice_index_or places number no_place

-- where the packet of a precinct with this number stands
abbrev pub packet_at : Header → ℕ → ℕ → PacketPlace
packet_at h precinct number = place_in (packets_of h precinct) number

-- the bands of the place's types are there
abbrev pub HasBands : Header → Place → Type 0
HasBands h place = (place.first_type + place.types) * components_of h.shape.format ≤ bands_of h
