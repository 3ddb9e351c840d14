-- The packets of a picture as they are made, unit after unit.
use Rattle.std.specs.Prelude.{ℕ, ◌+◌, List, flat_map}
use Rattle.xs_lists.specs.Spelling.{upto}
use Rattle.xs_params.specs.Stream.{Stream}
use Rattle.xs_pack.specs.declared.packing.Packer.{Packer}
use Rattle.xs_pack.specs.declared.packing.UnitBytes.{UnitBytes}
use Rattle.xs_pack.specs.Datagrams.{SentUnit, sent_unit, unit_datagrams, units_of}

-- a unit as it is sent, where so many packets were made before
abbrev pub sent_of : Packer → UnitBytes → ℕ → SentUnit
sent_of packer unit number = record {
  number = unit.number;
  bytes = unit.bytes.now;
  final = unit.last;
  picture = packer.picture;
  first = packer.sequence + number;
}

-- the packets of the units below a number
abbrev pub datagrams_below : Packer → Stream → ℕ → List (List ℕ)
datagrams_below packer stream below =
    let s = packer.settings.now in
    flat_map (λ unit. unit_datagrams s (sent_unit s (units_of s.boxes stream) packer.picture packer.sequence unit)) (upto below)
