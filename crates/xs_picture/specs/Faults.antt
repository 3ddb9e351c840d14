-- The first fault of a codestream, and where it ends, as functions of the bytes: 'Codestream layout' and 'Slice, precinct and packet'.
use Rattle.std.specs.Prelude.{◌≢◌, ◌≡◌, ℕ, ◌+◌, Option, Some, List, [], ◌∷◌, length}
use Rattle.std.specs.Option.{option_map}
use Rattle.xs_lists.specs.First.{first_some}
use Rattle.xs_faults.specs.declared.StreamFault.{StreamFault}
use Rattle.xs_faults.specs.declared.StreamFault.TheVariants as fault
use Rattle.xs_faults.specs.Names.{NamesStreamFault}
use Rattle.xs_markers.specs.Reading.{head_fault, header_at, header_end}
use Rattle.xs_reading.specs.Stream.{body_fault, end_place, stream_fault_of_head}

-- the fault of its header, or else the first one after the header
abbrev pub stream_fault : List ℕ → Option StreamFault
stream_fault bytes = first_some (
    option_map (stream_fault_of_head (length bytes)) (head_fault bytes)
    ∷ body_fault (header_at bytes) bytes (header_end bytes)
    ∷ []
    )

-- where it ends
abbrev pub stream_end : List ℕ → ℕ
stream_end bytes = end_place (header_at bytes) bytes (header_end bytes) + 2

-- want of memory is no fault of bytes, and is inside none
abbrev pub FaultsAreNamed : Type 0
FaultsAreNamed = (bytes : List ℕ) (found : StreamFault) → stream_fault bytes ≡ Some found → (found ≢ fault.Memory) × NamesStreamFault found
