-- What the bytes of a codestream hold after its header, and their first fault: 'Codestream layout' and 'Slice, precinct and packet'. Each end of the
-- bytes is one fault, which names their number.
use Rattle.std.specs.Prelude.{ℕ, ◌+◌, not, nat_eq, nat_lt, ◌||◌, Option, List, [], ◌∷◌, length, take, drop, map}
use Rattle.std.specs.Option.{option_map}
use Rattle.xs_lists.specs.First.{when, first_some}
use Rattle.xs_lists.specs.Spelling.{upto}
use Rattle.xs_params.specs.declared.header.Header.{Header}
use Rattle.xs_faults.specs.declared.HeadFault.{HeadFault}
use Rattle.xs_faults.specs.declared.HeadFault.TheVariants as head
use Rattle.xs_faults.specs.declared.PrecinctFault.TheVariants as precinct_fault
use Rattle.xs_faults.specs.declared.SliceFault.{SliceFault}
use Rattle.xs_faults.specs.declared.SliceFault.TheVariants as slice_fault
use Rattle.xs_faults.specs.declared.StreamFault.{StreamFault}
use Rattle.xs_faults.specs.declared.StreamFault.TheVariants as fault
use Rattle.xs_params.specs.Geometry.{slice_count}
use Rattle.xs_params.specs.Markers.{eoc}
use Rattle.xs_reading.specs.Slice.{is_same, slice_end, slice_fault as fault_of_slice}

-- the fault of a codestream of so many bytes whose header has one
abbrev pub stream_fault_of_head : ℕ → HeadFault → StreamFault
stream_fault_of_head total (head.Truncated place) = fault.Cut total
stream_fault_of_head total other = fault.Head other

-- the fault of one of which a slice has one
abbrev pub stream_fault_of_slice : ℕ → ℕ → SliceFault → StreamFault
stream_fault_of_slice total slice slice_fault.Short = fault.Cut total
stream_fault_of_slice total slice (slice_fault.Precinct precinct precinct_fault.Truncated) = fault.Cut total
stream_fault_of_slice total slice other = fault.Slice slice other

-- where the slice with a number begins, in bytes whose header ends at a place
abbrev pub slices_end : Header → List ℕ → List ℕ → ℕ → ℕ
slices_end h [] bytes place = place
slices_end h (slice ∷ slices) bytes place = slices_end h slices bytes (place + slice_end h slice (drop place bytes))

abbrev pub slice_start : Header → List ℕ → ℕ → ℕ → ℕ
slice_start h bytes place slice = slices_end h (upto slice) bytes place

-- where the end marker stands
abbrev pub end_place : Header → List ℕ → ℕ → ℕ
end_place h bytes place = slice_start h bytes place (slice_count h)

-- the first fault of the slices
abbrev pub slices_fault : Header → List ℕ → ℕ → Option StreamFault
slices_fault h bytes place =
    first_some (map (λ slice. option_map (stream_fault_of_slice (length bytes) slice) (fault_of_slice h slice (drop (slice_start h bytes place slice) bytes))) (upto (slice_count h)))

-- the first fault of a codestream whose header ends at a place
abbrev pub body_fault : Header → List ℕ → ℕ → Option StreamFault
body_fault h bytes place = first_some (
    slices_fault h bytes place
    ∷ when (nat_lt (length bytes) (end_place h bytes place + 2)) (fault.Cut (length bytes))
    ∷ when (not (is_same (take 2 (drop (end_place h bytes place) bytes)) eoc)) (fault.End (end_place h bytes place))
    ∷ when (not (nat_eq h.lcod 0 || nat_eq h.lcod (end_place h bytes place + 2))) (fault.Lcod h.lcod (end_place h bytes place + 2))
    ∷ []
    )
