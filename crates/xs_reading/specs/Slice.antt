-- What bytes hold of a slice, and their first fault: 'Slice, precinct and packet'.
use Rattle.std.specs.Prelude.{ℕ, ◌+◌, Bool, not, nat_eq, nat_lt, if◌then◌else◌, pos, Option, None, List, [], ◌∷◌, length, take, drop}
use Rattle.std.specs.Option.{option_map}
use Rattle.std.specs.Cmp.Lexicographic.{pointwise}
use Rattle.xs_lists.specs.First.{when, first_some}
use Rattle.xs_params.specs.declared.header.Header.{Header}
use Rattle.xs_faults.specs.declared.SliceFault.{SliceFault}
use Rattle.xs_faults.specs.declared.SliceFault.TheVariants as fault
use Rattle.xs_params.specs.Geometry.{precincts_of, slice_count}
use Rattle.xs_grammar.specs.Precinct.{Content}
use Rattle.xs_params.specs.Markers.{eoc}
use Rattle.xs_grammar.specs.Slice.{slice_head}
use Rattle.xs_reading.specs.Precinct.{precinct_end, precinct_fault, with_precinct}

-- two lists are the same
abbrev pub is_same : List ℕ → List ℕ → Bool
is_same = pointwise nat_eq

-- a content of which nothing was read
abbrev pub no_content : Content
no_content = record { q = λ precinct. 0; r = λ precinct. 0; count = λ band line group. 0; value = λ band line column. pos 0 }

-- Precincts one after the other

abbrev pub precincts_fault : Header → List ℕ → Content → List ℕ → Option SliceFault
precincts_fault h [] content bytes = None
precincts_fault h (precinct ∷ precincts) content bytes = first_some (
    option_map (fault.Precinct precinct) (precinct_fault h precinct content bytes)
    ∷ precincts_fault h precincts (with_precinct h precinct content bytes) (drop (precinct_end h bytes) bytes)
    ∷ []
    )

abbrev pub with_precincts : Header → List ℕ → Content → List ℕ → Content
with_precincts h [] content bytes = content
with_precincts h (precinct ∷ precincts) content bytes = with_precincts h precincts (with_precinct h precinct content bytes) (drop (precinct_end h bytes) bytes)

-- where they end
abbrev pub precincts_end : Header → List ℕ → List ℕ → ℕ
precincts_end h [] bytes = 0
precincts_end h (precinct ∷ precincts) bytes = precinct_end h bytes + precincts_end h precincts (drop (precinct_end h bytes) bytes)

-- Slices

-- the first fault of the slice at the front of the bytes
abbrev pub slice_fault : Header → ℕ → List ℕ → Option SliceFault
slice_fault h slice bytes = first_some (
    when (nat_lt (length bytes) 6) fault.Short
    ∷ when (not (is_same (take 6 bytes) (slice_head slice))) fault.Head
    ∷ precincts_fault h (precincts_of h slice) no_content (drop 6 bytes)
    ∷ []
    )

-- what it holds, and where it ends
abbrev pub slice_content : Header → ℕ → List ℕ → Content
slice_content h slice bytes = with_precincts h (precincts_of h slice) no_content (drop 6 bytes)

abbrev pub slice_end : Header → ℕ → List ℕ → ℕ
slice_end h slice bytes = 6 + precincts_end h (precincts_of h slice) (drop 6 bytes)

-- the first fault of bytes that are to be the slice and nothing more
abbrev pub whole_slice_fault : Header → ℕ → List ℕ → Option SliceFault
whole_slice_fault h slice bytes = first_some (
    slice_fault h slice bytes
    ∷ when (nat_lt (slice_end h slice bytes) (length bytes)) (fault.Trailing (slice_end h slice bytes))
    ∷ []
    )

-- and of bytes that are to be what is sent of it: after the last slice the end of the codestream stands, and nothing more
abbrev pub slice_unit_fault : Header → ℕ → List ℕ → Option SliceFault
slice_unit_fault h slice bytes =
    if nat_eq (slice + 1) (slice_count h)
    then first_some (slice_fault h slice bytes ∷ when (not (is_same (drop (slice_end h slice bytes) bytes) eoc)) fault.End ∷ [])
    else whole_slice_fault h slice bytes
