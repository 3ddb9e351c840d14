-- The parts of a packet whose places are known, and their faults: 'Slice, precinct and packet'.
use Rattle.std.specs.Prelude.{ℕ, ◌-◌, ◌*◌, Bool, nat_lt, ◌||◌, if◌then◌else◌, Option, None, Result, List, [], ◌∷◌, length}
use Rattle.std.specs.List.{sum_by}
use Rattle.std.specs.Option.{option_map}
use Rattle.std.specs.Result.{result_err}
use Rattle.xs_lists.specs.First.{when, first_some}
use Rattle.xs_faults.specs.declared.CountFault.{CountFault}
use Rattle.xs_faults.specs.declared.PrecinctFault.{PrecinctFault}
use Rattle.xs_faults.specs.declared.PrecinctFault.TheVariants as fault
use Rattle.xs_faults.specs.declared.Part.TheVariants.{Significance, Counts, Data, Signs}
use Rattle.xs_spelling.specs.Counts.{Line}
use Rattle.xs_spelling.specs.Sizes.{data_size, signs_size}
use Rattle.xs_spelling.specs.Reading.{read_each}
use Rattle.xs_reading.specs.Packet.{bits_between, fault_of_counts, flagged, lines_with_data, lines_with_signs, read_counted}

-- the lines with the counts that stand between two places, by the flags before them
abbrev pub counted_in : Bool → ℕ → List Line → List ℕ → ℕ → ℕ → ℕ → Result (List Line × List ℕ) CountFault
counted_in raw run_mode lines bytes flags counts planes = read_each (read_counted raw run_mode) (flagged lines (bits_between bytes flags counts)) (bits_between bytes counts planes)

-- the first fault of flags and counts, by what is read of the counts
abbrev pub counts_fault : ℕ → Result (List Line × List ℕ) CountFault → ℕ → ℕ → ℕ → Option PrecinctFault
counts_fault packet read counts planes total = first_some (
    when (nat_lt total counts) (fault.Overrun packet Significance)
    ∷ when (nat_lt total planes) (fault.Overrun packet Counts)
    ∷ option_map (fault_of_counts packet) (result_err read)
    ∷ []
    )

-- the fault of signs that stand apart
abbrev pub signs_fault : ℕ → List Line → List ℕ → ℕ → ℕ → Option PrecinctFault
signs_fault packet lines bytes signs end = when (nat_lt (length bytes) end || nat_lt (8 * (end - signs)) (sum_by signs_size lines)) (fault.Overrun packet Signs)

-- the first fault of data and signs
abbrev pub numbers_fault : ℕ → Bool → List Line → List ℕ → ℕ → ℕ → ℕ → Option PrecinctFault
numbers_fault packet apart lines bytes planes signs end = first_some (
    when (nat_lt (length bytes) signs || nat_lt (8 * (signs - planes)) (sum_by (data_size apart) lines)) (fault.Overrun packet Data)
    ∷ (if apart then signs_fault packet (lines_with_data apart lines (bits_between bytes planes signs)) bytes signs end else None)
    ∷ []
    )

-- the lines with their numbers
abbrev pub numbers_in_parts : Bool → List Line → List ℕ → ℕ → ℕ → ℕ → List Line
numbers_in_parts apart lines bytes planes signs end =
    if apart then lines_with_signs (lines_with_data apart lines (bits_between bytes planes signs)) (bits_between bytes signs end)
    else lines_with_data apart lines (bits_between bytes planes signs)
