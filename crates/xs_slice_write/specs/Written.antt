-- What is written of a slice, and why it is refused.
use Rattle.std.specs.Prelude.{◌≡◌, ℕ, ◌+◌, ◌*◌, min, ⊤, Bool, nat_eq, if◌then◌else◌, Ok, Err, List}
use Rattle.xs_layout.specs.declared.Candidate.{Candidate}
use Rattle.xs_params.specs.declared.header.Header.{Header}
use Rattle.xs_params.specs.Geometry.{precinct_count}
use Rattle.xs_params.specs.Rows.{Rows}
use Rattle.xs_faults.specs.declared.SliceRefusal.{SliceRefusal}
use Rattle.xs_faults.specs.declared.SliceRefusal.TheVariants as refusal
use Rattle.xs_rate.specs.Choice.{choice_of, filled_slice_at}

-- the bytes are the slice at the chosen candidate
pub record IsWrittenSlice (h : Header) (rows : Rows) (share : ℕ) (fill : Bool) (slice : ℕ) (bytes : List ℕ) : Type 0 where
  pub candidate : Candidate
  pub chosen : choice_of h rows share slice ≡ Ok candidate
  pub written : bytes ≡ filled_slice_at h rows share fill slice candidate

-- a slice is refused by its budget; want of memory is free
abbrev pub IsRefusal : Header → Rows → ℕ → ℕ → SliceRefusal → Type 0
IsRefusal h rows share slice (refusal.Budget budget) = choice_of h rows share slice ≡ Err budget
IsRefusal h rows share slice refusal.Memory = ⊤

-- so many bytes of filler in the last precinct of a slice, and none before
abbrev pub last_filler : Header → ℕ → ℕ → ℕ → ℕ
last_filler h slice filler precinct = if nat_eq (precinct + 1) (min ((slice + 1) * h.hsl) (precinct_count h)) then filler else 0
