-- What a call answers for an encoding: 'Rate choice'.
use Rattle.std.specs.Prelude.{◌≡◌, ◌<◌, ⊤, ℕ, Bool, List, [], length, slice_index_or, Result, Ok, Err}
use Rattle.xs_layout.specs.declared.Candidate.{Candidate}
use Rattle.xs_params.specs.declared.header.Header.{Header}
use Rattle.xs_params.specs.Geometry.{slice_count}
use Rattle.xs_params.specs.Rows.{Rows}
use Rattle.xs_params.specs.Stream.{Stream}
use Rattle.xs_faults.specs.declared.Budget.{Budget}
use Rattle.xs_faults.specs.declared.SliceRefusal.{SliceRefusal}
use Rattle.xs_faults.specs.declared.SliceRefusal.TheVariants as refusal
use Rattle.xs_rate.specs.Choice.{choice_of}
use Rattle.xs_slice_write.specs.Written.{IsWrittenSlice}

-- the codestream, or the first slice that is over its share; want of memory is free
abbrev pub IsEncodingOrMemory : Result Stream Budget → Result Stream SliceRefusal → Type 0
IsEncodingOrMemory encoding (Ok stream) = encoding ≡ Ok stream
IsEncodingOrMemory encoding (Err (refusal.Budget budget)) = encoding ≡ Err budget
IsEncodingOrMemory encoding (Err refusal.Memory) = ⊤

-- all slices, each at its candidate
pub record AreSlicesOf (h : Header) (rows : Rows) (share : ℕ) (fill : Bool) (slices : List (List ℕ)) : Type 0 where
  pub count : length slices ≡ slice_count h
  pub each : (slice : ℕ) → slice < slice_count h → IsWrittenSlice h rows share fill slice (slice_index_or slices slice [])

-- the first slice without a candidate, and its budget
pub record IsFirstRefused (h : Header) (rows : Rows) (share : ℕ) (budget : Budget) : Type 0 where
  pub there : budget.slice < slice_count h
  pub refused : choice_of h rows share budget.slice ≡ Err budget
  pub before : (slice : ℕ) → slice < budget.slice → (candidate : Candidate) × (choice_of h rows share slice ≡ Ok candidate)

-- why slices were not all written; want of memory is free
abbrev pub WhyUnwritten : Header → Rows → ℕ → SliceRefusal → Type 0
WhyUnwritten h rows share (refusal.Budget budget) = IsFirstRefused h rows share budget
WhyUnwritten h rows share refusal.Memory = ⊤
