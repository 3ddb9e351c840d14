-- What coders keep: for each slice that they got, its bytes or its budget.
use Rattle.std.specs.Prelude.{◌≡◌, ℕ, ◌<◌, ◌≤◌, ◌^◌, pos, Bool, false, true, Err, List, [], ◌∷◌, ◌++◌, All}
use Rattle.std.specs.List.{Contains}
use Rattle.xs_layout.specs.Geometry.{components_of}
use Rattle.xs_layout.specs.declared.Weight.{Weight}
use Rattle.xs_params.specs.declared.header.Header.{Header}
use Rattle.xs_params.specs.Accepted.{IsAccepted}
use Rattle.xs_params.specs.Geometry.{band_width_of, slice_count}
use Rattle.xs_params.specs.Rows.{Rows}
use Rattle.xs_rate.specs.Choice.{choice_of}
use Rattle.xs_rate.specs.Coefficients.{rows_of_picture}
use Rattle.xs_slice_write.specs.Written.{IsWrittenSlice}
use Rattle.xs_lanes.specs.Claiming.{IsRun}
use Rattle.xs_enc_lanes.specs.declared.activity.CodedSlice.{CodedSlice}
use Rattle.xs_enc_lanes.specs.declared.activity.Job.{Job}
use Rattle.xs_enc_lanes.specs.declared.activity.CodedOutcome.{CodedOutcome}
use Rattle.xs_enc_lanes.specs.declared.activity.CodedOutcome.TheVariants.{Bytes, Over}
use Rattle.xs_enc_lanes.specs.Rows.{Carried, HasComponent, parts, slice_of}
use Rattle.xs_enc_lanes.specs.Placed.{AllCarry}

-- The picture has the header's shape, and the header and the share are such that its slices can be written.
pub record IsJob (job : Job) : Type 0 where
  pub accepted : IsAccepted job.header.now
  pub shape : job.picture.now.shape ≡ job.header.now.shape
  pub heads : job.header.now.long_heads ≡ false
  pub gains : All (λ (weight : Weight). weight.gain ≤ 15) job.header.now.weights
  pub share : job.fill ≡ true → job.share < 2 ^ 24

-- the coefficients of its picture
abbrev pub rows_of_job : Job → Rows
rows_of_job job = rows_of_picture job.header.now job.picture.now

-- what is written of the coefficients for a slice, or the budget that it is over
abbrev pub IsCodedOutcome : Header → Rows → ℕ → Bool → ℕ → CodedOutcome → Type 0
IsCodedOutcome h rows share fill slice (Bytes bytes) = IsWrittenSlice h rows share fill slice bytes
IsCodedOutcome h rows share fill slice (Over budget) = choice_of h rows share slice ≡ Err budget

-- past a band's width the coefficients are 0
abbrev pub ArePadded : Header → Rows → Type 0
ArePadded h rows = (band line column : ℕ) → band_width_of h band ≤ column → rows band line column ≡ pos 0

-- Where the values are of the slice and have the rows of coefficients for each component, it is what comes of these.
abbrev pub IsCodedFrom : Job → ℕ → List Carried → CodedOutcome → Type 0
IsCodedFrom job slice values outcome =
    (rows : Rows) → ArePadded job.header.now rows → AllCarry job.header.now slice values rows
    → ((component : ℕ) → component < components_of job.header.now.shape.format → HasComponent values component)
    → IsCodedOutcome job.header.now rows job.share job.fill slice outcome

-- The slice was coded from values of its lane from the first place to the one that closes it, all of which were got.
pub record IsCodedOf (job : Job) (got : List Carried) (c : CodedSlice) : Type 0 where
  pub there : c.slice < slice_count job.header.now
  pub values : List Carried
  pub run : IsRun parts c.slice 0 values
  pub from : All (Contains got) values
  pub coded : IsCodedFrom job c.slice values c.outcome

-- the slice is kept
abbrev pub HasSlice : List CodedSlice → ℕ → Type 0
HasSlice kept slice = (c : CodedSlice) × Contains kept c × (c.slice ≡ slice)

-- Each slice that is kept was coded from what was got; and unless memory was wanting, the slice of each value that was got is kept.
pub record Keeps (job : Job) (got : List Carried) (kept : List CodedSlice) (starved : Bool) : Type 0 where
  pub coded : All (IsCodedOf job got) kept
  pub each : starved ≡ false → All (λ (v : Carried). HasSlice kept (slice_of v)) got

-- one slice more is kept, coded from these values
abbrev pub HasAdded : Job → ℕ → List Carried → List CodedSlice → List CodedSlice → Type 0
HasAdded job slice values before now =
    (outcome : CodedOutcome) × IsCodedFrom job slice values outcome × (now ≡ before ++ (record { slice = slice; outcome = outcome }) ∷ [])
