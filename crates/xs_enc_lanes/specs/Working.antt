-- What the activities of a picture do, each by itself and all together.
use Rattle.std.specs.Prelude.{◌≡◌, ◌⊎◌, ⊤, ℕ, ◌+◌, ◌<◌, false, Option, List, [], ◌++◌, All, length, slice_index_or}
use Rattle.std.specs.List.{Contains}
use Rattle.xs_layout.specs.Geometry.{components_of}
use Rattle.xs_params.specs.Geometry.{slice_count}
use Rattle.atomic_table.specs.declared.shared.Seat.{Seat}
use Rattle.xs_lane_core.specs.Machine.{Actor, joined}
use Rattle.xs_lane_core.specs.Sound.{IsAlone}
use Rattle.xs_lanes.specs.declared.table.Lanes.{Lanes}
use Rattle.xs_lanes.specs.Claiming.{got_in}
use Rattle.xs_lanes.specs.Gathering.{HasPart, HasRest}
use Rattle.xs_lanes.specs.Knowing.{IsWhole, SameShare, stored_at}
use Rattle.xs_lanes.specs.Passes.{IsPassOf, lane_count, view}
use Rattle.xs_enc_lanes.specs.declared.activity.Activity.{Activity}
use Rattle.xs_enc_lanes.specs.declared.activity.Job.{Job}
use Rattle.xs_enc_lanes.specs.declared.activity.Role.{Role}
use Rattle.xs_enc_lanes.specs.declared.activity.Role.TheVariants.{Component, Coder}
use Rattle.xs_enc_lanes.specs.Coded.{IsJob, Keeps, rows_of_job}
use Rattle.xs_enc_lanes.specs.Rows.{Carried, CarriesRows, parts}

-- The lanes are those of the picture's slices, and what is encoded can be.
pub record IsWork (job : Job) : Type 0 where
  pub encodes : IsJob job
  pub lanes : lane_count job.lanes.now ≡ slice_count job.header.now

-- Passes

-- the pass files nothing
pub record FilesNothing (v w : Actor Carried) : Type 0 where
  pub stored : w.stored ≡ v.stored
  pub repeated : w.repeated ≡ v.repeated

-- what the pass got before it has still
abbrev pub GetsMore : Actor Carried → Actor Carried → Type 0
GetsMore v w = (values : List Carried) × (w.got ≡ v.got ++ values)

-- the pass did nothing
pub record IsUnusedPass (v : Actor Carried) : Type 0 where
  pub stored : v.stored ≡ []
  pub repeated : v.repeated ≡ []
  pub got : v.got ≡ []

-- rows of the component in the slice are stored, or their place was taken before
abbrev pub IsFiled : Actor Carried → ℕ → ℕ → Type 0
IsFiled v slice component = (0 < stored_at parts slice component v) ⊎ Contains v.repeated (slice, component)

-- all slices of a component, from one on
abbrev pub AreFiledTo : ℕ → ℕ → Actor Carried → Type 0
AreFiledTo slices component v = (slice : ℕ) → slice < slices → IsFiled v slice component

-- all that the pass stored are rows of the picture
abbrev pub StoresRows : Job → Actor Carried → Type 0
StoresRows job v = All (CarriesRows job.header.now (rows_of_job job)) v.stored

-- Activities

-- the component is one of so many
abbrev pub IsRoleOf : ℕ → Role → Type 0
IsRoleOf components (Component c) = c < components
IsRoleOf components (Coder n) = ⊤

-- who transforms a component files all its slices
abbrev pub FilesFor : Job → Role → Actor Carried → Type 0
FilesFor job (Component c) v = AreFiledTo (slice_count job.header.now) c v
FilesFor job (Coder n) v = ⊤

-- The activity has done nothing, and its component is one of so many.
pub record IsIdle (lanes : Lanes Carried) (components : ℕ) (a : Activity) : Type 0 where
  pub pass : IsPassOf lanes a.pass
  pub fresh : IsUnusedPass (view a.pass)
  pub kept : a.kept.items ≡ []
  pub role : IsRoleOf components a.role

-- What an activity stored are rows of the picture, and it keeps what it coded of what it got; unless memory was wanting, it filed what
-- it had to.
pub record HasWorked (job : Job) (a : Activity) : Type 0 where
  pub pass : IsPassOf job.lanes.now a.pass
  pub stored : StoresRows job (view a.pass)
  pub keeps : Keeps job (view a.pass).got a.kept.items a.starved
  pub files : a.starved ≡ false → FilesFor job a.role (view a.pass)

-- the activity ran: its share and its role are what they were
pub record HasRun (job : Job) (old new : Activity) : Type 0 where
  pub worked : HasWorked job new
  pub share : SameShare (view old.pass) (view new.pass)
  pub role : new.role ≡ old.role

-- the pass is of the lanes, and what is kept was coded of what it got
pub record IsReadyToCode (job : Job) (a : Activity) : Type 0 where
  pub pass : IsPassOf job.lanes.now a.pass
  pub keeps : Keeps job (view a.pass).got a.kept.items a.starved

-- The activity claims and codes, and does nothing else.
pub record Goes (job : Job) (old new : Activity) : Type 0 where
  pub ready : IsReadyToCode job new
  pub share : SameShare (view old.pass) (view new.pass)
  pub files : FilesNothing (view old.pass) (view new.pass)
  pub grows : GetsMore (view old.pass) (view new.pass)
  pub role : new.role ≡ old.role
  pub starved : new.starved ≡ false → old.starved ≡ false

-- Teams

-- some activity transforms the component
abbrev pub HasRole : List Activity → ℕ → Type 0
HasRole others c = (a : Activity) × Contains others a × (a.role ≡ Component c)

-- passes were split off for activities that have done nothing
pub record AreForked (lanes : Lanes Carried) (components : ℕ) (first : Seat (Option Carried) (Actor Carried)) (others : List Activity) : Type 0 where
  pub pass : IsPassOf lanes first
  pub share : HasPart (length others) (view first)
  pub fresh : IsUnusedPass (view first)
  pub idle : All (IsIdle lanes components) others
  pub shares : (i : ℕ) (d : Activity) → i < length others → HasPart (i + 1) (view (slice_index_or others i d).pass)

-- Activities may be joined into one, the last one first, until n were.
pub record MayJoin (lanes : Lanes Carried) (n : ℕ) (first : Seat (Option Carried) (Actor Carried)) (others : List Activity) : Type 0 where
  pub pass : IsPassOf lanes first
  pub share : HasRest n (length others) (view first)
  pub shares : (i : ℕ) (d : Activity) → i < length others → HasPart (i + 1) (view (slice_index_or others i d).pass)

-- The activity took over what the other did, and keeps what both keep; or memory was wanting.
pub record HasJoined (old other new : Activity) : Type 0 where
  pub union : view new.pass ≡ joined (view old.pass) (view other.pass)
  pub kept : new.starved ≡ false → new.kept.items ≡ old.kept.items ++ other.kept.items
  pub lost : (new.kept.items ≡ old.kept.items ++ other.kept.items) ⊎ (new.kept.items ≡ old.kept.items)
  pub mine : new.starved ≡ false → old.starved ≡ false
  pub theirs : new.starved ≡ false → other.starved ≡ false

-- Of each component all slices are filed by the one activity, or one of the others has it.
pub record AreJoined (job : Job) (a : Activity) (others : List Activity) : Type 0 where
  pub stored : StoresRows job (view a.pass)
  pub keeps : Keeps job (view a.pass).got a.kept.items a.starved
  pub theirs : All (HasWorked job) others
  pub files : (c : ℕ) → c < components_of job.header.now.shape.format → (a.starved ≡ false → AreFiledTo (slice_count job.header.now) c (view a.pass)) ⊎ HasRole others c

-- all slices of all components are filed by the activity
pub record HasAllFiled (job : Job) (a : Activity) : Type 0 where
  pub stored : StoresRows job (view a.pass)
  pub keeps : Keeps job (view a.pass).got a.kept.items a.starved
  pub files : a.starved ≡ false → (c : ℕ) → c < components_of job.header.now.shape.format → AreFiledTo (slice_count job.header.now) c (view a.pass)

-- Sweeping

-- where the lane is whole among what the pass stored, the pass got it
abbrev pub GotIfWhole : Actor Carried → ℕ → Type 0
GotIfWhole v slice = IsWhole parts slice v → 0 < got_in parts slice v

-- so did a pass that is alone of the first slices, unless memory was wanting
abbrev pub SweepsTo : ℕ → Activity → Activity → Type 0
SweepsTo slices old new = IsAlone (view old.pass) → new.starved ≡ false → (slice : ℕ) → slice < slices → GotIfWhole (view new.pass) slice

-- and of one
abbrev pub Sweeps : ℕ → Activity → Activity → Type 0
Sweeps slice old new = IsAlone (view old.pass) → new.starved ≡ false → GotIfWhole (view new.pass) slice

-- The activity has the whole share. All slices of all components are filed, each that is whole was got, and what came of it is kept.
pub record HasSwept (job : Job) (a : Activity) : Type 0 where
  pub ready : IsReadyToCode job a
  pub alone : IsAlone (view a.pass)
  pub sated : a.starved ≡ false
  pub stored : StoresRows job (view a.pass)
  pub files : (c : ℕ) → c < components_of job.header.now.shape.format → AreFiledTo (slice_count job.header.now) c (view a.pass)
  pub got : (slice : ℕ) → slice < slice_count job.header.now → GotIfWhole (view a.pass) slice
