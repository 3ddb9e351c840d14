-- How a run ends. `Answer` holds of what may be said of the words and the input; `Stands` of bytes that were taken and of what then stands in the output
-- where the source fails.
use Rattle.std.specs.Prelude.{◌≡◌, ℕ, ◌⊎◌, List}
use Rattle.std.specs.Io.KnownBytes.{Consumes}
use Rattle.xs_io.specs.Bytes.{AreByteItems}
use Rattle.xs_lists.specs.Spelling.{BeginsWith}
use Rattle.xs_notes.specs.Lines.{note_lines}
use Rattle.xs_endings.specs.Ends.{Ends, Got, GotFront, HasFailed}
use Rattle.xs_endings.specs.Said.{Said, read_fault_line, status_of}

-- all is said, with its status
pub record IsFinished (Answer : Said → Type 0) (ends : Ends) (status : ℕ) : Type 0 where
  pub said : Said
  pub answer : Answer said
  pub answered : status ≡ status_of said
  pub output : Got ends.output said.out
  pub notes : Got ends.notes (note_lines said.notes)

-- the input failed after a front of it was taken; the output has what these bytes allow
pub record IsInputFailure (Stands : List ℕ → List ℕ → Type 0) (input : List ℕ) (ends : Ends) : Type 0 where
  pub cause : HasFailed ends.input
  pub taken : List ℕ
  pub front : BeginsWith input taken
  pub consumed : Consumes ends.input.before ends.input.after taken
  pub out : List ℕ
  pub stands : Stands taken out
  pub output : Got ends.output out

-- which is noted
pub record IsReadFault (Stands : List ℕ → List ℕ → Type 0) (input : List ℕ) (ends : Ends) (status : ℕ) : Type 0 where
  pub seven : status ≡ 7
  pub failed : IsInputFailure Stands input ends
  pub notes : Got ends.notes read_fault_line

-- the output or the notes failed
abbrev pub HasSinkFailed : Ends → Type 0
HasSinkFailed ends = HasFailed ends.output ⊎ HasFailed ends.notes

-- or memory was wanting
abbrev pub IsBreak : Ends → ℕ → Type 0
IsBreak ends status = ((status ≡ 8) × HasSinkFailed ends) ⊎ (status ≡ 9)

-- fronts stand of what is said of an input of bytes
pub record HasFronts (Answer : Said → Type 0) (input : List ℕ) (ends : Ends) : Type 0 where
  pub said : Said
  pub answer : AreByteItems input → Answer said
  pub output : GotFront ends.output said.out
  pub notes : GotFront ends.notes (note_lines said.notes)

-- a front of the note on a read fault stands
pub record HasFaultFront (Stands : List ℕ → List ℕ → Type 0) (input : List ℕ) (ends : Ends) : Type 0 where
  pub failed : IsInputFailure Stands input ends
  pub notes : GotFront ends.notes read_fault_line

-- it was cut short
pub record IsCutShort (Answer : Said → Type 0) (Stands : List ℕ → List ℕ → Type 0) (input : List ℕ) (ends : Ends) (status : ℕ) : Type 0 where
  pub cause : IsBreak ends status
  pub stands : HasFronts Answer input ends ⊎ HasFaultFront Stands input ends

-- one of the three
abbrev pub IsEnding : (Said → Type 0) → (List ℕ → List ℕ → Type 0) → List ℕ → Ends → ℕ → Type 0
IsEnding Answer Stands input ends status = IsFinished Answer ends status ⊎ IsReadFault Stands input ends status ⊎ IsCutShort Answer Stands input ends status
