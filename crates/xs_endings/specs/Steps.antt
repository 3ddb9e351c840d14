-- What the steps of a run owe, each with why the run stops there.
use Rattle.std.specs.Prelude.{◌≡◌, ℕ, ◌⊎◌, ⊤, Result, Ok, Err, OnOk, OnErr, IfErr, IsErrOf, List, [], ◌∷◌}
use Rattle.std.specs.Io.KnownBytes.{Keeps}
use Rattle.xs_io.specs.declared.traits.SinkFault.{SinkFault}
use Rattle.xs_io.specs.declared.traits.SinkFault.TheVariants as sink_fault
use Rattle.xs_notes.specs.declared.note.Note.{Note}
use Rattle.xs_notes.specs.Lines.{NamesFault, note_line}
use Rattle.xs_endings.specs.declared.stop.Stop.{Stop}
use Rattle.xs_endings.specs.declared.stop.Stop.TheVariants as stop
use Rattle.xs_endings.specs.Ends.{Change, Ends, Got, GotFront, HasFailed, IsLater, IsUntouched}
use Rattle.xs_endings.specs.Said.{Said, note_status, read_fault_line}
use Rattle.xs_endings.specs.Endings.{HasFronts, HasSinkFailed, IsFinished, IsInputFailure}

-- Giving

abbrev pub stop_of_sink : SinkFault → Stop
stop_of_sink sink_fault.Failed = stop.WriteFault
stop_of_sink sink_fault.Memory = stop.Memory

-- a sink stops a run only so
abbrev pub IsSinkStop : Stop → Type 0
IsSinkStop stop.WriteFault = ⊤
IsSinkStop stop.Memory = ⊤
IsSinkStop stop.ReadFault = ⊥
IsSinkStop (stop.Told note) = ⊥

-- a piece was given to a sink, or a front of it
pub record IsGiven {T : Type 0} (sink : Change) (piece : List ℕ) (result : Result T Stop) : Type 0 where
  pub whole : OnOk result (Got sink piece)
  pub front : OnErr result (GotFront sink piece)
  pub why : IfErr result IsSinkStop
  pub failed : IsErrOf result stop.WriteFault → HasFailed sink
  pub later : IsLater sink

-- Commands

-- a note is left to be told, which is all that is said of the input beside the output
pub record IsLeftToTell (Answer : Said → Type 0) (ends : Ends) (why : Note) : Type 0 where
  pub said : Said
  pub answer : Answer said
  pub note : said.notes ≡ why ∷ []
  pub output : Got ends.output said.out
  pub notes : Keeps ends.notes.before ends.notes.after

-- the input failed, and that is not told
pub record IsUntoldFault (Stands : List ℕ → List ℕ → Type 0) (input : List ℕ) (ends : Ends) : Type 0 where
  pub failed : IsInputFailure Stands input ends
  pub notes : Keeps ends.notes.before ends.notes.after

-- what a command owes, but for the last note
abbrev pub IsHalt : (Said → Type 0) → (List ℕ → List ℕ → Type 0) → List ℕ → Ends → Result ℕ Stop → Type 0
IsHalt Answer Stands input ends (Ok status) = IsFinished Answer ends status
IsHalt Answer Stands input ends (Err (stop.Told note)) = IsLeftToTell Answer ends note
IsHalt Answer Stands input ends (Err stop.ReadFault) = IsUntoldFault Stands input ends
IsHalt Answer Stands input ends (Err stop.WriteFault) = HasSinkFailed ends × HasFronts Answer input ends
IsHalt Answer Stands input ends (Err stop.Memory) = HasFronts Answer input ends

-- The last note

-- a fault inside why a run stops is named
abbrev pub NamesStop : Stop → Type 0
NamesStop (stop.Told note) = NamesFault note
NamesStop why = ⊤

-- a sink failed in the call, or memory was wanting
abbrev pub IsWriteStatus : Change → ℕ → Type 0
IsWriteStatus sink status = ((status ≡ 8) × HasFailed sink) ⊎ (status ≡ 9)

-- a line was told, with the status; or a front of it, and the status says why
abbrev pub Tells : Change → List ℕ → ℕ → ℕ → Type 0
Tells notes line wanted status = (Got notes line × (status ≡ wanted)) ⊎ (GotFront notes line × IsWriteStatus notes status)

-- the last note is told, if one is left, and the status answered
abbrev pub IsClosed : Change → Result ℕ Stop → ℕ → Type 0
IsClosed notes (Ok done) status = IsUntouched notes × (status ≡ done)
IsClosed notes (Err (stop.Told note)) status = Tells notes (note_line note) (note_status note) status
IsClosed notes (Err stop.ReadFault) status = Tells notes read_fault_line 7 status
IsClosed notes (Err stop.WriteFault) status = IsUntouched notes × (status ≡ 8)
IsClosed notes (Err stop.Memory) status = IsUntouched notes × (status ≡ 9)
