-- What a call changes of a source and of sinks.
use Rattle.std.specs.Prelude.{◌≡◌, ℕ, ◌≤◌, Option, None, Some, List, [], length, IfSome}
use Rattle.std.specs.Io.KnownBytes.{Appends, Consumes}
use Rattle.xs_io.specs.Bytes.{AreByteItems}
use Rattle.xs_io.specs.Causes.{Rose}
use Rattle.xs_lists.specs.Spelling.{BeginsWith}

-- the bytes of a source or sink, where it tells them, before and after a call; and its count of faults
pub record Change : Type 0 where
  pub before : Option (List ℕ)
  pub after : Option (List ℕ)
  pub faults_before : ℕ
  pub faults_after : ℕ

abbrev pub change_of : Option (List ℕ) → Option (List ℕ) → ℕ → ℕ → Change
change_of before after faults_before faults_after = record { before = before; after = after; faults_before = faults_before; faults_after = faults_after }

abbrev pub HasFailed : Change → Type 0
HasFailed end = Rose end.faults_before end.faults_after

-- its count of faults did not fall
abbrev pub IsLater : Change → Type 0
IsLater end = end.faults_before ≤ end.faults_after

-- nothing was taken from or given to it, and it did not fail
pub record IsUntouched (end : Change) : Type 0 where
  pub bytes : end.after ≡ end.before
  pub faults : end.faults_after ≡ end.faults_before

-- an end that is untouched
abbrev pub untouched : Option (List ℕ) → ℕ → Change
untouched bytes faults = change_of bytes bytes faults faults

-- Sources

-- this is what was left, where that is told; else any bytes
abbrev pub IsLeft : Option (List ℕ) → List ℕ → Type 0
IsLeft None input = AreByteItems input
IsLeft (Some bytes) input = bytes ≡ input

abbrev pub WasLeft : Change → List ℕ → Type 0
WasLeft source = IsLeft source.before

-- at most so many bytes were taken from the source
abbrev pub TookAtMost : ℕ → Change → Type 0
TookAtMost most source = (taken : List ℕ) × (length taken ≤ most) × Consumes source.before source.after taken

-- nothing is left, where there is a telling source
abbrev pub IsUsedUp : Change → Type 0
IsUsedUp source = IfSome source.before (λ bytes. source.after ≡ Some [])

-- Sinks

-- the sink got these bytes; or a front of them
abbrev pub Got : Change → List ℕ → Type 0
Got sink bytes = Appends sink.before sink.after bytes

abbrev pub GotFront : Change → List ℕ → Type 0
GotFront sink bytes = (part : List ℕ) × BeginsWith bytes part × Got sink part

-- source, output and notes
pub record Ends : Type 0 where
  pub input : Change
  pub output : Change
  pub notes : Change

abbrev pub ends_of : Change → Change → Change → Ends
ends_of input output notes = record { input = input; output = output; notes = notes }
