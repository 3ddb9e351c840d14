-- What the steps of a run owe beside its halt.
use Rattle.std.specs.Prelude.{◌≡◌, ℕ, ◌+◌, ◌*◌, ◌-◌, ◌<◌, ◌≤◌, ◌⊎◌, ⊤, Option, None, Some, Result, Ok, Err, List, [], ◌∷◌, length}
use Rattle.std.specs.Io.KnownBytes.{Consumes, IsAtEnd}
use Rattle.xs_params.specs.declared.settings.Settings.{Settings}
use Rattle.xs_params.specs.Geometry.{slice_count}
use Rattle.xs_params.specs.Picture.{raw_size}
use Rattle.xs_capture.specs.Pictures.{most_pictures}
use Rattle.xs_faults.specs.declared.SliceFault.TheVariants as slice_fault
use Rattle.xs_markers.specs.Reading.{header_at}
use Rattle.xs_notes.specs.declared.note.Note.TheVariants as note
use Rattle.xs_notes.specs.Lines.{NamesFault}
use Rattle.xs_endings.specs.declared.stop.Stop.{Stop}
use Rattle.xs_endings.specs.declared.stop.Stop.TheVariants as stop
use Rattle.xs_endings.specs.Ends.{Change, Ends, Got, HasFailed, IsLater, IsUntouched, IsUsedUp, TookAtMost, WasLeft, ends_of, untouched}
use Rattle.xs_endings.specs.Said.{note_status}
use Rattle.xs_endings.specs.Steps.{IsHalt}
use Rattle.xs_endings.specs.Turns.{Before, Ends as Ending, HasSaidAll, IsTaken, Turn, Writes}
use Rattle.xs_words.specs.declared.command.Refusal.{Refusal}
use Rattle.xs_words.specs.Refusal.{refusal_of}
use Rattle.xs_words.specs.Command.{command_of}
use Rattle.xs_words.specs.declared.command.Command.{Command}
use Rattle.xs_words.specs.declared.command.Form.{Form}
use Rattle.xs_cli.specs.Encoded.{IsEncodeTurn, StandsAfter}
use Rattle.xs_cli.specs.Decoded.{IsDecodeTurn}
use Rattle.xs_cli.specs.Answer.{IsAnswer, IsCommandAnswer, IsCommandStanding, IsStanding, IsTrial, IsUnread, LeavesEnd, most_wanted, refusal_note}

-- a status of a command
abbrev pub IsCommandStatus : ℕ → Type 0
IsCommandStatus status = (3 ≤ status) × (status ≤ 6)

-- a note is one of a command, in which a fault is named
abbrev pub IsOwnNote : Stop → Type 0
IsOwnNote (stop.Told note) = IsCommandStatus (note_status note) × NamesFault note
IsOwnNote why = ⊤

-- a command is done, or stops with a note of its own
abbrev pub IsCommandStop : Result ℕ Stop → Type 0
IsCommandStop (Ok status) = (status ≡ 0) ⊎ IsCommandStatus status
IsCommandStop (Err why) = IsOwnNote why

-- what a command owes: status 0 leaves the source of one that reads at its end, and a trial leaves it as it was
pub record IsDone (command : Command) (ends : Ends) (result : Result ℕ Stop) : Type 0 where
  pub input : List ℕ
  pub left : WasLeft ends.input input
  pub halt : IsHalt (IsCommandAnswer command input) (IsCommandStanding command) input ends result
  pub stop : IsCommandStop result
  pub whole : result ≡ Ok 0 → LeavesEnd command ends.input
  pub most : TookAtMost (most_wanted command) ends.input
  pub untaken : IsTrial command → IsUntouched ends.input
  pub later : IsLater ends.notes

-- a command that tells nothing itself owes the same, whatever the notes are
abbrev pub IsDoneQuietly : Command → Change → Change → Result ℕ Stop → Type 0
IsDoneQuietly command source output result = (held : Option (List ℕ)) (faults : ℕ) → IsDone command (ends_of source output (untouched held faults)) result

-- Encoding

pub record ArePicturesStanding (s : Settings) (form : Form) (taken out : List ℕ) : Type 0 where
  pub most : length taken ≤ most_pictures * raw_size s.shape + 1
  pub stands : StandsAfter s form taken out

-- what is owed of the pictures, after what is written before them
pub record ArePicturesDone (s : Settings) (form : Form) (ends : Ends) (result : Result ℕ Stop) : Type 0 where
  pub input : List ℕ
  pub left : WasLeft ends.input input
  pub halt : IsHalt (HasSaidAll (IsEncodeTurn s form) input) (ArePicturesStanding s form) input ends result
  pub stop : IsCommandStop result
  pub whole : result ≡ Ok 0 → IsUsedUp ends.input
  pub most : TookAtMost (most_pictures * raw_size s.shape + 1) ends.input
  pub later : IsLater ends.notes

abbrev pub AreDoneQuietly : Settings → Form → Change → Change → Result ℕ Stop → Type 0
AreDoneQuietly s form source output result = (held : Option (List ℕ)) (faults : ℕ) → ArePicturesDone s form (ends_of source output (untouched held faults)) result

-- Reading

-- at most so many bytes were read, and fewer only at the end; or why not
abbrev pub IsRead : ℕ → Change → Result (List ℕ) Stop → Type 0
IsRead want source (Ok bytes) = Consumes source.before source.after bytes × (length bytes ≤ want) × (length bytes < want → IsAtEnd source.after)
IsRead want source (Err stop.ReadFault) = HasFailed source × (front : List ℕ) × (length front < want) × Consumes source.before source.after front
IsRead want source (Err stop.Memory) = (front : List ℕ) × (length front ≤ want) × Consumes source.before source.after front
IsRead want source (Err stop.WriteFault) = ⊥
IsRead want source (Err (stop.Told note)) = ⊥

-- Decoding

-- the codestream that stands next is written as its picture, and has so many bytes; or why the run stops there
abbrev pub IsNext : Before → List ℕ → Change → Result ℕ Stop → Type 0
IsNext before rest output (Ok size) = (piece : List ℕ) × IsDecodeTurn before rest (Writes size piece 0) × (size ≤ length rest) × Got output piece
IsNext before rest output (Err why) = (turn : Turn) × IsDecodeTurn before rest turn × IsTaken output turn (Err why)

-- why no codestream stands next is told; want of memory is free
abbrev pub IsTold : Before → List ℕ → Stop → Type 0
IsTold before rest (stop.Told note) = IsDecodeTurn before rest (Ending (note ∷ []))
IsTold before rest stop.Memory = ⊤
IsTold before rest stop.ReadFault = ⊥
IsTold before rest stop.WriteFault = ⊥

-- a bad end is told of the last slice of the header
abbrev pub IsBadEnd : ℕ → List ℕ → Stop → Type 0
IsBadEnd picture rest stop.Memory = ⊤
IsBadEnd picture rest why = why ≡ stop.Told (note.DamagedSlice picture (slice_count (header_at rest) - 1) slice_fault.End)

-- codestreams that are whole in memory are decoded, whatever source and notes are
abbrev pub AreStreamsDecoded : List ℕ → Change → Result ℕ Stop → Type 0
AreStreamsDecoded bytes output result =
    (command : Command) (source : Change) (held : Option (List ℕ)) (faults : ℕ)
    → IsHalt (HasSaidAll IsDecodeTurn bytes) (IsCommandStanding command) bytes (ends_of source output (untouched held faults)) result

-- Running

-- words that are refused stop the run at once
abbrev pub IsOwnStop : Option Refusal → Result ℕ Stop → Type 0
IsOwnStop None result = IsCommandStop result
IsOwnStop (Some why) result = result ≡ Err (stop.Told (refusal_note why))

-- the words are read and executed
pub record IsExecuted (words : List (List ℕ)) (ends : Ends) (result : Result ℕ Stop) : Type 0 where
  pub input : List ℕ
  pub left : WasLeft ends.input input
  pub halt : IsHalt (IsAnswer words input) (IsStanding words) input ends result
  pub stop : IsOwnStop (refusal_of words) result
  pub whole : result ≡ Ok 0 → LeavesEnd (command_of words) ends.input
  pub most : TookAtMost (most_wanted (command_of words)) ends.input
  pub kept : IsUnread words → IsUntouched ends.input
  pub later : IsLater ends.notes
