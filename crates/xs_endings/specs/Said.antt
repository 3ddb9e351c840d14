-- What a run says, and its status: 'Notes'.
use Rattle.std.specs.Prelude.{ℕ, nat_eq, if◌then◌else◌, List, [], ◌∷◌}
use Rattle.xs_notes.specs.declared.note.Note.{Note}
use Rattle.xs_notes.specs.declared.note.Note.TheVariants as note
use Rattle.xs_notes.specs.Lines.{note_line}

-- its output and its notes
pub record Said : Type 0 where
  pub out : List ℕ
  pub notes : List Note

-- a note, and no output
abbrev pub only_note : Note → Said
only_note why = record { out = []; notes = why ∷ [] }

-- the status that a note stands for; frames that were stepped over do no harm
abbrev pub note_status : Note → ℕ
note_status (note.Words place) = 1
note_status (note.Setting setting) = 2
note_status (note.InputCut place) = 3
note_status (note.InputSample place) = 3
note_status (note.InputLimit limit) = 3
note_status (note.InputPictures count) = 3
note_status (note.InputMagic value) = 3
note_status (note.InputLink value) = 3
note_status (note.Budget picture slice size share) = 4
note_status (note.MissingHeader picture) = 5
note_status (note.MissingSlice picture slice) = 5
note_status (note.DamagedHeader picture fault) = 6
note_status (note.DamagedSlice picture slice fault) = 6
note_status (note.DamagedLength picture stated actual) = 6
note_status (note.Stepped count) = 0
note_status note.ReadFault = 7

-- the first that is not 0, or else 0
abbrev pub status_of_notes : List Note → ℕ
status_of_notes [] = 0
status_of_notes (note ∷ notes) = if nat_eq (note_status note) 0 then status_of_notes notes else note_status note

abbrev pub status_of : Said → ℕ
status_of said = status_of_notes said.notes

-- the line of the note on a read fault
abbrev pub read_fault_line : List ℕ
read_fault_line = note_line note.ReadFault
