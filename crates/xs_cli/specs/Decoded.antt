-- What `decode` writes and says: 'Runs' and 'Notes'.
use Rattle.std.specs.Prelude.{◌≡◌, ℕ, ◌+◌, ◌-◌, ◌^◌, nat_eq, nat_le, nat_lt, Option, None, Some, MatchBool, List, [], ◌∷◌, length}
use Rattle.std.specs.Option.{option_map}
use Rattle.xs_lists.specs.First.{when, first_some}
use Rattle.xs_params.specs.Geometry.{slice_count}
use Rattle.xs_params.specs.Picture.{Picture, raw_bytes}
use Rattle.xs_faults.specs.declared.SliceFault.TheVariants as slice
use Rattle.xs_faults.specs.declared.StreamFault.{StreamFault}
use Rattle.xs_faults.specs.declared.StreamFault.TheVariants as stream
use Rattle.xs_markers.specs.Reading.{header_at}
use Rattle.xs_picture.specs.Faults.{stream_fault}
use Rattle.xs_picture.specs.StreamRead.{IsPictureRead}
use Rattle.xs_capture.specs.Pictures.{most_pictures}
use Rattle.xs_notes.specs.declared.note.Note.{Note}
use Rattle.xs_notes.specs.declared.note.Note.TheVariants as note
use Rattle.xs_endings.specs.Said.{Said, only_note}
use Rattle.xs_endings.specs.Turns.{Before, Ends, HasSaidAll, Turn, Writes}
use Rattle.xs_words.specs.declared.command.Form.{Form}
use Rattle.xs_words.specs.declared.command.Form.TheVariants.{Rtp, Xs, Pcap}
use Rattle.xs_cli.specs.Captured.{IsCaptured, IsFileAnswer}
use Rattle.xs_cli.specs.Encoded.{too_many}

-- the most bytes of an input
abbrev pub input_limit : ℕ
input_limit = 2 ^ 30

-- Codestreams

-- The notes on a fault of what is left. Where it ends inside a codestream the place is that of the end of the whole input, and two bytes that are not the
-- end marker are a fault of the last slice. Want of memory is no fault of bytes.
abbrev pub fault_notes : Before → List ℕ → StreamFault → List Note
fault_notes before rest (stream.Cut place) = note.InputCut (before.bytes + length rest) ∷ []
fault_notes before rest (stream.Head fault) = note.DamagedHeader before.pictures fault ∷ []
fault_notes before rest (stream.Slice number fault) = note.DamagedSlice before.pictures number fault ∷ []
fault_notes before rest (stream.End place) = note.DamagedSlice before.pictures (slice_count (header_at rest) - 1) slice.End ∷ []
fault_notes before rest (stream.Lcod stated actual) = note.DamagedLength before.pictures stated actual ∷ []
fault_notes before rest stream.Memory = []

-- why the run ends here, in this order
abbrev pub decode_ends : Before → List ℕ → List (Option (List Note))
decode_ends before rest =
    when (nat_eq (length rest) 0) []
    ∷ when (nat_le most_pictures before.pictures) (too_many ∷ [])
    ∷ option_map (fault_notes before rest) (stream_fault rest)
    ∷ []

-- the picture of the codestream that stands next is written
pub record IsDecodedTurn (rest : List ℕ) (turn : Turn) : Type 0 where
  pub picture : Picture
  pub size : ℕ
  pub read : IsPictureRead picture rest size
  pub writes : turn ≡ Writes size (raw_bytes picture) 0

abbrev pub IsTurnUnless : Option (List Note) → List ℕ → Turn → Type 0
IsTurnUnless None rest turn = IsDecodedTurn rest turn
IsTurnUnless (Some notes) rest turn = turn ≡ Ends notes

-- what comes next
abbrev pub IsDecodeTurn : Before → List ℕ → Turn → Type 0
IsDecodeTurn before rest turn = IsTurnUnless (first_some (decode_ends before rest)) rest turn

-- The answer, where an input over the limit is refused first

-- of codestreams, or of a capture, or of a pcap file
abbrev pub IsFormAnswer : Form → List ℕ → Said → Type 0
IsFormAnswer Xs = HasSaidAll IsDecodeTurn
IsFormAnswer Rtp = IsCaptured
IsFormAnswer (Pcap port) = IsFileAnswer port

abbrev pub IsDecodeAnswer : Form → List ℕ → Said → Type 0
IsDecodeAnswer form input said = MatchBool (nat_lt input_limit (length input)) (said ≡ only_note (note.InputLimit input_limit)) (IsFormAnswer form input said)
