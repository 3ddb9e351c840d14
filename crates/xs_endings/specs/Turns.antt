-- Pictures one after the other. `IsTurn` says what comes next, of what came before and of what is left of the input.
use Rattle.std.specs.Prelude.{◌≡◌, ℕ, ◌+◌, ◌%◌, ◌^◌, Result, Ok, Err, List, [], ◌∷◌, drop}
use Rattle.std.specs.Io.KnownBytes.{Keeps}
use Rattle.std.specs.List.{concat}
use Rattle.xs_notes.specs.declared.note.Note.{Note}
use Rattle.xs_endings.specs.declared.stop.Stop.{Stop}
use Rattle.xs_endings.specs.declared.stop.Stop.TheVariants as stop
use Rattle.xs_endings.specs.Ends.{Change, Got, GotFront, HasFailed}
use Rattle.xs_endings.specs.Said.{Said}

-- the pictures that came before, their bytes in the input, and the number of the packet that comes next
pub record Before : Type 0 where
  pub pictures : ℕ
  pub bytes : ℕ
  pub sequence : ℕ

abbrev pub nothing : Before
nothing = record { pictures = 0; bytes = 0; sequence = 0 }

-- one more picture came, of so many bytes and packets
abbrev pub after : Before → ℕ → ℕ → Before
after before size packets = record { pictures = before.pictures + 1; bytes = before.bytes + size; sequence = (before.sequence + packets) % 2 ^ 16 }

-- what comes next: the end with its notes; or a picture, of so many bytes of the input, is written as this piece, in so many packets
pub data Turn : Type 0 where
  Ends : List Note → Turn
  Writes : ℕ → List ℕ → ℕ → Turn

-- the pieces are written one after the other, and then this is left
abbrev pub AreWritten : (Before → List ℕ → Turn → Type 0) → Before → List ℕ → List (List ℕ) → Before → List ℕ → Type 0
AreWritten IsTurn at input [] end rest = (at ≡ end) × (input ≡ rest)
AreWritten IsTurn at input (piece ∷ pieces) end rest =
    (size : ℕ) × (packets : ℕ) × IsTurn at input (Writes size piece packets) × AreWritten IsTurn (after at size packets) (drop size input) pieces end rest

-- pictures are written up to a place
pub record HasSaidFirst (IsTurn : Before → List ℕ → Turn → Type 0) (input out : List ℕ) : Type 0 where
  pub pieces : List (List ℕ)
  pub end : Before
  pub rest : List ℕ
  pub written : AreWritten IsTurn nothing input pieces end rest
  pub joined : out ≡ concat pieces

-- and then comes the end
pub record HasSaidAll (IsTurn : Before → List ℕ → Turn → Type 0) (input : List ℕ) (said : Said) : Type 0 where
  pub first : HasSaidFirst IsTurn input said.out
  pub ended : IsTurn first.end first.rest (Ends said.notes)

-- what a turn writes
abbrev pub piece_of : Turn → List ℕ
piece_of (Ends notes) = []
piece_of (Writes size piece packets) = piece

-- so many packets are written
pub record IsWriting (output : Change) (turn : Turn) (packets : ℕ) : Type 0 where
  pub size : ℕ
  pub piece : List ℕ
  pub writes : turn ≡ Writes size piece packets
  pub given : Got output piece

-- the turn is the end, with this note alone
pub record IsEnded (output : Change) (turn : Turn) (why : Note) : Type 0 where
  pub ends : turn ≡ Ends (why ∷ [])
  pub kept : Keeps output.before output.after

-- what comes of a turn: its packets are written; or why it stops, with a front of what it writes
abbrev pub IsTaken : Change → Turn → Result ℕ Stop → Type 0
IsTaken output turn (Ok packets) = IsWriting output turn packets
IsTaken output turn (Err (stop.Told note)) = IsEnded output turn note
IsTaken output turn (Err stop.ReadFault) = ⊥
IsTaken output turn (Err stop.WriteFault) = HasFailed output × GotFront output (piece_of turn)
IsTaken output turn (Err stop.Memory) = GotFront output (piece_of turn)
