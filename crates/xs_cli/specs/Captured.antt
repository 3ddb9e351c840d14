-- What `decode` writes and says of a capture: 'Runs', 'RTP packets and captures' and 'Notes'.
use Rattle.std.specs.Prelude.{◌≡◌, ℕ, ◌+◌, Option, None, Some, true, false, nat_eq, if◌then◌else◌, Result, Ok, Err, List, [], ◌∷◌, ◌++◌, map}
use Rattle.xs_params.specs.Picture.{raw_bytes}
use Rattle.xs_capture.specs.declared.pictures.SortFault.{SortFault}
use Rattle.xs_capture.specs.declared.pictures.SortFault.TheVariants as sort
use Rattle.xs_capture.specs.Offer.{Offer}
use Rattle.xs_capture.specs.Pictures.{IsSorted, Sorting}
use Rattle.xs_capture.specs.Selection.{Held, IsSelection}
use Rattle.xs_pcap.specs.declared.fault.PcapFault.{PcapFault}
use Rattle.xs_pcap.specs.declared.fault.PcapFault.TheVariants as pcap
use Rattle.xs_pcap.specs.declared.unwrapping.Unwrapped.{Unwrapped}
use Rattle.xs_pcap.specs.File.{pcap_fault}
use Rattle.xs_pcap.specs.Unwrapped.{IsUnwrapped}
use Rattle.xs_recv.specs.declared.received.Damage.{Damage}
use Rattle.xs_recv.specs.declared.received.Damage.TheVariants as damage
use Rattle.xs_recv.specs.declared.received.Received.{Received}
use Rattle.xs_recv.specs.declared.received.Received.TheVariants as received
use Rattle.xs_recv.specs.Received.{IsReceived}
use Rattle.xs_notes.specs.declared.note.Note.{Note}
use Rattle.xs_notes.specs.declared.note.Note.TheVariants as note
use Rattle.xs_endings.specs.Said.{Said, only_note}

-- What is said of one picture, which is named by its timestamp

abbrev pub damage_note : ℕ → Damage → Note
damage_note timestamp (damage.Head fault) = note.DamagedHeader timestamp fault
damage_note timestamp (damage.Slice slice fault) = note.DamagedSlice timestamp slice fault
damage_note timestamp (damage.Lcod stated actual) = note.DamagedLength timestamp stated actual

-- a picture is written; what is missing or damaged is noted
abbrev pub said_of : ℕ → Received → Said
said_of timestamp (received.Picture picture) = record { out = raw_bytes picture; notes = [] }
said_of timestamp (received.Missing true slices) = only_note (note.MissingHeader timestamp)
said_of timestamp (received.Missing false slices) = record { out = []; notes = map (note.MissingSlice timestamp) slices }
said_of timestamp (received.Damaged fault) = only_note (damage_note timestamp fault)

-- what is received by one selection of its offers
pub record IsReceivedOf (offers : List Offer) (answer : Received) : Type 0 where
  pub held : Held
  pub selection : IsSelection offers held
  pub received : IsReceived held answer

abbrev pub IsSaidOf : ℕ → List Offer → Said → Type 0
IsSaidOf timestamp offers said = (answer : Received) × IsReceivedOf offers answer × (said ≡ said_of timestamp answer)

-- What is said of all

abbrev pub nothing_said : Said
nothing_said = record { out = []; notes = [] }

-- one after the other
abbrev pub said_then : Said → Said → Said
said_then first more = record { out = first.out ++ more.out; notes = first.notes ++ more.notes }

-- each timestamp is answered by its offers, in order
abbrev pub AreSaidOf : List ℕ → List (List Offer) → Said → Type 0
AreSaidOf (timestamp ∷ timestamps) (offers ∷ more) said =
    (first : Said) × IsSaidOf timestamp offers first × (others : Said) × AreSaidOf timestamps more others × (said ≡ said_then first others)
AreSaidOf timestamps offers said = said ≡ nothing_said

-- the frames that were stepped over are counted first, if there are any
abbrev pub stepped_said : ℕ → Said
stepped_said count = record { out = []; notes = if nat_eq count 0 then [] else note.Stepped count ∷ [] }

-- what is said of a capture, by how it is sorted; want of memory says nothing of the capture
abbrev pub IsSaidOfSorted : Result Sorting SortFault → Said → Type 0
IsSaidOfSorted (Ok sorting) said = (pictures : Said) × AreSaidOf sorting.timestamps sorting.offers pictures × (said ≡ said_then (stepped_said sorting.stepped) pictures)
IsSaidOfSorted (Err (sort.Cut place)) said = said ≡ only_note (note.InputCut place)
IsSaidOfSorted (Err (sort.Pictures count)) said = said ≡ only_note (note.InputPictures count)
IsSaidOfSorted (Err sort.Memory) said = ⊥

-- the answer of an input that is a capture
pub record IsCaptured (input : List ℕ) (said : Said) : Type 0 where
  pub sorted : Result Sorting SortFault
  pub sorts : IsSorted input sorted
  pub answer : IsSaidOfSorted sorted said

-- Pcap files

abbrev pub with_stepped : Sorting → ℕ → Sorting
with_stepped sorting stepped = record sorting { stepped = stepped }

-- so many records were stepped over besides
abbrev pub also_stepped : ℕ → Result Sorting SortFault → Result Sorting SortFault
also_stepped records (Ok sorting) = Ok (with_stepped sorting (sorting.stepped + records))
also_stepped records (Err fault) = Err fault

-- the answer of a capture that was unwrapped, where so many records were stepped over
pub record IsCapturedAfter (records : ℕ) (input : List ℕ) (said : Said) : Type 0 where
  pub sorted : Result Sorting SortFault
  pub sorts : IsSorted input sorted
  pub answer : IsSaidOfSorted (also_stepped records sorted) said

-- a file is answered as the capture that it is unwrapped to
pub record IsUnwrappedAnswer (port : ℕ) (input : List ℕ) (said : Said) : Type 0 where
  pub unwrapped : Unwrapped
  pub file : IsUnwrapped input port unwrapped
  pub answer : IsCapturedAfter unwrapped.stepped unwrapped.capture said

-- the note on a file that is none; want of memory is no fault of bytes
abbrev pub file_notes : PcapFault → List Note
file_notes (pcap.Cut place) = note.InputCut place ∷ []
file_notes (pcap.Magic value) = note.InputMagic value ∷ []
file_notes (pcap.Link value) = note.InputLink value ∷ []
file_notes pcap.Memory = []

abbrev pub IsFileUnless : Option PcapFault → ℕ → List ℕ → Said → Type 0
IsFileUnless None port input said = IsUnwrappedAnswer port input said
IsFileUnless (Some fault) port input said = said ≡ record { out = []; notes = file_notes fault }

-- the answer of an input that is a pcap file, of which the datagrams to a port are taken
abbrev pub IsFileAnswer : ℕ → List ℕ → Said → Type 0
IsFileAnswer port input = IsFileUnless (pcap_fault input) port input
