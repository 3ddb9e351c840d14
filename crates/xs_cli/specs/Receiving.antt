-- What the steps of receiving a capture owe.
use Rattle.std.specs.Prelude.{◌≡◌, ◌≢◌, ℕ, ◌<◌, ◌^◌, ◌⊎◌, ⊤, true, false, length, [], Result, OnOk, OnErr, IfOk, IfErr, IsErrOf, List}
use Rattle.xs_lists.specs.Packing.{AreBytes}
use Rattle.xs_capture.specs.declared.pictures.SortFault.{SortFault}
use Rattle.xs_capture.specs.declared.pictures.SortFault.TheVariants as sort
use Rattle.xs_capture.specs.Pictures.{IsSorting, Sorting}
use Rattle.xs_pcap.specs.declared.fault.PcapFault.{PcapFault}
use Rattle.xs_pcap.specs.declared.fault.PcapFault.TheVariants as pcap
use Rattle.xs_notes.specs.declared.note.Note.TheVariants as note
use Rattle.xs_notes.specs.Lines.{NamesFault, note_lines}
use Rattle.xs_recv.specs.declared.received.Received.{Received}
use Rattle.xs_recv.specs.declared.received.Received.TheVariants as received
use Rattle.xs_endings.specs.declared.stop.Stop.{Stop}
use Rattle.xs_endings.specs.declared.stop.Stop.TheVariants as stop
use Rattle.xs_endings.specs.Ends.{Change, Got, GotFront, HasFailed, IsLater, ends_of}
use Rattle.xs_endings.specs.Said.{Said, status_of}
use Rattle.xs_endings.specs.Steps.{IsHalt, IsSinkStop}
use Rattle.xs_cli.specs.Captured.{IsCapturedAfter, IsFileAnswer, damage_note}

-- a fault inside what is received is named, and slices are missing where the header is not
abbrev pub IsNamed : Received → Type 0
IsNamed (received.Picture picture) = ⊤
IsNamed (received.Missing true slices) = ⊤
IsNamed (received.Missing false slices) = slices ≢ []
IsNamed (received.Damaged fault) = (timestamp : ℕ) → NamesFault (damage_note timestamp fault)

-- the offers of bytes, fewer than 2^32, are sorted so
pub record IsOfBytes (sorting : Sorting) : Type 0 where
  pub capture : List ℕ
  pub bytes : AreBytes capture
  pub short : length capture < 2 ^ 32
  pub sorts : IsSorting capture sorting

-- what is said was given to the output and the notes, with its status; or a front of it
pub record IsSaying (output notes : Change) (said : Said) (result : Result ℕ Stop) : Type 0 where
  pub out : OnOk result (Got output said.out)
  pub lines : OnOk result (Got notes (note_lines said.notes))
  pub status : IfOk result (λ status. status ≡ status_of said)
  pub out_front : OnErr result (GotFront output said.out)
  pub lines_front : OnErr result (GotFront notes (note_lines said.notes))
  pub why : IfErr result IsSinkStop
  pub failed : IsErrOf result stop.WriteFault → HasFailed output ⊎ HasFailed notes
  pub out_later : IsLater output
  pub lines_later : IsLater notes

-- it is one of the answers
pub record HasSaid (Answer : Said → Type 0) (output notes : Change) (result : Result ℕ Stop) : Type 0 where
  pub said : Said
  pub answer : Answer said
  pub saying : IsSaying output notes said result

-- it does not fail by its source
abbrev pub NeverStands : List ℕ → List ℕ → Type 0
NeverStands taken out = ⊥

-- a capture that is whole in memory is received, after so many records that were stepped over, whatever source and input are
abbrev pub AreReceived : ℕ → List ℕ → Change → Change → Result ℕ Stop → Type 0
AreReceived records bytes output notes result =
    (source : Change) (input : List ℕ) → IsHalt (IsCapturedAfter records bytes) NeverStands input (ends_of source output notes) result

-- and so is a pcap file, by its datagrams to a port
abbrev pub AreUnwrapped : ℕ → List ℕ → Change → Change → Result ℕ Stop → Type 0
AreUnwrapped port bytes output notes result = (source : Change) → IsHalt (IsFileAnswer port bytes) NeverStands bytes (ends_of source output notes) result

-- how a capture is refused as a whole
abbrev pub stop_of_sort : SortFault → Stop
stop_of_sort (sort.Cut place) = stop.Told (note.InputCut place)
stop_of_sort (sort.Pictures count) = stop.Told (note.InputPictures count)
stop_of_sort sort.Memory = stop.Memory

-- how a file is refused
abbrev pub stop_of_file : PcapFault → Stop
stop_of_file (pcap.Cut place) = stop.Told (note.InputCut place)
stop_of_file (pcap.Magic value) = stop.Told (note.InputMagic value)
stop_of_file (pcap.Link value) = stop.Told (note.InputLink value)
stop_of_file pcap.Memory = stop.Memory
