-- How the receiving of a pcap file halts.
use Rattle.std.proofs.Common.{◌≡◌, ℕ, List, None, Option, Result, Err, refl, sym, subst, arith}
use Rattle.std.proofs.KnownBytes.{Appends-nil, Keeps-refl}
use Rattle.xs_lists.specs.Packing.{AreBytes}
use Rattle.xs_pcap.specs.declared.fault.PcapFault.{PcapFault}
use Rattle.xs_pcap.specs.declared.fault.PcapFault.TheVariants as pcap
use Rattle.xs_pcap.specs.declared.unwrapping.Unwrapped.{Unwrapped}
use Rattle.xs_pcap.specs.File.{pcap_fault}
use Rattle.xs_pcap.specs.Unwrapped.{IsPcapFault, IsUnwrapped}
use Rattle.xs_pcap.proofs.Files.{file_is_whole}
use Rattle.xs_notes.specs.declared.note.Note.TheVariants as note
use Rattle.xs_endings.specs.declared.stop.Stop.{Stop}
use Rattle.xs_endings.specs.Ends.{Change, ends_of, untouched}
use Rattle.xs_endings.specs.Said.{only_note}
use Rattle.xs_endings.proofs.Changes.{front_of_none}
use Rattle.xs_cli.specs.Captured.{IsCapturedAfter, IsFileAnswer, IsFileUnless}
use Rattle.xs_cli.specs.Receiving.{AreReceived, AreUnwrapped, NeverStands, stop_of_file}
use Rattle.xs_cli.specs.Steps.{IsCommandStop}
use Rattle.xs_cli.proofs.Done.{halt_as}
use Rattle.xs_cli.proofs.Unwrapping.{file_exists}

pub file_halt : (port : ℕ) (bytes : List ℕ) (unwrapped : Unwrapped) (output notes : Change) (result : Result ℕ Stop) → IsUnwrapped bytes port unwrapped
    → AreReceived unwrapped.stepped unwrapped.capture output notes result → AreUnwrapped port bytes output notes result
file_halt port bytes unwrapped output notes result is received source =
    let whole : pcap_fault bytes ≡ None = file_is_whole bytes is.records is.file in
    halt_as (IsCapturedAfter unwrapped.stepped unwrapped.capture) (IsFileAnswer port bytes) NeverStands NeverStands bytes (ends_of source output notes)
    (λ said answer. subst (λ o. IsFileUnless o port bytes said) (sym whole) (record { unwrapped = unwrapped; file = is; answer = answer })) (λ taken out never. never) result (received source bytes)

-- files that are refused as a whole
pub refused_file : (port : ℕ) (bytes : List ℕ) (a p : Option (List ℕ)) (f u : ℕ) (fault : PcapFault) → AreBytes bytes → IsPcapFault bytes fault
    → AreUnwrapped port bytes (untouched a f) (untouched p u) (Err (stop_of_file fault))
refused_file port bytes a p f u (pcap.Cut place) are is source = record {
  said = only_note (note.InputCut place);
  answer = subst (λ o. IsFileUnless o port bytes (only_note (note.InputCut place))) (sym is) refl;
  note = refl;
  output = Appends-nil a;
  notes = Keeps-refl p;
}
refused_file port bytes a p f u (pcap.Magic value) are is source = record {
  said = only_note (note.InputMagic value);
  answer = subst (λ o. IsFileUnless o port bytes (only_note (note.InputMagic value))) (sym is) refl;
  note = refl;
  output = Appends-nil a;
  notes = Keeps-refl p;
}
refused_file port bytes a p f u (pcap.Link value) are is source = record {
  said = only_note (note.InputLink value);
  answer = subst (λ o. IsFileUnless o port bytes (only_note (note.InputLink value))) (sym is) refl;
  note = refl;
  output = Appends-nil a;
  notes = Keeps-refl p;
}
refused_file port bytes a p f u pcap.Memory are is source =
    let answer = file_exists port bytes are in
    record { said = answer.0; answer = λ _. answer.1; output = front_of_none a f f answer.0.out; notes = front_of_none p u u _ }

pub refused_file_stops : (fault : PcapFault) → IsCommandStop (Err (stop_of_file fault))
refused_file_stops (pcap.Cut place) = ((omega arith, omega arith), tt)
refused_file_stops (pcap.Magic value) = ((omega arith, omega arith), tt)
refused_file_stops (pcap.Link value) = ((omega arith, omega arith), tt)
refused_file_stops pcap.Memory = tt
