-- Changes one after the other.
use Rattle.std.proofs.Common.{◌≡◌, ℕ, ◌<◌, ◌≤◌, ◌++◌, List, [], length, take, drop, Err, Option, Some, None, refl, sym, ap, ◌∙◌, arith, append-nil, append_assoc, take-append-drop}
use Rattle.std.specs.Io.KnownBytes.{Appends, Keeps}
use Rattle.std.proofs.KnownBytes.{Appends-nil, Appends-trans}
use Rattle.xs_io.specs.declared.traits.SinkFault.{SinkFault}
use Rattle.xs_io.specs.declared.traits.SinkFault.TheVariants as sink_fault
use Rattle.xs_io.specs.Causes.{Rose}
use Rattle.xs_endings.specs.Ends.{Change, Got, GotFront, change_of}
use Rattle.xs_endings.specs.Steps.{IsGiven, stop_of_sink}

-- Counts

pub rose_before : (a b c : ℕ) → Rose a b → b ≤ c → Rose a c
rose_before a b c rose later = omega arith

pub rose_after : (a b c : ℕ) → a ≤ b → Rose b c → Rose a c
rose_after a b c later rose = omega arith

-- Fronts

pub front_of_all : (sink : Change) (bytes : List ℕ) → Got sink bytes → GotFront sink bytes
front_of_all sink bytes got = (bytes, ([], sym (append-nil bytes)), got)

pub front_of_more : (sink : Change) (bytes more : List ℕ) → GotFront sink bytes → GotFront sink (bytes ++ more)
front_of_more sink bytes more front =
    (front.0, (front.1.0 ++ more, ap (λ l. l ++ more) front.1.1 ∙ append_assoc front.0 front.1.0 more), front.2)

pub front_of_none : (held : Option (List ℕ)) (faults faults' : ℕ) (bytes : List ℕ) → GotFront (change_of held held faults faults') bytes
front_of_none held faults faults' bytes = ([], (bytes, refl), Appends-nil held)

pub keeps_appends : (a b : Option (List ℕ)) → Keeps a b → Appends a b []
keeps_appends None b kept = tt
keeps_appends (Some x) None kept = absurd kept
keeps_appends (Some x) (Some y) kept = kept ∙ sym (append-nil x)

pub kept_front : (a b : Option (List ℕ)) (faults faults' : ℕ) (bytes : List ℕ) → Keeps a b → GotFront (change_of a b faults faults') bytes
kept_front a b faults faults' bytes kept = ([], (bytes, refl), keeps_appends a b kept)

-- One after the other

pub kept_then_got : (a b c : Option (List ℕ)) (bytes : List ℕ) → Keeps a b → Appends b c bytes → Appends a c bytes
kept_then_got a b c bytes kept got = Appends-trans a b c [] bytes (keeps_appends a b kept) got

pub got_then_front : (a b c : Option (List ℕ)) (f g h : ℕ) (bytes more : List ℕ) → Appends a b bytes → GotFront (change_of b c g h) more → GotFront (change_of a c f h) (bytes ++ more)
got_then_front a b c f g h bytes more got front = (
  bytes ++ front.0,
  (front.1.0, ap (λ l. bytes ++ l) front.1.1 ∙ sym (append_assoc bytes front.0 front.1.0)),
  Appends-trans a b c bytes front.0 got front.2,
)

pub kept_then_front : (a b c : Option (List ℕ)) (f g h : ℕ) (bytes : List ℕ) → Keeps a b → GotFront (change_of b c g h) bytes → GotFront (change_of a c f h) bytes
kept_then_front a b c f g h bytes kept front = got_then_front a b c f g h [] bytes (keeps_appends a b kept) front

-- Giving

-- a piece was not given whole
pub cut_piece : (before after : Option (List ℕ)) (f g : ℕ) (piece : List ℕ) (fault : SinkFault)
    → (count : ℕ) × (count < length piece) × Appends before after (take count piece) → (fault ≡ sink_fault.Failed → Rose f g) → f ≤ g
    → IsGiven {T = Unit {0}} (change_of before after f g) piece (Err (stop_of_sink fault))
cut_piece before after f g piece sink_fault.Failed cut cause later = record {
  whole = tt;
  front = (take cut.0 piece, (drop cut.0 piece, sym (take-append-drop cut.0 piece)), cut.2);
  why = tt;
  failed = λ _. cause refl;
  later = later;
}
cut_piece before after f g piece sink_fault.Memory cut cause later = record {
  whole = tt;
  front = (take cut.0 piece, (drop cut.0 piece, sym (take-append-drop cut.0 piece)), cut.2);
  why = tt;
  failed = λ e. absurd (cc);
  later = later;
}
