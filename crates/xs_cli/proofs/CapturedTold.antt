-- Pieces that are given one after the other as one.
use Rattle.std.proofs.Common.{◌≡◌, ℕ, ◌+◌, ◌≤◌, ◌<◌, ◌++◌, List, [], length, map, drop, get_or, Result, Ok, Err, Option, refl, sym, ap, subst, ◌∙◌, arith, append-nil, append_assoc}
use Rattle.std.proofs.KnownBytes.{Appends-nil, Appends-trans}
use Rattle.std.proofs.lemmas.List.{at_drop_more, at_drop_all}
use Rattle.xs_notes.specs.declared.note.Note.{Note}
use Rattle.xs_notes.specs.Lines.{note_line, note_lines}
use Rattle.xs_endings.specs.declared.stop.Stop.{Stop}
use Rattle.xs_endings.specs.declared.stop.Stop.TheVariants as stop
use Rattle.xs_endings.specs.Ends.{Change, Got, GotFront, IsLater, change_of, untouched}
use Rattle.xs_endings.specs.Steps.{IsGiven}
use Rattle.xs_endings.proofs.Changes.{front_of_more, got_then_front, rose_after}

pub same_stop : {T : Type 0} (why other : Stop) → ◌≡◌ {A = Result T Stop} (Err why) (Err other) → why ≡ other
same_stop why other e = cc e

-- the first of all was given, and this is left
pub record HasGiven (sink : Change) (all left : List ℕ) : Type 0 where
  pub first : List ℕ
  pub given : Got sink first
  pub whole : all ≡ first ++ left
  pub later : IsLater sink

pub given_none : (held : Option (List ℕ)) (faults : ℕ) (all : List ℕ) → HasGiven (untouched held faults) all all
given_none held faults all = record { first = []; given = Appends-nil held; whole = refl; later = omega arith }

module _ (a b c : Option (List ℕ)) (f g h : ℕ) (all piece left : List ℕ) (before : HasGiven (change_of a b f g) all (piece ++ left)) where
  pub given_more : {T : Type 0} (done : T) → IsGiven (change_of b c g h) piece (Ok done) → HasGiven (change_of a c f h) all left
  given_more done given = record {
    first = before.first ++ piece;
    given = Appends-trans a b c before.first piece before.given given.whole;
    whole = before.whole ∙ sym (append_assoc before.first piece left);
    later = omega (arith, before.later, given.later);
  }

  pub given_cut : {T U : Type 0} (why : Stop) → IsGiven {T = T} (change_of b c g h) piece (Err why) → IsGiven {T = U} (change_of a c f h) all (Err why)
  given_cut why given = record {
    whole = tt;
    front = subst (GotFront (change_of a c f h)) (sym before.whole) (got_then_front a b c f g h before.first (piece ++ left) before.given (front_of_more (change_of b c g h) piece left given.front));
    why = given.why;
    failed = λ e. rose_after f g h before.later (given.failed (ap Err (same_stop why stop.WriteFault e)));
    later = omega (arith, before.later, given.later);
  }

pub given_all : {T : Type 0} (sink : Change) (all : List ℕ) (done : T) → HasGiven sink all [] → IsGiven sink all (Ok done)
given_all sink all done before = record {
  whole = subst (Got sink) (sym (before.whole ∙ append-nil before.first)) before.given;
  front = tt;
  why = tt;
  failed = λ e. absurd (cc e);
  later = before.later;
}

-- the lines of notes on items
abbrev pub lines_on : (ℕ → Note) → List ℕ → List ℕ
lines_on note items = note_lines (map note items)

pub line_next : (note : ℕ → Note) (items : List ℕ) (at : ℕ) → at < length items → lines_on note (drop at items) ≡ note_line (note (get_or items at 0)) ++ lines_on note (drop (at + 1) items)
line_next note items at below = at_drop_more (lines_on note) items at 0 below

pub line_none : (note : ℕ → Note) (items : List ℕ) (at : ℕ) → length items ≤ at → lines_on note (drop at items) ≡ []
line_none note items at end = at_drop_all (lines_on note) items at end
