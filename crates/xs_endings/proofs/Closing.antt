-- How a run ends, by what its command left and by the last note.
use Rattle.std.proofs.Common.{◌≡◌, ℕ, ◌≤◌, List, [], ◌∷◌, Result, Ok, Err, Option, sym, ap, subst, ◌∙◌, arith, append-nil, inl, inr, ◌⊎◌}
use Rattle.std.specs.Prelude.{nat_eq, if◌then◌else◌}
use Rattle.std.specs.Io.KnownBytes.{Appends}
use Rattle.std.proofs.lemmas.Bool.Decides.{nat_tests}
use Rattle.xs_notes.specs.declared.note.Note.{Note}
use Rattle.xs_notes.specs.Lines.{note_line, note_lines}
use Rattle.xs_endings.specs.declared.stop.Stop.{Stop}
use Rattle.xs_endings.specs.declared.stop.Stop.TheVariants as stop
use Rattle.xs_endings.specs.Ends.{Change, GotFront, HasFailed, IsUntouched, change_of, ends_of}
use Rattle.xs_endings.specs.Said.{Said, note_status, read_fault_line, status_of_notes}
use Rattle.xs_endings.specs.Endings.{HasFronts, IsBreak, IsEnding, IsFinished, IsInputFailure}
use Rattle.xs_endings.specs.Steps.{IsClosed, IsHalt, IsLeftToTell, IsUntoldFault, IsWriteStatus, Tells}
use Rattle.xs_endings.proofs.Changes.{front_of_all, kept_then_front, kept_then_got, rose_after}

-- one note alone: its line, and its status
line_of_one : (notes : List Note) (why : Note) → notes ≡ why ∷ [] → note_lines notes ≡ note_line why
line_of_one notes why one = ap note_lines one ∙ append-nil (note_line why)

status_of_one : (notes : List Note) (why : Note) → notes ≡ why ∷ [] → status_of_notes notes ≡ note_status why
status_of_one notes why one = ap status_of_notes one ∙ one_status (note_status why)
  where
    one_status : (status : ℕ) → (if nat_eq status 0 then 0 else status) ≡ status
    one_status status = grind (arith, nat_tests)

-- the input failed, whatever becomes of the notes
same_failure : (Stands : List ℕ → List ℕ → Type 0) (input : List ℕ) (source output notes notes' : Change) → IsInputFailure Stands input (ends_of source output notes)
    → IsInputFailure Stands input (ends_of source output notes')
same_failure Stands input source output notes notes' failed = record {
  cause = failed.cause;
  taken = failed.taken;
  front = failed.front;
  consumed = failed.consumed;
  out = failed.out;
  stands = failed.stands;
  output = failed.output;
}

-- why the last note was not given whole
broken : (source output : Change) (a b c : Option (List ℕ)) (f g h : ℕ) (status : ℕ) → f ≤ g → IsWriteStatus (change_of b c g h) status
    → IsBreak (ends_of source output (change_of a c f h)) status
broken source output a b c f g h status later (inl failed) = inl (failed.0, inr (rose_after f g h later failed.1))
broken source output a b c f g h status later (inr memory) = inr memory

module _ (Answer : Said → Type 0) (Stands : List ℕ → List ℕ → Type 0) (input : List ℕ) (source output : Change) where
  -- the last note is told
  after_note : (a b c : Option (List ℕ)) (f g h : ℕ) (why : Note) (status : ℕ) → f ≤ g → IsLeftToTell Answer (ends_of source output (change_of a b f g)) why
      → Tells (change_of b c g h) (note_line why) (note_status why) status → IsEnding Answer Stands input (ends_of source output (change_of a c f h)) status
  after_note a b c f g h why status later left (inl told) = inl (record {
    said = left.said;
    answer = left.answer;
    answered = told.1 ∙ sym (status_of_one left.said.notes why left.note);
    output = left.output;
    notes = subst (Appends a c) (sym (line_of_one left.said.notes why left.note)) (kept_then_got a b c (note_line why) left.notes told.0);
  })
  after_note a b c f g h why status later left (inr cut) = inr (inr (record {
    cause = broken source output a b c f g h status later cut.1;
    stands = inl (record {
      said = left.said;
      answer = λ _. left.answer;
      output = front_of_all output left.said.out left.output;
      notes = subst (GotFront (change_of a c f h)) (sym (line_of_one left.said.notes why left.note)) (kept_then_front a b c f g h (note_line why) left.notes cut.0);
    });
  }))

  -- the note on a read fault is
  after_fault : (a b c : Option (List ℕ)) (f g h : ℕ) (status : ℕ) → f ≤ g → IsUntoldFault Stands input (ends_of source output (change_of a b f g))
      → Tells (change_of b c g h) read_fault_line 7 status → IsEnding Answer Stands input (ends_of source output (change_of a c f h)) status
  after_fault a b c f g h status later left (inl told) = inr (inl (record {
    seven = told.1;
    failed = same_failure Stands input source output (change_of a b f g) (change_of a c f h) left.failed;
    notes = kept_then_got a b c read_fault_line left.notes told.0;
  }))
  after_fault a b c f g h status later left (inr cut) = inr (inr (record {
    cause = broken source output a b c f g h status later cut.1;
    stands = inr (record {
      failed = same_failure Stands input source output (change_of a b f g) (change_of a c f h) left.failed;
      notes = kept_then_front a b c f g h read_fault_line left.notes cut.0;
    });
  }))

  same_notes : (a b c : Option (List ℕ)) (f g h : ℕ) → IsUntouched (change_of b c g h) → change_of a b f g ≡ change_of a c f h
  same_notes a b c f g h kept = cc (kept.bytes, kept.faults)

  -- what the command left, and the last note, are an ending
  pub ending : (a b c : Option (List ℕ)) (f g h : ℕ) (done : Result ℕ Stop) (status : ℕ) → f ≤ g → IsHalt Answer Stands input (ends_of source output (change_of a b f g)) done
      → IsClosed (change_of b c g h) done status → IsEnding Answer Stands input (ends_of source output (change_of a c f h)) status
  ending a b c f g h (Ok wanted) status later halt closed =
      let all = subst (λ (notes : Change). IsFinished Answer (ends_of source output notes) wanted) (same_notes a b c f g h closed.0) halt in
      inl (record { said = all.said; answer = all.answer; answered = closed.1 ∙ all.answered; output = all.output; notes = all.notes })
  ending a b c f g h (Err (stop.Told why)) status later halt closed = after_note a b c f g h why status later halt closed
  ending a b c f g h (Err stop.ReadFault) status later halt closed = after_fault a b c f g h status later halt closed
  ending a b c f g h (Err stop.WriteFault) status later halt closed =
      let notes = same_notes a b c f g h closed.0 in
      inr (inr (record {
        cause = inl (closed.1, subst (λ (n : Change). HasFailed output ⊎ HasFailed n) notes halt.0);
        stands = inl (subst (λ (n : Change). HasFronts Answer input (ends_of source output n)) notes halt.1);
      }))
  ending a b c f g h (Err stop.Memory) status later halt closed =
      let notes = same_notes a b c f g h closed.0 in
      inr (inr (record {
        cause = inr closed.1;
        stands = inl (subst (λ (n : Change). HasFronts Answer input (ends_of source output n)) notes halt);
      }))
