-- What a trial leaves.
use Rattle.std.proofs.Common.{◌≡◌, ℕ, List, [], ◌∷◌, Option, Result, Ok, Err, refl, sym, ap, subst, ◌∙◌, arith, inl}
use Rattle.std.specs.Prelude.{unwrap_or}
use Rattle.std.proofs.KnownBytes.{Appends-nil, Consumes-nil, Keeps-refl}
use Rattle.xs_params.specs.declared.settings.Settings.{Settings}
use Rattle.xs_params.specs.Check.{AreInRange}
use Rattle.xs_endings.specs.declared.stop.Stop.{Stop}
use Rattle.xs_endings.specs.declared.stop.Stop.TheVariants as stop
use Rattle.xs_params.specs.Picture.{Picture}
use Rattle.xs_params.specs.Stream.{Stream}
use Rattle.xs_faults.specs.declared.Budget.{Budget}
use Rattle.xs_rate.specs.Encoding.{encoding_of}
use Rattle.xs_trial.specs.Generator.{trial_picture}
use Rattle.xs_notes.specs.declared.note.Note.{Note}
use Rattle.xs_notes.specs.Lines.{note_lines}
use Rattle.xs_endings.specs.Ends.{Change, Got, ends_of, untouched}
use Rattle.xs_endings.specs.Said.{Said, only_note, status_of_notes}
use Rattle.xs_endings.specs.Steps.{IsHalt}
use Rattle.xs_endings.proofs.Changes.{front_of_none, keeps_appends}
use Rattle.xs_words.specs.declared.command.Command.TheVariants.{Trial}
use Rattle.xs_cli.specs.Answer.{IsCommandAnswer, IsCommandStanding}
use Rattle.xs_cli.specs.Encoded.{over_share}
use Rattle.xs_cli.specs.Steps.{IsCommandStop, IsDone, IsOwnNote}
use Rattle.xs_cli.specs.Tried.{IsTriedBy}
use Rattle.xs_cli.specs.Trying.{HasTried, IsLinesOf, IsTrialStop}
use Rattle.xs_cli.proofs.Inputs.{was_some}
use Rattle.xs_cli.proofs.TrialAnswers.{trials_answered}

pub untold : (s : Settings) (seed : ℕ) (held : Option (List ℕ)) (faults : ℕ) (why : Stop) → AreInRange s → IsLinesOf s seed (Err why) → HasTried s seed (untouched held faults) (Err why)
untold s seed held faults (stop.Told note) range is = record { stop = (is, Keeps-refl held); later = omega arith }
untold s seed held faults stop.Memory range is =
    let any = trials_answered s seed range in record { stop = record { said = any.0; answer = any.1; given = front_of_none held faults faults any.0.out }; later = omega arith }
untold s seed held faults stop.ReadFault range is = absurd is
untold s seed held faults stop.WriteFault range is = absurd is

-- a note of a trial is that on a slice over its share
own_note : (s : Settings) (picture : Picture) (r : Result Stream Budget) (why : Note) → IsTriedBy s picture r (only_note why) → IsOwnNote (stop.Told why)
own_note s picture (Ok stream) why is = absurd (some_none (ap (λ (said : Said). said.notes) is.2))
  where
    some_none : why ∷ [] ≡ [] → ⊥
    some_none e = cc
own_note s picture (Err budget) why is = subst (λ n. IsOwnNote (stop.Told n)) (first (ap (λ (said : Said). said.notes) (sym is))) ((omega arith, omega arith), tt)
  where
    first : over_share 0 budget ∷ [] ≡ why ∷ [] → over_share 0 budget ≡ why
    first e = cc

own_stop : (s : Settings) (seed : ℕ) (output : Change) (result : Result ℕ Stop) → IsTrialStop s seed output result → IsCommandStop result
own_stop s seed output (Ok status) is = inl is.0
own_stop s seed output (Err (stop.Told why)) is = own_note s (trial_picture s.shape seed) (encoding_of s (trial_picture s.shape seed)) why is.0
own_stop s seed output (Err stop.ReadFault) is = absurd is
own_stop s seed output (Err stop.WriteFault) is = tt
own_stop s seed output (Err stop.Memory) is = tt

module _ (s : Settings) (seed : ℕ) (a : Option (List ℕ)) (f : ℕ) (output : Change) (held : Option (List ℕ)) (faults : ℕ) where
  halted : (input : List ℕ) (result : Result ℕ Stop) → IsTrialStop s seed output result
      → IsHalt (IsCommandAnswer (Trial s seed) input) (IsCommandStanding (Trial s seed)) input (ends_of (untouched a f) output (untouched held faults)) result
  halted input (Ok status) is = record {
    said = is.1.said;
    answer = is.1.answer;
    answered = is.0 ∙ sym (ap status_of_notes is.1.quiet);
    output = is.1.given;
    notes = subst (λ notes. Got (untouched held faults) (note_lines notes)) (sym is.1.quiet) (Appends-nil held);
  }
  halted input (Err (stop.Told why)) is = record {
    said = only_note why;
    answer = is.0;
    note = refl;
    output = keeps_appends output.before output.after is.1;
    notes = Keeps-refl held;
  }
  halted input (Err stop.ReadFault) is = absurd is
  halted input (Err stop.WriteFault) is =
      (inl is.0, record { said = is.1.said; answer = λ _. is.1.answer; output = is.1.given; notes = front_of_none held faults faults (note_lines is.1.said.notes) })
  halted input (Err stop.Memory) is = record { said = is.said; answer = λ _. is.answer; output = is.given; notes = front_of_none held faults faults (note_lines is.said.notes) }

  pub trial_done : (result : Result ℕ Stop) → HasTried s seed output result → IsDone (Trial s seed) (ends_of (untouched a f) output (untouched held faults)) result
  trial_done result tried = record {
    input = unwrap_or a [];
    left = was_some a;
    halt = halted (unwrap_or a []) result tried.stop;
    stop = own_stop s seed output result tried.stop;
    whole = λ _. tt;
    most = ([], omega arith, Consumes-nil a);
    untaken = λ _. record { bytes = refl; faults = refl };
    later = omega arith;
  }
