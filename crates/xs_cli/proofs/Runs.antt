-- How a run ends, from what its command left and from the last note.
use Rattle.std.proofs.Common.{◌≡◌, ℕ, ◌≤◌, List, [], Option, Some, None, Result, Ok, Err, refl, sym, ap, subst, ◌∙◌, arith, inl, inr, ◌⊎◌}
use Rattle.std.specs.Prelude.{IfErr, ⊤, unwrap_or}
use Rattle.std.proofs.KnownBytes.{Consumes-nil}
use Rattle.xs_notes.specs.Lines.{NamesFault, note_line}
use Rattle.xs_endings.specs.declared.stop.Stop.{Stop}
use Rattle.xs_endings.specs.declared.stop.Stop.TheVariants as stop
use Rattle.xs_endings.specs.Ends.{Change, Ends, HasFailed, IsLeft, change_of, ends_of, untouched}
use Rattle.xs_endings.specs.Endings.{HasSinkFailed, IsEnding}
use Rattle.xs_endings.specs.Said.{note_status}
use Rattle.xs_endings.specs.Steps.{IsClosed, IsHalt, NamesStop, Tells}
use Rattle.xs_endings.proofs.Changes.{rose_after}
use Rattle.xs_endings.proofs.Closing.{ending}
use Rattle.xs_words.specs.declared.command.Refusal.{Refusal}
use Rattle.xs_words.specs.declared.command.Refusal.TheVariants as refusal
use Rattle.xs_words.specs.Refusal.{refusal_of}
use Rattle.xs_words.specs.Command.{command_of}
use Rattle.xs_cli.specs.Answer.{IsAnswer, IsAnswerUnless, IsStanding, refusal_note}
use Rattle.xs_cli.specs.Good.{IsGood}
use Rattle.xs_cli.proofs.Good.{good_status}
use Rattle.xs_cli.specs.Run.{AreBadWords, AskBadSetting, HasAnswer, HasStatusOfAnswer, IsComplete, IsRun, IsUnlessBroken}
use Rattle.xs_cli.specs.Steps.{IsCommandStatus, IsExecuted, IsOwnStop}
use Rattle.xs_cli.proofs.Inputs.{was_some}
use Rattle.xs_cli.proofs.Done.{has_answer, nothing_said}

-- Statuses

-- what a command leaves has a status from 0 to 6, and in a note one that is not 0
abbrev pub IsLow : Result ℕ Stop → Type 0
IsLow (Ok status) = (status ≡ 0) ⊎ IsCommandStatus status
IsLow (Err (stop.Told why)) = (1 ≤ note_status why) × (note_status why ≤ 6) × NamesFault why
IsLow (Err why) = ⊤

low_refusal : (why : Refusal) → IsLow (Err (stop.Told (refusal_note why)))
low_refusal (refusal.Words place) = (omega arith, omega arith, tt)
low_refusal (refusal.Setting setting) = (omega arith, omega arith, tt)

pub low : (o : Option Refusal) (result : Result ℕ Stop) → IsOwnStop o result → IsLow result
low None (Ok status) own = own
low None (Err (stop.Told why)) own = (omega (arith, own.0.0), own.0.1, own.1)
low None (Err stop.ReadFault) own = tt
low None (Err stop.WriteFault) own = tt
low None (Err stop.Memory) own = tt
low (Some why) result own = subst IsLow (sym own) (low_refusal why)

pub names_stop : (result : Result ℕ Stop) → IsLow result → IfErr result NamesStop
names_stop (Ok status) is = tt
names_stop (Err (stop.Told why)) is = is.2
names_stop (Err stop.ReadFault) is = tt
names_stop (Err stop.WriteFault) is = tt
names_stop (Err stop.Memory) is = tt

-- a line was told with a status, or not whole
data Ended (notes : Change) (wanted status : ℕ) : Type 0 where
  Whole : status ≡ wanted → Ended notes wanted status
  Failed : status ≡ 8 → HasFailed notes → Ended notes wanted status
  Wanting : status ≡ 9 → Ended notes wanted status

ended : (notes : Change) (line : List ℕ) (wanted status : ℕ) → Tells notes line wanted status → Ended notes wanted status
ended notes line wanted status (inl whole) = Whole whole.1
ended notes line wanted status (inr (part, inl failed)) = Failed failed.0 failed.1
ended notes line wanted status (inr (part, inr memory)) = Wanting memory

unless_broken : (notes : Change) (wanted status : ℕ) → Ended notes wanted status → IsUnlessBroken wanted status
unless_broken notes wanted status (Whole e) = inl e
unless_broken notes wanted status (Failed e failed) = inr (inl e)
unless_broken notes wanted status (Wanting e) = inr (inr e)

module _ (words : List (List ℕ)) (source output : Change) (a b c : Option (List ℕ)) (f g h : ℕ) (status : ℕ) where
  read_cause : (result : Result ℕ Stop) (input : List ℕ) → IsLow result → IsHalt (IsAnswer words input) (IsStanding words) input (ends_of source output (change_of a b f g)) result → IsClosed (change_of b c g h) result status
      → status ≡ 7 → HasFailed source
  read_cause (Ok done) input (inl is) halt closed e = absurd (omega (arith, is, closed.1, e))
  read_cause (Ok done) input (inr is) halt closed e = absurd (omega (arith, is.1, closed.1, e))
  read_cause (Err (stop.Told why)) input is halt closed e = elim (ended _ _ _ _ closed) [
    | Whole same ↦ absurd (omega (arith, is.1, same, e))
    | Failed same failed ↦ absurd (omega (arith, same, e))
    | Wanting same ↦ absurd (omega (arith, same, e))
  ]
  read_cause (Err stop.ReadFault) input is halt closed e = halt.failed.cause
  read_cause (Err stop.WriteFault) input is halt closed e = absurd (omega (arith, closed.1, e))
  read_cause (Err stop.Memory) input is halt closed e = absurd (omega (arith, closed.1, e))

  write_cause : (result : Result ℕ Stop) (input : List ℕ) → IsLow result → f ≤ g → IsHalt (IsAnswer words input) (IsStanding words) input (ends_of source output (change_of a b f g)) result → IsClosed (change_of b c g h) result status
      → status ≡ 8 → HasFailed output ⊎ HasFailed (change_of a c f h)
  write_cause (Ok done) input (inl is) later halt closed e = absurd (omega (arith, is, closed.1, e))
  write_cause (Ok done) input (inr is) later halt closed e = absurd (omega (arith, is.1, closed.1, e))
  write_cause (Err (stop.Told why)) input is later halt closed e = elim (ended _ _ _ _ closed) [
    | Whole same ↦ absurd (omega (arith, is.1, same, e))
    | Failed same failed ↦ inr (rose_after f g h later failed)
    | Wanting same ↦ absurd (omega (arith, same, e))
  ]
  write_cause (Err stop.ReadFault) input is later halt closed e = elim (ended _ _ _ _ closed) [
    | Whole same ↦ absurd (omega (arith, same, e))
    | Failed same failed ↦ inr (rose_after f g h later failed)
    | Wanting same ↦ absurd (omega (arith, same, e))
  ]
  write_cause (Err stop.WriteFault) input is later halt closed e = elim halt.0 [
    | inl out ↦ inl out
    | inr notes ↦ inr (subst (λ (n : ℕ). HasFailed (change_of a c f n)) (sym closed.0.faults) notes)
  ]
  write_cause (Err stop.Memory) input is later halt closed e = absurd (omega (arith, closed.1, e))

  in_range : (result : Result ℕ Stop) → IsLow result → IsClosed (change_of b c g h) result status → status ≤ 9
  in_range (Ok done) (inl is) closed = omega (arith, is, closed.1)
  in_range (Ok done) (inr is) closed = omega (arith, is.1, closed.1)
  in_range (Err (stop.Told why)) is closed = elim (ended _ _ _ _ closed) [
    | Whole same ↦ omega (arith, is.1, same)
    | Failed same failed ↦ omega (arith, same)
    | Wanting same ↦ omega (arith, same)
  ]
  in_range (Err stop.ReadFault) is closed = elim (ended _ _ _ _ closed) [
    | Whole same ↦ omega (arith, same)
    | Failed same failed ↦ omega (arith, same)
    | Wanting same ↦ omega (arith, same)
  ]
  in_range (Err stop.WriteFault) is closed = omega (arith, closed.1)
  in_range (Err stop.Memory) is closed = omega (arith, closed.1)

  -- a status of 0 is that of a command that is done
  done_at_0 : (result : Result ℕ Stop) → IsLow result → IsClosed (change_of b c g h) result status → status ≡ 0 → result ≡ Ok 0
  done_at_0 (Ok done) is closed e = ap Ok (sym closed.1 ∙ e)
  done_at_0 (Err (stop.Told why)) is closed e = elim (ended _ _ _ _ closed) [
    | Whole same ↦ absurd (omega (arith, is.0, same, e))
    | Failed same failed ↦ absurd (omega (arith, same, e))
    | Wanting same ↦ absurd (omega (arith, same, e))
  ]
  done_at_0 (Err stop.ReadFault) is closed e = elim (ended _ _ _ _ closed) [
    | Whole same ↦ absurd (omega (arith, same, e))
    | Failed same failed ↦ absurd (omega (arith, same, e))
    | Wanting same ↦ absurd (omega (arith, same, e))
  ]
  done_at_0 (Err stop.WriteFault) is closed e = absurd (omega (arith, closed.1, e))
  done_at_0 (Err stop.Memory) is closed e = absurd (omega (arith, closed.1, e))

  -- a status of 1 or 2 is that of words that are refused
  not_own : (result : Result ℕ Stop) → IsOwnStop None result → IsClosed (change_of b c g h) result status → (status ≡ 1) ⊎ (status ≡ 2) → ⊥
  not_own (Ok done) (inl is) closed (inl e) = absurd (omega (arith, is, closed.1, e))
  not_own (Ok done) (inl is) closed (inr e) = absurd (omega (arith, is, closed.1, e))
  not_own (Ok done) (inr is) closed (inl e) = absurd (omega (arith, is.0, closed.1, e))
  not_own (Ok done) (inr is) closed (inr e) = absurd (omega (arith, is.0, closed.1, e))
  not_own (Err (stop.Told why)) own closed e = not_wanted (note_status why) own.0.0 (ended _ _ _ _ closed) e
    where
      not_wanted : (wanted : ℕ) → 3 ≤ wanted → Ended (change_of b c g h) wanted status → (status ≡ 1) ⊎ (status ≡ 2) → ⊥
      not_wanted wanted least (Whole same) (inl e) = absurd (omega (arith, least, same, e))
      not_wanted wanted least (Whole same) (inr e) = absurd (omega (arith, least, same, e))
      not_wanted wanted least (Failed same failed) (inl e) = absurd (omega (arith, same, e))
      not_wanted wanted least (Failed same failed) (inr e) = absurd (omega (arith, same, e))
      not_wanted wanted least (Wanting same) (inl e) = absurd (omega (arith, same, e))
      not_wanted wanted least (Wanting same) (inr e) = absurd (omega (arith, same, e))
  not_own (Err stop.ReadFault) own closed e = not_seven (ended _ _ _ _ closed) e
    where
      not_seven : Ended (change_of b c g h) 7 status → (status ≡ 1) ⊎ (status ≡ 2) → ⊥
      not_seven (Whole same) (inl e) = absurd (omega (arith, same, e))
      not_seven (Whole same) (inr e) = absurd (omega (arith, same, e))
      not_seven (Failed same failed) (inl e) = absurd (omega (arith, same, e))
      not_seven (Failed same failed) (inr e) = absurd (omega (arith, same, e))
      not_seven (Wanting same) (inl e) = absurd (omega (arith, same, e))
      not_seven (Wanting same) (inr e) = absurd (omega (arith, same, e))
  not_own (Err stop.WriteFault) own closed (inl e) = absurd (omega (arith, closed.1, e))
  not_own (Err stop.WriteFault) own closed (inr e) = absurd (omega (arith, closed.1, e))
  not_own (Err stop.Memory) own closed (inl e) = absurd (omega (arith, closed.1, e))
  not_own (Err stop.Memory) own closed (inr e) = absurd (omega (arith, closed.1, e))

  refusal_closed : (why : Refusal) (result : Result ℕ Stop) → IsOwnStop (Some why) result → IsClosed (change_of b c g h) result status → Ended (change_of b c g h) (note_status (refusal_note why)) status
  refusal_closed why result own closed = ended (change_of b c g h) (note_line (refusal_note why)) (note_status (refusal_note why)) status (subst (λ (r : Result ℕ Stop). IsClosed (change_of b c g h) r status) own closed)

  words_only : (o : Option Refusal) (result : Result ℕ Stop) → refusal_of words ≡ o → IsOwnStop o result → IsClosed (change_of b c g h) result status → status ≡ 1 → AreBadWords words
  words_only None result e own closed one = absurd (not_own result own closed (inl one))
  words_only (Some (refusal.Words place)) result e own closed one = (place, e)
  words_only (Some (refusal.Setting setting)) result e own closed one = elim (refusal_closed (refusal.Setting setting) result own closed) [
    | Whole same ↦ absurd (omega (arith, same, one))
    | Failed same failed ↦ absurd (omega (arith, same, one))
    | Wanting same ↦ absurd (omega (arith, same, one))
  ]

  setting_only : (o : Option Refusal) (result : Result ℕ Stop) → refusal_of words ≡ o → IsOwnStop o result → IsClosed (change_of b c g h) result status → status ≡ 2 → AskBadSetting words
  setting_only None result e own closed two = absurd (not_own result own closed (inr two))
  setting_only (Some (refusal.Setting setting)) result e own closed two = (setting, e)
  setting_only (Some (refusal.Words place)) result e own closed two = elim (refusal_closed (refusal.Words place) result own closed) [
    | Whole same ↦ absurd (omega (arith, same, two))
    | Failed same failed ↦ absurd (omega (arith, same, two))
    | Wanting same ↦ absurd (omega (arith, same, two))
  ]

-- Complete

settled : (words : List (List ℕ)) (input : List ℕ) (ends : Ends) (status : ℕ) → ¬ HasFailed ends.input → ¬ HasSinkFailed ends
    → IsEnding (IsAnswer words input) (IsStanding words) input ends status → HasStatusOfAnswer words input status ⊎ (status ≡ 9)
settled words input _ status read sinks (inl finished) = inl (finished.said, finished.answer, finished.answered)
settled words input _ status read sinks (inr (inl fault)) = absurd (read fault.failed.cause)
settled words input _ status read sinks (inr (inr cut)) = elim cut.cause [
  | inl failed ↦ absurd (sinks failed.1)
  | inr memory ↦ inr memory
]

told_input : (before : Option (List ℕ)) (input left : List ℕ) → before ≡ Some input → IsLeft before left → left ≡ input
told_input None input left e was = absurd (cc)
told_input (Some bytes) input left e was = sym was ∙ cc

good_ending : (words : List (List ℕ)) (input : List ℕ) (status : ℕ) → HasStatusOfAnswer words input status ⊎ (status ≡ 9) → refusal_of words ≡ None → IsGood (command_of words) input → (status ≡ 0) ⊎ (status ≡ 9)
good_ending words input status (inl found) none good =
    let answer = subst (λ (o : Option Refusal). IsAnswerUnless o (command_of words) input found.0) none found.1 in
    inl (found.2 ∙ good_status (command_of words) input found.0 good answer)
good_ending words input status (inr memory) none good = inr memory

complete : (words : List (List ℕ)) (ends : Ends) (status : ℕ) → HasAnswer words ends status → IsComplete words ends status
complete words _ status whole input told read sinks =
    let same : whole.input ≡ input = told_input _ input whole.input told whole.left in
    let answered = subst (λ (i : List ℕ). HasStatusOfAnswer words i status ⊎ (status ≡ 9)) same (settled words whole.input _ status read sinks whole.ending) in
    record { answered = answered; good = good_ending words input status answered }

pub ran : (words : List (List ℕ)) (source output : Change) (a b c : Option (List ℕ)) (f g h : ℕ) (result : Result ℕ Stop) (status : ℕ) → IsExecuted words (ends_of source output (change_of a b f g)) result
    → IsClosed (change_of b c g h) result status → IsRun words (ends_of source output (change_of a c f h)) status
ran words source output a b c f g h result status done closed =
    let is = low (refusal_of words) result done.stop in
    let headline : HasAnswer words (ends_of source output (change_of a c f h)) status = record {
      input = done.input;
      left = done.left;
      ending = ending (IsAnswer words done.input) (IsStanding words) done.input source output a b c f g h result status done.later done.halt closed;
    } in
    record {
      headline = headline;
      cause = record {
        read = read_cause words source output a b c f g h status result done.input is done.halt closed;
        write = write_cause words source output a b c f g h status result done.input is done.later done.halt closed;
        range = in_range words source output a b c f g h status result is closed;
      };
      refusals = record {
        words_only = words_only words source output a b c f g h status (refusal_of words) result refl done.stop closed;
        bad_words = λ bad. unless_broken (change_of b c g h) 1 status (refusal_closed words source output a b c f g h status (refusal.Words bad.0) result (subst (λ (o : Option Refusal). IsOwnStop o result) bad.1 done.stop) closed);
        setting_only = setting_only words source output a b c f g h status (refusal_of words) result refl done.stop closed;
        bad_setting = λ bad. unless_broken (change_of b c g h) 2 status (refusal_closed words source output a b c f g h status (refusal.Setting bad.0) result (subst (λ (o : Option Refusal). IsOwnStop o result) bad.1 done.stop) closed);
      };
      source = record {
        whole = λ e. done.whole (done_at_0 words source output a b c f g h status result is closed e);
        most = done.most;
        kept = done.kept;
      };
      complete = complete words (ends_of source output (change_of a c f h)) status headline;
    }

-- memory was wanting before the words were known
pub starved : (words : List (List ℕ)) (a p n : Option (List ℕ)) (f u v : ℕ) → IsRun words (ends_of (untouched a f) (untouched p u) (untouched n v)) 9
starved words a p n f u v =
    let headline : HasAnswer words (ends_of (untouched a f) (untouched p u) (untouched n v)) 9 = record {
      input = unwrap_or a [];
      left = was_some a;
      ending = inr (inr (record { cause = inr refl; stands = inl (nothing_said (IsAnswer words (unwrap_or a [])) (unwrap_or a []) (has_answer words (unwrap_or a [])) (untouched a f) p u n v) }));
    } in
    record {
      headline = headline;
      cause = record { read = λ e. absurd (omega (arith, e)); write = λ e. absurd (omega (arith, e)); range = omega arith };
      refusals = record { words_only = λ e. absurd (omega (arith, e)); bad_words = λ _. inr (inr refl); setting_only = λ e. absurd (omega (arith, e)); bad_setting = λ _. inr (inr refl) };
      source = record { whole = λ e. absurd (omega (arith, e)); most = ([], omega arith, Consumes-nil a); kept = λ _. record { bytes = refl; faults = refl } };
      complete = complete words (ends_of (untouched a f) (untouched p u) (untouched n v)) 9 headline;
    }
