-- What `encode` owes where something is written before the pictures.
use Rattle.std.proofs.Common.{ℕ, ◌≤◌, ◌++◌, List, [], Option, Result, Ok, Err, refl, arith, inl, inr, ◌⊎◌}
use Rattle.std.specs.Prelude.{unwrap_or}
use Rattle.std.specs.Io.KnownBytes.{Appends}
use Rattle.std.proofs.KnownBytes.{Appends-trans, Consumes-nil}
use Rattle.xs_params.specs.declared.settings.Settings.{Settings}
use Rattle.xs_endings.specs.declared.stop.Stop.{Stop}
use Rattle.xs_endings.specs.declared.stop.Stop.TheVariants as stop
use Rattle.xs_endings.specs.Ends.{Change, HasFailed, change_of, ends_of, untouched}
use Rattle.xs_endings.specs.Endings.{HasFronts}
use Rattle.xs_endings.specs.Said.{Said}
use Rattle.xs_endings.specs.Steps.{IsGiven, IsHalt, IsSinkStop}
use Rattle.xs_endings.specs.Turns.{HasSaidAll}
use Rattle.xs_endings.proofs.Changes.{front_of_more, front_of_none, got_then_front, rose_after}
use Rattle.xs_words.specs.declared.command.Form.{Form}
use Rattle.xs_words.specs.declared.command.Command.TheVariants.{Encode}
use Rattle.xs_cli.specs.Answer.{IsCommandStanding}
use Rattle.xs_cli.specs.Encoded.{IsEncodeTurn, IsEncoded, file_front, with_front}
use Rattle.xs_cli.specs.Steps.{ArePicturesDone, ArePicturesStanding, IsCommandStop, IsDone}
use Rattle.xs_cli.proofs.Inputs.{was_some}
use Rattle.xs_cli.proofs.Done.{encode_pictures}

module _ (s : Settings) (form : Form) (source : Change) (p q r : Option (List ℕ)) (u v w : ℕ) (held : Option (List ℕ)) (faults : ℕ) (given : Appends p q (file_front form)) (later : u ≤ v) where
  with_pictures : (input : List ℕ) (said : Said) → HasSaidAll (IsEncodeTurn s form) input said → IsEncoded s form input (with_front (file_front form) said)
  with_pictures input said all = record { pictures = said; turns = all; whole = refl }

  fronts_after : (input : List ℕ) → HasFronts (HasSaidAll (IsEncodeTurn s form) input) input (ends_of source (change_of q r v w) (untouched held faults))
      → HasFronts (IsEncoded s form input) input (ends_of source (change_of p r u w) (untouched held faults))
  fronts_after input fronts = record {
    said = with_front (file_front form) fronts.said;
    answer = λ are. with_pictures input fronts.said (fronts.answer are);
    output = got_then_front p q r u v w (file_front form) fronts.said.out given fronts.output;
    notes = fronts.notes;
  }

  halt_after : (input : List ℕ) (result : Result ℕ Stop) → IsHalt (HasSaidAll (IsEncodeTurn s form) input) (ArePicturesStanding s form) input (ends_of source (change_of q r v w) (untouched held faults)) result
      → IsHalt (IsEncoded s form input) (IsCommandStanding (Encode s form)) input (ends_of source (change_of p r u w) (untouched held faults)) result
  halt_after input (Ok status) all = record {
    said = with_front (file_front form) all.said;
    answer = with_pictures input all.said all.answer;
    answered = all.answered;
    output = Appends-trans p q r (file_front form) all.said.out given all.output;
    notes = all.notes;
  }
  halt_after input (Err (stop.Told why)) left = record {
    said = with_front (file_front form) left.said;
    answer = with_pictures input left.said left.answer;
    note = left.note;
    output = Appends-trans p q r (file_front form) left.said.out given left.output;
    notes = left.notes;
  }
  halt_after input (Err stop.ReadFault) fault = record {
    failed = record {
      cause = fault.failed.cause;
      taken = fault.failed.taken;
      front = fault.failed.front;
      consumed = fault.failed.consumed;
      out = file_front form ++ fault.failed.out;
      stands = record { most = fault.failed.stands.most; stands = (fault.failed.out, fault.failed.stands.stands, refl) };
      output = Appends-trans p q r (file_front form) fault.failed.out given fault.failed.output;
    };
    notes = fault.notes;
  }
  halt_after input (Err stop.WriteFault) cut = (sink cut.0, fronts_after input cut.1)
    where
      sink : HasFailed (change_of q r v w) ⊎ HasFailed (untouched held faults) → HasFailed (change_of p r u w) ⊎ HasFailed (untouched held faults)
      sink (inl rose) = inl (rose_after u v w later rose)
      sink (inr rose) = inr rose
  halt_after input (Err stop.Memory) fronts = fronts_after input fronts

  -- the pictures come after it
  pub pictures_after : (result : Result ℕ Stop) → ArePicturesDone s form (ends_of source (change_of q r v w) (untouched held faults)) result
      → IsDone (Encode s form) (ends_of source (change_of p r u w) (untouched held faults)) result
  pictures_after result done = record {
    input = done.input;
    left = done.left;
    halt = halt_after done.input result done.halt;
    stop = done.stop;
    whole = done.whole;
    most = done.most;
    untaken = λ never. absurd never;
    later = done.later;
  }

-- it was not written whole
module _ (s : Settings) (form : Form) (a p q : Option (List ℕ)) (f u v : ℕ) (held : Option (List ℕ)) (faults : ℕ) where
  fronts_begun : (input : List ℕ) (why : Stop) → IsGiven {T = Unit {0}} (change_of p q u v) (file_front form) (Err why)
      → HasFronts (IsEncoded s form input) input (ends_of (untouched a f) (change_of p q u v) (untouched held faults))
  fronts_begun input why given =
      let found = encode_pictures s form input in
      record {
        said = with_front (file_front form) found.0;
        answer = λ _. record { pictures = found.0; turns = found.1; whole = refl };
        output = front_of_more (change_of p q u v) (file_front form) found.0.out given.front;
        notes = front_of_none held faults faults _;
      }

  halt_begun : (input : List ℕ) (why : Stop) → IsGiven {T = Unit {0}} (change_of p q u v) (file_front form) (Err why)
      → IsHalt (IsEncoded s form input) (IsCommandStanding (Encode s form)) input (ends_of (untouched a f) (change_of p q u v) (untouched held faults)) (Err why)
  halt_begun input stop.WriteFault given = (inl (given.failed refl), fronts_begun input stop.WriteFault given)
  halt_begun input stop.Memory given = fronts_begun input stop.Memory given
  halt_begun input stop.ReadFault given = absurd given.why
  halt_begun input (stop.Told why) given = absurd given.why

  stop_begun : (why : Stop) → IsSinkStop why → IsCommandStop (Err why)
  stop_begun stop.WriteFault sink = tt
  stop_begun stop.Memory sink = tt
  stop_begun stop.ReadFault sink = tt
  stop_begun (stop.Told why) sink = absurd sink

  pub not_begun : (why : Stop) → IsGiven {T = Unit {0}} (change_of p q u v) (file_front form) (Err why)
      → IsDone (Encode s form) (ends_of (untouched a f) (change_of p q u v) (untouched held faults)) (Err why)
  not_begun why given = record {
    input = unwrap_or a [];
    left = was_some a;
    halt = halt_begun (unwrap_or a []) why given;
    stop = stop_begun why given.why;
    whole = λ e. absurd (cc);
    most = ([], omega arith, Consumes-nil a);
    untaken = λ never. absurd never;
    later = omega arith;
  }
