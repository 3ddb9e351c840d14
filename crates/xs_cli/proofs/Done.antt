-- What a command leaves, as a run sees it.
use Rattle.std.proofs.Common.{◌≡◌, ℕ, ◌+◌, ◌<◌, ◌≤◌, ◌++◌, List, [], ◌∷◌, length, Option, Some, None, Result, Ok, Err, refl, sym, subst, arith, inl, inr, ◌⊎◌}
use Rattle.std.specs.Prelude.{Bool, true, false, nat_lt, unwrap_or, MatchBool, IsSome, ⊤, codes, bytes_eq, if◌then◌else◌}
use Rattle.std.specs.Option.{option_map}
use Rattle.xs_lists.specs.First.{first_of, first_some}
use Rattle.std.specs.Io.KnownBytes.{Consumes, IsAtEnd}
use Rattle.std.proofs.KnownBytes.{Appends-nil, Consumes-nil, Keeps-refl}
use Rattle.std.proofs.lemmas.Bool.{cases_lt}
use Rattle.std.proofs.lemmas.Bool.Decides.{nat_tests}
use Rattle.std.proofs.lemmas.List.Elements.{All-cons, recursion_from_All, All-from_recursion}
use Rattle.xs_io.specs.Bytes.{AreByteItems}
use Rattle.xs_io.specs.Causes.{Rose}
use Rattle.xs_lists.specs.Packing.{AreBytes}
use Rattle.xs_capture.specs.Pictures.{most_pictures}
use Rattle.xs_notes.specs.declared.note.Note.TheVariants as note
use Rattle.xs_endings.specs.declared.stop.Stop.{Stop}
use Rattle.xs_endings.specs.declared.stop.Stop.TheVariants as stop
use Rattle.xs_endings.specs.Ends.{Change, Ends, IsLater, change_of, ends_of, untouched}
use Rattle.xs_endings.specs.Endings.{HasFronts}
use Rattle.xs_endings.specs.Said.{Said, only_note}
use Rattle.xs_endings.specs.Steps.{IsHalt}
use Rattle.xs_endings.specs.Turns.{HasSaidAll, nothing}
use Rattle.xs_endings.proofs.Changes.{front_of_none}
use Rattle.xs_endings.proofs.Pictures.{rest_from}
use Rattle.xs_endings.proofs.Turns.{said_on}
use Rattle.xs_params.specs.declared.settings.Settings.{Settings}
use Rattle.xs_words.specs.declared.command.Form.{Form}
use Rattle.xs_words.specs.declared.command.Form.TheVariants.{Rtp, Xs, Pcap}
use Rattle.xs_params.specs.declared.settings.Setting.{Setting}
use Rattle.xs_params.proofs.InRange.{in_range}
use Rattle.xs_words.specs.declared.command.Refusal.{Refusal}
use Rattle.xs_words.specs.declared.command.Refusal.TheVariants as refusal
use Rattle.xs_words.specs.declared.command.Command.{Command}
use Rattle.xs_words.specs.declared.command.Command.TheVariants.{Encode, Decode, Trial}
use Rattle.xs_words.specs.Refusal.{refusal_of, refused_settings}
use Rattle.xs_words.specs.Words.{bad_place, word_in}
use Rattle.xs_words.specs.Command.{command_of, form_of, given_number, settings_of, trial_settings_of}
use Rattle.xs_cli.specs.Answer.{IsAnswer, IsAnswerUnless, IsCommandAnswer, IsCommandStanding, IsStanding, refusal_note}
use Rattle.xs_cli.specs.Decoded.{IsDecodeTurn, IsDecodeAnswer, IsFormAnswer, input_limit}
use Rattle.xs_cli.specs.Steps.{AreStreamsDecoded, IsCommandStop, IsDone, IsExecuted, IsOwnStop}
use Rattle.xs_cli.proofs.Inputs.{front_of, no_bytes, over, used_up, was_some, was_whole}
use Rattle.xs_cli.specs.Encoded.{IsEncodeTurn, encode_turn, file_front, with_front}
use Rattle.xs_cli.specs.Laws.{AnswersExist}
use Rattle.xs_cli.proofs.Turns.{encode_goes}
use Rattle.xs_cli.specs.Receiving.{AreReceived, AreUnwrapped, NeverStands}
use Rattle.xs_cli.specs.Captured.{IsCaptured, IsCapturedAfter}
use Rattle.xs_cli.proofs.Streams.{decode_goes}
use Rattle.xs_cli.proofs.CapturedHalts.{after_none, capture_answered}
use Rattle.xs_cli.proofs.Unwrapping.{file_exists}
use Rattle.xs_cli.proofs.TrialAnswers.{trials_answered}

-- The same halt by other words for its answers

module _ (Answer Other : Said → Type 0) (Stands Others : List ℕ → List ℕ → Type 0) (input : List ℕ) (ends : Ends)
    (answers : (said : Said) → Answer said → Other said) (standing : (taken out : List ℕ) → Stands taken out → Others taken out) where
  fronts_as : HasFronts Answer input ends → HasFronts Other input ends
  fronts_as fronts = record { said = fronts.said; answer = λ are. answers fronts.said (fronts.answer are); output = fronts.output; notes = fronts.notes }

  pub halt_as : (result : Result ℕ Stop) → IsHalt Answer Stands input ends result → IsHalt Other Others input ends result
  halt_as (Ok status) all = record { said = all.said; answer = answers all.said all.answer; answered = all.answered; output = all.output; notes = all.notes }
  halt_as (Err (stop.Told why)) left = record { said = left.said; answer = answers left.said left.answer; note = left.note; output = left.output; notes = left.notes }
  halt_as (Err stop.ReadFault) fault = record {
    failed = record {
      cause = fault.failed.cause;
      taken = fault.failed.taken;
      front = fault.failed.front;
      consumed = fault.failed.consumed;
      out = fault.failed.out;
      stands = standing fault.failed.taken fault.failed.out fault.failed.stands;
      output = fault.failed.output;
    };
    notes = fault.notes;
  }
  halt_as (Err stop.WriteFault) cut = (cut.0, fronts_as cut.1)
  halt_as (Err stop.Memory) fronts = fronts_as fronts

-- Decoding

pub within_limit : (form : Form) (input : List ℕ) (said : Said) → length input ≤ input_limit → IsFormAnswer form input said → IsDecodeAnswer form input said
within_limit form input said within answer =
    let test : nat_lt input_limit (length input) ≡ false = grind (arith, nat_tests) in
    subst (λ (b : Bool). MatchBool b (said ≡ only_note (note.InputLimit input_limit)) (IsFormAnswer form input said)) (sym test) answer

past_limit : (form : Form) (input : List ℕ) → input_limit < length input → IsDecodeAnswer form input (only_note (note.InputLimit input_limit))
past_limit form input past =
    let test : nat_lt input_limit (length input) ≡ true = grind (arith, nat_tests) in
    subst (λ (b : Bool). MatchBool b (only_note (note.InputLimit input_limit) ≡ only_note (note.InputLimit input_limit)) (IsFormAnswer form input (only_note (note.InputLimit input_limit)))) (sym test) refl

as_bytes : (input : List ℕ) → AreByteItems input → AreBytes input
as_bytes input are = recursion_from_All (λ (item : ℕ). item < 256) input are

all_said : (input : List ℕ) → AreBytes input → (said : Said) × HasSaidAll IsDecodeTurn input said
all_said input are =
    let turn = decode_goes.there nothing input are in
    let enough : most_pictures ≤ nothing.pictures + most_pictures = omega arith in
    let rest = rest_from IsDecodeTurn AreBytes most_pictures decode_goes most_pictures nothing input are enough turn.0 turn.1 in
    (_, said_on IsDecodeTurn nothing rest.end input input rest.last [] rest.more rest.notes (refl, refl) rest.written rest.ended)

form_answer : (form : Form) (input : List ℕ) → AreBytes input → (said : Said) × IsFormAnswer form input said
form_answer Xs input are = all_said input are
form_answer Rtp input are = capture_answered input are
form_answer (Pcap port) input are = file_exists port input are

-- each input of bytes has an answer
pub decode_answer : (form : Form) (input : List ℕ) → AreByteItems input → (said : Said) × IsDecodeAnswer form input said
decode_answer form input are = elim (cases_lt input_limit (length input)) [
  | inl past ↦ (only_note (note.InputLimit input_limit), past_limit form input past)
  | inr within ↦ let found = form_answer form input (as_bytes input are) in (found.0, within_limit form input found.0 within found.1)
]

decided_bytes : (input : List ℕ) → AreByteItems input ⊎ ¬ AreByteItems input
decided_bytes input = go input
  where
    go : (l : List ℕ) → AreByteItems l ⊎ ¬ AreByteItems l
    go [] = inl no_bytes
    go (x ∷ l) = elim (cases_lt x 256) [
      | inl small ↦ elim (go l) [
        | inl others ↦ inl (All-cons (λ (item : ℕ). item < 256) x l small others)
        | inr not ↦ inr (λ all. not (All-from_recursion (λ (item : ℕ). item < 256) l (recursion_from_All (λ (item : ℕ). item < 256) (x ∷ l) all).1))
      ]
      | inr large ↦ inr (λ all. let first = (recursion_from_All (λ (item : ℕ). item < 256) (x ∷ l) all).0 in absurd (omega (arith, first, large)))
    ]

-- nothing was said, but something may be
pub nothing_said : (Answer : Said → Type 0) (input : List ℕ) → (AreByteItems input → (said : Said) × Answer said) → (source : Change) (p : Option (List ℕ)) (u : ℕ) (held : Option (List ℕ)) (faults : ℕ)
    → HasFronts Answer input (ends_of source (untouched p u) (untouched held faults))
nothing_said Answer input answer source p u held faults = elim (decided_bytes input) [
  | inl are ↦ let found = answer are in
      record { said = found.0; answer = λ _. found.1; output = front_of_none p u u found.0.out; notes = front_of_none held faults faults _ }
  | inr not ↦ record { said = record { out = []; notes = [] }; answer = λ are. absurd (not are); output = front_of_none p u u []; notes = front_of_none held faults faults [] }
]

-- the whole input was read, and this was done with it
read_whole : (form : Form) (workers feeders : ℕ) (a c : Option (List ℕ)) (f h : ℕ) (bytes : List ℕ) (output notes : Change) (result : Result ℕ Stop) (Stands : List ℕ → List ℕ → Type 0)
    → ((taken out : List ℕ) → Stands taken out → IsCommandStanding (Decode form workers feeders) taken out) → length bytes ≤ input_limit → AreByteItems bytes → Consumes a c bytes → IsAtEnd c
    → IsCommandStop result → IsLater notes → IsHalt (IsFormAnswer form bytes) Stands bytes (ends_of (change_of a c f h) output notes) result
    → IsDone (Decode form workers feeders) (ends_of (change_of a c f h) output notes) result
read_whole form workers feeders a c f h bytes output notes result Stands standing within are consumed end stops later halt = record {
  input = bytes;
  left = was_whole a c bytes are consumed end;
  halt = halt_as (IsFormAnswer form bytes) (IsDecodeAnswer form bytes) Stands (IsCommandStanding (Decode form workers feeders)) bytes (ends_of (change_of a c f h) output notes)
      (λ said answer. within_limit form bytes said within answer) standing result halt;
  stop = stops;
  whole = λ _. used_up a c f h bytes consumed end;
  most = (bytes, omega (arith, within), consumed);
  untaken = λ never. absurd never;
  later = later;
}

-- the whole input was read, and its codestreams were decoded
pub streams_done : (workers feeders : ℕ) (a c : Option (List ℕ)) (f h : ℕ) (held : Option (List ℕ)) (faults : ℕ) (bytes : List ℕ) (output : Change) (result : Result ℕ Stop) → length bytes ≤ input_limit
    → AreByteItems bytes → Consumes a c bytes → IsAtEnd c → IsCommandStop result → AreStreamsDecoded bytes output result
    → IsDone (Decode Xs workers feeders) (ends_of (change_of a c f h) output (untouched held faults)) result
streams_done workers feeders a c f h held faults bytes output result within are consumed end stops decoded =
    let command = Decode Xs workers feeders in
    read_whole Xs workers feeders a c f h bytes output (untouched held faults) result (IsCommandStanding command) (λ taken out stands. stands) within are consumed end stops (omega arith)
    (decoded command (change_of a c f h) held faults)

-- the whole input was read, and was received as a capture
pub capture_done : (workers feeders : ℕ) (a c : Option (List ℕ)) (f h : ℕ) (bytes : List ℕ) (output notes : Change) (result : Result ℕ Stop) → length bytes ≤ input_limit → AreByteItems bytes
    → Consumes a c bytes → IsAtEnd c → IsCommandStop result → IsLater notes → AreReceived 0 bytes output notes result
    → IsDone (Decode Rtp workers feeders) (ends_of (change_of a c f h) output notes) result
capture_done workers feeders a c f h bytes output notes result within are consumed end stops later received =
    read_whole Rtp workers feeders a c f h bytes output notes result NeverStands (λ taken out never. absurd never) within are consumed end stops later
    (halt_as (IsCapturedAfter 0 bytes) (IsCaptured bytes) NeverStands NeverStands bytes (ends_of (change_of a c f h) output notes) (after_none bytes) (λ taken out never. never) result (received (change_of a c f h) bytes))

-- or as a pcap file
pub file_done : (port workers feeders : ℕ) (a c : Option (List ℕ)) (f h : ℕ) (bytes : List ℕ) (output notes : Change) (result : Result ℕ Stop) → length bytes ≤ input_limit → AreByteItems bytes
    → Consumes a c bytes → IsAtEnd c → IsCommandStop result → IsLater notes → AreUnwrapped port bytes output notes result
    → IsDone (Decode (Pcap port) workers feeders) (ends_of (change_of a c f h) output notes) result
file_done port workers feeders a c f h bytes output notes result within are consumed end stops later received =
    read_whole (Pcap port) workers feeders a c f h bytes output notes result NeverStands (λ taken out never. absurd never) within are consumed end stops later (received (change_of a c f h))

module _ (form : Form) (workers feeders : ℕ) (a c p : Option (List ℕ)) (f h u : ℕ) (held : Option (List ℕ)) (faults : ℕ) where
  pub over_limit : (front : List ℕ) → length front ≡ input_limit + 1 → Consumes a c front
      → IsDone (Decode form workers feeders) (ends_of (change_of a c f h) (untouched p u) (untouched held faults)) (Err (stop.Told (note.InputLimit input_limit)))
  over_limit front size consumed =
      let found = over input_limit a c front size consumed in
      record {
        input = found.0;
        left = found.1;
        halt = record {
          said = only_note (note.InputLimit input_limit);
          answer = past_limit form found.0 found.2;
          note = refl;
          output = Appends-nil p;
          notes = Keeps-refl held;
        };
        stop = ((omega arith, omega arith), tt);
        whole = λ e. absurd (cc);
        most = (front, omega (arith, size), consumed);
        untaken = λ never. absurd never;
        later = omega arith;
      }

  pub input_failed : (front : List ℕ) → length front ≤ input_limit → Consumes a c front → Rose f h
      → IsDone (Decode form workers feeders) (ends_of (change_of a c f h) (untouched p u) (untouched held faults)) (Err stop.ReadFault)
  input_failed front short consumed rose =
      let found = front_of a a c [] front (input_limit + 1) no_bytes (Consumes-nil a) consumed (omega (arith, short)) in
      record {
        input = found.front ++ found.rest;
        left = found.left;
        halt = record {
          failed = record {
            cause = rose;
            taken = found.front;
            front = (found.rest, refl);
            consumed = found.consumed;
            out = [];
            stands = record { most = omega (arith, found.short); stands = refl };
            output = Appends-nil p;
          };
          notes = Keeps-refl held;
        };
        stop = tt;
        whole = λ e. absurd (cc);
        most = (front, omega (arith, short), consumed);
        untaken = λ never. absurd never;
        later = omega arith;
      }

  pub no_room : (front : List ℕ) → length front ≤ input_limit → Consumes a c front
      → IsDone (Decode form workers feeders) (ends_of (change_of a c f h) (untouched p u) (untouched held faults)) (Err stop.Memory)
  no_room front short consumed = record {
    input = unwrap_or a [];
    left = was_some a;
    halt = nothing_said (IsDecodeAnswer form (unwrap_or a [])) (unwrap_or a []) (decode_answer form (unwrap_or a [])) (change_of a c f h) p u held faults;
    stop = tt;
    whole = λ e. absurd (cc);
    most = (front, omega (arith, short), consumed);
    untaken = λ never. absurd never;
    later = omega arith;
  }

-- Running

none_some : IsSome {T = Refusal} None → ⊥
none_some some = absurd (cc)

pub executed : (words : List (List ℕ)) (command : Command) (ends : Ends) (result : Result ℕ Stop) → refusal_of words ≡ None → command ≡ command_of words → IsDone command ends result → IsExecuted words ends result
executed words command ends result e same other =
    let done = subst (λ (c : Command). IsDone c ends result) same other in
    record {
      input = done.input;
      left = done.left;
      halt = halt_as (IsCommandAnswer (command_of words) done.input) (IsAnswer words done.input) (IsCommandStanding (command_of words)) (IsStanding words) done.input ends
          (λ said answer. subst (λ (o : Option Refusal). IsAnswerUnless o (command_of words) done.input said) (sym e) answer)
          (λ taken out stands. record { command = e; standing = stands }) result done.halt;
      stop = subst (λ (o : Option Refusal). IsOwnStop o result) (sym e) done.stop;
      whole = done.whole;
      most = done.most;
      kept = λ unread. elim unread [ inl some ↦ absurd (none_some (subst (λ (o : Option Refusal). IsSome o) e some)) | inr trial ↦ done.untaken trial ];
      later = done.later;
    }

pub refused_words : (words : List (List ℕ)) (why : Refusal) (a p : Option (List ℕ)) (f u : ℕ) (held : Option (List ℕ)) (faults : ℕ) → refusal_of words ≡ Some why
    → IsExecuted words (ends_of (untouched a f) (untouched p u) (untouched held faults)) (Err (stop.Told (refusal_note why)))
refused_words words why a p f u held faults e = record {
  input = unwrap_or a [];
  left = was_some a;
  halt = record {
    said = only_note (refusal_note why);
    answer = subst (λ (o : Option Refusal). IsAnswerUnless o (command_of words) (unwrap_or a []) (only_note (refusal_note why))) (sym e) refl;
    note = refl;
    output = Appends-nil p;
    notes = Keeps-refl held;
  };
  stop = subst (λ (o : Option Refusal). IsOwnStop o (Err (stop.Told (refusal_note why)))) (sym e) refl;
  whole = λ x. absurd (cc);
  most = ([], omega arith, Consumes-nil a);
  kept = λ _. record { bytes = refl; faults = refl };
  later = omega arith;
}

-- each input has pictures that are written, or why not
pub encode_pictures : (settings : Settings) (form : Form) (input : List ℕ) → (said : Said) × HasSaidAll (IsEncodeTurn settings form) input said
encode_pictures settings form input =
    let enough : most_pictures ≤ nothing.pictures + most_pictures = omega arith in
    let rest = rest_from (IsEncodeTurn settings form) (λ _. Unit {0}) most_pictures (encode_goes settings form) most_pictures nothing input tt enough (encode_turn settings form nothing input) refl in
    (_, said_on (IsEncodeTurn settings form) nothing rest.end input input rest.last [] rest.more rest.notes (refl, refl) rest.written rest.ended)

-- each input of bytes has an answer

-- settings that no words refuse are in range, but for what boxes are; those of a trial have none
abbrev AreSound : Command → Type 0
AreSound (Encode settings form) = ⊤
AreSound (Decode form workers feeders) = ⊤
AreSound (Trial settings seed) = settings.boxes ≡ []

abbrev command_by : List (List ℕ) → (encode decode : Bool) → Command
command_by words encode decode =
    if encode then Encode (settings_of words) (form_of words)
    else if decode then Decode (form_of words) (given_number words (codes "--workers")) (given_number words (codes "--feeders"))
    else Trial (trial_settings_of words) (given_number words (codes "--seed"))

sound : (words : List (List ℕ)) → AreSound (command_of words)
sound words = go (bytes_eq (word_in words 0) (codes "encode")) (bytes_eq (word_in words 0) (codes "decode"))
  where
    go : (encode decode : Bool) → AreSound (command_by words encode decode)
    go true decode = tt
    go false true = tt
    go false false = refl

unrefused : (o : Option ℕ) (p : Option Setting) → first_some (option_map refusal.Words o ∷ option_map refusal.Setting p ∷ []) ≡ None → p ≡ None
unrefused None None e = refl
unrefused None (Some setting) e = absurd (cc)
unrefused (Some place) None e = absurd (cc)
unrefused (Some place) (Some setting) e = absurd (cc)

command_answer : (words : List (List ℕ)) (command : Command) (input : List ℕ) → AreByteItems input → AreSound command → first_of (refused_settings words command) ≡ None → (said : Said) × IsCommandAnswer command input said
command_answer words (Decode form workers feeders) input are known none = decode_answer form input are
command_answer words (Encode settings form) input are known none =
    let found = encode_pictures settings form input in
    (with_front (file_front form) found.0, record { pictures = found.0; turns = found.1; whole = refl })
command_answer words (Trial settings seed) input are known none =
    trials_answered settings seed (in_range settings (subst AreBytes (sym known) tt) (record { none = none }))

pub has_answer : AnswersExist
has_answer words input are = go (refusal_of words) refl
  where
    go : (o : Option Refusal) → refusal_of words ≡ o → (said : Said) × IsAnswerUnless o (command_of words) input said
    go None e = command_answer words (command_of words) input are (sound words) (unrefused (bad_place words) (first_of (refused_settings words (command_of words))) e)
    go (Some why) e = (only_note (refusal_note why), refl)
