-- What a run answers, by its words and its input: 'Command words', 'Runs' and 'Notes'. Neither the number of workers nor a schedule occurs, but for the check of
-- ranges.
use Rattle.std.specs.Prelude.{◌≡◌, ℕ, ◌+◌, ◌*◌, ◌≤◌, ◌⊎◌, ⊤, IsSome, Option, Some, None, List, [], length}
use Rattle.xs_params.specs.Picture.{raw_size}
use Rattle.xs_capture.specs.Pictures.{most_pictures}
use Rattle.xs_notes.specs.declared.note.Note.{Note}
use Rattle.xs_notes.specs.declared.note.Note.TheVariants as note
use Rattle.xs_endings.specs.Said.{Said, only_note}
use Rattle.xs_endings.specs.Ends.{Change, IsUsedUp}
use Rattle.xs_words.specs.declared.command.Refusal.{Refusal}
use Rattle.xs_words.specs.declared.command.Refusal.TheVariants as refusal
use Rattle.xs_words.specs.declared.command.Command.{Command}
use Rattle.xs_words.specs.declared.command.Command.TheVariants.{Encode, Decode, Trial}
use Rattle.xs_words.specs.Refusal.{refusal_of}
use Rattle.xs_words.specs.Command.{command_of}
use Rattle.xs_cli.specs.Encoded.{EncodedStandsAfter, IsEncoded}
use Rattle.xs_cli.specs.Decoded.{IsDecodeAnswer, input_limit}
use Rattle.xs_cli.specs.Tried.{IsTried}

-- the answer of a command whose settings are in range
abbrev pub IsCommandAnswer : Command → List ℕ → Said → Type 0
IsCommandAnswer (Encode settings form) = IsEncoded settings form
IsCommandAnswer (Decode form workers feeders) = IsDecodeAnswer form
IsCommandAnswer (Trial settings seed) = λ input. IsTried settings seed

-- words are refused before the input is read
abbrev pub refusal_note : Refusal → Note
refusal_note (refusal.Words place) = note.Words place
refusal_note (refusal.Setting setting) = note.Setting setting

abbrev pub IsAnswerUnless : Option Refusal → Command → List ℕ → Said → Type 0
IsAnswerUnless None command input said = IsCommandAnswer command input said
IsAnswerUnless (Some why) command input said = said ≡ only_note (refusal_note why)

-- the answer
abbrev pub IsAnswer : List (List ℕ) → List ℕ → Said → Type 0
IsAnswer words = IsAnswerUnless (refusal_of words) (command_of words)

-- Where the source fails

-- how many bytes a command takes at most: each that reads looks whether there is one more than there may be
abbrev pub most_wanted : Command → ℕ
most_wanted (Encode settings form) = most_pictures * raw_size settings.shape + 1
most_wanted (Decode form workers feeders) = input_limit + 1
most_wanted (Trial settings seed) = 0

-- what stands in the output where the source failed after these bytes: of `encode` the pictures that are whole in them, of `decode` nothing; `trial`
-- has no source to fail
abbrev pub CommandStandsAfter : Command → List ℕ → List ℕ → Type 0
CommandStandsAfter (Encode settings form) taken out = EncodedStandsAfter settings form taken out
CommandStandsAfter (Decode form workers feeders) taken out = out ≡ []
CommandStandsAfter (Trial settings seed) taken out = ⊥

pub record IsCommandStanding (command : Command) (taken out : List ℕ) : Type 0 where
  pub most : length taken ≤ most_wanted command
  pub stands : CommandStandsAfter command taken out

pub record IsStanding (words : List (List ℕ)) (taken out : List ℕ) : Type 0 where
  pub command : refusal_of words ≡ None
  pub standing : IsCommandStanding (command_of words) taken out

-- The source

-- a command that reads leaves its source at the end, where it is done
abbrev pub LeavesEnd : Command → Change → Type 0
LeavesEnd (Encode settings form) source = IsUsedUp source
LeavesEnd (Decode form workers feeders) source = IsUsedUp source
LeavesEnd (Trial settings seed) source = ⊤

abbrev pub IsTrial : Command → Type 0
IsTrial (Encode settings form) = ⊥
IsTrial (Decode form workers feeders) = ⊥
IsTrial (Trial settings seed) = ⊤

-- refused words, and a trial, have no use for the source
abbrev pub IsUnread : List (List ℕ) → Type 0
IsUnread words = IsSome (refusal_of words) ⊎ IsTrial (command_of words)
