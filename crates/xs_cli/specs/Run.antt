-- What a run owes to its words and to the ends that it is given.
use Rattle.std.specs.Prelude.{◌≡◌, ℕ, ◌≤◌, ◌⊎◌, Some, None, List}
use Rattle.xs_params.specs.declared.settings.Setting.{Setting}
use Rattle.xs_words.specs.declared.command.Refusal.TheVariants as refusal
use Rattle.xs_words.specs.Refusal.{refusal_of}
use Rattle.xs_words.specs.Command.{command_of}
use Rattle.xs_endings.specs.Ends.{Change, Ends, HasFailed, TookAtMost, WasLeft, IsUntouched}
use Rattle.xs_endings.specs.Endings.{HasSinkFailed, IsEnding}
use Rattle.xs_endings.specs.Said.{Said, status_of}
use Rattle.xs_cli.specs.Answer.{IsAnswer, IsStanding, IsUnread, LeavesEnd, most_wanted}
use Rattle.xs_cli.specs.Good.{IsGood}

-- The headline: there is an input, which is what was left where the source tells it, such that the run ended in one of the three ways, by an answer of
-- the words and this input.
pub record HasAnswer (words : List (List ℕ)) (ends : Ends) (status : ℕ) : Type 0 where
  pub input : List ℕ
  pub left : WasLeft ends.input input
  pub ending : IsEnding (IsAnswer words input) (IsStanding words) input ends status

-- What holds besides, whether the ends tell their bytes or not

-- the statuses of devices come only by their causes
pub record HasStatusCause (ends : Ends) (status : ℕ) : Type 0 where
  pub read : status ≡ 7 → HasFailed ends.input
  pub write : status ≡ 8 → HasSinkFailed ends
  pub range : status ≤ 9

-- the words are no command; the settings that they ask for are out of range
abbrev pub AreBadWords : List (List ℕ) → Type 0
AreBadWords words = (place : ℕ) × (refusal_of words ≡ Some (refusal.Words place))

abbrev pub AskBadSetting : List (List ℕ) → Type 0
AskBadSetting words = (setting : Setting) × (refusal_of words ≡ Some (refusal.Setting setting))

-- the status, unless a note could not be given or memory was wanting
abbrev pub IsUnlessBroken : ℕ → ℕ → Type 0
IsUnlessBroken wanted status = (status ≡ wanted) ⊎ (status ≡ 8) ⊎ (status ≡ 9)

-- words and settings are refused exactly where they are wrong
pub record HasRefusals (words : List (List ℕ)) (status : ℕ) : Type 0 where
  pub words_only : status ≡ 1 → AreBadWords words
  pub bad_words : AreBadWords words → IsUnlessBroken 1 status
  pub setting_only : status ≡ 2 → AskBadSetting words
  pub bad_setting : AskBadSetting words → IsUnlessBroken 2 status

-- status 0 leaves the source of a command that reads at its end; no more than the command wants is taken; refused words, and a trial, leave the source as
-- it was
pub record LeavesSource (words : List (List ℕ)) (source : Change) (status : ℕ) : Type 0 where
  pub whole : status ≡ 0 → LeavesEnd (command_of words) source
  pub most : TookAtMost (most_wanted (command_of words)) source
  pub kept : IsUnread words → IsUntouched source

-- the status is that of an answer
abbrev pub HasStatusOfAnswer : List (List ℕ) → List ℕ → ℕ → Type 0
HasStatusOfAnswer words input status = (said : Said) × IsAnswer words input said × (status ≡ status_of said)

-- Where the source tells its bytes and no count rose, the status is that of an answer of these bytes, or 9; and where words and input are good, 0 or 9.
pub record IsCompleteOn (words : List (List ℕ)) (input : List ℕ) (status : ℕ) : Type 0 where
  pub answered : HasStatusOfAnswer words input status ⊎ (status ≡ 9)
  pub good : refusal_of words ≡ None → IsGood (command_of words) input → (status ≡ 0) ⊎ (status ≡ 9)

abbrev pub IsComplete : List (List ℕ) → Ends → ℕ → Type 0
IsComplete words ends status =
    (input : List ℕ) → ends.input.before ≡ Some input → ¬ HasFailed ends.input → ¬ HasSinkFailed ends → IsCompleteOn words input status

-- all that a run owes
pub record IsRun (words : List (List ℕ)) (ends : Ends) (status : ℕ) : Type 0 where
  pub headline : HasAnswer words ends status
  pub cause : HasStatusCause ends status
  pub refusals : HasRefusals words status
  pub source : LeavesSource words ends.input status
  pub complete : IsComplete words ends status
