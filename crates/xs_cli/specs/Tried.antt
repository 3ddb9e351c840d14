-- What `trial` writes and says: 'Trial' and 'Notes'. Neither the number of workers nor that of feeders occurs.
use Rattle.std.specs.Prelude.{◌≡◌, ℕ, ◌++◌, Result, Ok, Err, List, [], length, codes, decimal}
use Rattle.xs_params.specs.declared.settings.Settings.{Settings}
use Rattle.xs_params.specs.Picture.{Picture}
use Rattle.xs_params.specs.Stream.{Stream, stream_bytes}
use Rattle.xs_faults.specs.declared.Budget.{Budget}
use Rattle.xs_rate.specs.Encoding.{encoding_of}
use Rattle.xs_picture.specs.StreamRead.{IsPictureRead}
use Rattle.xs_pack.specs.Datagrams.{datagrams_of}
use Rattle.xs_trial.specs.Comparison.{comparison_of}
use Rattle.xs_trial.specs.Generator.{trial_picture}
use Rattle.xs_endings.specs.Said.{Said, only_note}
use Rattle.xs_cli.specs.declared.trial.TrialOutcome.{TrialOutcome}
use Rattle.xs_cli.specs.Encoded.{over_share}

-- the slices of the codestream, its bytes and its packets; the decoded picture beside the one that was encoded
abbrev pub trial_outcome : Settings → Picture → Stream → Picture → TrialOutcome
trial_outcome s picture stream decoded = record {
  slices = length stream.slices;
  bytes = length (stream_bytes stream);
  packets = length (datagrams_of s stream 0 0);
  found = comparison_of picture.samples decoded.samples;
}

-- a word and a number
abbrev pub number_line : List ℕ → ℕ → List ℕ
number_line word number = word ++ codes " " ++ decimal number ++ codes "\n"

-- the six lines; each packet is repeated once
abbrev pub outcome_lines : TrialOutcome → List ℕ
outcome_lines outcome =
    number_line (codes "slices") outcome.slices
    ++ number_line (codes "bytes") outcome.bytes
    ++ number_line (codes "packets") outcome.packets
    ++ number_line (codes "repeats") outcome.packets
    ++ number_line (codes "worst") outcome.found.worst
    ++ number_line (codes "sum") outcome.found.sum

-- the codestream is decoded again, and that picture is compared
abbrev pub IsTrialOutcome : Settings → Picture → Stream → TrialOutcome → Type 0
IsTrialOutcome s picture stream outcome =
    (decoded : Picture) × IsPictureRead decoded (stream_bytes stream) (length (stream_bytes stream))
    × (outcome ≡ trial_outcome s picture stream decoded)

abbrev pub lines_said : TrialOutcome → Said
lines_said outcome = record { out = outcome_lines outcome; notes = [] }

-- what is said of a picture, by its encoding
abbrev pub IsTriedBy : Settings → Picture → Result Stream Budget → Said → Type 0
IsTriedBy s picture (Ok stream) said = (outcome : TrialOutcome) × IsTrialOutcome s picture stream outcome × (said ≡ lines_said outcome)
IsTriedBy s picture (Err budget) said = said ≡ only_note (over_share 0 budget)

-- the answer for a seed
abbrev pub IsTried : Settings → ℕ → Said → Type 0
IsTried s seed = let picture = trial_picture s.shape seed in IsTriedBy s picture (encoding_of s picture)
