-- Laws of trials.
use Rattle.std.specs.Prelude.{◌≡◌, ℕ}
use Rattle.xs_params.specs.declared.settings.Settings.{Settings}
use Rattle.xs_params.specs.Check.{AreInRange}
use Rattle.xs_endings.specs.Said.{Said}
use Rattle.xs_cli.specs.Tried.{IsTried}

-- the same settings for other numbers of workers and feeders
abbrev pub with_threads : Settings → ℕ → ℕ → Settings
with_threads s workers feeders = record s { workers = workers; feeders = feeders }

-- each trial has an answer
abbrev pub TrialsAnswered : Type 0
TrialsAnswered = (s : Settings) (seed : ℕ) → AreInRange s → (said : Said) × IsTried s seed said

-- and it is one, whatever the numbers of workers and feeders are
abbrev pub OneTrial : Type 0
OneTrial = (s : Settings) (workers feeders seed : ℕ) (said other : Said) → IsTried s seed said → IsTried (with_threads s workers feeders) seed other → said ≡ other
