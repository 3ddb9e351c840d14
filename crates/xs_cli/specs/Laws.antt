-- Laws of answers.
use Rattle.std.specs.Prelude.{ℕ, List}
use Rattle.xs_io.specs.Bytes.{AreByteItems}
use Rattle.xs_endings.specs.Said.{Said}
use Rattle.xs_cli.specs.Answer.{IsAnswer}

-- whatever the words are, each input of bytes has an answer
abbrev pub AnswersExist : Type 0
AnswersExist = (words : List (List ℕ)) (input : List ℕ) → AreByteItems input → (said : Said) × IsAnswer words input said
