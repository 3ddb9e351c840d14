use Rattle.std.proofs.Common.{map}
use Rattle.std.specs.String.{string_bytes}
use Rattle.xs_words.specs.Table.{trial_rows}
use Rattle.xs_words.proofs.Given.{number_given}
use Rattle.xs_words.proofs.command.trial_number.Goals as goal

pub number_of-requires : goal.number_of-requires
number_of-requires c = number_given (map string_bytes c.args.words.now) trial_rows c.requires.trial c.requires.whole c.args.name.now c.requires.number
