use Rattle.std.proofs.Common.{map}
use Rattle.std.specs.String.{string_bytes}
use Rattle.xs_words.specs.Table.{encode_rows}
use Rattle.xs_words.proofs.Given.{number_given}
use Rattle.xs_words.proofs.command.encode_number.Goals as goal

pub number_of-requires : goal.number_of-requires
number_of-requires c = number_given (map string_bytes c.args.words.now) encode_rows c.requires.encode c.requires.whole c.args.name.now c.requires.number
