use Rattle.std.proofs.Common.{map, codes, refl}
use Rattle.std.specs.String.{string_bytes}
use Rattle.xs_words.specs.Table.{decode_rows}
use Rattle.xs_words.proofs.Given.{number_given}
use Rattle.xs_words.proofs.command.decoding.Goals as goal

pub number_of-workers-requires : goal.number_of-workers-requires
number_of-workers-requires c = number_given (map string_bytes c.args.words.now) decode_rows c.requires.decode c.requires.whole (codes "--workers") refl

pub number_of-feeders-requires : goal.number_of-feeders-requires
number_of-feeders-requires c = number_given (map string_bytes c.args.words.now) decode_rows c.requires.decode c.requires.whole (codes "--feeders") refl

pub number_of-port-requires : goal.number_of-port-requires
number_of-port-requires c = number_given (map string_bytes c.args.words.now) decode_rows c.requires.decode c.requires.whole (codes "--port") refl
