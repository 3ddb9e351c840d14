-- The row that an option of the program is.
use Rattle.std.specs.Prelude.{List, map}
use Rattle.xs_words.specs.Table.{Row, required, number, choice}
use Rattle.xs_words.specs.declared.option.CommandOption.{CommandOption}
use Rattle.xs_words.specs.declared.option.CommandOption.TheVariants as option

abbrev pub row_of_option : CommandOption → Row
row_of_option (option.Required name) = required name.now
row_of_option (option.Number name default) = number name.now default.now
row_of_option (option.Choice name words default) = choice name.now (map (λ word. word.now) words.now) default.now

abbrev pub rows_of : List CommandOption → List Row
rows_of options = map row_of_option options
