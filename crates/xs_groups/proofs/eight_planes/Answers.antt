use Rattle.std.proofs.Common.{◌+◌, ◌<◌, ◌^◌, map, sym, subst, ◌∙◌}
use Rattle.std.specs.Prelude.{All}
use Rattle.std.specs.List.{range_with_len}
use Rattle.std.proofs.lemmas.List.Elements.{All-from_recursion}
use Rattle.xs_signal.specs.Lines.{entries_of}
use Rattle.xs_groups.specs.Bits.{bits_in}
use Rattle.xs_groups.proofs.Planes.{all_bits_small, eight_are}
use Rattle.xs_groups.proofs.eight_planes.Goals as goal

pub digits_of_eight-requires-clause-low : goal.digits_of_eight-requires-clause-low
digits_of_eight-requires-clause-low c =
    let row = entries_of c.args.row.now in
    subst (λ l. All (λ number. number < 2 ^ 15) l) (sym c.four_bits.ensures) (All-from_recursion (λ number. number < 2 ^ 15) (map (bits_in row) (range_with_len c.args.group 4)) (all_bits_small row c.args.group 4 c.requires.small))

pub digits_of_eight-requires-clause-high : goal.digits_of_eight-requires-clause-high
digits_of_eight-requires-clause-high c =
    let row = entries_of c.args.row.now in
    subst (λ l. All (λ number. number < 2 ^ 15) l) (sym c.four_bits-2.ensures) (All-from_recursion (λ number. number < 2 ^ 15) (map (bits_in row) (range_with_len (c.args.group + 4) 4)) (all_bits_small row (c.args.group + 4) 4 c.requires.small))

pub returns : goal.returns
returns c = c.digits_of_eight.ensures ∙ eight_are (entries_of c.args.row.now) c.args.group c.four_bits.result c.four_bits-2.result c.requires.small c.four_bits.ensures c.four_bits-2.ensures
