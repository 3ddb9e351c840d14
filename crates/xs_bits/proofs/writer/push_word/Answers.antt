use Rattle.std.proofs.Common.{ap, ◌++◌, ◌∙◌}
use Rattle.std.proofs.lemmas.List.Concat.{flat_map-append}
use Rattle.xs_lists.specs.Bits.{bits_of, bits_of_bytes}
use Rattle.xs_bits.proofs.Laws.{word_bytes}
use Rattle.xs_bits.proofs.writer.push_word.Goals as goal

pub returns-clause-bits : goal.returns-clause-bits
returns-clause-bits c =
    ap bits_of_bytes c.append.ensures.items ∙ flat_map-append (bits_of 8) c.args.bytes.now.items _
    ∙ ap (λ l. bits_of_bytes c.args.bytes.now.items ++ l) (ap bits_of_bytes c.to_be_bytes.ensures ∙ word_bytes c.args.word)
