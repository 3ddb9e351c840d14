use Rattle.std.proofs.Common.{ℕ, ◌<◌, ◌^◌, arith}
use Rattle.std.proofs.lemmas.List.Elements.{All-from_get_or}
use Rattle.xs_io.proofs.lists.words_of.Goals as goal

pub returns-clause-words : goal.returns-clause-words
returns-clause-words c = All-from_get_or (λ (item : ℕ). item < 2 ^ 32) c.args.items.now 0 (λ i within. omega (arith, c.type_inv.items i))
