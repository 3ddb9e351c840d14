use Rattle.std.proofs.Common.{ℕ, ◌<◌, arith}
use Rattle.std.proofs.lemmas.List.Elements.{All-from_get_or}
use Rattle.xs_io.proofs.lists.bytes_of.Goals as goal

pub returns-clause-bytes : goal.returns-clause-bytes
returns-clause-bytes c = All-from_get_or (λ (item : ℕ). item < 256) c.args.items.now 0 (λ i within. omega (arith, c.type_inv.items i))
