use Rattle.std.proofs.Common.{Option, List, ℕ, subst}
use Rattle.std.specs.Fmt.{DisplaysOnOk}
use Rattle.xs_notes.proofs.Codes.{code_text}
use Rattle.xs_notes.proofs.texts.CodeDisplay.fmt.Goals as goal

pub returns-clause-writes : goal.returns-clause-writes
returns-clause-writes g c =
    let text = code_text c.in_radix.result c.in_radix-2.result c.laid_out.result c.laid_out-2.result c.to_be_bytes.result c.args.self.now.0 c.to_be_bytes.ensures c.in_radix.ensures c.laid_out.ensures c.in_radix-2.ensures c.laid_out-2.ensures in
    subst (λ (o : Option (List ℕ)). DisplaysOnOk g.W.Write.write_str_gives c.args.f.now c.write.result o c.write.new.self) text c.write.ensures.writes
