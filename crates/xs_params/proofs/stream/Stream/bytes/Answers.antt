use Rattle.std.proofs.Common.{◌∙◌, ◌++◌, ap, arith}
use Rattle.xs_params.proofs.Joined.{joined_more}
use Rattle.xs_params.proofs.stream.Stream.bytes.Goals as goal

pub joining-preserved : goal.joining-preserved
joining-preserved c = record {
  items = c.joining.invariant.items;
  joined =
      joined_more c.args.self.now.header c.deref-slice-items.result.now c.joining.slice-index c.joining.bytes c.slice-item.result c.extend.new.self (omega arith) c.slice-item.is
      c.joining.invariant.joined (c.in_ok-extend.ensures.appended ∙ ap (λ l. c.joining.bytes ++ l) c.as_slice-in-joining.ensures.items);
}
