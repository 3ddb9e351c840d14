use Rattle.std.proofs.Common.{◌≡◌, ◌∷◌, ◌++◌, [], ap, ◌∙◌, sym, set, get_or}
use Rattle.std.specs.Prelude.{is_ok, if◌then◌else◌}
use Rattle.xs_capture.proofs.Edits.{item_back, item_lent, set_if}
use Rattle.xs_capture.proofs.parts.Parts.add.Goals as goal

pub returns : goal.returns
returns c =
    let now = c.args.self.now in
    let at = c.args.part in
    let list = get_or c.args.self.now c.args.part [] in
    let more = get_or c.args.self.now c.args.part [] ++ c.args.packet ∷ [] in
    let lent : c.index_mut-list.result.now.items ≡ get_or c.args.self.now c.args.part [] =
    item_lent c.self.inside.lists.items c.args.self.now c.args.part c.index_mut-list.result.now c.self.view_is c.requires c.index_mut-list.ensures.value in
    let same : is_ok c.push.result ≡ is_ok c.map_err.result = sym c.map_err.ensures.variant in
    record {
      added =
          item_back c.self.inside.lists.items c.args.self.now c.args.part c.push.new.self c.self.view_is
          ∙ ap (λ l. set c.args.self.now c.args.part l)
          (c.push.ensures.items ∙ ap (λ l. if is_ok c.push.result then l ++ c.args.packet ∷ [] else l) lent ∙ ap (λ b. if b then get_or c.args.self.now c.args.part [] ++ c.args.packet ∷ [] else get_or c.args.self.now c.args.part []) same)
          ∙ set_if (is_ok c.map_err.result) c.args.self.now c.args.part (get_or c.args.self.now c.args.part [] ++ c.args.packet ∷ []) [];
    }
