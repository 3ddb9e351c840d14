use Rattle.std.proofs.Common.{◌+◌, take, ◌∷◌, [], ◌++◌, ◌∙◌, sym, ap, subst}
use Rattle.std.proofs.lemmas.List.{take_more}
use Rattle.xs_geometry.specs.SliceLines.{AreLinesOf}
use Rattle.xs_geometry.proofs.WrittenRows.{geometry_kept}
use Rattle.xs_enc_lanes.specs.Rows.{Carried}
use Rattle.xs_enc_lanes.proofs.Putting.{gathered_more, gathered_none}
use Rattle.xs_enc_lanes.proofs.put.put_values.Goals as goal

pub values-init : goal.values-init
values-init c =
    let h = c.args.header.now in
    let lines = (geometry_kept h c.args.slice c.reset.new.self).0 (subst (λ g. AreLinesOf g c.args.slice c.reset.new.self) c.of.ensures c.in_ok-reset.ensures.lines) in
    gathered_none h c.args.slice c.reset.new.self lines c.in_ok-reset.ensures.zeros

pub values-preserved : goal.values-preserved
values-preserved c =
    let all = c.args.values.now in
    let k = c.values.value-index in
    let v = c.value-item.result in
    let e = take_more all k v c.values-test.true ∙ ap (λ (x : Carried). take k all ++ x ∷ []) (sym c.value-item.is) in
    gathered_more c.args.header.now c.args.slice (take k all) (take (k + 1) all) v c.values.rows c.put_value.new.rows e c.values.invariant c.put_value.ensures
