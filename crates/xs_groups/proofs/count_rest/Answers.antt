use Rattle.std.proofs.Common.{◌≡◌, ◌<◌, ◌≤◌, length, map, sym, subst, ◌∙◌, arith}
use Rattle.std.specs.Prelude.{All}
use Rattle.std.proofs.lemmas.List.{take_all}
use Rattle.std.proofs.lemmas.List.Elements.{All-from_recursion}
use Rattle.xs_lists.specs.Spelling.{upto}
use Rattle.xs_signal.specs.Lines.{entries_of}
use Rattle.xs_rate.specs.Content.{planes_of}
use Rattle.xs_groups.proofs.Planes.{counts_more, all_planes}
use Rattle.xs_groups.proofs.count_rest.Goals as goal

pub groups-preserved : goal.groups-preserved
groups-preserved c =
    let inside : c.groups.group < length c.groups.planes = omega (arith, c.groups.auto.planes, c.groups-test.true) in
    record { done = counts_more c.groups.planes (planes_of (entries_of c.args.row.now)) c.groups.group c.planes_at.result inside c.groups.invariant.done c.planes_at.ensures }

pub returns-clause-counts : goal.returns-clause-counts
returns-clause-counts c =
    let row = entries_of c.args.row.now in
    let whole : c.groups.planes ≡ map (planes_of row) (upto c.groups.group) = sym (take_all c.groups.group c.groups.planes (omega (arith, c.groups-test.false, c.groups.auto.planes))) ∙ c.groups.invariant.done in
    subst (λ counts. All (λ count. count ≤ 15) counts) (sym whole) (All-from_recursion (λ count. count ≤ 15) (map (planes_of row) (upto c.groups.group)) (all_planes row 0 c.groups.group))
