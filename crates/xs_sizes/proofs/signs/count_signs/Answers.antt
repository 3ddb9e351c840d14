use Rattle.std.proofs.Common.{◌≡◌, ◌+◌, ◌^◌, ◌<◌, map, length, refl, sym, ap, subst, ◌∙◌, arith}
use Rattle.std.specs.Prelude.{All, nat_lt, count_by, if◌then◌else◌, slice_index_or, unsigned_abs}
use Rattle.std.proofs.lemmas.List.Elements.{All-from_recursion}
use Rattle.std.proofs.lemmas.List.FromFn.{get_or-map-range_with_len}
use Rattle.xs_signal.specs.Lines.{entries_of}
use Rattle.xs_signal.specs.Quantiser.{quantised}
use Rattle.xs_spelling.specs.Data.{columns_of}
use Rattle.xs_rate.specs.Content.{planes_of}
use Rattle.xs_groups.proofs.Planes.{planes_most}
use Rattle.xs_sizes.proofs.Sent.{group_room, group_more}
use Rattle.xs_sizes.proofs.signs.count_signs.Goals as goal

pub ends_of-ends-requires-clause-count : goal.ends_of-ends-requires-clause-count
ends_of-ends-requires-clause-count c =
    let row = entries_of c.args.row.now in
    let group = c.groups.group in
    let none : 0 + group ≡ group = omega arith in
    let at : slice_index_or c.args.planes.now group 0 ≡ planes_of row group = ap (λ l. slice_index_or l group 0) c.requires.planes ∙ get_or-map-range_with_len (planes_of row) 0 (length c.args.planes.now) group group 0 c.groups-test.true none in
    omega (arith, at, planes_most row group)

pub ends_of-ends-requires-clause-small : goal.ends_of-ends-requires-clause-small
ends_of-ends-requires-clause-small c =
    let row = entries_of c.args.row.now in
    let group = c.groups.group in
    let none : 0 + group ≡ group = omega arith in
    let at : slice_index_or c.args.planes.now group 0 ≡ planes_of row group = ap (λ l. slice_index_or l group 0) c.requires.planes ∙ get_or-map-range_with_len (planes_of row) 0 (length c.args.planes.now) group group 0 c.groups-test.true none in
    let own = map (λ column. unsigned_abs (row column)) (columns_of group) in
    subst (λ l. All (λ x. x < 2 ^ slice_index_or c.args.planes.now group 0) l) (sym c.magnitudes_at.ensures)
    (subst (λ k. All (λ x. x < 2 ^ k) own) (sym at) (All-from_recursion (λ x. x < 2 ^ planes_of row group) own (group_room row group c.requires.small)))

pub groups-preserved : goal.groups-preserved
groups-preserved c =
    let kind = c.args.kind in
    let row = entries_of c.args.row.now in
    let group = c.groups.group in
    let n = length c.args.planes.now in
    let count = slice_index_or c.args.planes.now group 0 in
    let none : 0 + group ≡ group = omega arith in
    let at : count ≡ planes_of row group = ap (λ l. slice_index_or l group 0) c.requires.planes ∙ get_or-map-range_with_len (planes_of row) 0 n group group 0 c.groups-test.true none in
    record {
      signs = λ t le. (
          let own = c.ends_of-ends.ensures.ends t ∙ ap (λ l. if nat_lt t count then count_by (λ number. nat_lt 0 number) (map (quantised kind count t) l) else 0) c.magnitudes_at.ensures in
          let more = group_more kind row n t group count (slice_index_or c.groups.sizes t 0) (count_by (λ end. nat_lt t end) c.ends_of-ends.result) (nat_lt t count) at refl c.groups-test.true own (c.groups.invariant.signs t le) in
          omega (arith, more, c.add_signs.ensures t le));
      few = λ t le. omega (arith, c.add_signs.ensures t le, c.groups.invariant.few t le, c.ends_of-ends.ensures.few t);
    }
