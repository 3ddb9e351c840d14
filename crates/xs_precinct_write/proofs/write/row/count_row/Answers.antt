use Rattle.std.proofs.Common.{◌≡◌, ◌<◌, ◌≤◌, length, map, get_or, sym, ap, subst, ◌∙◌, arith}
use Rattle.std.specs.Prelude.{max, All}
use Rattle.std.proofs.lemmas.List.Elements.{All-from_recursion}
use Rattle.std.proofs.lemmas.List.FromFn.{get_or-map-range_with_len, length-map-range_with_len}
use Rattle.xs_lists.specs.Spelling.{upto}
use Rattle.xs_lists.proofs.Puts.{put_more, put_at, put_end}
use Rattle.xs_signal.specs.Lines.{entries_of}
use Rattle.xs_rate.specs.Content.{planes_of}
use Rattle.xs_precinct_write.specs.Outgoing.{counts_cut}
use Rattle.xs_precinct_write.proofs.Sending.{all_few, all_least}
use Rattle.xs_precinct_write.proofs.write.row.count_row.Goals as goal

pub groups-preserved : goal.groups-preserved
groups-preserved c =
    let row = entries_of c.args.row.now in
    let t = c.args.t in
    let k = c.groups.group in
    let n = length c.count_planes.new.planes in
    let old = map (planes_of row) (upto n) in
    let size : length old ≡ n = length-map-range_with_len (planes_of row) 0 n in
    let within : k < n = omega (arith, c.groups-test.true, c.groups.auto.counts, c.count_planes.auto.planes) in
    let inside : k < length old = omega (arith, within, size) in
    let at : get_or c.groups.counts k 0 ≡ planes_of row k =
    put_at (λ group. max (planes_of row group) t) old c.groups.counts k 0 inside c.groups.invariant.done ∙ get_or-map-range_with_len (planes_of row) 0 n k k 0 within (omega arith) in
    record { done = put_more (λ group. max (planes_of row group) t) old c.groups.counts k c.max.result inside c.groups.invariant.done (c.max.ensures ∙ ap (λ v. max v t) at) }

pub returns-clause-range : goal.returns-clause-range
returns-clause-range c =
    let row = entries_of c.args.row.now in
    let t = c.args.t in
    let n = length c.count_planes.new.planes in
    let old = map (planes_of row) (upto n) in
    let whole : c.groups.counts ≡ counts_cut t row n =
    put_end (λ group. max (planes_of row group) t) old c.groups.counts c.groups.group n (length-map-range_with_len (planes_of row) 0 n) (omega (arith, c.groups-test.false, c.groups.auto.counts, c.groups.auto.group-end, c.count_planes.auto.planes)) c.groups.invariant.done in
    subst (λ l. All (λ count. count ≤ 15) l) (sym whole) (All-from_recursion (λ count. count ≤ 15) (counts_cut t row n) (all_few row t 0 n c.requires.cut))

pub returns-clause-least : goal.returns-clause-least
returns-clause-least c =
    let row = entries_of c.args.row.now in
    let t = c.args.t in
    let n = length c.count_planes.new.planes in
    let old = map (planes_of row) (upto n) in
    let whole : c.groups.counts ≡ counts_cut t row n =
    put_end (λ group. max (planes_of row group) t) old c.groups.counts c.groups.group n (length-map-range_with_len (planes_of row) 0 n) (omega (arith, c.groups-test.false, c.groups.auto.counts, c.groups.auto.group-end, c.count_planes.auto.planes)) c.groups.invariant.done in
    subst (λ l. All (λ count. t ≤ count) l) (sym whole) (All-from_recursion (λ count. t ≤ count) (counts_cut t row n) (all_least row t 0 n))
