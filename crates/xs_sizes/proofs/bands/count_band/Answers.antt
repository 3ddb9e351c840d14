use Rattle.std.proofs.Common.{◌≡◌, ◌+◌, ◌-◌, ◌/◌, ◌≤◌, length, map, sym, ap, subst, ◌∙◌, arith}
use Rattle.std.specs.Prelude.{replicate, slice_index_or, if◌then◌else◌, nat_eq}
use Rattle.std.proofs.lemmas.List.{length-replicate, get_or-replicate}
use Rattle.std.proofs.lemmas.List.Elements.{All-from_recursion}
use Rattle.std.proofs.lemmas.List.FromFn.{length-map-range_with_len, get_or-map-range_with_len}
use Rattle.xs_bits.specs.Counts.{AreCounts}
use Rattle.xs_layout.specs.Geometry.{groups_of}
use Rattle.xs_lists.specs.Spelling.{upto}
use Rattle.xs_params.specs.Geometry.{band_width_of}
use Rattle.xs_geometry.specs.SliceLines.{HasLine, lines_at, rows_held}
use Rattle.xs_signal.specs.Lines.{entries_of}
use Rattle.xs_rate.specs.Content.{planes_of}
use Rattle.xs_groups.proofs.Planes.{all_planes}
use Rattle.xs_sizes.specs.Counted.{AreBandSizes}
use Rattle.xs_sizes.specs.LineSizes.{AreAdded}
use Rattle.xs_sizes.proofs.Plain.{zeros_few}
use Rattle.xs_sizes.proofs.Added.{band_start, first_zero, next_planes, row_added}
use Rattle.xs_sizes.proofs.bands.count_band.Goals as goal

pub lines-init : goal.lines-init
lines-init c =
    let n = (c.band_width.result + 3) / 4 in
    let first = c.lines-first.result.0 in
    record {
      from = omega arith;
      size = ap length c.in_ok-reset.ensures.planes ∙ length-replicate n 0;
      above_size = ap length c.in_ok-reset.ensures.above ∙ length-replicate n 0;
      above_counts = subst (λ l. AreCounts l) (sym c.in_ok-reset.ensures.above) (All-from_recursion (λ count. count ≤ 15) (replicate n 0) (zeros_few n));
      above = λ group inside. ap (λ l. slice_index_or l group 0) c.in_ok-reset.ensures.above ∙ get_or-replicate n group 0 0 inside ∙ sym (first_zero first (planes_of (rows_held c.args.counting.now.rows.now c.args.band (first - 1)) group));
      lines = band_start c.args.counting.now.geometry.now (rows_held c.args.counting.now.rows.now) c.args.counting.now.signs c.args.band first c.args.room.items c.requires.empty;
    }

pub lines-preserved : goal.lines-preserved
lines-preserved c =
    let n = (c.band_width.result + 3) / 4 in
    let bands = c.args.counting.now.rows.now in
    let h = c.args.counting.now.geometry.now in
    let band = c.args.band in
    let line = c.lines.line in
    let first = c.lines-first.result.0 in
    let f = planes_of (rows_held bands band line) in
    let old = length c.lines.scratch.planes.items in
    let lines = c.requires.lines.1 in
    let has : HasLine bands band line = record { band_there = omega (arith, c.requires.band, lines.count); from = omega (arith, c.lines.invariant.from, c.lines-first.ensures.first); line_there = omega (arith, c.lines-test.true, c.lines-first.ensures.end) } in
    let groups : n ≡ groups_of (band_width_of h band) = (let up : c.band_width.result + 3 ≡ band_width_of h band + 4 - 1 = omega (arith, c.band_width.ensures.columns) in ap (λ k. k / 4) up) in
    let above : c.add_line.new.scratch.above.items ≡ map f (upto n) =
    c.in_ok-add_line.ensures.above ∙ ap (λ r. map (planes_of (entries_of r)) (upto old)) c.row.ensures ∙ ap (λ k. map f (upto k)) c.lines.invariant.size in
    record {
      from = omega (arith, c.lines.invariant.from);
      size = c.in_ok-add_line.ensures.size ∙ c.lines.invariant.size;
      above_size = ap length above ∙ length-map-range_with_len f 0 n;
      above_counts = subst (λ l. AreCounts l) (sym above) (All-from_recursion (λ count. count ≤ 15) (map f (upto n)) (all_planes (rows_held bands band line) 0 n));
      above = λ group inside. (let none : 0 + group ≡ group = omega arith in let back : line ≡ line + 1 - 1 = omega arith in
          next_planes first line _ _ c.lines.invariant.from (ap (λ l. slice_index_or l group 0) above ∙ get_or-map-range_with_len f 0 n group group 0 inside none ∙ ap (λ k. planes_of (rows_held bands band k) group) back));
      lines = subst (λ k. AreBandSizes h (rows_held bands) c.args.counting.now.signs band k (line + 1) c.add_line.new.lines.items) (sym c.lines-first.ensures.first)
          (row_added h c.requires.lines.0 bands band line n c.args.counting.now.signs c.lines.scratch.above.items c.lines.lines.items c.add_line.new.lines.items lines has groups
          (λ group inside. subst (λ k. slice_index_or c.lines.scratch.above.items group 0 ≡ (if nat_eq line k then 0 else planes_of (rows_held bands band (line - 1)) group)) c.lines-first.ensures.first (c.lines.invariant.above group inside))
          (subst (λ k. AreAdded c.lines.scratch.above.items (map f (upto k)) (rows_held bands band line) c.args.counting.now.signs c.lines.lines.items c.add_line.new.lines.items) c.lines.invariant.size
          (subst (λ r. AreAdded c.lines.scratch.above.items (map (planes_of (entries_of r)) (upto old)) (entries_of r) c.args.counting.now.signs c.lines.lines.items c.add_line.new.lines.items) c.row.ensures c.in_ok-add_line.ensures.added))
          (subst (λ k. AreBandSizes h (rows_held bands) c.args.counting.now.signs band k line c.lines.lines.items) c.lines-first.ensures.first c.lines.invariant.lines));
    }

pub returns : goal.returns
returns c =
    let h = c.args.counting.now.geometry.now in
    let bands = c.args.counting.now.rows.now in
    let band = c.args.band in
    let n = (c.band_width.result + 3) / 4 in
    let groups : n ≡ groups_of (band_width_of h band) = (let up : c.band_width.result + 3 ≡ band_width_of h band + 4 - 1 = omega (arith, c.band_width.ensures.columns) in ap (λ k. k / 4) up) in
    let flags : n + 7 ≡ groups_of (band_width_of h band) + 8 - 1 = omega (arith, groups) in
    let end : c.lines.line ≡ (lines_at bands band).first + length (lines_at bands band).rows = omega (arith, c.lines-test.false, c.lines.auto.line-end, c.lines.invariant.from, c.lines-first.ensures.first, c.lines-first.ensures.end) in
    record {
      first = c.lines-first.ensures.first;
      flags = ap (λ k. k / 8) flags;
      lines = subst (λ k. AreBandSizes h (rows_held bands) c.args.counting.now.signs band k ((lines_at bands band).first + length (lines_at bands band).rows) c.lines.lines.items) c.lines-first.ensures.first
          (subst (λ k. AreBandSizes h (rows_held bands) c.args.counting.now.signs band c.lines-first.result.0 k c.lines.lines.items) end c.lines.invariant.lines);
    }
