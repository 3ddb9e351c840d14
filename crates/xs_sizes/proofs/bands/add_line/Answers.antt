use Rattle.std.proofs.Common.{◌≡◌, length, map, sym, ap, subst, ◌∙◌, arith}
use Rattle.std.proofs.lemmas.List.FromFn.{length-map-range_with_len}
use Rattle.xs_bits.specs.Counts.{AreCounts}
use Rattle.xs_lists.specs.Spelling.{upto}
use Rattle.xs_signal.specs.Lines.{entries_of}
use Rattle.xs_rate.specs.Content.{planes_of}
use Rattle.xs_sizes.specs.LineSizes.{AreLineSizes}
use Rattle.xs_sizes.proofs.Plain.{regular}
use Rattle.xs_sizes.proofs.bands.add_line.Goals as goal

pub line_sizes-line-requires-clause-planes : goal.line_sizes-line-requires-clause-planes
line_sizes-line-requires-clause-planes c =
    let n = length c.args.scratch.now.planes.items in
    let size : length c.fill.new.scratch.planes.items ≡ n = ap length c.fill.ensures.planes ∙ length-map-range_with_len (planes_of (entries_of c.args.row.now)) 0 n in
    let own : length c.as_slice.result.now ≡ n = ap length c.as_slice.ensures.value ∙ size in
    let above : length c.as_slice-2.result.now ≡ length c.args.scratch.now.above.items = ap length (c.as_slice-2.ensures.value ∙ c.fill.ensures.above) in
    record {
      counts = subst (λ l. AreCounts l) (sym c.as_slice.ensures.value) c.fill.ensures.counts;
      above_counts = subst (λ l. AreCounts l) (sym (c.as_slice-2.ensures.value ∙ c.fill.ensures.above)) c.requires.counts;
      above_size = above ∙ c.requires.above ∙ sym own;
      few = omega (arith, own, c.requires.few);
    }

pub line_sizes-line-requires-clause-row : goal.line_sizes-line-requires-clause-row
line_sizes-line-requires-clause-row c =
    let f = planes_of (entries_of c.args.row.now) in
    let n = length c.args.scratch.now.planes.items in
    let seen = c.as_slice.ensures.value ∙ c.fill.ensures.planes in
    seen ∙ ap (λ k. map f (upto k)) (sym (ap length seen ∙ length-map-range_with_len f 0 n))

pub returns-clause-added : goal.returns-clause-added
returns-clause-added c =
    let f = planes_of (entries_of c.args.row.now) in
    let n = length c.args.scratch.now.planes.items in
    let seen = c.as_slice.ensures.value ∙ c.fill.ensures.planes in
    let size : length c.as_slice.result.now ≡ n = ap length seen ∙ length-map-range_with_len f 0 n in
    let above = c.as_slice-2.ensures.value ∙ c.fill.ensures.above in
    record {
      line = c.line_sizes-line.result;
      regular = regular c.as_slice-2.result.now c.as_slice.result.now (entries_of c.args.row.now) c.args.counting.now.signs c.line_sizes-line.result (subst (λ l. AreCounts l) (sym c.as_slice.ensures.value) c.fill.ensures.counts) (omega (arith, size, c.requires.few)) c.line_sizes-line.ensures;
      sizes = subst (λ l. AreLineSizes l (map f (upto n)) (entries_of c.args.row.now) c.args.counting.now.signs c.line_sizes-line.result) above
          (subst (λ l. AreLineSizes c.as_slice-2.result.now l (entries_of c.args.row.now) c.args.counting.now.signs c.line_sizes-line.result) seen c.line_sizes-line.ensures);
      added = c.in_ok-push_line.ensures;
    }

pub rise-requires : goal.rise-requires
rise-requires c =
    let f = planes_of (entries_of c.args.row.now) in
    let n = length c.args.scratch.now.planes.items in
    ap length c.fill.ensures.above ∙ c.requires.above ∙ sym (ap length c.fill.ensures.planes ∙ length-map-range_with_len f 0 n)

pub returns-clause-size : goal.returns-clause-size
returns-clause-size c =
    let f = planes_of (entries_of c.args.row.now) in
    let n = length c.args.scratch.now.planes.items in
    ap length (c.rise.ensures.planes ∙ c.fill.ensures.planes) ∙ length-map-range_with_len f 0 n
