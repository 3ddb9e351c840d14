use Rattle.std.proofs.Common.{◌≡◌, ◌+◌, length, get_or, sym, ap, subst, ◌∙◌, arith}
use Rattle.std.specs.Prelude.{false}
use Rattle.std.proofs.lemmas.List.{get_or_default}
use Rattle.std.proofs.lemmas.List.FromFn.{length-map-range_with_len}
use Rattle.xs_geometry.specs.SliceLines.{HasLine, row_at}
use Rattle.xs_geometry.proofs.LentRows.{row_lent}
use Rattle.xs_precinct.specs.Bands.{Band, HoldsNumbers, no_band, row_of}
use Rattle.xs_precinct.proofs.Pairs.{all_at}
use Rattle.xs_precinct.proofs.Rows.{PutSoFar, none_put, put_more}
use Rattle.xs_precinct.proofs.read.rows.put_rows.Goals as goal

pub bands-init : goal.bands-init
bands-init c = none_put c.args.kind c.args.rows.now c.args.bands.now c.args.first.band c.args.first.line

pub row_mut-row-requires : goal.row_mut-row-requires
row_mut-row-requires c = (c.bands.invariant.same_lines (c.args.first.band + c.bands.k) c.args.first.line).1 (c.requires.there c.bands.k c.bands-test.true)

pub put_row-requires : goal.put_row-requires
put_row-requires c =
    let k = c.bands.k in
    let is = c.index-bands-k.is ∙ get_or_default c.args.bands.now k c.index-bands-k.result no_band c.bands-test.true in
    let old = c.bands.invariant.later k (omega arith) (c.requires.there k c.bands-test.true) in
    record {
      filled = subst (HoldsNumbers false) (sym is) (all_at (HoldsNumbers false) c.args.bands.now k no_band c.bands-test.true c.requires.filled);
      short = omega (arith, c.requires.short k c.bands-test.true, ap length (c.row_mut-row.ensures.value ∙ old), ap (λ (b : Band). length b.values) is);
    }

pub bands-preserved : goal.bands-preserved
bands-preserved c =
    let k = c.bands.k in
    let band = c.args.first.band + k in
    let line = c.args.first.line in
    let rows = c.bands.rows in
    let row = c.put_row.new.row in
    let there : HasLine rows band line = (c.bands.invariant.same_lines band line).1 (c.requires.there k c.bands-test.true) in
    let is = c.index-bands-k.is ∙ get_or_default c.args.bands.now k c.index-bands-k.result no_band c.bands-test.true in
    let old = c.bands.invariant.later k (omega arith) (c.requires.there k c.bands-test.true) in
    let width : length c.row_mut-row.result.now ≡ length (row_at rows band line) = ap length c.row_mut-row.ensures.value in
    let values = c.put_row.ensures.row ∙ ap (λ (b : Band). row_of c.args.kind b (length c.row_mut-row.result.now)) is ∙ ap (row_of c.args.kind (get_or c.args.bands.now k no_band)) (width ∙ ap length old) in
    let size : length row ≡ length (row_at rows band line) = ap length values ∙ length-map-range_with_len _ 0 (length (row_at c.args.rows.now band line)) ∙ sym (ap length old) in
    subst (λ r. PutSoFar c.args.kind c.args.rows.now r c.args.bands.now c.args.first.band line (k + 1)) (sym (row_lent rows band line row there size))
    (put_more c.args.kind c.args.rows.now rows c.args.bands.now c.args.first.band line k row c.bands.invariant c.bands-test.true c.requires.there values size)
