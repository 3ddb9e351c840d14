use Rattle.std.proofs.Common.{◌<◌, ◌/◌, ◌^◌, length, sym, ap, ◌∙◌, arith}
use Rattle.std.specs.Prelude.{pos, neg_ℤ, ◌*ℤ◌, if◌then◌else◌, slice_index_or, unsigned_abs}
use Rattle.std.specs.Int.{is_negative}
use Rattle.xs_layout.specs.declared.Quant.TheVariants.{DeadZone}
use Rattle.xs_lists.proofs.Puts.{put_more, put_end}
use Rattle.xs_signal.specs.Quantiser.{dead_zone_back, dequantised}
use Rattle.xs_quant.specs.Rows.{raised}
use Rattle.xs_quant.proofs.Raised.{back_fits, by_middle, small_within}
use Rattle.xs_quant.proofs.rows.raise_to_middles.Goals as goal

pub middle-middle-requires-clause-small : goal.middle-middle-requires-clause-small
middle-middle-requires-clause-small c =
    let k = c.columns.column in
    let range = c.requires.sent.range (k / 4) (omega (arith, c.columns-test.true, c.requires.sent.size)) in
    let small = small_within (slice_index_or c.args.counts.now (k / 4) 0) c.args.by.t (unsigned_abs (slice_index_or c.args.values.now k (pos 0))) range (c.requires.sent.small k c.columns-test.true) in
    omega (arith, c.magnitude_at.ensures, small)

pub shifted-requires-clause-magnitude : goal.shifted-requires-clause-magnitude
shifted-requires-clause-magnitude c =
    let k = c.columns.column in
    let range = c.requires.sent.range (k / 4) (omega (arith, c.columns-test.true, c.requires.sent.size)) in
    let z = slice_index_or c.args.values.now k (pos 0) in
    let small = small_within (slice_index_or c.args.counts.now (k / 4) 0) c.args.by.t (unsigned_abs z) range (c.requires.sent.small k c.columns-test.true) in
    let most = c.requires.sent.most in
    let fits = back_fits DeadZone 15 c.args.by.t (unsigned_abs z) most (omega arith) small in
    omega (arith, c.middle-middle.ensures, ap (dead_zone_back c.args.by.t) c.magnitude_at.ensures, fits)

pub columns-preserved : goal.columns-preserved
columns-preserved c =
    let k = c.columns.column in
    let z = slice_index_or c.args.values.now k (pos 0) in
    let inside : k < length c.args.row.now = omega (arith, c.columns-test.true, c.requires.width) in
    let value = ap (λ test. if test then neg_ℤ (pos c.shifted.result) else pos c.shifted.result) c.is_below_zero.ensures
    ∙ ap (λ m. if is_negative z then neg_ℤ (pos m) else pos m) c.shifted.ensures.value
    ∙ by_middle (slice_index_or c.args.counts.now (k / 4) 0) c.args.by.t (2 ^ c.args.by.fq) z c.middle-middle.result (c.requires.sent.small k c.columns-test.true) (c.middle-middle.ensures ∙ ap (dead_zone_back c.args.by.t) c.magnitude_at.ensures)
    ∙ ap (λ kind. dequantised kind (slice_index_or c.args.counts.now (k / 4) 0) c.args.by.t z *ℤ pos (2 ^ c.args.by.fq)) (sym c.requires.kind) in
    c.put_signed.ensures ∙ put_more (raised c.args.by c.args.counts.now c.args.values.now) c.args.row.now c.columns.row k _ inside c.columns.invariant value

pub returns : goal.returns
returns c =
    put_end (raised c.args.by c.args.counts.now c.args.values.now) c.args.row.now c.columns.row c.columns.column (length c.args.values.now) c.requires.width (omega (arith, c.columns-test.false, c.columns.auto.column-end)) c.columns.invariant
