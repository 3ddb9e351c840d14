use Rattle.std.proofs.Common.{◌≡◌, ◌+◌, ◌*◌, ◌/◌, ◌<◌, ◌≤◌, length, ap, ◌∙◌, arith}
use Rattle.std.specs.Prelude.{slice_index_or}
use Rattle.xs_lists.proofs.Puts.{put_end, put_more, put_to}
use Rattle.xs_quant.specs.Rows.{factor_of, raised}
use Rattle.xs_quant.proofs.Steps.{step_fits, step_is}
use Rattle.xs_quant.proofs.rows.raise_to_steps.Goals as goal

pub put_step-requires-clause-product : goal.put_step-requires-clause-product
put_step-requires-clause-product c =
    let g = c.groups.group in
    let counts = c.args.counts.now in
    let whole = c.groups-test.true in
    let there : 4 * g < length c.args.values.now = omega (arith, whole, c.groups.auto.group-end) in
    let back : g ≡ 4 * g / 4 = omega arith in
    let size = c.requires.sent.size in
    let range : slice_index_or counts g 0 ≤ 15 = c.requires.sent.range g (omega (arith, there, size)) in
    step_fits c.args.by counts c.args.values.now (4 * g) _ c.requires.sent there (c.factors_of-factors.ensures (slice_index_or counts g 0) range ∙ ap (λ n. factor_of c.args.by.t (slice_index_or counts n 0)) back)

pub put_step-requires-in-groups-clause-product : goal.put_step-requires-in-groups-clause-product
put_step-requires-in-groups-clause-product c =
    let g = c.groups.group in
    let counts = c.args.counts.now in
    let whole = c.groups-test.true in
    let there : 4 * g + 1 < length c.args.values.now = omega (arith, whole, c.groups.auto.group-end) in
    let back : g ≡ (4 * g + 1) / 4 = omega arith in
    let size = c.requires.sent.size in
    let range : slice_index_or counts g 0 ≤ 15 = c.requires.sent.range g (omega (arith, there, size)) in
    step_fits c.args.by counts c.args.values.now (4 * g + 1) _ c.requires.sent there (c.factors_of-factors.ensures (slice_index_or counts g 0) range ∙ ap (λ n. factor_of c.args.by.t (slice_index_or counts n 0)) back)

pub put_step-requires-in-groups-2-clause-product : goal.put_step-requires-in-groups-2-clause-product
put_step-requires-in-groups-2-clause-product c =
    let g = c.groups.group in
    let counts = c.args.counts.now in
    let whole = c.groups-test.true in
    let there : 4 * g + 2 < length c.args.values.now = omega (arith, whole, c.groups.auto.group-end) in
    let back : g ≡ (4 * g + 2) / 4 = omega arith in
    let size = c.requires.sent.size in
    let range : slice_index_or counts g 0 ≤ 15 = c.requires.sent.range g (omega (arith, there, size)) in
    step_fits c.args.by counts c.args.values.now (4 * g + 2) _ c.requires.sent there (c.factors_of-factors.ensures (slice_index_or counts g 0) range ∙ ap (λ n. factor_of c.args.by.t (slice_index_or counts n 0)) back)

pub put_step-requires-in-groups-3-clause-product : goal.put_step-requires-in-groups-3-clause-product
put_step-requires-in-groups-3-clause-product c =
    let g = c.groups.group in
    let counts = c.args.counts.now in
    let whole = c.groups-test.true in
    let there : 4 * g + 3 < length c.args.values.now = omega (arith, whole, c.groups.auto.group-end) in
    let back : g ≡ (4 * g + 3) / 4 = omega arith in
    let size = c.requires.sent.size in
    let range : slice_index_or counts g 0 ≤ 15 = c.requires.sent.range g (omega (arith, there, size)) in
    step_fits c.args.by counts c.args.values.now (4 * g + 3) _ c.requires.sent there (c.factors_of-factors.ensures (slice_index_or counts g 0) range ∙ ap (λ n. factor_of c.args.by.t (slice_index_or counts n 0)) back)

pub groups-preserved : goal.groups-preserved
groups-preserved c =
    let g = c.groups.group in
    let by = c.args.by in
    let counts = c.args.counts.now in
    let values = c.args.values.now in
    let old = c.args.row.now in
    let f = raised by counts values in
    let whole = c.groups-test.true in
    let last : 4 * g + 3 < length values = omega (arith, whole, c.groups.auto.group-end) in
    let size = c.requires.sent.size in
    let range : slice_index_or counts g 0 ≤ 15 = c.requires.sent.range g (omega (arith, last, size)) in
    let factor = c.factors_of-factors.ensures (slice_index_or counts g 0) range in
    let zero : g ≡ 4 * g / 4 = omega arith in
    let one : g ≡ (4 * g + 1) / 4 = omega arith in
    let two : g ≡ (4 * g + 2) / 4 = omega arith in
    let three : g ≡ (4 * g + 3) / 4 = omega arith in
    let end : 4 * g + 3 + 1 ≡ 4 * (g + 1) = omega arith in
    let width = c.requires.width in
    let a = c.put_step.ensures ∙ put_more f old c.groups.row (4 * g) _ (omega (arith, last, width)) c.groups.invariant
    (step_is by counts values (4 * g) _ c.requires.sent (omega (arith, last)) (factor ∙ ap (λ n. factor_of by.t (slice_index_or counts n 0)) zero) c.requires.kind) in
    let b = c.put_step-in-groups.ensures ∙ put_more f old c.put_step.new.row (4 * g + 1) _ (omega (arith, last, width)) a
    (step_is by counts values (4 * g + 1) _ c.requires.sent (omega (arith, last)) (factor ∙ ap (λ n. factor_of by.t (slice_index_or counts n 0)) one) c.requires.kind) in
    let d = c.put_step-in-groups-2.ensures ∙ put_more f old c.put_step-in-groups.new.row (4 * g + 2) _ (omega (arith, last, width)) (b ∙ ap (put_to f old) (let e : 4 * g + 1 + 1 ≡ 4 * g + 2 = omega arith in e))
    (step_is by counts values (4 * g + 2) _ c.requires.sent (omega (arith, last)) (factor ∙ ap (λ n. factor_of by.t (slice_index_or counts n 0)) two) c.requires.kind) in
    c.put_step-in-groups-3.ensures ∙ put_more f old c.put_step-in-groups-2.new.row (4 * g + 3) _ (omega (arith, last, width)) (d ∙ ap (put_to f old) (let e : 4 * g + 2 + 1 ≡ 4 * g + 3 = omega arith in e))
    (step_is by counts values (4 * g + 3) _ c.requires.sent last (factor ∙ ap (λ n. factor_of by.t (slice_index_or counts n 0)) three) c.requires.kind) ∙ ap (put_to f old) end

pub put_step-requires-in-rest-clause-product : goal.put_step-requires-in-rest-clause-product
put_step-requires-in-rest-clause-product c =
    let k = c.rest.column in
    let counts = c.args.counts.now in
    let there : k < length c.args.values.now = omega (arith, c.rest-test.true, c.rest.auto.column-end) in
    let size = c.requires.sent.size in
    let range : slice_index_or counts (k / 4) 0 ≤ 15 = c.requires.sent.range (k / 4) (omega (arith, there, size)) in
    step_fits c.args.by counts c.args.values.now k _ c.requires.sent there (c.factors_of-factors.ensures (slice_index_or counts (k / 4) 0) range)

pub rest-preserved : goal.rest-preserved
rest-preserved c =
    let k = c.rest.column in
    let counts = c.args.counts.now in
    let values = c.args.values.now in
    let there : k < length values = omega (arith, c.rest-test.true, c.rest.auto.column-end) in
    let size = c.requires.sent.size in
    let range : slice_index_or counts (k / 4) 0 ≤ 15 = c.requires.sent.range (k / 4) (omega (arith, there, size)) in
    let width = c.requires.width in
    c.put_step-in-rest.ensures ∙ put_more (raised c.args.by counts values) c.args.row.now c.rest.row k _ (omega (arith, there, width)) c.rest.invariant
    (step_is c.args.by counts values k _ c.requires.sent there (c.factors_of-factors.ensures (slice_index_or counts (k / 4) 0) range) c.requires.kind)

pub returns : goal.returns
returns c =
    put_end (raised c.args.by c.args.counts.now c.args.values.now) c.args.row.now c.rest.row c.rest.column (length c.args.values.now) c.requires.width (omega (arith, c.rest-test.false, c.rest.auto.column, c.rest.auto.column-end)) c.rest.invariant
