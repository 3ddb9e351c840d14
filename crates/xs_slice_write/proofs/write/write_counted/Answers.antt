use Rattle.std.proofs.Common.{◌≡◌, ◌<◌, sym, ap, subst, ◌∙◌}
use Rattle.std.specs.Prelude.{true}
use Rattle.std.specs.List.{Contains}
use Rattle.xs_params.specs.Geometry.{precincts_of, slice_count}
use Rattle.xs_geometry.specs.SliceLines.{AreLinesOf, rows_held}
use Rattle.xs_grammar.specs.Coded.{precinct_fits, slice_bytes}
use Rattle.xs_rate.specs.Chosen.{content_at, mode_of}
use Rattle.xs_slice_write.specs.Written.{last_filler}
use Rattle.xs_slice_write.proofs.Pieces.{kept_of}
use Rattle.xs_slice_write.proofs.Sliced.{slice_fits, written_slice}
use Rattle.xs_slice_write.proofs.write.write_counted.Goals as goal

pub plan_slice-requires-clause-kept : goal.plan_slice-requires-clause-kept
plan_slice-requires-clause-kept c = (c.args.wanted.now.rows.now, kept_of c.args.counted.now c.args.wanted.now c.requires.counted)

pub write_precincts-requires-clause-rows : goal.write_precincts-requires-clause-rows
write_precincts-requires-clause-rows c =
    let k = c.requires.counted in
    let h = c.args.counted.now.header.now in
    let is = c.in-Ok.ensures.planned c.args.wanted.now.rows.now (kept_of c.args.counted.now c.args.wanted.now k) in
    record { accepted = k.accepted; heads = k.heads; geometry = k.geometry; lines = subst (λ n. AreLinesOf h n c.args.wanted.now.rows.now) (sym is.slice) k.lines; small = k.small }

pub write_precincts-requires-clause-slice : goal.write_precincts-requires-clause-slice
write_precincts-requires-clause-slice c =
    let k = c.requires.counted in
    let is = c.in-Ok.ensures.planned c.args.wanted.now.rows.now (kept_of c.args.counted.now c.args.wanted.now k) in
    subst (λ n. n < slice_count c.args.counted.now.header.now) (sym is.slice) k.slice

pub write_precincts-requires-clause-fits : goal.write_precincts-requires-clause-fits
write_precincts-requires-clause-fits c = λ precinct there.
    (let k = c.requires.counted in
    let h = c.args.counted.now.header.now in
    let rows = rows_held c.args.wanted.now.rows.now in
    let plan = c.in-Ok.plan in
    let is = c.in-Ok.ensures.planned c.args.wanted.now.rows.now (kept_of c.args.counted.now c.args.wanted.now k) in
    subst (λ n. precinct_fits h (content_at h rows plan.candidate) (mode_of h (content_at h rows plan.candidate)) (last_filler h n plan.filler) precinct ≡ true) (sym is.slice)
    (slice_fits h rows c.args.wanted.now.share c.args.wanted.now.slice c.args.wanted.now.fill plan.candidate plan.filler k.accepted k.heads k.gains k.small c.requires.share is.chosen is.filler precinct
    (subst (λ n. Contains (precincts_of h n) precinct) is.slice there)))

pub returns-in-Ok-write_precincts-clause-written : goal.returns-in-Ok-write_precincts-clause-written
returns-in-Ok-write_precincts-clause-written c =
    let k = c.requires.counted in
    let h = c.args.counted.now.header.now in
    let rows = rows_held c.args.wanted.now.rows.now in
    let plan = c.in-Ok.plan in
    let is = c.in-Ok.ensures.planned c.args.wanted.now.rows.now (kept_of c.args.counted.now c.args.wanted.now k) in
    written_slice h rows c.args.wanted.now.share c.args.wanted.now.slice c.args.wanted.now.fill plan.candidate plan.filler c.in-Ok-write_precincts.bytes is.chosen is.filler
    (c.in-Ok-write_precincts.ensures.whole ∙ ap (λ n. slice_bytes h (content_at h rows plan.candidate) (mode_of h (content_at h rows plan.candidate)) (last_filler h n plan.filler) n) is.slice)

pub returns-in-Err-clause-refused : goal.returns-in-Err-clause-refused
returns-in-Err-clause-refused c = c.in-Err.ensures.refused c.args.wanted.now.rows.now (kept_of c.args.counted.now c.args.wanted.now c.requires.counted)
