use Rattle.std.proofs.Common.{◌≡◌, ◌<◌, ◌≤◌, [], length, slice_index_or, ap, ◌∙◌, arith}
use Rattle.std.proofs.lemmas.List.{length-set}
use Rattle.xs_geometry.specs.SliceLines.{rows_held}
use Rattle.xs_rate.specs.Chosen.{content_at, mode_of}
use Rattle.xs_sizes.specs.Precincts.{mode_at}
use Rattle.xs_sizes.specs.Measured.{header_in}
use Rattle.xs_sizes.proofs.Measuring.{kept_there, kept_seen}
use Rattle.xs_sizes.proofs.Sets.{done_more}
use Rattle.xs_sizes.proofs.measure.precinct_modes.Goals as goal

pub kept_of-kept-requires-clause-from : goal.kept_of-kept-requires-clause-from
kept_of-kept-requires-clause-from c = (kept_there c.requires.coding.0 c.requires.coding.1 c.args.precinct c.args.coding.now c.requires.coding.2 c.requires.coding.3).0

pub kept_of-kept-requires-clause-there : goal.kept_of-kept-requires-clause-there
kept_of-kept-requires-clause-there c = (kept_there c.requires.coding.0 c.requires.coding.1 c.args.precinct c.args.coding.now c.requires.coding.2 c.requires.coding.3).1

pub mode_of-requires-clause-there : goal.mode_of-requires-clause-there
mode_of-requires-clause-there c =
    let g = c.args.coding.now.geometry.now in
    let at = c.requires.coding in
    let kept = kept_seen at.0 at.1 c.args.precinct c.args.coding.now c.kept_of-kept.result.now c.kept_of-kept.ensures at.2 at.3 in
    omega (arith, c.bands-test.true, c.bands-band-end.ensures.count, kept.modes.count)

pub bands-preserved : goal.bands-preserved
bands-preserved c =
    let band = c.bands.band in
    let cuts = c.args.cuts.now in
    record {
      size = length-set c.bands.modes band c.mode_of.result ∙ c.bands.invariant.size;
      done = λ slice bands weights candidate coded there. (
          let g = c.args.coding.now.geometry.now in
          let h = header_in c.args.coding.now weights in
          let rows = rows_held bands in
          let kept = kept_seen slice bands c.args.precinct c.args.coding.now c.kept_of-kept.result.now c.kept_of-kept.ensures coded.coded there in
          let inside : band < length c.kept_of-kept.result.now.modes.items = omega (arith, c.bands-test.true, c.bands-band-end.ensures.count, kept.modes.count) in
          let few : slice_index_or cuts band 0 ≤ 15 = c.requires.cuts band 0 (omega (arith, c.bands-test.true, c.bands-band-end.ensures.few, c.told-cuts)) in
          let own : c.mode_of.result ≡ mode_of h (content_at h rows candidate) c.args.precinct band =
          c.mode_of.ensures [] ∙ kept.modes.each band [] inside (slice_index_or cuts band 0) few
          ∙ ap (λ t. mode_at h rows c.args.precinct band t) (coded.truncations band (omega (arith, c.bands-test.true, c.bands-band-end.ensures.count, coded.count))) in
          done_more (λ j mode. mode ≡ mode_of h (content_at h rows candidate) c.args.precinct j) c.bands.modes band c.mode_of.result (omega (arith, c.bands-test.true, c.bands-band-end.ensures.few, c.bands.invariant.size))
          (c.bands.invariant.done slice bands weights candidate coded there) own);
    }

pub returns : goal.returns
returns c slice bands weights candidate coded there band below =
    c.bands.invariant.done slice bands weights candidate coded there band (omega (arith, below, c.bands-test.false, c.bands-band-end.ensures.count))
