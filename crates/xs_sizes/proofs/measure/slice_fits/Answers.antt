use Rattle.std.proofs.Common.{◌≡◌, ◌+◌, ◌-◌, sum_by, sym, ap, ◌∙◌, arith}
use Rattle.std.specs.Prelude.{◌&&◌, nat_le, true, false}
use Rattle.std.specs.List.{list_all, range_with_len}
use Rattle.xs_geometry.specs.SliceLines.{rows_held}
use Rattle.xs_lists.proofs.Ranges.{range_end, sum_first}
use Rattle.xs_rate.specs.Choice.{precinct_fits_at, precinct_size_at}
use Rattle.xs_rate.specs.Chosen.{fields_fit_at, size_at}
use Rattle.xs_sizes.specs.Measured.{header_in}
use Rattle.xs_sizes.proofs.Measuring.{precinct_in, precincts_are, all_first, over_early, fits_last, passes}
use Rattle.xs_sizes.proofs.measure.slice_fits.Goals as goal

pub precincts-init : goal.precincts-init
precincts-init c = record {
  from = omega arith;
  few = omega arith;
  left = λ bands weights candidate coded.
      ap (λ l. 6 + sum_by (precinct_size_at (header_in c.args.coding.now weights) (rows_held bands) candidate) l)
      (precincts_are c.args.coding.now.geometry.now c.args.slice c.precincts_in-first.result.0 c.precincts_in-first.result.1 c.precincts_in-first.ensures.first c.precincts_in-first.ensures.end);
  fits = λ bands weights candidate coded.
      ap (list_all (precinct_fits_at (header_in c.args.coding.now weights) (rows_held bands) candidate))
      (precincts_are c.args.coding.now.geometry.now c.args.slice c.precincts_in-first.result.0 c.precincts_in-first.result.1 c.precincts_in-first.ensures.first c.precincts_in-first.ensures.end);
}

pub precinct_size-measured-requires-clause-coding : goal.precinct_size-measured-requires-clause-coding
precinct_size-measured-requires-clause-coding c = (
  c.args.slice,
  c.requires.coding.0,
  c.requires.coding.1,
  precinct_in c.args.coding.now.geometry.now c.args.slice c.precincts_in-first.result.0 c.precincts_in-first.result.1 c.precincts.precinct
      c.precincts_in-first.ensures.first c.precincts_in-first.ensures.end c.precincts.invariant.from c.precincts-test.true,
)

pub returns-then-not-both : goal.returns-then-not-both
returns-then-not-both c bands weights candidate coded =
    let h = header_in c.args.coding.now weights in
    let rows = rows_held bands in
    let k = c.precincts.precinct in
    let end = c.precincts_in-first.result.1 in
    let there = precinct_in c.args.coding.now.geometry.now c.args.slice c.precincts_in-first.result.0 end k c.precincts_in-first.ensures.first c.precincts_in-first.ensures.end c.precincts.invariant.from c.precincts-test.true in
    let own = c.precinct_size-measured.ensures.bytes c.args.slice bands weights candidate coded there in
    let fits = c.precinct_size-measured.ensures.fits c.args.slice bands weights candidate coded there in
    let more = sum_first (precinct_size_at h rows candidate) k end c.precincts-test.true in
    let all = all_first (precinct_fits_at h rows candidate) k end c.precincts-test.true in
    let none : c.both.result ≡ false = cc (c.if-not-both.true) in
    over_early c.precinct_size-measured.result.fits_fields (list_all (precinct_fits_at h rows candidate) (range_with_len (k + 1) (end - (k + 1)))) (fields_fit_at h rows c.args.slice candidate)
    (c.precincts.bytes + c.precinct_size-measured.result.bytes) c.args.share (sum_by (precinct_size_at h rows candidate) (range_with_len (k + 1) (end - (k + 1)))) (size_at h rows c.args.slice candidate)
    (sym c.both.ensures ∙ none) (omega (arith, own, more, c.precincts.invariant.left bands weights candidate coded))
    (ap (λ b. b && list_all (precinct_fits_at h rows candidate) (range_with_len (k + 1) (end - (k + 1)))) fits ∙ sym all ∙ c.precincts.invariant.fits bands weights candidate coded)

pub precincts-preserved : goal.precincts-preserved
precincts-preserved c = record {
  from = omega (arith, c.precincts.invariant.from);
  few = omega (arith, c.precincts.invariant.from, c.precincts.invariant.few, c.precinct_size-measured.ensures.few);
  left = λ bands weights candidate coded. (
      let there = precinct_in c.args.coding.now.geometry.now c.args.slice c.precincts_in-first.result.0 c.precincts_in-first.result.1 c.precincts.precinct c.precincts_in-first.ensures.first c.precincts_in-first.ensures.end c.precincts.invariant.from c.precincts-test.true in
      let own = c.precinct_size-measured.ensures.bytes c.args.slice bands weights candidate coded there in
      let more = sum_first (precinct_size_at (header_in c.args.coding.now weights) (rows_held bands) candidate) c.precincts.precinct c.precincts_in-first.result.1 c.precincts-test.true in
      omega (arith, own, more, c.precincts.invariant.left bands weights candidate coded));
  fits = λ bands weights candidate coded. (
      let h = header_in c.args.coding.now weights in
      let rows = rows_held bands in
      let k = c.precincts.precinct in
      let end = c.precincts_in-first.result.1 in
      let there = precinct_in c.args.coding.now.geometry.now c.args.slice c.precincts_in-first.result.0 end k c.precincts_in-first.ensures.first c.precincts_in-first.ensures.end c.precincts.invariant.from c.precincts-test.true in
      let fits = c.precinct_size-measured.ensures.fits c.args.slice bands weights candidate coded there in
      let both : c.both.result ≡ true = cc (c.if-not-both.false) in
      let pass = passes c.precinct_size-measured.result.fits_fields (nat_le (c.precincts.bytes + c.precinct_size-measured.result.bytes) c.args.share) (sym c.both.ensures ∙ both) in
      ap (λ b. b && list_all (precinct_fits_at h rows candidate) (range_with_len (k + 1) (end - (k + 1)))) (sym pass ∙ fits)
      ∙ sym (all_first (precinct_fits_at h rows candidate) k end c.precincts-test.true) ∙ c.precincts.invariant.fits bands weights candidate coded);
}

pub returns : goal.returns
returns c bands weights candidate coded =
    let h = header_in c.args.coding.now weights in
    let rows = rows_held bands in
    let rest = range_end c.precincts.precinct c.precincts_in-first.result.1 (omega (arith, c.precincts-test.false)) in
    fits_last (list_all (precinct_fits_at h rows candidate) (range_with_len c.precincts.precinct (c.precincts_in-first.result.1 - c.precincts.precinct))) (fields_fit_at h rows c.args.slice candidate) c.precincts.bytes c.args.share
    (sum_by (precinct_size_at h rows candidate) (range_with_len c.precincts.precinct (c.precincts_in-first.result.1 - c.precincts.precinct))) (size_at h rows c.args.slice candidate)
    (ap (list_all (precinct_fits_at h rows candidate)) rest) (ap (sum_by (precinct_size_at h rows candidate)) rest) (c.precincts.invariant.left bands weights candidate coded) (c.precincts.invariant.fits bands weights candidate coded)
