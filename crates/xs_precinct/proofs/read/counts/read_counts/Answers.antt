use Rattle.std.proofs.Common.{◌≡◌, ℕ, ◌<◌, [], List, length, drop, get_or, refl, sym, ap, subst, ◌∙◌, arith}
use Rattle.std.proofs.Math.Seq.{drop-nil}
use Rattle.std.proofs.lemmas.List.{length-drop}
use Rattle.std.proofs.lemmas.List.Sums.{sum_by-drop_more}
use Rattle.std.proofs.lemmas.Result.{err_from_is_err_and}
use Rattle.xs_bits.specs.Reading.{left}
use Rattle.xs_lists.specs.Bits.{bits_of_bytes}
use Rattle.xs_lists.proofs.Bits.{length-bits_of_bytes}
use Rattle.xs_precinct.specs.Bands.{Band, Follows, flags_of, no_band}
use Rattle.xs_precinct.proofs.Fields.{left_all}
use Rattle.xs_precinct.proofs.Pairs.{element, later_more, pairs_more}
use Rattle.xs_precinct.proofs.Coded.{CountsSoFar, no_counts, counts_more, counts_stop, counts_end}
use Rattle.xs_precinct.proofs.read.counts.read_counts.Goals as goal

pub bands-init : goal.bands-init
bands-init c =
    let flags = left_all c.new-flags.result c.args.significance.now c.new-flags.ensures.bits c.new-flags.ensures.start in
    let input = left_all c.new-input.result c.args.counts.now c.new-input.ensures.bits c.new-input.ensures.start in
    record {
      later = refl;
      follow = tt;
      raw = λ e. flags ∙ ap bits_of_bytes (c.requires.raw e);
      there = λ e. omega (arith, ap length flags, length-bits_of_bytes c.args.significance.now, c.requires.there e);
      read = λ lines known.
          subst (λ f. CountsSoFar c.args.form.raw c.args.form.run_mode lines c.args.bands.now (bits_of_bytes c.args.significance.now) (bits_of_bytes c.args.counts.now) f (left c.new-input.result) 0) (sym flags)
          (subst (λ b. CountsSoFar c.args.form.raw c.args.form.run_mode lines c.args.bands.now (bits_of_bytes c.args.significance.now) (bits_of_bytes c.args.counts.now) (bits_of_bytes c.args.significance.now) b 0) (sym input)
          (no_counts c.args.form.raw c.args.form.run_mode lines c.args.bands.now (bits_of_bytes c.args.significance.now) (bits_of_bytes c.args.counts.now)));
    }

pub returns-in_err-read_counts-clause-refused : goal.returns-in_err-read_counts-clause-refused
returns-in_err-read_counts-clause-refused c =
    let p = err_from_is_err_and c.from_residual.result c.from_residual.ensures.1 in
    let here : c.bands.k < length c.args.bands.now = omega (arith, c.bands-test.true, c.bands.auto.bands) in
    let there : c.bands.k < length c.bands.bands = omega (arith, c.bands-test.true, c.bands.auto.bands) in
    rw (p.1, p.2) (λ lines known.
    counts_stop c.args.form.raw c.args.form.run_mode c.args.bands.now c.bands.bands c.bands.k (get_or c.bands.bands c.bands.k c.index-bands-k.result) c.in_err-read_counts.field-0.0 lines (bits_of_bytes c.args.significance.now) (bits_of_bytes c.args.counts.now) (left c.bands.flags) (left c.bands.input) here
    (element c.args.bands.now c.bands.bands c.bands.k c.index-bands-k.result no_band there c.bands.invariant.later) known c.in_err-read_counts.ensures.refused (c.bands.invariant.read lines known))

pub bands-preserved : goal.bands-preserved
bands-preserved c =
    let init = c.args.bands.now in
    let bands = c.bands.bands in
    let k = c.bands.k in
    let old = get_or bands k c.index-bands-k.result in
    let b = c.read_counts.new.self in
    let here : k < length init = omega (arith, c.bands-test.true, c.bands.auto.bands) in
    let there : k < length bands = omega (arith, c.bands-test.true, c.bands.auto.bands) in
    let is = element init bands k c.index-bands-k.result no_band there c.bands.invariant.later in
    record {
      later = later_more init bands k b c.bands.invariant.later;
      follow = pairs_more Follows init bands k no_band b here there c.bands.invariant.follow (subst (λ (o : Band). Follows o b) is c.in_ok-read_counts.ensures.follows);
      raw = λ e. c.in_ok-read_counts.ensures.flags ∙ ap (drop (flags_of old)) (c.bands.invariant.raw e) ∙ none (flags_of old);
      there = λ e. omega (arith, c.bands.invariant.there e, sum_by-drop_more flags_of init k no_band here, ap flags_of is, ap length c.in_ok-read_counts.ensures.flags, length-drop (flags_of old) (left c.bands.flags));
      read = λ lines known. counts_more c.args.form.raw c.args.form.run_mode init bands k old b lines (bits_of_bytes c.args.significance.now) (bits_of_bytes c.args.counts.now) (left c.bands.flags) (left c.bands.input)
          (left c.read_counts.new.flags) (left c.read_counts.new.input) here there is known c.in_ok-read_counts.ensures.read c.in_ok-read_counts.ensures.flags c.in_ok-read_counts.ensures.follows (c.bands.invariant.read lines known);
    }
  where
    none : (n : ℕ) → ◌≡◌ {A = List ℕ} (drop n []) []
    none n = drop-nil n

pub returns-clause-read : goal.returns-clause-read
returns-clause-read c = λ lines known.
    counts_end c.args.form.raw c.args.form.run_mode c.args.bands.now c.bands.bands c.bands.k lines (bits_of_bytes c.args.significance.now) (bits_of_bytes c.args.counts.now) (left c.bands.flags) (left c.bands.input)
    (omega (arith, c.bands-test.false, c.bands.auto.bands)) (omega (arith, c.bands-test.false, c.bands.auto.bands)) known (c.bands.invariant.read lines known)
