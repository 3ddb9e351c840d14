use Rattle.std.proofs.Common.{◌<◌, length, get_or, refl, sym, subst, arith}
use Rattle.std.specs.Prelude.{true, false}
use Rattle.std.proofs.lemmas.Result.{err_from_is_err_and}
use Rattle.xs_bits.specs.Reading.{left}
use Rattle.xs_lists.specs.Bits.{bits_of_bytes}
use Rattle.xs_lists.proofs.Bits.{length-bits_of_bytes}
use Rattle.xs_planes.specs.Numbers.{signed_in}
use Rattle.xs_precinct.specs.Bands.{Band, HoldsNumbers, SameCoded, no_band}
use Rattle.xs_precinct.proofs.Fields.{left_all}
use Rattle.xs_precinct.proofs.Pairs.{all_at, all_done, element, later_more, pairs_more}
use Rattle.xs_precinct.proofs.Numbered.{SignsSoFar, no_signs, signs_more, signs_ended, signs_end, same_coded}
use Rattle.xs_precinct.proofs.read.data.read_signs.Goals as goal

pub bands-init : goal.bands-init
bands-init c = record {
  later = refl;
  coded = tt;
  filled = tt;
  read = λ lines held. subst (λ b. SignsSoFar lines c.args.bands.now (bits_of_bytes c.args.bytes.now) b 0) (sym (left_all c.new-input.result c.args.bytes.now c.new-input.ensures.bits c.new-input.ensures.start)) (no_signs lines c.args.bands.now (bits_of_bytes c.args.bytes.now));
}

pub read_signs-requires : goal.read_signs-requires
read_signs-requires c =
    let here : c.bands.k < length c.args.bands.now = omega (arith, c.bands-test.true, c.bands.auto.bands) in
    let there : c.bands.k < length c.bands.bands = omega (arith, c.bands-test.true, c.bands.auto.bands) in
    record { filled = subst (HoldsNumbers true) (sym (element c.args.bands.now c.bands.bands c.bands.k c.index-bands-k.result no_band there c.bands.invariant.later)) (all_at (HoldsNumbers true) c.args.bands.now c.bands.k no_band here c.requires.filled) }

pub returns-in_err-read_signs-clause-ended : goal.returns-in_err-read_signs-clause-ended
returns-in_err-read_signs-clause-ended c =
    let p = err_from_is_err_and c.from_residual.result c.from_residual.ensures.1 in
    let here : c.bands.k < length c.args.bands.now = omega (arith, c.bands-test.true, c.bands.auto.bands) in
    let there : c.bands.k < length c.bands.bands = omega (arith, c.bands-test.true, c.bands.auto.bands) in
    rw p.1 (λ lines held.
    let short = signs_ended c.args.bands.now c.bands.bands c.bands.k (get_or c.bands.bands c.bands.k c.index-bands-k.result) lines (bits_of_bytes c.args.bytes.now) (left c.bands.input) here
    (element c.args.bands.now c.bands.bands c.bands.k c.index-bands-k.result no_band there c.bands.invariant.later) held c.in_err-read_signs.ensures.ended (c.bands.invariant.read lines held) in
    omega (arith, short, length-bits_of_bytes c.args.bytes.now))

pub bands-preserved : goal.bands-preserved
bands-preserved c =
    let init = c.args.bands.now in
    let bands = c.bands.bands in
    let k = c.bands.k in
    let old = get_or bands k c.index-bands-k.result in
    let b = c.read_signs.new.self in
    let here : k < length init = omega (arith, c.bands-test.true, c.bands.auto.bands) in
    let there : k < length bands = omega (arith, c.bands-test.true, c.bands.auto.bands) in
    let is = element init bands k c.index-bands-k.result no_band there c.bands.invariant.later in
    record {
      later = later_more init bands k b c.bands.invariant.later;
      coded = pairs_more SameCoded init bands k no_band b here there c.bands.invariant.coded (subst (λ (o : Band). SameCoded o b) is (same_coded old b (signed_in old.cut old.counts old.values (left c.bands.input)) c.in_ok-read_signs.ensures.values));
      filled = all_done (HoldsNumbers false) bands k b there c.bands.invariant.filled c.in_ok-read_signs.ensures.filled;
      read = λ lines held. signs_more init bands k old b lines (bits_of_bytes c.args.bytes.now) (left c.bands.input) (left c.read_signs.new.input) here there is held c.in_ok-read_signs.ensures.values
          c.in_ok-read_signs.ensures.enough c.in_ok-read_signs.ensures.left (c.bands.invariant.read lines held);
    }

pub returns-clause-enough : goal.returns-clause-enough
returns-clause-enough c = λ lines held.
    let end = signs_end c.args.bands.now c.bands.bands c.bands.k lines (bits_of_bytes c.args.bytes.now) (left c.bands.input) (omega (arith, c.bands-test.false, c.bands.auto.bands)) (omega (arith, c.bands-test.false, c.bands.auto.bands)) held
    (c.bands.invariant.read lines held) in
    omega (arith, end.0, length-bits_of_bytes c.args.bytes.now)

pub returns-clause-read : goal.returns-clause-read
returns-clause-read c = λ lines held.
    (signs_end c.args.bands.now c.bands.bands c.bands.k lines (bits_of_bytes c.args.bytes.now) (left c.bands.input) (omega (arith, c.bands-test.false, c.bands.auto.bands)) (omega (arith, c.bands-test.false, c.bands.auto.bands)) held
    (c.bands.invariant.read lines held)).1
