use Rattle.std.proofs.Common.{◌-◌, ◌*◌, ◌/◌, ◌^◌, ◌<◌, ◌≤◌, length, get_or, sym, ap, ◌∙◌, arith}
use Rattle.std.specs.Prelude.{true, false, nat_eq, nat_lt, pos, unsigned_abs}
use Rattle.std.proofs.Math.Pow.{pow_mono}
use Rattle.xs_bits.specs.Reading.{BitReading, left}
use Rattle.xs_spelling.specs.Sizes.{numbered}
use Rattle.xs_spelling.specs.Reading.{bit_at, signed, sign_place, with_signs}
use Rattle.xs_lists.proofs.Puts.{put_at, put_more, put_same, put_end}
use Rattle.xs_planes.proofs.Columns.{place_more, bit_there, no_sign, still_numbers, left_at, signs_short}
use Rattle.xs_planes.proofs.read.read_signs.Goals.{then-has_sign+in-Ok, else-has_sign}
use Rattle.xs_planes.proofs.read.read_signs.Goals as goal

pub give_sign-requires-clause-small : goal.give_sign-requires-clause-small
give_sign-requires-clause-small c =
    let old = c.args.into.now in
    let k = c.columns.column in
    let inside : k < length old = omega (arith, c.columns-test.true, ap length c.as_slice.ensures.items, c.requires.numbers.size) in
    let f = (with_signs (numbered c.args.t c.args.counts.now old) (left c.args.input.now)).value in
    let same = ap unsigned_abs (put_at f old c.columns.into k (pos 0) inside c.columns.invariant.values) in
    let most : get_or c.args.counts.now (k / 4) 0 ≤ 15 = c.as_slice.ensures.counts (k / 4) 0 (omega (arith, inside, c.requires.numbers.size)) in
    let fits : get_or c.args.counts.now (k / 4) 0 - c.args.t ≤ 15 = omega (arith, most) in
    let up : 2 ^ (get_or c.args.counts.now (k / 4) 0 - c.args.t) ≤ 2 ^ 15 = pow_mono fits in
    omega (arith, same, c.requires.numbers.small k inside, up)

pub returns-in-Err-clause-ended : goal.returns-in-Err-clause-ended
returns-in-Err-clause-ended c =
    let old = c.args.into.now in
    let k = c.columns.column in
    let line = numbered c.args.t c.args.counts.now old in
    let inside : k < length old = omega (arith, c.columns-test.true, ap length c.as_slice.ensures.items, c.requires.numbers.size) in
    let same = ap (λ z. nat_lt 0 (unsigned_abs z)) (put_at (with_signs line (left c.args.input.now)).value old c.columns.into k (pos 0) inside c.columns.invariant.values) in
    signs_short line (left c.args.input.now) (left c.columns.input) k (omega (arith, inside, c.requires.numbers.size)) (sym same ∙ sym c.has_sign.ensures ∙ c.if-has_sign.true)
    (left_at c.columns.input c.args.input.now (sign_place line k) c.columns.invariant.place c.columns.invariant.same) c.in-Err.ensures.ended

pub columns-preserved : goal.columns-preserved
columns-preserved c =
    let old = c.args.into.now in
    let k = c.columns.column in
    let line = numbered c.args.t c.args.counts.now old in
    let all = left c.args.input.now in
    let f = (with_signs line all).value in
    let inside : k < length old = omega (arith, c.columns-test.true, ap length c.as_slice.ensures.items, c.requires.numbers.size) in
    let at = put_at f old c.columns.into k (pos 0) inside c.columns.invariant.values in
    let test = sym (ap (λ z. nat_lt 0 (unsigned_abs z)) at) ∙ sym c.has_sign.ensures in
    elim c.if-has_sign.branch [
      | then-has_sign+in-Ok w ↦
          let there = bit_there all (left c.columns.input) (left w.get.new.self) (sign_place line k) w.in-Ok.sign w.in-Ok.ensures.fits
          (left_at c.columns.input c.args.input.now (sign_place line k) c.columns.invariant.place c.columns.invariant.same) w.in-Ok.ensures.value in
          let more = place_more line k true (test ∙ w.if-has_sign.true) in
          record {
            values = w.into-is ∙ w.give_sign.ensures
                ∙ put_more f old c.columns.into k (signed (nat_eq w.in-Ok.sign 1) (unsigned_abs (get_or c.columns.into k (pos 0)))) inside c.columns.invariant.values
                (ap (λ z. signed (nat_eq w.in-Ok.sign 1) (unsigned_abs z)) at ∙ ap (λ b. signed (nat_eq b 1) (unsigned_abs (get_or old k (pos 0)))) (sym there.0));
            place = omega (arith, ap (λ (r : BitReading). r.place) w.input-is, w.in-Ok.ensures.moved, c.columns.invariant.place, more);
            enough = omega (arith, there.1, more);
            same = ap (λ (r : BitReading). r.bits) w.input-is ∙ w.get.ensures.same ∙ c.columns.invariant.same;
          }
      | else-has_sign w ↦
          let none = test ∙ w.if-has_sign.false in
          let more = place_more line k false none in
          record {
            values = w.into-is ∙ put_same f old c.columns.into k (pos 0) inside c.columns.invariant.values (no_sign (get_or old k (pos 0)) (nat_eq (bit_at all (sign_place line k)) 1) none);
            place = omega (arith, ap (λ (r : BitReading). r.place) w.input-is, c.columns.invariant.place, more);
            enough = omega (arith, c.columns.invariant.enough, more);
            same = ap (λ (r : BitReading). r.bits) w.input-is ∙ c.columns.invariant.same;
          }
    ]

pub returns-clause-small : goal.returns-clause-small
returns-clause-small c =
    let old = c.args.into.now in
    let line = numbered c.args.t c.args.counts.now old in
    let n = 4 * length c.args.counts.now in
    still_numbers c.args.t c.args.counts.now old c.columns.into (left c.args.input.now) c.requires.numbers
    (put_end (with_signs line (left c.args.input.now)).value old c.columns.into c.columns.column n c.requires.numbers.size (omega (arith, c.columns-test.false, c.columns.auto.column-end, ap length c.as_slice.ensures.items)) c.columns.invariant.values)
