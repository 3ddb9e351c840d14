use Rattle.std.proofs.Common.{◌≡◌, ◌+◌, ◌-◌, ◌*◌, ◌/◌, ◌%◌, ◌^◌, ◌<◌, ◌≤◌, ℕ, [], length, get_or, sym, ap, ◌∙◌, arith}
use Rattle.std.specs.Prelude.{pos, unsigned_abs}
use Rattle.std.proofs.lemmas.List.{length-drop}
use Rattle.xs_bits.specs.Reading.{BitReading, left}
use Rattle.xs_spelling.specs.Sizes.{numbered}
use Rattle.xs_spelling.specs.Reading.{group_start, value_in}
use Rattle.xs_planes.specs.Numbers.{lane_at}
use Rattle.xs_lists.proofs.Puts.{put_end}
use Rattle.xs_planes.proofs.Columns.{four_more, left_at}
use Rattle.xs_planes.proofs.Places.{start_more, start_most, size_some, size_none, number_in, nothing_in, fit_more, nothing_fits, end_numbers, end_magnitudes}
use Rattle.xs_planes.proofs.read.read_data.Goals.{then-count-t, else-count-t+in-Ok}
use Rattle.xs_planes.proofs.read.read_data.Goals as goal

pub returns-in-Err-clause-ended : goal.returns-in-Err-clause-ended
returns-in-Err-clause-ended c =
    let k = c.groups.group in
    let t = c.args.t in
    let apart = c.args.signs_apart in
    let counts = c.args.counts.now in
    let count = get_or counts k 0 in
    let same : get_or c.as_slice-items.result.now k 0 ≡ count = ap (λ l. get_or l k 0) c.as_slice-items.ensures.items in
    let inside : k < length counts = omega (arith, c.groups-test.true, ap length c.as_slice-items.ensures.items) in
    let here = left_at c.groups.input c.args.input.now (group_start apart (numbered t counts []) k) c.groups.invariant.place c.groups.invariant.same in
    let more : t < count = omega (arith, same, c.if-count-t.false) in
    omega (arith, same, size_some apart t count more, start_most apart t counts k inside, c.in-Err.ensures.ended, ap length here ∙ length-drop (group_start apart (numbered t counts []) k) (left c.args.input.now), c.groups.invariant.enough)

pub groups-preserved : goal.groups-preserved
groups-preserved c =
    let k = c.groups.group in
    let t = c.args.t in
    let apart = c.args.signs_apart in
    let counts = c.args.counts.now in
    let all = left c.args.input.now in
    let now = left c.groups.input in
    let count = get_or counts k 0 in
    let start = group_start apart (numbered t counts []) k in
    let f = value_in apart (numbered t counts []) all in
    let same : get_or c.as_slice-items.result.now k 0 ≡ count = ap (λ l. get_or l k 0) c.as_slice-items.ensures.items in
    let inside : k < length counts = omega (arith, c.groups-test.true, ap length c.as_slice-items.ensures.items) in
    let room : 4 * k + 4 ≤ length c.args.into.now = omega (arith, inside, c.requires.size) in
    let here = left_at c.groups.input c.args.input.now start c.groups.invariant.place c.groups.invariant.same in
    let q0 : 4 * k / 4 ≡ k = omega arith in
    let q1 : (4 * k + 1) / 4 ≡ k = omega arith in
    let q2 : (4 * k + 2) / 4 ≡ k = omega arith in
    let q3 : (4 * k + 3) / 4 ≡ k = omega arith in
    let r0 : 4 * k % 4 ≡ 0 = omega arith in
    let r1 : (4 * k + 1) % 4 ≡ 1 = omega arith in
    let r2 : (4 * k + 2) % 4 ≡ 2 = omega arith in
    let r3 : (4 * k + 3) % 4 ≡ 3 = omega arith in
    elim c.if-count-t.branch [
      | then-count-t w ↦
          let less : count ≤ t = omega (arith, same, w.if-count-t.true) in
          let none = λ (j : ℕ) (q : j / 4 ≡ k). nothing_in apart t counts all j k less q in
          record {
            values = w.into-is ∙ w.put_zeros.ensures
                ∙ four_more f c.args.into.now c.groups.into k (λ c. pos 0) room c.groups.invariant.values
                (sym (none (4 * k) q0)) (sym (none (4 * k + 1) q1)) (sym (none (4 * k + 2) q2)) (sym (none (4 * k + 3) q3));
            fit = fit_more f t counts k c.groups.invariant.fit (λ j c q r small. nothing_fits f j (count - t) (none j q));
            place = omega (arith, ap (λ (r : BitReading). r.place) w.input-is, c.groups.invariant.place, start_more apart t counts k, size_none apart t count less);
            enough = omega (arith, c.groups.invariant.enough, start_more apart t counts k, size_none apart t count less);
            same = ap (λ (r : BitReading). r.bits) w.input-is ∙ c.groups.invariant.same;
          }
      | else-count-t+in-Ok w ↦
          let more : t < count = omega (arith, same, w.if-count-t.false) in
          let planes = get_or c.as_slice-items.result.now k 0 - t in
          let left_planes : planes ≡ count - t = ap (λ n. n - t) same in
          let number = λ (j c : ℕ) (q : j / 4 ≡ k) (r : j % 4 ≡ c). number_in apart t counts all now k j c planes left_planes here q r in
          record {
            values = w.into-is ∙ w.put_lanes.ensures
                ∙ four_more f c.args.into.now c.groups.into k (lane_at w.in-Ok.word) room c.groups.invariant.values
                (w.in-Ok.ensures.read 0 (omega arith) ∙ number (4 * k) 0 q0 r0) (w.in-Ok.ensures.read 1 (omega arith) ∙ number (4 * k + 1) 1 q1 r1)
                (w.in-Ok.ensures.read 2 (omega arith) ∙ number (4 * k + 2) 2 q2 r2) (w.in-Ok.ensures.read 3 (omega arith) ∙ number (4 * k + 3) 3 q3 r3);
            fit = fit_more f t counts k c.groups.invariant.fit (λ j c q r small.
                let size = ap unsigned_abs (number j c q r) in
                let room = ap (λ n. 2 ^ n) left_planes in
                omega (arith, size, room, w.in-Ok.ensures.small c small));
            place = omega (arith, ap (λ (r : BitReading). r.place) w.input-is, w.in-Ok.ensures.moved, c.groups.invariant.place, start_more apart t counts k, size_some apart t count more, same);
            enough = omega (arith, w.in-Ok.ensures.enough, ap length here ∙ length-drop start all, c.groups.invariant.enough, start_more apart t counts k, size_some apart t count more, same);
            same = ap (λ (r : BitReading). r.bits) w.input-is ∙ w.read_group.ensures.same ∙ c.groups.invariant.same;
          }
    ]

pub returns-clause-small : goal.returns-clause-small
returns-clause-small c =
    let counts = c.args.counts.now in
    let f = value_in c.args.signs_apart (numbered c.args.t counts []) (left c.args.input.now) in
    let all : c.groups.group ≡ length counts = omega (arith, c.groups-test.false, c.groups.auto.group-end, ap length c.as_slice-items.ensures.items) in
    end_numbers f c.args.t counts c.groups.into c.requires.cut
    (put_end f c.args.into.now c.groups.into (4 * c.groups.group) (4 * length counts) c.requires.size (ap (λ n. 4 * n) all) c.groups.invariant.values)
    (λ column inside. c.groups.invariant.fit column (omega (arith, all, inside)))

pub returns-clause-magnitudes : goal.returns-clause-magnitudes
returns-clause-magnitudes c = λ set.
    let counts = c.args.counts.now in
    let f = value_in c.args.signs_apart (numbered c.args.t counts []) (left c.args.input.now) in
    let all : c.groups.group ≡ length counts = omega (arith, c.groups-test.false, c.groups.auto.group-end, ap length c.as_slice-items.ensures.items) in
    end_magnitudes c.args.signs_apart c.args.t counts (left c.args.input.now) c.groups.into
    (put_end f c.args.into.now c.groups.into (4 * c.groups.group) (4 * length counts) c.requires.size (ap (λ n. 4 * n) all) c.groups.invariant.values) set
