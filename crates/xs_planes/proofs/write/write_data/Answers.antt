use Rattle.std.proofs.Common.{◌≡◌, ◌+◌, ◌-◌, ◌*◌, ◌++◌, [], length, sym, ap, ◌∙◌, arith, append-nil}
use Rattle.std.specs.Prelude.{Bool, true, false, nat_lt, if◌then◌else◌, slice_index_or}
use Rattle.std.proofs.lemmas.Bool.{lt-ltb, le-ltb}
use Rattle.xs_bits.specs.Written.{Written}
use Rattle.xs_spelling.specs.Sizes.{group_size, numbered}
use Rattle.xs_spelling.specs.Written.{group_bits, line_data_bits}
use Rattle.xs_planes.specs.Numbers.{four_at, bit_planes_of, signs_with}
use Rattle.xs_lists.proofs.Ranges.{sum_first, bits_first}
use Rattle.xs_planes.proofs.Groups.{group_spelled}
use Rattle.xs_planes.proofs.write.write_data.Goals.{then-count-t, else-count-t}
use Rattle.xs_planes.proofs.write.write_data.Goals as goal

pub write_group-requires-clause-room : goal.write_group-requires-clause-room
write_group-requires-clause-room c =
    let t = c.args.t in
    let count = slice_index_or c.args.counts.now c.groups.group 0 in
    let same : slice_index_or c.as_slice-items.result.now c.groups.group 0 ≡ count = ap (λ l. slice_index_or l c.groups.group 0) c.as_slice-items.ensures.items in
    let some : nat_lt t count ≡ true = lt-ltb t count (omega (arith, same, c.if-count-t.true)) in
    let size = ap (λ (b : Bool). if b then (if c.args.signs_apart then 0 else 4) + 4 * (count - t) else 0) some in
    let more = sum_first (group_size c.args.signs_apart (numbered t c.args.counts.now [])) c.groups.group (length c.args.counts.now) (omega (arith, c.groups-test.true, ap length c.as_slice-items.ensures.items)) in
    omega (arith, same, size, more, c.groups.invariant.spare, c.requires.room)

pub groups-preserved : goal.groups-preserved
groups-preserved c =
    let t = c.args.t in
    let apart = c.args.signs_apart in
    let group = c.groups.group in
    let values = c.args.values.now in
    let line = numbered t c.args.counts.now values in
    let out = c.groups.out.bits in
    let count = slice_index_or c.args.counts.now group 0 in
    let same : slice_index_or c.as_slice-items.result.now group 0 ≡ count = ap (λ l. slice_index_or l group 0) c.as_slice-items.ensures.items in
    let more = sum_first (group_size apart (numbered t c.args.counts.now [])) group (length c.args.counts.now) (omega (arith, c.groups-test.true, ap length c.as_slice-items.ensures.items)) in
    elim c.if-count-t.branch [
      | then-count-t w ↦
          let some : nat_lt t count ≡ true = lt-ltb t count (omega (arith, same, w.if-count-t.true)) in
          let size = ap (λ (b : Bool). if b then (if apart then 0 else 4) + 4 * (count - t) else 0) some in
          record {
            bits = bits_first (group_bits apart line) group (length c.args.counts.now) out c.if-count-t.out.bits (c.args.out.now.bits ++ line_data_bits apart line) (omega (arith, c.groups-test.true, ap length c.as_slice-items.ensures.items)) c.groups.invariant.bits
                (ap (λ (o : Written). o.bits) w.out-is ∙ w.write_group.ensures.bits
                ∙ ap (λ four. out ++ (signs_with apart four ++ bit_planes_of four (slice_index_or c.as_slice-items.result.now group 0 - t))) w.numbers_at.ensures
                ∙ ap (λ n. out ++ (signs_with apart (four_at values group) ++ bit_planes_of (four_at values group) (n - t))) same
                ∙ ap (λ l. out ++ l) (sym (group_spelled apart t c.args.counts.now values group true some)));
            spare = omega (arith, ap (λ (o : Written). o.spare) w.out-is, w.write_group.ensures.spare, same, size, more, c.groups.invariant.spare);
          }
      | else-count-t w ↦
          let none : nat_lt t count ≡ false = le-ltb t count (omega (arith, same, w.if-count-t.false)) in
          let size = ap (λ (b : Bool). if b then (if apart then 0 else 4) + 4 * (count - t) else 0) none in
          record {
            bits = bits_first (group_bits apart line) group (length c.args.counts.now) out c.if-count-t.out.bits (c.args.out.now.bits ++ line_data_bits apart line) (omega (arith, c.groups-test.true, ap length c.as_slice-items.ensures.items)) c.groups.invariant.bits
                (ap (λ (o : Written). o.bits) w.out-is ∙ sym (append-nil out) ∙ ap (λ l. out ++ l) (sym (group_spelled apart t c.args.counts.now values group false none)));
            spare = omega (arith, ap (λ (o : Written). o.spare) w.out-is, size, more, c.groups.invariant.spare);
          }
    ]
