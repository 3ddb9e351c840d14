use Rattle.std.proofs.Common.{◌≡◌, ◌<◌, ◌+◌, ◌-◌, ◌++◌, sum_by, refl, sym, ap, ◌∙◌, arith, append_assoc}
use Rattle.std.specs.List.{flat_map, range_with_len}
use Rattle.xs_lists.proofs.Ranges.{sum_first, bits_first}
use Rattle.xs_spelling.specs.Counts.{unary}
use Rattle.xs_spelling.specs.Written.{members_of}
use Rattle.xs_counts.specs.Known.{counted_line, residual_bits_of, residual_size}
use Rattle.xs_counts.proofs.write.write_residuals.Goals as goal

pub put_two-requires-clause-room : goal.put_two-requires-clause-room
put_two-requires-clause-room c =
    let size = residual_size (counted_line c.args.counts.now c.args.predictor.now c.args.mode) in
    let end = c.members-first.result.1 in
    let first : c.pairs.group < end = omega (arith, c.pairs-test.true) in
    omega (
      arith,
      sum_first size c.pairs.group end first,
      sum_first size (c.pairs.group + 1) end c.pairs-test.true,
      c.residual_ones.ensures.ones,
      c.residual_ones-in-pairs.ensures.ones,
      c.pairs.invariant.spare,
      c.requires.room,
    )

pub pairs-preserved : goal.pairs-preserved
pairs-preserved c =
    let line = counted_line c.args.counts.now c.args.predictor.now c.args.mode in
    let f = residual_bits_of line in
    let size = residual_size line in
    let k = c.pairs.group in
    let end = c.members-first.result.1 in
    let out = c.pairs.out.bits in
    let all = c.args.out.now.bits ++ flat_map f (members_of line c.args.significance) in
    let first : k < end = omega (arith, c.pairs-test.true) in
    let next : k + 1 + 1 ≡ k + 2 = omega arith in
    let one = bits_first f k end out (out ++ f k) all first c.pairs.invariant.bits refl in
    let put : c.put_two.new.out.bits ≡ (out ++ f k) ++ f (k + 1) =
    c.put_two.ensures.bits ∙ ap (λ n. out ++ (unary n ++ unary c.residual_ones-in-pairs.result)) c.residual_ones.ensures.ones
    ∙ ap (λ n. out ++ (f k ++ unary n)) c.residual_ones-in-pairs.ensures.ones ∙ sym (append_assoc out (f k) (f (k + 1))) in
    record {
      bits = bits_first f (k + 1) end (out ++ f k) c.put_two.new.out.bits all c.pairs-test.true one put
          ∙ ap (λ i. c.put_two.new.out.bits ++ flat_map f (range_with_len i (end - i))) next;
      spare = omega (
        arith,
        ap (λ i. sum_by size (range_with_len i (end - i))) next,
        sum_first size k end first,
        sum_first size (k + 1) end c.pairs-test.true,
        c.residual_ones.ensures.ones,
        c.residual_ones-in-pairs.ensures.ones,
        c.pairs.invariant.spare,
        c.put_two.ensures.spare,
      );
      within = omega (arith, c.pairs-test.true);
    }
