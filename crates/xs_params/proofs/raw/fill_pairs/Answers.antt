use Rattle.std.proofs.Common.{◌≡◌, ◌<◌, ◌∙◌, length, sym, arith}
use Rattle.std.specs.Int.{from_le_bytes, w16}
use Rattle.std.proofs.lemmas.List.{length-set, length-map, get_or-map}
use Rattle.xs_params.specs.Picture.{pair_numbers}
use Rattle.xs_params.proofs.Rows.{set_more}
use Rattle.xs_params.proofs.raw.fill_pairs.Goals as goal

pub filling-preserved : goal.filling-preserved
filling-preserved c =
    let row = c.filling.row in
    let pairs = c.args.pairs.now in
    let column = c.filling.column in
    let there : column < length pairs = omega (arith, c.filling.invariant.size) in
    let count : length (pair_numbers pairs) ≡ length pairs = length-map pairs (from_le_bytes w16) in
    record {
      size = length-set row column c.from_le_bytes.result ∙ c.filling.invariant.size;
      done =
          set_more row (pair_numbers pairs) column c.from_le_bytes.result (omega arith) (omega (arith, there, count)) c.filling.invariant.done
          (c.from_le_bytes.ensures ∙ sym (get_or-map (from_le_bytes w16) pairs column _ 0 there));
    }
