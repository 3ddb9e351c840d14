use Rattle.std.proofs.Common.{◌<◌, length, arith}
use Rattle.xs_signal.specs.Colour.{unrct}
use Rattle.xs_signal.specs.Lines.{entries_of}
use Rattle.xs_colour.proofs.Kept.{entry_later, entry_more, passed, passed_same, turned_back_kept}
use Rattle.xs_colour.proofs.rows.unrct_rows.Goals as goal

pub loop-k-preserved : goal.loop-k-preserved
loop-k-preserved c =
    let k = c.loop-k.k in
    let y = entries_of c.args.luma.now in
    let u = entries_of c.args.first.now in
    let v = entries_of c.args.second.now in
    let i = c.loop-k.invariant in
    let t = c.unrct_entry-red.result in
    let inside_luma : k < length c.loop-k.luma = omega (arith, c.loop-k.auto.luma, c.loop-k.auto.k-end, c.loop-k-test.true) in
    let inside_first : k < length c.loop-k.first = omega (arith, inside_luma, c.loop-k.auto.luma, c.loop-k.auto.first, c.requires.first_width) in
    let inside_second : k < length c.loop-k.second = omega (arith, inside_luma, c.loop-k.auto.luma, c.loop-k.auto.second, c.requires.second_width) in
    let kept = turned_back_kept (y k) (u k) (v k) _ _ _ t (c.requires.luma k) (c.requires.first k) (c.requires.second k) (passed_same _ (y k) (i.luma k (omega arith)) (c.requires.luma k)) (passed_same _ (u k) (i.first k (omega arith)) (c.requires.first k))
    (passed_same _ (v k) (i.second k (omega arith)) (c.requires.second k)) c.unrct_entry-red.ensures in
    record {
      red = entry_more c.loop-k.luma (λ j. (unrct (y j) (u j) (v j)).0) k _ inside_luma kept.first i.red;
      green = entry_more c.loop-k.first (λ j. (unrct (y j) (u j) (v j)).1) k _ inside_first kept.second i.green;
      blue = entry_more c.loop-k.second (λ j. (unrct (y j) (u j) (v j)).2) k _ inside_second kept.third i.blue;
      luma = entry_later c.loop-k.luma c.args.luma.now k (passed t.0) i.luma;
      first = entry_later c.loop-k.first c.args.first.now k (passed t.1) i.first;
      second = entry_later c.loop-k.second c.args.second.now k (passed t.2) i.second;
    }
