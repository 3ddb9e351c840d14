use Rattle.std.proofs.Common.{◌<◌, length, arith}
use Rattle.xs_signal.specs.Colour.{rct}
use Rattle.xs_signal.specs.Lines.{entries_of}
use Rattle.xs_colour.proofs.Kept.{entry_later, entry_more, passed, passed_same, turned_kept}
use Rattle.xs_colour.proofs.rows.rct_rows.Goals as goal

pub loop-k-preserved : goal.loop-k-preserved
loop-k-preserved c =
    let k = c.loop-k.k in
    let r = entries_of c.args.red.now in
    let g = entries_of c.args.green.now in
    let b = entries_of c.args.blue.now in
    let i = c.loop-k.invariant in
    let t = c.rct_entry-luma.result in
    let inside_red : k < length c.loop-k.red = omega (arith, c.loop-k.auto.red, c.loop-k.auto.k-end, c.loop-k-test.true) in
    let inside_green : k < length c.loop-k.green = omega (arith, inside_red, c.loop-k.auto.red, c.loop-k.auto.green, c.requires.green_width) in
    let inside_blue : k < length c.loop-k.blue = omega (arith, inside_red, c.loop-k.auto.red, c.loop-k.auto.blue, c.requires.blue_width) in
    let kept = turned_kept (r k) (g k) (b k) _ _ _ t (c.requires.red k) (c.requires.green k) (c.requires.blue k) (passed_same _ (r k) (i.red k (omega arith)) (c.requires.red k)) (passed_same _ (g k) (i.green k (omega arith)) (c.requires.green k))
    (passed_same _ (b k) (i.blue k (omega arith)) (c.requires.blue k)) c.rct_entry-luma.ensures in
    record {
      luma = entry_more c.loop-k.red (λ j. (rct (r j) (g j) (b j)).0) k _ inside_red kept.first i.luma;
      first = entry_more c.loop-k.green (λ j. (rct (r j) (g j) (b j)).1) k _ inside_green kept.second i.first;
      second = entry_more c.loop-k.blue (λ j. (rct (r j) (g j) (b j)).2) k _ inside_blue kept.third i.second;
      red = entry_later c.loop-k.red c.args.red.now k (passed t.0) i.red;
      green = entry_later c.loop-k.green c.args.green.now k (passed t.1) i.green;
      blue = entry_later c.loop-k.blue c.args.blue.now k (passed t.2) i.blue;
    }
