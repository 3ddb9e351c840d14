use Rattle.std.proofs.Common.{◌≡◌, length, true≢false, sym, arith}
use Rattle.xs_recv.proofs.Filled.{all_filled, more_filled, next_fits, none_left, picture_of_stripes}
use Rattle.xs_recv.proofs.picture.fill_picture.Goals as goal

pub write_to-requires : goal.write_to-requires
write_to-requires c =
    next_fits c.args.header.now c.requires.stripes.0 c.args.made.items c.filling.stripes.items c.pop.new.self.items c.in-Some.next c.filling.picture c.requires.stripes.1 c.in-Some.ensures.items c.filling.invariant

pub filling-preserved : goal.filling-preserved
filling-preserved c =
    more_filled c.args.header.now c.requires.stripes.0 c.args.made.items c.filling.stripes.items c.pop.new.self.items c.in-Some.next c.filling.picture c.write_to.new.picture c.requires.stripes.1 c.in-Some.ensures.items c.filling.invariant
    c.write_to.ensures.shape c.write_to.ensures.lines c.write_to.ensures.others

pub returns : goal.returns
returns c rows right each =
    let none : length c.filling.stripes.items ≡ 0 = none_left (length c.filling.stripes.items) (λ lt. true≢false (sym (c.in_default.ensures.variant.1 (let e = c.filling.stripes.ok.0 in omega arith)))) in
    picture_of_stripes c.args.header.now rows c.args.made.items c.filling.picture c.requires.accepted c.known_picture.ensures c.filling.invariant.shape right each
    (all_filled c.args.header.now c.args.made.items c.filling.stripes.items c.filling.picture none c.filling.invariant)
