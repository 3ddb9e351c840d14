use Rattle.std.proofs.Common.{◌≡◌, ◌≤◌, ◌+◌, ◌*◌, length, get_or, [], ap, arith}
use Rattle.xs_pack.proofs.Cutting.{packable}
use Rattle.xs_network_tests.proofs.packets.is_packable.Goals as goal

pub returns : goal.returns
returns c = λ found.
    let s = c.args.settings.now in
    let range = c.settings-settings.ensures.in_range in
    let chunk : c.settings-settings.result.now.chunk ≡ c.args.settings.now.chunk = ap (λ s. s.chunk) c.settings-settings.ensures.settings in
    let some : 64 ≤ c.args.settings.now.chunk = range.chunk.0 in
    let boxes : length c.args.settings.now.boxes ≤ 2048 = range.few_boxes in
    let header : length c.header.result.now ≡ length c.args.stream.now.header = ap length c.header.ensures.header in
    packable c.args.settings.now c.args.stream.now (omega (arith, some)) (omega (arith, c.if-len-gt2047.false, c.len.ensures.count))
    (omega (arith, some, boxes, chunk, header, c.if-len-most.false, c.len-else-len-gt2047.ensures.count))
    (λ k inside. let few = c.asking.invariant k (omega (arith, inside, c.asking-test.false, c.len-slice-end.ensures.count)) in omega (arith, few, chunk, some))
