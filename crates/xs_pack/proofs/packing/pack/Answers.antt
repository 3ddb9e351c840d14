use Rattle.std.proofs.Common.{◌≡◌, ◌≤◌, ◌+◌, length, ap, ◌∙◌, arith}
use Rattle.xs_pack.specs.declared.packing.Packer.{Packer}
use Rattle.xs_pack.specs.Datagrams.{units_of}
use Rattle.xs_pack.specs.Packing.{datagrams_below}
use Rattle.xs_pack.proofs.Cutting.{few_below, unit_count}
use Rattle.xs_pack.proofs.packing.pack.Goals as goal

pub invariant_of-result : goal.invariant_of-result
invariant_of-result c =
    let packer : Packer = record { settings = c.args.settings; picture = c.args.picture; sequence = c.args.sequence } in
    let inside : c.packing.slice + 1 ≤ length (units_of c.args.settings.now.boxes c.args.stream.now) = omega (arith, c.packing.auto, c.len-slice-end.ensures.count, unit_count c.args.settings.now.boxes c.args.stream.now) in
    few_below packer c.args.stream.now (c.packing.slice + 1) c.packing.packets.items c.requires.packable inside c.packing.invariant

pub returns : goal.returns
returns c =
    let packer : Packer = record { settings = c.args.settings; picture = c.args.picture; sequence = c.args.sequence } in
    let all : c.packing.slice + 1 ≡ length (units_of c.args.settings.now.boxes c.args.stream.now) = omega (arith, c.packing.auto, c.packing-test.false, c.len-slice-end.ensures.count, unit_count c.args.settings.now.boxes c.args.stream.now) in
    c.packing.invariant ∙ ap (datagrams_below packer c.args.stream.now) all
