use Rattle.std.proofs.Common.{◌≡◌, ◌<◌, ◌≤◌, ◌+◌, ◌++◌, length, false, true, ap, ◌∙◌, sym, arith, append-nil}
use Rattle.std.proofs.lemmas.Result.{on_ok_weaker}
use Rattle.xs_params.specs.Markers.{eoc}
use Rattle.xs_pack.specs.Datagrams.{unit_at, units_of}
use Rattle.xs_pack.specs.Packing.{datagrams_below}
use Rattle.xs_pack.proofs.Cutting.{few_below, few_in, final_unit, other_unit, unit_count, unit_last, unit_other, unit_packed}
use Rattle.xs_pack.proofs.packing.Packer.pack_slice.Goals as goal

pub pack_unit-requires-clause-few : goal.pack_unit-requires-clause-few
pack_unit-requires-clause-few c =
    let less : c.args.slice + 1 < length c.args.stream.now.slices = omega (arith, c.if-number-len.true, c.len.ensures.count) in
    let same : c.as_slice-bytes.result.now ≡ unit_at (units_of c.args.self.now.settings.now.boxes c.args.stream.now) (c.args.slice + 1) =
    c.as_slice-bytes.ensures.items ∙ c.slice.ensures.slice ∙ sym (unit_other c.args.self.now.settings.now.boxes c.args.stream.now c.args.slice less) in
    let inside : c.args.slice + 1 < length (units_of c.args.self.now.settings.now.boxes c.args.stream.now) = omega (arith, less, unit_count c.args.self.now.settings.now.boxes c.args.stream.now) in
    few_in c.args.self.now c.args.stream.now (c.args.slice + 1) c.as_slice-bytes.result.now c.requires.packable inside same

pub pack_unit-requires-clause-before : goal.pack_unit-requires-clause-before
pack_unit-requires-clause-before c =
    let inside : c.args.slice + 1 ≤ length (units_of c.args.self.now.settings.now.boxes c.args.stream.now) = omega (arith, c.requires.slice, unit_count c.args.self.now.settings.now.boxes c.args.stream.now) in
    few_below c.args.self.now c.args.stream.now (c.args.slice + 1) c.args.packets.now.items c.requires.packable inside c.requires.before

pub returns-then-number-len : goal.returns-then-number-len
returns-then-number-len c =
    let less : c.args.slice + 1 < length c.args.stream.now.slices = omega (arith, c.if-number-len.true, c.len.ensures.count) in
    let same : c.as_slice-bytes.result.now ≡ unit_at (units_of c.args.self.now.settings.now.boxes c.args.stream.now) (c.args.slice + 1) =
    c.as_slice-bytes.ensures.items ∙ c.slice.ensures.slice ∙ sym (unit_other c.args.self.now.settings.now.boxes c.args.stream.now c.args.slice less) in
    let next : c.args.slice + 1 + 1 ≡ c.args.slice + 2 = omega arith in
    on_ok_weaker c.pack_unit.result
    (λ made. unit_packed c.args.self.now c.args.stream.now (c.args.slice + 1) c.args.packets.now.items c.pack_unit.new.packets.items c.as_slice-bytes.result.now false same
    (other_unit c.args.self.now.settings.now.boxes c.args.stream.now c.args.slice less) c.requires.before made ∙ ap (datagrams_below c.args.self.now c.args.stream.now) next)
    c.pack_unit.ensures

pub pack_unit-requires-2-clause-few : goal.pack_unit-requires-2-clause-few
pack_unit-requires-2-clause-few c =
    let last : c.args.slice + 1 ≡ length c.args.stream.now.slices = omega (arith, c.if-number-len.false, c.requires.slice, c.len.ensures.count) in
    let same : c.as_slice.result.now ≡ unit_at (units_of c.args.self.now.settings.now.boxes c.args.stream.now) (c.args.slice + 1) =
    c.as_slice.ensures.items ∙ c.in_ok-ended.ensures ∙ append-nil (c.as_slice-bytes.result.now ++ eoc) ∙ ap (λ l. l ++ eoc) (c.as_slice-bytes.ensures.items ∙ c.slice.ensures.slice)
    ∙ sym (unit_last c.args.self.now.settings.now.boxes c.args.stream.now c.args.slice last) in
    let inside : c.args.slice + 1 < length (units_of c.args.self.now.settings.now.boxes c.args.stream.now) = omega (arith, last, unit_count c.args.self.now.settings.now.boxes c.args.stream.now) in
    few_in c.args.self.now c.args.stream.now (c.args.slice + 1) c.as_slice.result.now c.requires.packable inside same

pub pack_unit-requires-2-clause-before : goal.pack_unit-requires-2-clause-before
pack_unit-requires-2-clause-before c =
    let inside : c.args.slice + 1 ≤ length (units_of c.args.self.now.settings.now.boxes c.args.stream.now) = omega (arith, c.requires.slice, unit_count c.args.self.now.settings.now.boxes c.args.stream.now) in
    few_below c.args.self.now c.args.stream.now (c.args.slice + 1) c.args.packets.now.items c.requires.packable inside c.requires.before

pub returns : goal.returns
returns c =
    let last : c.args.slice + 1 ≡ length c.args.stream.now.slices = omega (arith, c.if-number-len.false, c.requires.slice, c.len.ensures.count) in
    let same : c.as_slice.result.now ≡ unit_at (units_of c.args.self.now.settings.now.boxes c.args.stream.now) (c.args.slice + 1) =
    c.as_slice.ensures.items ∙ c.in_ok-ended.ensures ∙ append-nil (c.as_slice-bytes.result.now ++ eoc) ∙ ap (λ l. l ++ eoc) (c.as_slice-bytes.ensures.items ∙ c.slice.ensures.slice)
    ∙ sym (unit_last c.args.self.now.settings.now.boxes c.args.stream.now c.args.slice last) in
    let next : c.args.slice + 1 + 1 ≡ c.args.slice + 2 = omega arith in
    on_ok_weaker c.pack_unit-2.result
    (λ made. unit_packed c.args.self.now c.args.stream.now (c.args.slice + 1) c.args.packets.now.items c.pack_unit-2.new.packets.items c.as_slice.result.now true same
    (final_unit c.args.self.now.settings.now.boxes c.args.stream.now c.args.slice last) c.requires.before made ∙ ap (datagrams_below c.args.self.now c.args.stream.now) next)
    c.pack_unit-2.ensures
