use Rattle.std.proofs.Common.{◌≡◌, ◌<◌, ◌++◌, length, ap, ◌∙◌, arith, append-nil}
use Rattle.std.proofs.lemmas.Result.{on_ok_weaker}
use Rattle.xs_pack.specs.Datagrams.{unit_at, units_of}
use Rattle.xs_pack.proofs.Cutting.{few_in, is_header_final, unit_packed}
use Rattle.xs_pack.proofs.packing.Packer.pack_header.Goals as goal

pub pack_unit-requires-clause-few : goal.pack_unit-requires-clause-few
pack_unit-requires-clause-few c =
    let boxes = c.as_slice-boxes.ensures.items ∙ ap (λ s. s.boxes) c.settings.ensures.settings in
    let same : c.as_slice-2.result.now ≡ unit_at (units_of c.args.self.now.settings.now.boxes c.args.stream.now) 0 =
    c.as_slice-2.ensures.items ∙ c.in_ok-bytes.ensures ∙ append-nil (c.as_slice-boxes.result.now ++ c.as_slice.result.now)
    ∙ ap (λ l. l ++ c.as_slice.result.now) boxes ∙ ap (λ l. c.args.self.now.settings.now.boxes ++ l) (c.as_slice.ensures.items ∙ c.header.ensures.header) in
    let inside : 0 < length (units_of c.args.self.now.settings.now.boxes c.args.stream.now) = omega arith in
    few_in c.args.self.now c.args.stream.now 0 c.as_slice-2.result.now c.requires.packable inside same

pub returns : goal.returns
returns c =
    let boxes = c.as_slice-boxes.ensures.items ∙ ap (λ s. s.boxes) c.settings.ensures.settings in
    let same : c.as_slice-2.result.now ≡ unit_at (units_of c.args.self.now.settings.now.boxes c.args.stream.now) 0 =
    c.as_slice-2.ensures.items ∙ c.in_ok-bytes.ensures ∙ append-nil (c.as_slice-boxes.result.now ++ c.as_slice.result.now)
    ∙ ap (λ l. l ++ c.as_slice.result.now) boxes ∙ ap (λ l. c.args.self.now.settings.now.boxes ++ l) (c.as_slice.ensures.items ∙ c.header.ensures.header) in
    on_ok_weaker c.pack_unit.result (λ made. unit_packed c.args.self.now c.args.stream.now 0 c.args.packets.now.items c.pack_unit.new.packets.items c.as_slice-2.result.now _ same
    (is_header_final c.args.self.now.settings.now.boxes c.args.stream.now c.len.result c.len.ensures.count) c.requires.none made) c.pack_unit.ensures
