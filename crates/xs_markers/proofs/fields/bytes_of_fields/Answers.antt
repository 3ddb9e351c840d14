use Rattle.std.proofs.Common.{◌≡◌, ◌++◌, ◌∙◌, ap, length, replicate}
use Rattle.xs_lists.specs.Bits.{bits_of_fields}
use Rattle.xs_lists.specs.Packing.{missing_bits}
use Rattle.xs_markers.proofs.Packed.{packed_fields}
use Rattle.xs_markers.proofs.fields.bytes_of_fields.Goals as goal

pub returns : goal.returns
returns c =
    let fields = c.args.fields.now in
    let put : c.reserve.new.self.bits ≡ bits_of_fields fields =
    c.in_ok-reserve.ensures.same ∙ c.in_ok-put_fields.ensures.bits ∙ ap (λ l. l ++ bits_of_fields fields) c.new-out.ensures.empty in
    record { packed = packed_fields c.finish.result fields c.finish.ensures.bytes (c.finish.ensures.bits ∙ c.align.ensures.bits ∙ ap (λ l. l ++ replicate (missing_bits (length l)) 0) put) }
