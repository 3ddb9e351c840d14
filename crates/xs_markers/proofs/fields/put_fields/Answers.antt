use Rattle.std.proofs.Common.{ℕ, ◌∙◌, ◌++◌, take, sym, ap, append_assoc, arith, get_or}
use Rattle.std.proofs.lemmas.List.{take_all}
use Rattle.xs_lists.specs.Bits.{bits_of, bits_of_fields}
use Rattle.xs_markers.proofs.Steps.{flat_take}
use Rattle.xs_markers.proofs.fields.put_fields.Goals as goal

pub putting-preserved : goal.putting-preserved
putting-preserved c =
    let fields = c.args.fields.now in
    let at = c.putting.at in
    let field : ℕ × ℕ = get_or fields at (0, 0) in
    c.put.ensures.bits ∙ ap (λ l. l ++ bits_of field.0 field.1) (c.in_ok-reserve.ensures.same ∙ c.putting.invariant)
    ∙ append_assoc c.args.out.now.bits (bits_of_fields (take at fields)) (bits_of field.0 field.1)
    ∙ ap (λ l. c.args.out.now.bits ++ l) (sym (flat_take (λ (f : ℕ × ℕ). bits_of f.0 f.1) fields at (0, 0) (omega arith)))

pub returns : goal.returns
returns c =
    record { bits = c.putting.invariant ∙ ap (λ l. c.args.out.now.bits ++ bits_of_fields l) (take_all c.putting.at c.args.fields.now c.putting-test.false) }
