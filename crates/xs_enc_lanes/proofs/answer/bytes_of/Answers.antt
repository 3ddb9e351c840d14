use Rattle.std.proofs.Common.{◌≡◌, ◌<◌, ◌++◌, ◌∷◌, [], None, length, refl, sym, ap, ◌∙◌, arith}
use Rattle.std.proofs.lemmas.List.{length-set}
use Rattle.xs_enc_lanes.proofs.Slices.{left_more, over_is, writes_all, writes_more, writes_none}
use Rattle.xs_enc_lanes.proofs.answer.bytes_of.Goals as goal

pub slices-init : goal.slices-init
slices-init c = record { count = refl; left = λ k past. refl; written = writes_none c.args.places.items c.new-slices.result.items c.new-slices.ensures.items }

pub slices-preserved : goal.slices-preserved
slices-preserved c =
    let i = c.slices.invariant in
    let there : c.slices.slice < length c.args.places.items = omega (arith, c.slices-test.true, c.slices.auto.slice-end) in
    let more : c.add.new.slices.items ≡ c.slices.slices.items ++ c.in-Bytes.bytes ∷ [] = cc (c.in_ok-add-in-Bytes.ensures.added, c.in-Bytes.bytes-is) in
    record {
      count = ap length c.take_slice.ensures.left ∙ length-set c.slices.places.items c.slices.slice None ∙ i.count;
      left = left_more c.args.places.items c.slices.places.items c.take_slice.new.places.items c.slices.slice c.take_slice.ensures.left i.left;
      written = writes_more c.args.places.items c.slices.slice c.slices.slices.items c.add.new.slices.items c.in-Bytes.bytes c.in-Some.coded there (sym (i.left c.slices.slice (omega arith)) ∙ sym c.in-Some.ensures.taken) c.in-Bytes.is more i.written;
    }

pub returns-clause-slices : goal.returns-clause-slices
returns-clause-slices c =
    let all : c.slices.slice ≡ length c.args.places.items = omega (arith, c.slices-test.false, c.slices.auto.slice-end) in
    writes_all c.args.places.items c.slices.slice c.slices.slices.items all c.slices.invariant.written

pub returns-in-Over-clause-refused : goal.returns-in-Over-clause-refused
returns-in-Over-clause-refused c h rows share fill right =
    let i = c.slices.invariant in
    let there : c.slices.slice < length c.args.places.items = omega (arith, c.slices-test.true, c.slices.auto.slice-end) in
    over_is c.args.places.items c.slices.slice c.slices.slices.items c.in-Over.budget c.in-Some.coded there (sym (i.left c.slices.slice (omega arith)) ∙ sym c.in-Some.ensures.taken) c.in-Over.is i.written h rows share fill right
