use Rattle.std.proofs.Common.{◌≡◌, ◌+◌, ◌-◌, ◌≤◌, length, drop, Some, arith, sym, ap, ◌∙◌}
use Rattle.std.specs.Prelude.{slice_range}
use Rattle.std.specs.Option.{option_map}
use Rattle.std.proofs.lemmas.List.{length-take-le, length-drop}
use Rattle.xs_capture.specs.Heads.{offer_by, with_bytes}
use Rattle.xs_capture.proofs.Heading.{part_of_part}
use Rattle.xs_capture.proofs.pictures.offer_at.Goals as goal

pub returns : goal.returns
returns c =
    let slice = slice_range c.args.bytes.now c.args.first c.args.end in
    let head = c.in-Some.head in
    let room : c.args.end - c.args.first ≤ length (drop c.args.first c.args.bytes.now) = omega (arith, c.requires.inside, length-drop c.args.first c.args.bytes.now) in
    let size : length (slice_range c.args.bytes.now c.args.first c.args.end) ≡ c.args.end - c.args.first = length-take-le (c.args.end - c.args.first) (drop c.args.first c.args.bytes.now) room in
    let inside : c.args.first + c.in-Some.head.end ≤ c.args.end = omega (arith, size, c.requires.inside, c.in-Some.ensures.inside.end) in
    let part : c.in-Ok.part ≡ slice_range (slice_range c.args.bytes.now c.args.first c.args.end) c.in-Some.head.first c.in-Some.head.end =
    c.in-Ok.ensures.ok ∙ ap (λ l. slice_range l (c.args.first + c.in-Some.head.first) (c.args.first + c.in-Some.head.end)) c.requires.whole
    ∙ sym (part_of_part c.args.bytes.now c.args.first c.args.end c.in-Some.head.first c.in-Some.head.end inside c.in-Some.ensures.inside.begin) in
    ap Some (c.with_bytes.ensures ∙ ap (with_bytes c.in-Some.head) part) ∙ sym (c.head_of.ensures.offer ∙ ap (option_map (offer_by (slice_range c.args.bytes.now c.args.first c.args.end))) c.in-Some.is)
