use Rattle.std.proofs.Common.{◌≡◌, ◌+◌, ◌<◌, ◌∙◌, [], length, sym, arith, drop, ap}
use Rattle.std.proofs.lemmas.List.{take_rest, length-drop, drop-drop, nil_from_length}
use Rattle.xs_lists.specs.Fields.{word_at}
use Rattle.xs_params.specs.Check.{are_boxes}
use Rattle.xs_params.proofs.Boxes.{has_box, told, untold, box_sizes, next_box, no_box}
use Rattle.xs_params.proofs.check.are_boxes.Goals as goal

pub boxes-preserved : goal.boxes-preserved
boxes-preserved c =
    let bytes = c.args.bytes.now in
    let rest = drop c.boxes.place bytes in
    let size = c.in-Some.length in
    let found = told (has_box rest) size (word_at rest 0) (rw take_rest at (sym c.in-Some.is ∙ c.box_length.ensures)) in
    let sizes = box_sizes rest found.0 in
    let count = length-drop c.boxes.place bytes in
    record {
      within = omega (arith, sizes, found.1, count);
      rest =
          ap (λ n. are_boxes 0 (drop (c.boxes.place + n) bytes)) found.1 ∙ ap (are_boxes 0) (sym (drop-drop (word_at rest 0) c.boxes.place bytes))
          ∙ sym (next_box rest (omega (arith, count)) found.0) ∙ c.boxes.invariant.rest;
    }

pub returns-in_default : goal.returns-in_default
returns-in_default c =
    let bytes = c.args.bytes.now in
    let rest = drop c.boxes.place bytes in
    let some : 0 < length rest = omega (arith, length-drop c.boxes.place bytes) in
    sym (no_box rest some (untold (has_box rest) (word_at rest 0) (rw take_rest at (sym c.in_default.is ∙ c.box_length.ensures)))) ∙ c.boxes.invariant.rest

pub returns : goal.returns
returns c =
    let bytes = c.args.bytes.now in
    let none : drop c.boxes.place bytes ≡ [] = nil_from_length (drop c.boxes.place bytes) (omega (arith, length-drop c.boxes.place bytes)) in
    sym (ap (are_boxes 0) none) ∙ c.boxes.invariant.rest
