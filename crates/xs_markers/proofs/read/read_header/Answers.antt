use Rattle.std.proofs.Common.{◌≡◌, ◌+◌, ◌-◌, ◌*◌, take, drop, sym, ap, subst, ◌∙◌, arith}
use Rattle.xs_grammar.specs.Header.{IsHeaderFront}
use Rattle.xs_markers.specs.Reading.{header_at, header_of_fields, weights_of}
use Rattle.xs_markers.specs.Segments.{bands_of_fields}
use Rattle.xs_markers.proofs.Cut.{IsBytes}
use Rattle.xs_markers.proofs.HeaderRead.{known}
use Rattle.xs_markers.proofs.read.read_header.Goals as goal

pub overflow_add-at : goal.overflow_add-at
overflow_add-at c =
    let small : IsBytes c.args.bytes.now = λ i. omega (arith, c.type_inv.bytes i) in
    let is = known c.args.bytes.now c.in_ok-seen.seen c.in_ok-seen.end c.in_ok-picture.picture c.in_ok-picture.shape c.in_ok-picture.at small c.in_ok-seen.ensures.seen c.in_ok-picture.ensures.first c.in_ok-picture.ensures.picture c.in_ok-picture.ensures.shape c.in_ok-picture.ensures.weights in
    omega (arith, is.within, c.from.ensures, c.bands.ensures.count, c.requires.few)

pub slice_bounds-weights_of-end : goal.slice_bounds-weights_of-end
slice_bounds-weights_of-end c =
    let small : IsBytes c.args.bytes.now = λ i. omega (arith, c.type_inv.bytes i) in
    let is = known c.args.bytes.now c.in_ok-seen.seen c.in_ok-seen.end c.in_ok-picture.picture c.in_ok-picture.shape c.in_ok-picture.at small c.in_ok-seen.ensures.seen c.in_ok-picture.ensures.first c.in_ok-picture.ensures.picture c.in_ok-picture.ensures.shape c.in_ok-picture.ensures.weights in
    omega (arith, is.within, c.from.ensures, c.bands.ensures.count, c.requires.few)

pub returns-clause-read : goal.returns-clause-read
returns-clause-read c =
    let bytes = c.args.bytes.now in
    let p = c.in_ok-picture.picture in
    let at = c.in_ok-picture.at in
    let small : IsBytes bytes = λ i. omega (arith, c.type_inv.bytes i) in
    let is = known bytes c.in_ok-seen.seen c.in_ok-seen.end p c.in_ok-picture.shape at small c.in_ok-seen.ensures.seen c.in_ok-picture.ensures.first c.in_ok-picture.ensures.picture c.in_ok-picture.ensures.shape c.in_ok-picture.ensures.weights in
    let size : at + 2 * c.from.result - at ≡ 2 * bands_of_fields p = omega (arith, c.from.ensures, c.bands.ensures.count) in
    let header : header_at bytes ≡ c.header.result =
    is.header ∙ sym (c.header.ensures.header ∙ ap (header_of_fields p c.in_ok-picture.shape) (c.in_ok-weights.ensures.weights ∙ ap (λ n. weights_of (take n (drop at bytes))) size)) in
    record { no_fault = is.no_fault; header = header; ends = is.ends; spelled = subst (λ h. IsHeaderFront h bytes c.in_ok-seen.end) header is.spelled }
