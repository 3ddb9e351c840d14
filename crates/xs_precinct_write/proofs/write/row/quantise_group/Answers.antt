use Rattle.std.proofs.Common.{◌+◌, ◌*◌, ◌<◌, ◌^◌, map, get_or, set, sym, ap, subst, ◌∙◌, arith}
use Rattle.std.specs.Prelude.{All, pos, unsigned_abs}
use Rattle.std.specs.List.{AllByRecursion}
use Rattle.std.proofs.lemmas.List.Elements.{All-from_recursion}
use Rattle.xs_signal.specs.Lines.{entries_of}
use Rattle.xs_signal.specs.Quantiser.{quantised, sent, with_sign_of}
use Rattle.xs_spelling.specs.Data.{columns_of}
use Rattle.xs_rate.specs.Content.{planes_of}
use Rattle.xs_precinct_write.proofs.Sending.{group_room, number_small, number_at, four_put, none_put, read_back, sizes_of}
use Rattle.xs_precinct_write.proofs.write.row.quantise_group.Goals as goal

pub quantise-requires-clause-small : goal.quantise-requires-clause-small
quantise-requires-clause-small c =
    let row = entries_of c.args.row.now in
    let sizes = map (λ column. unsigned_abs (row column)) (columns_of c.args.group) in
    subst (λ l. All (λ x. x < 2 ^ c.args.count) l) (sym (c.magnitudes_of.ensures ∙ sizes_of row c.args.group c.coefficients_at-coefficients.result c.coefficients_at-coefficients.ensures))
    (All-from_recursion (λ x. x < 2 ^ c.args.count) sizes (subst (λ n. AllByRecursion (λ x. x < 2 ^ n) sizes) (sym c.requires.count) (group_room row c.args.t c.args.group c.requires.small)))

pub put_number-requires-clause-small : goal.put_number-requires-clause-small
put_number-requires-clause-small c =
    let row = entries_of c.args.row.now in
    let sent = c.quantise.ensures ∙ ap (map (quantised c.args.kind c.args.count c.args.t)) (c.magnitudes_of.ensures ∙ sizes_of row c.args.group c.coefficients_at-coefficients.result c.coefficients_at-coefficients.ensures) in
    subst (λ n. n < 32768) (sym (ap (λ l. get_or l 0 0) sent)) (number_small c.args.kind row c.args.t c.args.count c.args.group (4 * c.args.group) c.requires.cut c.requires.small c.requires.count (omega arith))

pub put_number-requires-2-clause-small : goal.put_number-requires-2-clause-small
put_number-requires-2-clause-small c =
    let row = entries_of c.args.row.now in
    let sent = c.quantise.ensures ∙ ap (map (quantised c.args.kind c.args.count c.args.t)) (c.magnitudes_of.ensures ∙ sizes_of row c.args.group c.coefficients_at-coefficients.result c.coefficients_at-coefficients.ensures) in
    subst (λ n. n < 32768) (sym (ap (λ l. get_or l 1 0) sent)) (number_small c.args.kind row c.args.t c.args.count c.args.group (4 * c.args.group + 1) c.requires.cut c.requires.small c.requires.count (omega arith))

pub put_number-requires-3-clause-small : goal.put_number-requires-3-clause-small
put_number-requires-3-clause-small c =
    let row = entries_of c.args.row.now in
    let sent = c.quantise.ensures ∙ ap (map (quantised c.args.kind c.args.count c.args.t)) (c.magnitudes_of.ensures ∙ sizes_of row c.args.group c.coefficients_at-coefficients.result c.coefficients_at-coefficients.ensures) in
    subst (λ n. n < 32768) (sym (ap (λ l. get_or l 2 0) sent)) (number_small c.args.kind row c.args.t c.args.count c.args.group (4 * c.args.group + 1 + 1) c.requires.cut c.requires.small c.requires.count (omega arith))

pub put_number-requires-4-clause-small : goal.put_number-requires-4-clause-small
put_number-requires-4-clause-small c =
    let row = entries_of c.args.row.now in
    let sent = c.quantise.ensures ∙ ap (map (quantised c.args.kind c.args.count c.args.t)) (c.magnitudes_of.ensures ∙ sizes_of row c.args.group c.coefficients_at-coefficients.result c.coefficients_at-coefficients.ensures) in
    subst (λ n. n < 32768) (sym (ap (λ l. get_or l 3 0) sent)) (number_small c.args.kind row c.args.t c.args.count c.args.group (4 * c.args.group + 1 + 1 + 1) c.requires.cut c.requires.small c.requires.count (omega arith))

pub returns-then-count-t : goal.returns-then-count-t
returns-then-count-t c =
    none_put c.args.kind (entries_of c.args.row.now) c.args.t c.args.group c.args.values.now c.put_zeros.new.values (omega (arith, c.requires.count, c.if-count-t.true)) c.put_zeros.ensures

pub returns : goal.returns
returns c =
    let row = entries_of c.args.row.now in
    let kind = c.args.kind in
    let t = c.args.t in
    let count = c.args.count in
    let group = c.args.group in
    let read = c.coefficients_at-coefficients.result in
    let is = c.coefficients_at-coefficients.ensures in
    let four = c.quantise.ensures ∙ ap (map (quantised kind count t)) (c.magnitudes_of.ensures ∙ sizes_of row group read is) in
    four_put c.args.values.now c.put_number.new.values c.put_number-2.new.values c.put_number-3.new.values c.put_number-4.new.values (4 * group) (λ i. sent kind (planes_of row group) t (row (4 * group + i)))
    (with_sign_of (get_or read 0 (pos 0)) (get_or c.quantise.result 0 0)) (with_sign_of (get_or read 1 (pos 0)) (get_or c.quantise.result 1 0)) (with_sign_of (get_or read 2 (pos 0)) (get_or c.quantise.result 2 0)) (with_sign_of (get_or read 3 (pos 0)) (get_or c.quantise.result 3 0))
    (c.put_number.ensures ∙ ap (λ z. set c.args.values.now (4 * group) (with_sign_of z (get_or c.quantise.result 0 0))) (read_back (get_or read 0 (pos 0)) (subst (λ l. unsigned_abs (get_or l 0 (pos 0)) < 32768) (sym is) (c.requires.small (4 * group)))))
    (c.put_number-2.ensures ∙ ap (λ z. set c.put_number.new.values (4 * group + 1) (with_sign_of z (get_or c.quantise.result 1 0))) (read_back (get_or read 1 (pos 0)) (subst (λ l. unsigned_abs (get_or l 1 (pos 0)) < 32768) (sym is) (c.requires.small (4 * group + 1)))))
    (c.put_number-3.ensures ∙ ap (λ z. set c.put_number-2.new.values (4 * group + 2) (with_sign_of z (get_or c.quantise.result 2 0))) (read_back (get_or read 2 (pos 0)) (subst (λ l. unsigned_abs (get_or l 2 (pos 0)) < 32768) (sym is) (c.requires.small (4 * group + 1 + 1)))))
    (c.put_number-4.ensures ∙ ap (λ z. set c.put_number-3.new.values (4 * group + 3) (with_sign_of z (get_or c.quantise.result 3 0))) (read_back (get_or read 3 (pos 0)) (subst (λ l. unsigned_abs (get_or l 3 (pos 0)) < 32768) (sym is) (c.requires.small (4 * group + 1 + 1 + 1)))))
    (ap (λ l. with_sign_of (get_or l 0 (pos 0)) (get_or c.quantise.result 0 0)) is ∙ number_at kind row t count group 0 (4 * group) (4 * group) (get_or c.quantise.result 0 0) c.requires.small c.requires.count (omega arith) (omega arith) (omega arith) (ap (λ l. get_or l 0 0) four))
    (ap (λ l. with_sign_of (get_or l 1 (pos 0)) (get_or c.quantise.result 1 0)) is ∙ number_at kind row t count group 1 (4 * group + 1) (4 * group + 1) (get_or c.quantise.result 1 0) c.requires.small c.requires.count (omega arith) (omega arith) (omega arith) (ap (λ l. get_or l 1 0) four))
    (ap (λ l. with_sign_of (get_or l 2 (pos 0)) (get_or c.quantise.result 2 0)) is ∙ number_at kind row t count group 2 (4 * group + 1 + 1) (4 * group + 1 + 1) (get_or c.quantise.result 2 0) c.requires.small c.requires.count (omega arith) (omega arith) (omega arith) (ap (λ l. get_or l 2 0) four))
    (ap (λ l. with_sign_of (get_or l 3 (pos 0)) (get_or c.quantise.result 3 0)) is ∙ number_at kind row t count group 3 (4 * group + 1 + 1 + 1) (4 * group + 1 + 1 + 1) (get_or c.quantise.result 3 0) c.requires.small c.requires.count (omega arith) (omega arith) (omega arith) (ap (λ l. get_or l 3 0) four))
