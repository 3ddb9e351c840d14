use Rattle.std.proofs.Common.{◌≡◌, length, sym, ap, ◌∙◌, arith}
use Rattle.std.specs.Prelude.{nat_lt, count_by, map, if◌then◌else◌}
use Rattle.xs_signal.specs.Quantiser.{quantised}
use Rattle.xs_sizes.proofs.Ends.{four_ends, four_few, four_items}
use Rattle.xs_sizes.proofs.signs.ends_of.Goals as goal

pub returns-clause-few : goal.returns-clause-few
returns-clause-few c t = four_few (nat_lt t c.end_of.result) (nat_lt t c.end_of-2.result) (nat_lt t c.end_of-3.result) (nat_lt t c.end_of-4.result)

pub returns-clause-ends : goal.returns-clause-ends
returns-clause-ends c t =
    let size : length c.args.magnitudes ≡ 4 = omega (arith, c.well_formed) in
    four_ends (nat_lt t c.args.count) t (λ x. nat_lt 0 (quantised c.args.kind c.args.count t x)) c.end_of.result c.end_of-2.result c.end_of-3.result c.end_of-4.result
    _ _ _ _ (c.end_of.ensures t) (c.end_of-2.ensures t) (c.end_of-3.ensures t) (c.end_of-4.ensures t)
    ∙ ap (λ l. if nat_lt t c.args.count then count_by (λ number. nat_lt 0 number) (map (quantised c.args.kind c.args.count t) l) else 0) (sym (four_items c.args.magnitudes size))
