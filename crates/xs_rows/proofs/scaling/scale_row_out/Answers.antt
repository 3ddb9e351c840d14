use Rattle.std.proofs.Common.{◌≡◌, ◌<◌, ◌^◌, length, arith, ap, sym, subst, ◌∙◌, inl, inr, get_or-set_other}
use Rattle.std.proofs.lemmas.Bool.{cases_eq}
use Rattle.std.proofs.lemmas.Grind.{get_or-set_at, get_or_default_zero}
use Rattle.xs_signal.specs.Lines.{entries_of}
use Rattle.xs_signal.specs.Samples.{scale_out}
use Rattle.xs_rows.proofs.Values.{passed_small, sample_below}
use Rattle.xs_rows.proofs.scaling.scale_row_out.Goals as goal

pub loop-k-preserved : goal.loop-k-preserved
loop-k-preserved c j below =
    let k = c.loop-k.k in
    let xs = c.loop-k.samples in
    let v = c.scale_entry_out.result in
    let inside : k < length xs = omega (arith, c.loop-k.auto.samples, c.loop-k.auto.k-end, c.loop-k-test.true) in
    let value : v ≡ scale_out c.args.depth c.args.bw (entries_of c.args.row.now k) = c.scale_entry_out.ensures ∙ ap (scale_out c.args.depth c.args.bw) (passed_small (2 ^ 29) _ (omega arith) (c.requires.small k)) in
    elim (cases_eq j k) [
      | inl same ↦ get_or-set_at xs k j v 0 same inside ∙ value ∙ ap (λ i. scale_out c.args.depth c.args.bw (entries_of c.args.row.now i)) (sym same)
      | inr other ↦ get_or-set_other xs k j v 0 other ∙ c.loop-k.invariant j (omega (arith, below, other))
    ]

pub returns-clause-small : goal.returns-clause-small
returns-clause-small c k d inside =
    let here = get_or_default_zero c.loop-k.samples k d inside ∙ c.loop-k.invariant k (omega (arith, inside, c.loop-k.auto.samples, c.loop-k-test.false)) in
    subst (λ s. s < 2 ^ c.args.depth) (sym here) (sample_below c.args.depth c.args.bw (entries_of c.args.row.now k))
