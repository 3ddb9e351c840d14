use Rattle.std.proofs.Common.{◌≡◌, [], ◌∷◌, ◌++◌, length, get_or, sym, ap, ◌∙◌, arith, inl, inr, length-append}
use Rattle.std.proofs.lemmas.Bool.{cases_eq}
use Rattle.std.proofs.lemmas.List.{get_or_append_left, get_or_push}
use Rattle.xs_layout.specs.Geometry.{groups_of}
use Rattle.xs_params.specs.Geometry.{band_width_of}
use Rattle.xs_precinct_write.specs.Outgoing.{Outgoing, no_outgoing}
use Rattle.xs_precinct_write.proofs.write.precinct.Scratch.of.Goals as goal

pub bands-preserved : goal.bands-preserved
bands-preserved c =
    let g = c.args.geometry.now in
    let old = c.bands.lines.items in
    let new = c.push_line.new.lines.items in
    let line = c.in_ok-line.line in
    let k = c.bands.band in
    let pushed : new ≡ old ++ line ∷ [] = c.in_ok-push_line.ensures in
    let own : length line.counts ≡ groups_of (band_width_of g k) = omega (arith, c.in_ok-line.ensures.groups, c.band_width.ensures.columns) in
    record {
      count = omega (arith, ap length pushed, length-append old (line ∷ []), c.bands.invariant.count);
      groups = λ band less. elim (cases_eq band k) [
        | inl same ↦
            ap (λ l. length (get_or l band no_outgoing).counts) pushed ∙ ap (λ (x : Outgoing). length x.counts) (get_or_push old line no_outgoing band (c.bands.invariant.count ∙ sym same)) ∙ own ∙ ap (λ b. groups_of (band_width_of g b)) (sym same)
        | inr other ↦
            ap (λ l. length (get_or l band no_outgoing).counts) pushed
            ∙ ap (λ (x : Outgoing). length x.counts) (get_or_append_left old (line ∷ []) no_outgoing band (omega (arith, less, other, c.bands.invariant.count)))
            ∙ c.bands.invariant.groups band (omega (arith, less, other))
      ];
    }
