use Rattle.std.proofs.Common.{◌≡◌, ◌<◌, length, List, get_or, refl, sym, ap, subst, ◌∙◌, arith}
use Rattle.std.specs.Prelude.{true, false, find, Some}
use Rattle.std.specs.Option.{IsSome}
use Rattle.std.proofs.lemmas.Option.{slice_get-get_or, get_or_from_slice_get}
use Rattle.xs_layout.specs.Candidates.{candidates_of, finest}
use Rattle.xs_geometry.specs.SliceLines.{BandLines, rows_held}
use Rattle.xs_rate.specs.Chosen.{fits_at, size_at}
use Rattle.xs_sizes.specs.Measured.{IsCodedAt, IsCoding, header_in}
use Rattle.xs_sizes.specs.Stepped.{IsStep}
use Rattle.xs_slice_write.proofs.Found.{find_more, find_here, over_fits}
use Rattle.xs_slice_write.proofs.choice.first_fitting.Goals.{else-size-share-via-then-size-share+else-slice_fits, else-size-share-via-else-size-share}
use Rattle.xs_slice_write.proofs.choice.first_fitting.Goals as goal

pub list-init : goal.list-init
list-init c = record {
  few = omega (arith, c.slice_size-size.ensures.few);
  cuts = c.cuts_of-seen.ensures.few;
  seen = λ bands coded. (
      let at : IsCodedAt c.args.slice bands c.args.weights.now finest c.args.coding.now c.cuts_of-seen.result = record { coded = coded; count = c.requires.weights; truncations = c.cuts_of-seen.ensures.cuts } in
      (finest, at, c.slice_size-size.ensures.size bands c.args.weights.now finest at));
  left = λ bands coded. ap (λ n. find (fits_at (header_in c.args.coding.now c.args.weights.now) (rows_held bands) c.args.share c.args.slice) (candidates_of n c.args.weights.now)) c.requires.weights;
}

pub unwrap-next-requires : goal.unwrap-next-requires
unwrap-next-requires c =
    let list = candidates_of (length c.args.weights.now) c.args.weights.now in
    let inside : c.list.number < length list = omega (arith, c.list-test.true, c.candidate_count-number-end.ensures.count) in
    subst (λ o. IsSome o) (sym (c.candidate.ensures ∙ slice_get-get_or list c.list.number finest inside)) refl

pub slice_step-size-requires-clause-step : goal.slice_step-size-requires-clause-step
slice_step-size-requires-clause-step c =
    let bands = c.requires.coding.0 in
    let at = c.list.invariant.seen bands c.requires.coding.1 in
    let after : IsCodedAt c.args.slice bands c.args.weights.now c.unwrap-next.result c.args.coding.now c.cuts_of-cuts.result = record { coded = c.requires.coding.1; count = c.requires.weights; truncations = c.cuts_of-cuts.ensures.cuts } in
    let step : IsStep c.args.slice bands c.args.weights.now at.0 c.unwrap-next.result c.args.coding.now c.change_of.result = record {
      before = subst (IsCodedAt c.args.slice bands c.args.weights.now at.0 c.args.coding.now) (sym c.change_of.ensures.from) at.1;
      after = subst (IsCodedAt c.args.slice bands c.args.weights.now c.unwrap-next.result c.args.coding.now) (sym c.change_of.ensures.to) after;
    } in
    (bands, c.args.weights.now, at.0, c.unwrap-next.result, step, at.2)

pub slice_step-size-requires-clause-few : goal.slice_step-size-requires-clause-few
slice_step-size-requires-clause-few c = omega (arith, c.list.invariant.few, c.list-test.true, c.candidate_count-number-end.ensures.few)

pub returns-then-slice_fits : goal.returns-then-slice_fits
returns-then-slice_fits c bands coded =
    let weights = c.args.weights.now in
    let list = candidates_of (length weights) weights in
    let test = fits_at (header_in c.args.coding.now weights) (rows_held bands) c.args.share c.args.slice in
    let inside : c.list.number < length list = omega (arith, c.list-test.true, c.candidate_count-number-end.ensures.count) in
    let next : get_or list c.list.number finest ≡ c.unwrap-next.result = get_or_from_slice_get list c.list.number c.unwrap-next.result finest (sym c.candidate.ensures ∙ c.unwrap-next.ensures) in
    let yes : c.slice_fits.result ≡ true = cc (c.if-slice_fits.true) in
    let fits : test c.unwrap-next.result ≡ true = sym (c.slice_fits.ensures bands weights c.unwrap-next.result (record { coded = coded; count = c.requires.weights; truncations = c.cuts_of-cuts.ensures.cuts })) ∙ yes in
    ap (λ k. Some k) (sym next) ∙ sym (find_here test list c.list.number finest inside (ap test next ∙ fits)) ∙ c.list.invariant.left bands coded

pub list-preserved : goal.list-preserved
list-preserved c =
    let weights = c.args.weights.now in
    let list = candidates_of (length weights) weights in
    let inside : c.list.number < length list = omega (arith, c.list-test.true, c.candidate_count-number-end.ensures.count) in
    let next : get_or list c.list.number finest ≡ c.unwrap-next.result = get_or_from_slice_get list c.list.number c.unwrap-next.result finest (sym c.candidate.ensures ∙ c.unwrap-next.ensures) in
    let here : (bands : List BandLines) → IsCoding c.args.slice bands c.args.coding.now → IsCodedAt c.args.slice bands weights c.unwrap-next.result c.args.coding.now c.cuts_of-cuts.result
    = λ bands coded. record { coded = coded; count = c.requires.weights; truncations = c.cuts_of-cuts.ensures.cuts } in
    let size : (bands : List BandLines) → IsCoding c.args.slice bands c.args.coding.now → c.slice_step-size.result ≡ size_at (header_in c.args.coding.now weights) (rows_held bands) c.args.slice c.unwrap-next.result
    = λ bands coded. (
    let at = c.list.invariant.seen bands coded in
    let step : IsStep c.args.slice bands weights at.0 c.unwrap-next.result c.args.coding.now c.change_of.result = record {
      before = subst (IsCodedAt c.args.slice bands weights at.0 c.args.coding.now) (sym c.change_of.ensures.from) at.1;
      after = subst (IsCodedAt c.args.slice bands weights c.unwrap-next.result c.args.coding.now) (sym c.change_of.ensures.to) (here bands coded);
    } in
    c.slice_step-size.ensures.step bands weights at.0 c.unwrap-next.result step at.2) in
    record {
      few = omega (arith, c.list.invariant.few, c.slice_step-size.ensures.few);
      cuts = c.cuts_of-cuts.ensures.few;
      seen = λ bands coded. (c.unwrap-next.result, here bands coded, size bands coded);
      left = λ bands coded. (
          let test = fits_at (header_in c.args.coding.now weights) (rows_held bands) c.args.share c.args.slice in
          let fails : test c.unwrap-next.result ≡ false = elim c.else-size-share.branch [
            | else-size-share-via-then-size-share+else-slice_fits w ↦
                let no : w.slice_fits.result ≡ false = cc (w.if-slice_fits.false) in
                sym (w.slice_fits.ensures bands weights c.unwrap-next.result (here bands coded)) ∙ no
            | else-size-share-via-else-size-share w ↦ over_fits (header_in c.args.coding.now weights) (rows_held bands) c.args.share c.args.slice c.slice_step-size.result c.unwrap-next.result (size bands coded) (omega (arith, w.if-size-share.false))
          ] in
          sym (find_more test list c.list.number finest inside (ap test next ∙ fails)) ∙ c.list.invariant.left bands coded);
    }
