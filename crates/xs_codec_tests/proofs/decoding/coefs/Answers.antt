use Rattle.std.proofs.Common.{◌+◌, [], ◌∷◌, length, get_or, sym, ap, subst, ◌∙◌, length-append}
use Rattle.xs_codec_tests.specs.Made.{IsMade}
use Rattle.xs_codec_tests.proofs.Made.{made_kept, slices_more}
use Rattle.xs_codec_tests.proofs.decoding.coefs.Goals as goal

pub slices-preserved : goal.slices-preserved
slices-preserved c =
    let i = c.slices.invariant in
    let rows = c.in_ok-rows.rows in
    let made : IsMade c.args.header c.slices.slice rows = made_kept c.args.header c.slices.slice rows (subst (λ h. IsMade h c.slices.slice rows) c.of-geometry.ensures c.in_ok-rows.ensures) in
    record {
      header = c.push.ensures.header ∙ i.header;
      count = ap length c.in_ok-push.ensures.added ∙ length-append c.slices.coefs.slices (rows ∷ []) ∙ ap (λ n. n + 1) i.count;
      made = λ slice inside. subst (λ l. IsMade c.args.header slice (get_or l slice [])) (sym c.in_ok-push.ensures.added) (slices_more c.args.header c.slices.slice c.slices.coefs.slices rows i.count made i.made slice inside);
    }
