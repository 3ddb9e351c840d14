use Rattle.std.proofs.Common.{◌≡◌, ◌∷◌, ◌++◌, [], true, append_assoc, sym, ap, ◌∙◌}
use Rattle.std.specs.Prelude.{if◌then◌else◌, is_ok}
use Rattle.xs_lists.specs.Spelling.{upto}
use Rattle.xs_trial.proofs.Drawing.{upto_more}
use Rattle.xs_trial.proofs.order.list.Goals as goal

pub listing-preserved : goal.listing-preserved
listing-preserved c =
    let n = c.listing.number in
    let before = c.args.entries.now.items in
    let done : is_ok c.push.result ≡ true = sym c.in_ok-map_err.ensures.variant in
    record {
      listed =
          c.push.ensures.items ∙ ap (λ b. if b then c.listing.entries.items ++ n ∷ [] else c.listing.entries.items) done ∙ ap (λ l. l ++ n ∷ []) c.listing.invariant.listed
          ∙ append_assoc before (upto n) (n ∷ []) ∙ ap (λ l. before ++ l) (sym (upto_more n));
    }
