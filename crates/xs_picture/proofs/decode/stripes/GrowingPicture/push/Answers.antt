use Rattle.std.proofs.Common.{◌-◌, ◌*◌, sym, subst}
use Rattle.std.specs.Prelude.{IfSome}
use Rattle.xs_params.specs.declared.header.Header.{Header}
use Rattle.xs_stripe.specs.Edges.{ShowsDown, ShowsUp}
use Rattle.xs_stripe.specs.Stripe.{line_of}
use Rattle.xs_picture.specs.Growing.{AreLinesBefore, HoldsSlice}
use Rattle.xs_picture.proofs.decode.stripes.GrowingPicture.push.Goals as goal

pub release-requires-clause-held : goal.release-requires-clause-held
release-requires-clause-held c =
    let held = c.requires.held in
    (held.0, held.1, subst (λ n. ShowsUp c.args.self.now.header n c.in_ok-up.up held.0) c.requires.next (c.in_ok-up.ensures.shows_up held.0 held.2))

pub returns-clause-holds : goal.returns-clause-holds
returns-clause-holds c coefficients holds shows =
    let h = c.args.self.now.header in
    let picture = c.release.new.self.picture in
    let next = c.requires.next in
    let up = subst (λ n. ShowsUp h n c.in_ok-up.up coefficients) next (c.in_ok-up.ensures.shows_up coefficients shows) in
    subst (λ (x : Header). HoldsSlice x coefficients picture (record { slice = c.args.slice; above = c.in_ok-above.above; body = c.args.body; down = c.in_ok-up.down })) (sym c.release.ensures.header) (record {
      shown = record {
        above = subst (λ n. IfSome c.in_ok-above.above (λ edge. ShowsDown h (n - 1) edge coefficients)) (sym next) (c.in_ok-above.ensures.shown coefficients holds);
        body = shows;
      };
      down = c.in_ok-up.ensures.shows_down coefficients shows;
      lines = subst (λ n. AreLinesBefore h coefficients picture (line_of h (n * h.hsl))) (sym next) (c.in_ok-above.ensures.lines coefficients holds up);
    })
