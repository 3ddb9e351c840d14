use Rattle.std.proofs.Common.{◌*◌, subst, ◌∙◌}
use Rattle.xs_stripe.specs.Stripe.{line_of}
use Rattle.xs_picture.specs.Growing.{AreLinesBefore}
use Rattle.xs_picture.proofs.Grown.{picture_whole}
use Rattle.xs_picture.proofs.decode.stripes.GrowingPicture.finish.Goals as goal

pub release-requires-clause-held : goal.release-requires-clause-held
release-requires-clause-held c = (c.requires.held.0, c.requires.held.1, tt)

pub returns : goal.returns
returns c coefficients holds =
    let h = c.args.self.header in
    let picture = c.release.new.self.picture in
    picture_whole h coefficients picture c.requires.state.accepted c.known_picture.ensures (c.release.ensures.shape ∙ c.requires.state.shape)
    (subst (λ n. AreLinesBefore h coefficients picture (line_of h (n * h.hsl))) c.requires.all (c.in_ok-release.ensures.lines coefficients holds tt))
