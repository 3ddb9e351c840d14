use Rattle.xs_enc_lanes.proofs.activity.Team.fork.Goals as goal

pub returns : goal.returns
returns c = record {
  forked = c.in_ok-add_coders.ensures.forked c.args.components c.in_ok-add_components.ensures.forked;
  roles = λ k below. c.in_ok-add_coders.ensures.others k (c.in_ok-add_components.ensures.roles k below);
}
