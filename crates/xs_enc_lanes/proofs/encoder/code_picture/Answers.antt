use Rattle.std.proofs.Common.{◌≡◌, refl, sym, ap, subst, ◌∙◌, arith}
use Rattle.xs_params.specs.Geometry.{slice_count}
use Rattle.xs_params.specs.Headers.{header_of}
use Rattle.xs_rate.specs.Coefficients.{rows_of_picture}
use Rattle.xs_picture.proofs.Encoded.{some_slices}
use Rattle.xs_enc_lanes.specs.Answered.{AreSliced}
use Rattle.xs_enc_lanes.specs.Finished.{GotEachOnce, StoresPicture}
use Rattle.xs_enc_lanes.proofs.Pictures.{picture_got, picture_sliced, picture_stored, share_small}
use Rattle.xs_enc_lanes.proofs.encoder.code_picture.Goals as goal

pub new-requires-clause-lanes : goal.new-requires-clause-lanes
new-requires-clause-lanes g c κs =
    let h = c.in_ok-header.header in
    let count : c.slices-count.result ≡ slice_count h = c.slices-count.ensures.count ∙ ap slice_count c.of.ensures in
    let some = some_slices h c.in_ok-header.ensures.accepted in
    let most = c.in_ok-header.ensures.accepted.geometry.slices in
    (omega (arith, count, some), omega (arith, count, most))

pub run_team-requires-clause-work : goal.run_team-requires-clause-work
run_team-requires-clause-work g c κs outlives = record {
  encodes = record {
    accepted = c.in_ok-header.ensures.accepted;
    shape = c.requires.shape ∙ sym (ap (λ h. h.shape) c.in_ok-header.ensures.header);
    heads = ap (λ h. h.long_heads) c.in_ok-header.ensures.header;
    gains = c.in_ok-header.ensures.weights.gains;
    share = λ _. share_small c.args.settings.now _ c.settings-asked.ensures.in_range (ap (λ s. s.share) c.settings-asked.ensures.settings);
  };
  lanes = c.in_ok-lanes.ensures.count ∙ c.slices-count.ensures.count ∙ ap slice_count c.of.ensures;
}

pub fork-requires : goal.fork-requires
fork-requires g c = record { forked = c.new-team.ensures c.components-components.result }

pub run_team-requires-clause-roles : goal.run_team-requires-clause-roles
run_team-requires-clause-roles g c κs outlives component below = c.in_ok-fork.ensures.roles component (omega (arith, below, c.components-components.ensures.count))

pub returns-clause-count : goal.returns-clause-count
returns-clause-count g c = c.end.ensures.count ∙ c.slices-count.ensures.count ∙ ap slice_count c.of.ensures ∙ ap slice_count c.in_ok-header.ensures.header

pub returns-clause-slices : goal.returns-clause-slices
returns-clause-slices g c =
    let s = c.args.settings.now in
    let asked = c.settings-asked.ensures.settings in
    subst (λ k. AreSliced (header_of c.args.settings.now) (rows_of_picture (header_of c.args.settings.now) c.args.planes.now) c.args.settings.now.share c.args.settings.now.fill k.items) (sym c.end.ensures.slices)
    (picture_sliced _ c.in_ok-caller.caller c.in_ok-caller.ensures c.end.ensures.done s c.args.planes.now c.in_ok-header.ensures.header refl (ap (λ x. x.share) asked) (ap (λ x. x.fill) asked))

pub returns-clause-stored : goal.returns-clause-stored
returns-clause-stored g c =
    subst (StoresPicture (header_of c.args.settings.now) c.args.planes.now) (sym c.end.ensures.actor) (picture_stored _ c.in_ok-caller.caller c.in_ok-caller.ensures c.end.ensures.done c.args.settings.now c.args.planes.now c.in_ok-header.ensures.header refl)

pub returns-clause-got : goal.returns-clause-got
returns-clause-got g c = subst (GotEachOnce (header_of c.args.settings.now)) (sym c.end.ensures.actor) (picture_got _ c.in_ok-caller.caller c.in_ok-caller.ensures c.end.ensures.done c.args.settings.now c.args.planes.now c.in_ok-header.ensures.header refl)
