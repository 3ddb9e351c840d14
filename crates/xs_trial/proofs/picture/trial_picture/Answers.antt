use Rattle.std.proofs.Common.{◌≡◌, ◌+◌, ◌≤◌, ◌<◌, length, sym, ap, ◌∙◌, arith}
use Rattle.std.proofs.lemmas.List.{length-replicate}
use Rattle.xs_layout.specs.declared.Shape.{Shape}
use Rattle.xs_layout.specs.Geometry.{components_of}
use Rattle.xs_params.specs.Picture.{Picture, plane_first, sample_count}
use Rattle.xs_params.proofs.Areas.{first_below}
use Rattle.xs_trial.specs.Generator.{plane_places, state_past}
use Rattle.xs_trial.specs.Steps.{planes_places, with_drawn}
use Rattle.xs_trial.proofs.Drawing.{drawn_all, drawn_more, length-planes, planes_more, state_more}
use Rattle.xs_trial.proofs.picture.trial_picture.Goals as goal

pub components-preserved : goal.components-preserved
components-preserved c =
    let blank = c.in_ok-planes.planes in
    let shape = c.args.shape.now in
    let seed = c.args.seed in
    let component = c.components.component in
    let next = plane_first shape component in
    let places = planes_places shape component in
    let more = plane_places shape component in
    let size : length blank.samples ≡ sample_count shape = ap length c.in_ok-planes.ensures.zeros ∙ length-replicate (sample_count shape) 0 in
    let below : component < components_of shape.format = omega (arith, c.components-test.true, c.components.auto.component-end, c.components-component-end.ensures.count) in
    let at : next ≡ 0 + length places = omega (arith, length-planes shape component) in
    let inside : next ≤ length blank.samples = omega (arith, size, first_below shape component (components_of shape.format) below) in
    record {
      drawn =
          c.draw_plane-state.ensures.drawn
          ∙ ap (λ (p : Picture). with_drawn p (plane_first p.shape component) (plane_places p.shape component) c.components.state) c.components.invariant.drawn
          ∙ ap (λ (s : Shape). with_drawn (with_drawn blank 0 places seed) (plane_first s component) (plane_places s component) c.components.state) c.in_ok-planes.ensures.shape
          ∙ ap (with_drawn (with_drawn blank 0 places seed) next more) c.components.invariant.state ∙ drawn_more blank 0 next places more seed at inside
          ∙ ap (λ l. with_drawn blank 0 l seed) (sym (planes_more shape component));
      state =
          c.draw_plane-state.ensures.state ∙ ap (λ (p : Picture). state_past (plane_places p.shape component) c.components.state) c.components.invariant.drawn
          ∙ ap (λ (s : Shape). state_past (plane_places s component) c.components.state) c.in_ok-planes.ensures.shape
          ∙ ap (state_past more) c.components.invariant.state ∙ sym (ap (λ l. state_past l seed) (planes_more shape component) ∙ state_more places more seed);
    }

pub returns-clause-picture : goal.returns-clause-picture
returns-clause-picture c =
    let blank = c.in_ok-planes.planes in
    let shape = c.args.shape.now in
    let seed = c.args.seed in
    let size : length blank.samples ≡ sample_count shape = ap length c.in_ok-planes.ensures.zeros ∙ length-replicate (sample_count shape) 0 in
    let all : c.components.component ≡ components_of shape.format = omega (arith, c.components-test.false, c.components.auto.component-end, c.components-component-end.ensures.count) in
    c.components.invariant.drawn ∙ ap (λ n. with_drawn blank 0 (planes_places shape n) seed) all ∙ drawn_all blank shape seed c.in_ok-planes.ensures.shape size
