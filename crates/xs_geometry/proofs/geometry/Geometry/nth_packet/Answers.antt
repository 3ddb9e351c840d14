use Rattle.std.proofs.Common.{◌≡◌, ◌<◌, length, take, sym, ap, ◌∙◌, arith}
use Rattle.std.specs.List.{filter}
use Rattle.xs_params.specs.Geometry.{has_line, packet_places, packets_of}
use Rattle.xs_geometry.specs.Places.{place_in, place_of}
use Rattle.xs_geometry.proofs.Filtered.{one_more, none_more, found}
use Rattle.xs_geometry.proofs.geometry.Geometry.nth_packet.Goals as goal
use Rattle.xs_geometry.proofs.geometry.Geometry.nth_packet.Goals.{then-has_line+else-left-eq0, else-has_line}

pub returns-then-left-eq0 : goal.returns-then-left-eq0
returns-then-left-eq0 c =
    let h = c.args.self.now in
    let places = packet_places h c.args.precinct in
    let at = c.loop-at.at in
    let inside : at < length places = omega (arith, c.loop-at-test.true, c.places-at-end.ensures.count c.args.precinct) in
    let here : length (filter (has_line h) (take at places)) ≡ c.args.number = omega (arith, c.loop-at.invariant, c.if-left-eq0.true) in (
      found (has_line h) places at (place_of c.place-place.result) _ inside c.place-place.ensures.place (sym c.has_line.ensures ∙ c.if-has_line.true) ∙ ap (place_in (packets_of h c.args.precinct)) here,
      c.place-place.ensures.bands_there,
    )

pub loop-at-preserved : goal.loop-at-preserved
loop-at-preserved c =
    let h = c.args.self.now in
    let places = packet_places h c.args.precinct in
    let at = c.loop-at.at in
    let inside : at < length places = omega (arith, c.loop-at-test.true, c.places-at-end.ensures.count c.args.precinct) in
    let place = place_of c.place-place.result in
    elim c.if-has_line.branch [
      | then-has_line+else-left-eq0 w ↦
          let more = one_more (has_line h) places at place _ inside c.place-place.ensures.place (sym c.has_line.ensures ∙ w.if-has_line.true) in
          omega (arith, w.left-is, w.if-left-eq0.false, c.loop-at.invariant, more)
      | else-has_line w ↦
          let same = none_more (has_line h) places at place _ inside c.place-place.ensures.place (sym c.has_line.ensures ∙ w.if-has_line.false) in
          omega (arith, w.left-is, c.loop-at.invariant, same)
    ]
