use Rattle.std.proofs.Common.{◌<◌, length, sym, ◌∙◌, arith}
use Rattle.xs_params.specs.Geometry.{has_line, packet_places}
use Rattle.xs_geometry.specs.Places.{place_of}
use Rattle.xs_geometry.proofs.Filtered.{one_more, none_more}
use Rattle.xs_geometry.proofs.geometry.Geometry.packets.Goals as goal
use Rattle.xs_geometry.proofs.geometry.Geometry.packets.Goals.{then-has_line, else-has_line}

pub loop-number-preserved : goal.loop-number-preserved
loop-number-preserved c =
    let h = c.args.self.now in
    let places = packet_places h c.args.precinct in
    let at = c.loop-number.number in
    let inside : at < length places = omega (arith, c.loop-number-test.true, c.places-number-end.ensures.count c.args.precinct) in
    let place = place_of c.place.result in
    elim c.if-has_line.branch [
      | then-has_line w ↦
          let more = one_more (has_line h) places at place _ inside c.place.ensures.place (sym c.has_line.ensures ∙ w.if-has_line.true) in
          record { value = omega (arith, w.count-is, c.loop-number.invariant.value, more); most = omega (arith, w.count-is, c.loop-number.invariant.most) }
      | else-has_line w ↦
          let same = none_more (has_line h) places at place _ inside c.place.ensures.place (sym c.has_line.ensures ∙ w.if-has_line.false) in
          record { value = omega (arith, w.count-is, c.loop-number.invariant.value, same); most = omega (arith, w.count-is, c.loop-number.invariant.most) }
    ]
