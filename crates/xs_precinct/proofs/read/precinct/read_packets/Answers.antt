use Rattle.std.proofs.Common.{◌≡◌, ◌-◌, ◌<◌, ◌≤◌, take, drop, length, ap, subst, ◌∙◌, arith, length-drop}
use Rattle.std.specs.Prelude.{Some}
use Rattle.std.specs.Result.{result_err}
use Rattle.std.proofs.lemmas.Result.{err_from_is_err_and}
use Rattle.std.proofs.lemmas.List.{take_all}
use Rattle.xs_params.specs.declared.header.Header.{Header}
use Rattle.xs_params.specs.Geometry.{packets_of}
use Rattle.xs_reading.specs.Packet.{packet_fault}
use Rattle.xs_precinct.proofs.Next.{IsPlaced, IsPlaceRead, packets_more, packets_refused, rooms_kept}
use Rattle.xs_precinct.proofs.Whole.{elsewhere_more, faults_done, packets_done}
use Rattle.xs_precinct.proofs.read.precinct.read_packets.Goals as goal

pub read_place-requires-clause-number : goal.read_place-requires-clause-number
read_place-requires-clause-number c = subst (λ n. c.packets.number < n) (c.packets-number-end.ensures.count ∙ ap (λ (g : Header). length (packets_of g c.args.place.now.precinct)) c.requires.geometry) c.packets-test.true

pub read_place-requires-clause-lines : goal.read_place-requires-clause-lines
read_place-requires-clause-lines c = (c.requires.lines.0, c.packets.invariant.kept c.args.place.now.header.now c.requires.lines.0 c.requires.lines.1, c.requires.lines.2)

pub returns-in_err-at-clause-lines : goal.returns-in_err-at-clause-lines
returns-in_err-at-clause-lines c = λ h slice are. c.read_place.ensures.lines h slice (c.packets.invariant.kept h slice are)

pub returns-in_err-at-clause-fault : goal.returns-in_err-at-clause-fault
returns-in_err-at-clause-fault c =
    let p = err_from_is_err_and c.from_residual.result c.from_residual.ensures.1 in
    let h = c.args.place.now.header.now in
    let precinct = c.args.place.now.precinct in
    let number = c.packets.number in
    let inside = subst (λ n. number < n) (c.packets-number-end.ensures.count ∙ ap (λ (g : Header). length (packets_of g precinct)) c.requires.geometry) c.packets-test.true in
    let placed : IsPlaced h precinct number c.packets.bands c.packets.into = record { ranges = c.requires.accepted.geometry; inside = inside; count = c.packets.invariant.count ∙ c.requires.count; room = c.packets.invariant.room; lines = (c.requires.lines.0, c.packets.invariant.kept h c.requires.lines.0 c.requires.lines.1, c.requires.lines.2) } in
    let body = c.args.body.now in
    let at = c.packets.at in
    let rest : take (length body - at) (drop at body) ≡ drop at body = take_all (length body - at) (drop at body) (omega (arith, length-drop at body)) in
    λ content modes ready. ap result_err p.1 ∙ ap Some p.2
    ∙ packets_refused h precinct content modes c.args.body.now c.packets.into c.packets.bands c.packets.at number c.in_err-at.field-0.0 placed (c.packets.invariant.so content modes ready)
    (λ lines known. c.in_err-at.ensures.fault lines known ∙ ap (packet_fault h number lines) rest)

pub packets-preserved : goal.packets-preserved
packets-preserved c =
    let h = c.args.place.now.header.now in
    let precinct = c.args.place.now.precinct in
    let number = c.packets.number in
    let bands = c.packets.bands in
    let rows = c.packets.into in
    let new = c.read_place.new.bands in
    let into = c.read_place.new.into in
    let read = c.in_ok-at.ensures in
    let inside = subst (λ n. number < n) (c.packets-number-end.ensures.count ∙ ap (λ (g : Header). length (packets_of g precinct)) c.requires.geometry) c.packets-test.true in
    let placed : IsPlaced h precinct number bands rows = record { ranges = c.requires.accepted.geometry; inside = inside; count = c.packets.invariant.count ∙ c.requires.count; room = c.packets.invariant.room; lines = (c.requires.lines.0, c.packets.invariant.kept h c.requires.lines.0 c.requires.lines.1, c.requires.lines.2) } in
    let body = c.args.body.now in
    let at = c.packets.at in
    let rest : take (length body - at) (drop at body) ≡ drop at body = take_all (length body - at) (drop at body) (omega (arith, length-drop at body)) in
    let place_read : IsPlaceRead h precinct number (take (length body - at) (drop at body)) bands new rows into c.in_ok-at.field-0 =
    record { fault = λ lines known. read.fault lines known; ends = λ lines known. read.ends lines known; read = λ lines known. read.read lines known; after = read.after; put = read.put } in
    record {
      within = omega (arith, read.within, ap length rest, length-drop c.packets.at c.args.body.now, c.packets.invariant.within);
      count = read.after.count ∙ c.packets.invariant.count;
      room = rooms_kept h precinct number bands new rows placed read.after;
      kept = λ g slice are. read.put.kept g slice (c.packets.invariant.kept g slice are);
      same_lines = λ band line. (λ has. (c.packets.invariant.same_lines band line).0 ((read.put.same_lines band line).0 has), λ has. (read.put.same_lines band line).1 ((c.packets.invariant.same_lines band line).1 has));
      elsewhere = elsewhere_more h precinct number new c.args.into.now rows into placed.ranges inside c.packets.invariant.same_lines c.packets.invariant.elsewhere read.put;
      so = λ content modes ready. packets_more h precinct content modes c.args.body.now rows into bands new c.packets.at number c.in_ok-at.field-0 placed (c.packets.invariant.so content modes ready)
          (subst (λ b. IsPlaceRead h precinct number b bands new rows into c.in_ok-at.field-0) rest place_read);
    }

pub returns-clause-fault : goal.returns-clause-fault
returns-clause-fault c =
    let h = c.args.place.now.header.now in
    let precinct = c.args.place.now.precinct in
    let all : length (packets_of h precinct) ≤ c.packets.number = omega (arith, c.packets-number-end.ensures.count, ap (λ (g : Header). length (packets_of g precinct)) c.requires.geometry, c.packets-test.false) in
    λ content modes ready. faults_done h precinct content modes c.args.body.now c.packets.into c.packets.bands c.packets.at c.packets.number all (c.packets.invariant.so content modes ready)

pub returns-clause-read : goal.returns-clause-read
returns-clause-read c =
    let h = c.args.place.now.header.now in
    let precinct = c.args.place.now.precinct in
    let count = c.packets-number-end.ensures.count ∙ ap (λ (g : Header). length (packets_of g precinct)) c.requires.geometry in
    let all : c.packets.number ≡ length (packets_of h precinct) = omega (arith, count, c.packets-test.false, c.packets.auto.number-end) in
    λ content modes ready. packets_done h precinct content modes c.args.body.now c.requires.lines.0 c.args.into.now c.packets.into c.packets.bands c.packets.at c.packets.number c.requires.accepted.geometry all
    (c.packets.invariant.kept h c.requires.lines.0 c.requires.lines.1) c.packets.invariant.elsewhere (c.packets.invariant.so content modes ready)
