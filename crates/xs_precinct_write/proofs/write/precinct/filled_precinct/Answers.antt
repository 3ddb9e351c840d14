use Rattle.std.proofs.Common.{◌≡◌, subst, arith}
use Rattle.std.specs.Prelude.{IfOk}
use Rattle.xs_precinct_write.specs.Sent.{content_in, modes_in}
use Rattle.xs_precinct_write.proofs.Alikes.{modes_kept, room_kept}
use Rattle.xs_precinct_write.proofs.Modes.{few_bands}
use Rattle.xs_precinct_write.proofs.Precincts.{precinct_same}
use Rattle.xs_precinct_write.proofs.write.precinct.filled_precinct.Goals as goal

pub returns-in_err-body-clause-room : goal.returns-in_err-body-clause-room
returns-in_err-body-clause-room c = room_kept c.args.at.now.header.now c.set_modes.new.lines c.precinct_body.new.lines c.set_modes.ensures.room c.precinct_body.ensures.alike

pub with_head-requires-clause-few : goal.with_head-requires-clause-few
with_head-requires-clause-few c =
    let h = c.args.at.now.header.now in
    let room = room_kept h c.set_modes.new.lines c.precinct_body.new.lines c.set_modes.ensures.room c.precinct_body.ensures.alike in
    omega (arith, room.count, few_bands h c.requires.precinct.is_slice.accepted.geometry)

pub returns-clause-whole : goal.returns-clause-whole
returns-clause-whole c =
    let s = c.args.at.now in
    let h = s.header.now in
    let lines = c.precinct_body.new.lines in
    let room = room_kept h c.set_modes.new.lines lines c.set_modes.ensures.room c.precinct_body.ensures.alike in
    let modes = modes_kept h (modes_in s c.args.wanted.precinct) c.set_modes.new.lines lines c.set_modes.ensures.modes c.precinct_body.ensures.alike in
    subst (λ l. IfOk c.with_head.result (λ whole. whole ≡ l))
    (precinct_same h (content_in s) (modes_in s) (λ _. c.args.wanted.filler) c.args.wanted.precinct lines c.in_ok-body.body c.in_ok-body.ensures.body room.count modes) c.with_head.ensures

pub returns-clause-room : goal.returns-clause-room
returns-clause-room c = room_kept c.args.at.now.header.now c.set_modes.new.lines c.precinct_body.new.lines c.set_modes.ensures.room c.precinct_body.ensures.alike
