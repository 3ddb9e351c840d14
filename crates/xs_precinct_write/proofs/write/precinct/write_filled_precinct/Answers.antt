use Rattle.std.proofs.Common.{sym, ◌∙◌}
use Rattle.xs_precinct_write.proofs.Alikes.{room_back}
use Rattle.xs_precinct_write.proofs.write.precinct.write_filled_precinct.Goals as goal

pub returns-in_err-whole-clause-room : goal.returns-in_err-whole-clause-room
returns-in_err-whole-clause-room c =
    room_back c.args.at.now.header.now c.filled_precinct.new.lines c.args.scratch.now.lines.items c.args.scratch.now.lines.len c.args.scratch.now.lines.ok.0 (c.filled_precinct.ensures.room.count ∙ sym c.requires.room.count) c.filled_precinct.ensures.room

pub returns-clause-room : goal.returns-clause-room
returns-clause-room c =
    room_back c.args.at.now.header.now c.filled_precinct.new.lines c.args.scratch.now.lines.items c.args.scratch.now.lines.len c.args.scratch.now.lines.ok.0 (c.filled_precinct.ensures.room.count ∙ sym c.requires.room.count) c.filled_precinct.ensures.room
