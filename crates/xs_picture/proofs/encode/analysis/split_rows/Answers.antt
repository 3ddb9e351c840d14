use Rattle.std.proofs.Common.{arith}
use Rattle.xs_picture.proofs.Analysed.{given_all, given_room, given_up, given_width, more_given}
use Rattle.xs_picture.proofs.encode.analysis.split_rows.Goals as goal

pub push-requires-clause-room : goal.push-requires-clause-room
push-requires-clause-room c = given_room c.args.component.header.now c.args.component.picture.now c.args.component.number 0 c.lines.line c.lines.splitter (omega (arith, c.lines-test.true, c.lines.auto.line-end)) c.lines.invariant

pub push-requires-clause-width : goal.push-requires-clause-width
push-requires-clause-width c = given_width c.args.component.header.now c.args.component.picture.now c.args.component.number 0 c.lines.line c.scale_line.new.row c.lines.splitter c.scale_line.ensures c.lines.invariant

pub lines-preserved : goal.lines-preserved
lines-preserved c =
    let e = c.in_ok-push.ensures in
    more_given c.args.component.header.now c.args.component.picture.now c.args.component.number 0 c.lines.line c.scale_line.new.row c.lines.splitter c.push.new.self c.scale_line.ensures c.lines.invariant e.chain e.taken e.same e.holds

pub finish-requires-clause-all : goal.finish-requires-clause-all
finish-requires-clause-all c = given_all c.args.component.header.now c.args.component.picture.now c.args.component.number 0 c.lines.line c.lines.splitter (omega (arith, c.lines-test.false, c.lines.auto.line-end)) c.lines.invariant

pub returns : goal.returns
returns c =
    let e = c.in_ok-finish.ensures in
    given_up c.args.component.header.now c.args.component.picture.now c.args.component.number 0 c.lines.line c.lines.splitter c.finish.new.self c.lines.invariant e.all e.same e.holds
