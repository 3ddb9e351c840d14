use Rattle.std.proofs.Common.{◌≡◌, sym, subst, arith}
use Rattle.xs_picture.specs.Analysed.{IsGiven, IsLine}
use Rattle.xs_picture.proofs.Analysed.{given_room, given_width, more_given}
use Rattle.xs_enc_lanes.proofs.transform.push_rows.Goals as goal

pub push-requires-clause-room : goal.push-requires-clause-room
push-requires-clause-room c =
    given_room c.args.component.header.now c.args.component.picture.now c.args.component.number c.requires.first.0 c.lines.line c.lines.splitter (omega (arith, c.lines-test.true, c.lines.auto.line-end, c.requires.lines)) (c.lines.invariant.given c.requires.first.0 c.requires.first.1)

pub push-requires-clause-chain : goal.push-requires-clause-chain
push-requires-clause-chain c = (c.lines.invariant.given c.requires.first.0 c.requires.first.1).chain

pub push-requires-clause-width : goal.push-requires-clause-width
push-requires-clause-width c =
    let component = c.args.component in
    given_width component.header.now component.picture.now component.number c.requires.first.0 c.lines.line c.numbers.result.now c.lines.splitter (subst (IsLine component.header.now component.picture.now component.number c.lines.line) (sym c.numbers.ensures) c.fill.ensures.line)
    (c.lines.invariant.given c.requires.first.0 c.requires.first.1)

pub push-requires-clause-small : goal.push-requires-clause-small
push-requires-clause-small c =
    let component = c.args.component in
    (subst (IsLine component.header.now component.picture.now component.number c.lines.line) (sym c.numbers.ensures) c.fill.ensures.line).small

pub lines-preserved : goal.lines-preserved
lines-preserved c =
    let component = c.args.component in
    let line = subst (IsLine component.header.now component.picture.now component.number c.lines.line) (sym c.numbers.ensures) c.fill.ensures.line in
    let e = c.in_ok-push.ensures in
    record {
      given = λ from first. more_given component.header.now component.picture.now component.number from c.lines.line c.numbers.result.now c.lines.splitter c.push.new.self line (c.lines.invariant.given from first) e.chain e.taken e.same e.holds;
      fit = c.fill.ensures.fit;
    }

pub returns-clause-given : goal.returns-clause-given
returns-clause-given c = λ from first.
    let end : c.lines.line ≡ c.args.lines.1 = omega (arith, c.lines-test.false, c.lines.auto.line-end, c.lines.auto.line, c.requires.lines) in
    subst (λ n. IsGiven c.args.component.header.now c.args.component.picture.now c.args.component.number from n c.lines.splitter) end (c.lines.invariant.given from first)
