use Rattle.std.proofs.Common.{true≢false, refl, sym, ◌∙◌, arith}
use Rattle.xs_picture.proofs.Analysed.{given_all, given_up}
use Rattle.xs_enc_lanes.proofs.transform.Transform.advance.Goals as goal

pub finish-requires-clause-chain : goal.finish-requires-clause-chain
finish-requires-clause-chain c = (c.in_ok-push_rows.ensures.given c.args.self.now.kept (c.requires.state.given c.if-self.false)).chain

pub finish-requires-clause-all : goal.finish-requires-clause-all
finish-requires-clause-all c =
    let t = c.args.self.now in
    let given = c.in_ok-push_rows.ensures.given t.kept (c.requires.state.given c.if-self.false) in
    given_all t.component.header.now t.component.picture.now t.component.number t.kept c.max-end.result c.push_rows.new.splitter c.if-end-height.true given

pub returns-in_ok-finish-clause-state : goal.returns-in_ok-finish-clause-state
returns-in_ok-finish-clause-state c =
    let t = c.args.self.now in
    let given = c.in_ok-push_rows.ensures.given t.kept (c.requires.state.given c.if-self.false) in
    let e = c.in_ok-finish.ensures in
    record {
      same = refl;
      component = c.requires.state.component;
      rows = c.in_ok-push_rows.ensures.fit;
      given = λ is. absurd (true≢false is);
      most = omega (arith, c.if-end-height.true);
      split = λ _. given_up t.component.header.now t.component.picture.now t.component.number t.kept c.max-end.result c.push_rows.new.splitter c.finish.new.self given e.all e.same e.holds;
    }

pub returns-else-end-height-clause-state : goal.returns-else-end-height-clause-state
returns-else-end-height-clause-state c = record {
  same = refl;
  component = c.requires.state.component;
  rows = c.in_ok-push_rows.ensures.fit;
  given = λ _. c.in_ok-push_rows.ensures.given c.args.self.now.kept (c.requires.state.given c.if-self.false);
  most = omega (arith, c.min.ensures, c.max-end.ensures, c.requires.state.most);
  split = λ is. absurd (true≢false (sym is ∙ c.if-self.false));
}
