use Rattle.std.proofs.Common.{◌≡◌, ◌<◌, refl, ap, subst, ◌∙◌, arith}
use Rattle.xs_params.specs.Geometry.{slice_count}
use Rattle.xs_lanes.specs.Passes.{view}
use Rattle.xs_picture.specs.declared.encode.analysis.Component.{Component}
use Rattle.xs_enc_lanes.specs.Working.{AreFiledTo}
use Rattle.xs_enc_lanes.proofs.UnderWay.{filed_more, own, own_reached, own_rows, own_slice, still}
use Rattle.xs_enc_lanes.proofs.file.file_component.Goals as goal

pub slices-init : goal.slices-init
slices-init c = record {
  pass = c.requires.pass;
  share = (refl, refl);
  got = refl;
  stored = λ all. all;
  filed = λ k below. absurd (omega (arith, below));
  kept = c.in_ok-transform.ensures.kept;
  state = c.in_ok-transform.ensures.state;
}

pub advance-requires : goal.advance-requires
advance-requires c =
    let component : Component = record { picture = c.args.job.now.picture; header = c.args.job.now.header; number = c.args.number } in
    record { state = own component c.slices.transform c.slices.invariant.state }

pub slice-requires-clause-there : goal.slice-requires-clause-there
slice-requires-clause-there c =
    let component : Component = record { picture = c.args.job.now.picture; header = c.args.job.now.header; number = c.args.number } in
    let state = still component c.slices.transform c.advance.new.self c.slices.invariant.state c.in_ok-advance.ensures.state in
    let below : c.slices.slice < slice_count c.args.job.now.header.now = omega (arith, c.slices-test.true, c.slices.auto.slice-end, c.slices-slice-end.ensures.count, ap slice_count c.of.ensures) in
    own_slice component c.advance.new.self c.slices.slice state below

pub slice-requires-clause-reached : goal.slice-requires-clause-reached
slice-requires-clause-reached c =
    let component : Component = record { picture = c.args.job.now.picture; header = c.args.job.now.header; number = c.args.number } in
    let state = still component c.slices.transform c.advance.new.self c.slices.invariant.state c.in_ok-advance.ensures.state in
    own_reached component c.advance.new.self c.slices.slice c.rows_for.result state c.rows_for.ensures c.in_ok-advance.ensures.reached

pub slice-requires-clause-kept : goal.slice-requires-clause-kept
slice-requires-clause-kept c = c.advance.ensures.kept c.slices.slice c.slices.invariant.kept

pub put_rows-requires-clause-rows : goal.put_rows-requires-clause-rows
put_rows-requires-clause-rows c =
    let component : Component = record { picture = c.args.job.now.picture; header = c.args.job.now.header; number = c.args.number } in
    let state = still component c.slices.transform c.advance.new.self c.slices.invariant.state c.in_ok-advance.ensures.state in
    own_rows component c.advance.new.self c.in_ok-slice.field-0 state c.in_ok-slice.ensures.carries

pub forget-requires-clause-state : goal.forget-requires-clause-state
forget-requires-clause-state c =
    let component : Component = record { picture = c.args.job.now.picture; header = c.args.job.now.header; number = c.args.number } in
    let state = still component c.slices.transform c.advance.new.self c.slices.invariant.state c.in_ok-advance.ensures.state in
    own component c.slice.new.self (still component c.advance.new.self c.slice.new.self state c.slice.ensures.state)

pub forget-requires-clause-there : goal.forget-requires-clause-there
forget-requires-clause-there c =
    let component : Component = record { picture = c.args.job.now.picture; header = c.args.job.now.header; number = c.args.number } in
    let state = still component c.slices.transform c.advance.new.self c.slices.invariant.state c.in_ok-advance.ensures.state in
    let below : c.slices.slice < slice_count c.args.job.now.header.now = omega (arith, c.slices-test.true, c.slices.auto.slice-end, c.slices-slice-end.ensures.count, ap slice_count c.of.ensures) in
    own_slice component c.slice.new.self c.slices.slice (still component c.advance.new.self c.slice.new.self state c.slice.ensures.state) below

pub slices-preserved : goal.slices-preserved
slices-preserved c =
    let component : Component = record { picture = c.args.job.now.picture; header = c.args.job.now.header; number = c.args.number } in
    let i = c.slices.invariant in
    let e = c.put_rows.ensures in
    let state = still component c.slices.transform c.advance.new.self i.state c.in_ok-advance.ensures.state in
    let of = c.in_ok-slice.ensures.component ∙ ap (λ (k : Component). k.number) state.same in
    record {
      pass = e.pass;
      share = (e.share.0 ∙ i.share.0, e.share.1 ∙ i.share.1);
      got = e.got ∙ i.got;
      stored = λ all. e.stored (i.stored all);
      filed = filed_more (view c.slices.pass) (view c.put_rows.new.pass) c.in_ok-slice.field-0 c.slices.slice c.args.number c.in_ok-slice.ensures.slice of i.filed e.others e.filed;
      kept = c.forget.ensures.kept;
      state = still component c.slice.new.self c.forget.new.self (still component c.advance.new.self c.slice.new.self state c.slice.ensures.state) c.forget.ensures.state;
    }

pub returns-clause-filed : goal.returns-clause-filed
returns-clause-filed c =
    let end : c.slices.slice ≡ slice_count c.args.job.now.header.now = omega (arith, c.slices-test.false, c.slices.auto.slice-end, c.slices-slice-end.ensures.count, ap slice_count c.of.ensures) in
    subst (λ n. AreFiledTo n c.args.number (view c.slices.pass)) end c.slices.invariant.filed
