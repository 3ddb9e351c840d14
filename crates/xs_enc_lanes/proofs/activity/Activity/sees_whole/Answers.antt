use Rattle.std.proofs.Common.{true≢false, eq-eqb, refl, sym, ap, ◌∙◌}
use Rattle.xs_lane_core.specs.Machine.{Actor}
use Rattle.xs_lanes.specs.Passes.{view}
use Rattle.xs_enc_lanes.specs.Rows.{Carried}
use Rattle.xs_enc_lanes.proofs.Claiming.{look_swept, more_none}
use Rattle.xs_enc_lanes.proofs.Keeping.{keeps_same}
use Rattle.xs_enc_lanes.proofs.activity.Activity.sees_whole.Goals as goal

pub returns-clause-goes : goal.returns-clause-goes
returns-clause-goes c =
    let v = view c.args.self.now.pass in
    let w = view c.look.new.pass in
    let seen = c.look.ensures.seen in
    record {
      ready = record { pass = c.look.ensures.pass; keeps = keeps_same c.args.job.now v.got w.got c.args.self.now.kept.items c.args.self.now.starved c.requires.ready.keeps (ap (λ (z : Actor Carried). z.got) seen) };
      share = c.look.ensures.share;
      files = record { stored = ap (λ (z : Actor Carried). z.stored) seen; repeated = ap (λ (z : Actor Carried). z.repeated) seen };
      grows = more_none v w (ap (λ (z : Actor Carried). z.got) seen);
      role = refl;
      starved = λ sated. sated;
    }

pub returns-clause-swept : goal.returns-clause-swept
returns-clause-swept c = λ part alone sated. look_swept (view c.args.self.now.pass) (view c.look.new.pass) c.args.slice c.look.result alone (λ whole. true≢false (sym (eq-eqb c.look.result 255 whole) ∙ part)) c.look.ensures.found c.look.ensures.seen
