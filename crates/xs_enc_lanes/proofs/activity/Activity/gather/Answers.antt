use Rattle.std.proofs.Common.{◌≡◌, length, true≢false, sym, subst, arith}
use Rattle.xs_lanes.specs.Gathering.{HasRest}
use Rattle.xs_lanes.specs.Passes.{view}
use Rattle.xs_lanes.proofs.Gathering.{rest_alone}
use Rattle.xs_enc_lanes.proofs.Teams.{join_one, joined_all, joined_one, not_some}
use Rattle.xs_enc_lanes.proofs.activity.Activity.gather.Goals as goal

pub gathering-preserved : goal.gathering-preserved
gathering-preserved c = let i = c.gathering.invariant in let rest = c.pop.new.self.items in let old = c.gathering.others.items in let o = c.in-Some.other in let e = c.in-Some.ensures.items in record {
  join = join_one c.args.job.now.lanes.now (length c.args.others.items) c.gathering.self.pass c.absorb.new.self.pass old rest o e c.absorb.ensures.pass c.absorb.ensures.joined.union i.join;
  joined = joined_one c.args.job.now c.gathering.self c.absorb.new.self old rest o e c.absorb.ensures.joined i.joined;
}

pub returns-clause-alone : goal.returns-clause-alone
returns-clause-alone c =
    let none : length c.gathering.others.items ≡ 0 = not_some (length c.gathering.others.items) (λ lt. true≢false (sym (c.in_default.ensures.variant.1 (let e = c.gathering.others.ok.0 in omega arith)))) in
    rest_alone (length c.args.others.items) (view c.gathering.self.pass) (subst (λ k. HasRest (length c.args.others.items) k (view c.gathering.self.pass)) none c.gathering.invariant.join.share)

pub returns-clause-all : goal.returns-clause-all
returns-clause-all c =
    let none : length c.gathering.others.items ≡ 0 = not_some (length c.gathering.others.items) (λ lt. true≢false (sym (c.in_default.ensures.variant.1 (let e = c.gathering.others.ok.0 in omega arith)))) in
    joined_all c.args.job.now c.gathering.self c.gathering.others.items none c.gathering.invariant.joined
