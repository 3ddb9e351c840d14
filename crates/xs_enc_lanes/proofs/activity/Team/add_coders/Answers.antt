use Rattle.xs_enc_lanes.proofs.activity.Team.add_coders.Goals as goal

pub adding-init : goal.adding-init
adding-init c = record { pass = c.requires.pass; forked = λ n f. f; others = λ k has. has }

pub adding-preserved : goal.adding-preserved
adding-preserved c = let i = c.adding.invariant in let e = c.in_ok-add.ensures in record {
  pass = e.pass;
  forked = λ n f. e.forked n tt (i.forked n f);
  others = λ k has. e.others k (i.others k has);
}
