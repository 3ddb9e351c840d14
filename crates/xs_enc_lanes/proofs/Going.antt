-- What an activity is after a claim.
use Rattle.std.proofs.Common.{◌≡◌, ℕ, ◌<◌, true, true≢false, List, sym, ap, ◌∙◌, subst}
use Rattle.xs_params.specs.Geometry.{slice_count}
use Rattle.xs_lanes.specs.Knowing.{SameShare}
use Rattle.xs_lanes.specs.Claiming.{HasGot}
use Rattle.xs_lanes.specs.Passes.{IsPassOf, view}
use Rattle.xs_enc_lanes.specs.declared.activity.Activity.{Activity}
use Rattle.xs_enc_lanes.specs.declared.activity.Job.{Job}
use Rattle.xs_enc_lanes.specs.Coded.{HasAdded, Keeps}
use Rattle.xs_enc_lanes.specs.Rows.{Carried, parts}
use Rattle.xs_enc_lanes.specs.Working.{FilesNothing, GetsMore, Goes, IsReadyToCode}
use Rattle.xs_enc_lanes.proofs.Claiming.{got_values, more_none}
use Rattle.xs_enc_lanes.proofs.Keeping.{keeps_added, keeps_same, starves, starves_here}

-- memory was wanting before a claim
pub goes_starved : (job : Job) (a b : Activity) → b.pass ≡ a.pass → b.role ≡ a.role → b.kept ≡ a.kept → b.starved ≡ true → IsReadyToCode job a → Goes job a b
goes_starved job a b pass role kept starved ready = record {
  ready = record {
    pass = subst (IsPassOf job.lanes.now) (sym pass) ready.pass;
    keeps = subst (λ s. Keeps job (view b.pass).got b.kept.items s) (sym starved) (subst (λ k. Keeps job (view b.pass).got k.items true) (sym kept) (subst (λ p. Keeps job (view p).got a.kept.items true) (sym pass) (starves_here job (view a.pass).got a.kept.items a.starved ready.keeps)));
  };
  share = (ap (λ p. (view p).parts) pass, ap (λ p. (view p).halved) pass);
  files = record { stored = ap (λ p. (view p).stored) pass; repeated = ap (λ p. (view p).repeated) pass };
  grows = more_none (view a.pass) (view b.pass) (ap (λ p. (view p).got) pass);
  role = role;
  starved = λ sated. absurd (true≢false (sym starved ∙ sated));
}

-- a slice was got and coded
pub goes_added : (job : Job) (a b : Activity) (slice : ℕ) (values : List Carried) → IsReadyToCode job a → IsPassOf job.lanes.now b.pass → SameShare (view a.pass) (view b.pass) → FilesNothing (view a.pass) (view b.pass) → slice < slice_count job.header.now
    → HasGot parts (view a.pass) slice values (view b.pass) → HasAdded job slice values a.kept.items b.kept.items → b.role ≡ a.role → b.starved ≡ a.starved → Goes job a b
goes_added job a b slice values ready pass share files there got added role same = record {
  ready = record {
    pass = pass;
    keeps = subst (Keeps job (view b.pass).got b.kept.items) (sym same)
        (keeps_added job (view a.pass).got values (view b.pass).got a.kept.items b.kept.items a.starved slice ready.keeps (got_values (view a.pass) (view b.pass) slice values got) there got.run added);
  };
  share = share;
  files = files;
  grows = (values, got_values (view a.pass) (view b.pass) slice values got);
  role = role;
  starved = λ sated. sym same ∙ sated;
}

-- memory was wanting after a claim
pub goes_lost : (job : Job) (a b : Activity) → IsReadyToCode job a → IsPassOf job.lanes.now b.pass → SameShare (view a.pass) (view b.pass) → FilesNothing (view a.pass) (view b.pass) → GetsMore (view a.pass) (view b.pass) → b.kept.items ≡ a.kept.items → b.role ≡ a.role
    → b.starved ≡ true → Goes job a b
goes_lost job a b ready pass share files grows kept role starved = record {
  ready = record {
    pass = pass;
    keeps = subst (Keeps job (view b.pass).got b.kept.items) (sym starved) (subst (λ k. Keeps job (view b.pass).got k true) (sym kept) (starves job (view a.pass).got grows.0 (view b.pass).got a.kept.items a.starved ready.keeps grows.1));
  };
  share = share;
  files = files;
  grows = grows;
  role = role;
  starved = λ sated. absurd (true≢false (sym starved ∙ sated));
}

-- nothing was got
pub goes_told : (job : Job) (a b : Activity) → IsReadyToCode job a → IsPassOf job.lanes.now b.pass → SameShare (view a.pass) (view b.pass) → FilesNothing (view a.pass) (view b.pass) → (view b.pass).got ≡ (view a.pass).got → b.kept.items ≡ a.kept.items → b.role ≡ a.role
    → b.starved ≡ a.starved → Goes job a b
goes_told job a b ready pass share files got kept role same = record {
  ready = record {
    pass = pass;
    keeps = subst (Keeps job (view b.pass).got b.kept.items) (sym same) (subst (λ k. Keeps job (view b.pass).got k a.starved) (sym kept) (keeps_same job (view a.pass).got (view b.pass).got a.kept.items a.starved ready.keeps got));
  };
  share = share;
  files = files;
  grows = more_none (view a.pass) (view b.pass) got;
  role = role;
  starved = λ sated. sym same ∙ sated;
}
