-- From the settings to the work, and from the caller's activity to the picture.
use Rattle.std.proofs.Common.{◌≡◌, ℕ, ◌^◌, ◌<◌, subst, arith}
use Rattle.std.specs.Prelude.{Err}
use Rattle.xs_faults.specs.declared.SliceRefusal.{SliceRefusal}
use Rattle.xs_faults.specs.declared.SliceRefusal.TheVariants as refusal
use Rattle.xs_params.specs.declared.settings.Settings.{Settings}
use Rattle.xs_params.specs.Check.{AreInRange}
use Rattle.xs_params.specs.Headers.{header_of}
use Rattle.xs_params.specs.Picture.{Picture}
use Rattle.xs_rate.specs.Coefficients.{rows_of_picture}
use Rattle.xs_rate.specs.Encoding.{encoding_of}
use Rattle.xs_lanes.specs.Passes.{view}
use Rattle.xs_lanes.specs.Settled.{IsDone}
use Rattle.xs_enc_lanes.specs.declared.activity.Activity.{Activity}
use Rattle.xs_enc_lanes.specs.declared.activity.Job.{Job}
use Rattle.xs_picture.specs.Encoded.{WhyUnwritten}
use Rattle.xs_picture.proofs.Encoded.{refusal_encodes}
use Rattle.xs_enc_lanes.specs.Answered.{AreSliced}
use Rattle.xs_enc_lanes.specs.Encoded.{IsEncodedOrMemory}
use Rattle.xs_enc_lanes.specs.Finished.{GotEachOnce, StoresPicture}
use Rattle.xs_enc_lanes.specs.Rows.{parts}
use Rattle.xs_enc_lanes.specs.Working.{HasSwept}
use Rattle.xs_enc_lanes.proofs.Coding.{picture_padded}
use Rattle.xs_enc_lanes.proofs.Ending.{are_sliced, got_once, stores_picture}

-- the share of settings, where a slice is filled up to it
pub share_small : (s : Settings) (share : ℕ) → AreInRange s → share ≡ s.share → share < 2 ^ 24
share_small s share range same = let most = range.share in let chunk = range.chunk in omega (arith, same, most, chunk)

-- why slices were not all written is what the encoding says
pub refused_encodes : (s : Settings) (picture : Picture) (why : SliceRefusal) → WhyUnwritten (header_of s) (rows_of_picture (header_of s) picture) s.share why → IsEncodedOrMemory (encoding_of s picture) (Err why)
refused_encodes s picture (refusal.Budget budget) is = refusal_encodes s picture (refusal.Budget budget) is
refused_encodes s picture refusal.Memory is = tt

module _ (job : Job) (a : Activity) (swept : HasSwept job a) (done : IsDone parts (view a.pass)) (s : Settings) (picture : Picture) (header : job.header.now ≡ header_of s) (shown : job.picture.now ≡ picture) where
  pub picture_sliced : job.share ≡ s.share → job.fill ≡ s.fill → AreSliced (header_of s) (rows_of_picture (header_of s) picture) s.share s.fill a.kept.items
  picture_sliced share fill =
      subst (λ f. AreSliced (header_of s) (rows_of_picture (header_of s) picture) s.share f a.kept.items) fill
      (subst (λ n. AreSliced (header_of s) (rows_of_picture (header_of s) picture) n job.fill a.kept.items) share
      (subst (λ p. AreSliced (header_of s) (rows_of_picture (header_of s) p) job.share job.fill a.kept.items) shown
      (subst (λ h. AreSliced h (rows_of_picture h job.picture.now) job.share job.fill a.kept.items) header (are_sliced job a swept done (picture_padded job.header.now job.picture.now)))))

  pub picture_stored : StoresPicture (header_of s) picture (view a.pass)
  picture_stored =
      subst (λ p. StoresPicture (header_of s) p (view a.pass)) shown (subst (λ h. StoresPicture h job.picture.now (view a.pass)) header (stores_picture job a swept done (picture_padded job.header.now job.picture.now)))

  pub picture_got : GotEachOnce (header_of s) (view a.pass)
  picture_got = subst (λ h. GotEachOnce h (view a.pass)) header (got_once job a swept done (picture_padded job.header.now job.picture.now))
