-- Each trial has one answer.
use Rattle.std.proofs.Common.{◌≡◌, ℕ, List, length, Result, Ok, Err, refl, sym, ap, subst, ◌∙◌}
use Rattle.xs_params.specs.declared.settings.Settings.{Settings}
use Rattle.xs_params.specs.Picture.{IsPlace, Picture}
use Rattle.xs_params.specs.Stream.{Stream, stream_bytes}
use Rattle.xs_faults.specs.declared.Budget.{Budget}
use Rattle.xs_rate.specs.Encoding.{encoding_of}
use Rattle.xs_markers.specs.Reading.{header_at}
use Rattle.xs_picture.specs.StreamRead.{IsPictureRead}
use Rattle.xs_picture.proofs.OnePicture as same
use Rattle.xs_recv.proofs.Samples.{one_picture}
use Rattle.xs_trial.specs.Generator.{trial_picture}
use Rattle.xs_endings.specs.Said.{Said, only_note}
use Rattle.xs_cli.specs.Encoded.{over_share}
use Rattle.xs_cli.specs.Tried.{IsTriedBy, lines_said, trial_outcome}
use Rattle.xs_cli.specs.TriedLaws.{OneTrial, TrialsAnswered}
use Rattle.xs_cli.proofs.TrialBrought.{encoding_read}

-- bytes are read as one picture
one_read : (bytes : List ℕ) (n : ℕ) (p q : Picture) → IsPictureRead p bytes n → IsPictureRead q bytes n → p ≡ q
one_read bytes n p q first second =
    let again = (same.one_picture (header_at bytes) (header_at bytes) first.content second.content bytes n n p first.spelled second.spelled first.decoded).2 in
    let shape = again.shape in
    one_picture p q again.whole second.decoded.whole (again.shape ∙ sym second.decoded.shape) (λ component row column place.
    let at = subst (λ x. IsPlace x component row column) shape place in
    again.samples component row column at ∙ sym (second.decoded.samples component row column at))

pub trials_answered : TrialsAnswered
trials_answered s seed range = go (encoding_of s (trial_picture s.shape seed)) refl
  where
    go : (r : Result Stream Budget) → encoding_of s (trial_picture s.shape seed) ≡ r → (said : Said) × IsTriedBy s (trial_picture s.shape seed) r said
    go (Ok stream) e =
        let back = encoding_read s (trial_picture s.shape seed) stream range e in
        let outcome = trial_outcome s (trial_picture s.shape seed) stream back.picture in
        (lines_said outcome, (outcome, (back.picture, back.read, refl), refl))
    go (Err budget) e = (only_note (over_share 0 budget), refl)

one_tried : (s : Settings) (picture : Picture) (r : Result Stream Budget) (said other : Said) → IsTriedBy s picture r said → IsTriedBy s picture r other → said ≡ other
one_tried s picture (Ok stream) said other x y =
    let decoded = one_read (stream_bytes stream) (length (stream_bytes stream)) x.1.0 y.1.0 x.1.1 y.1.1 in
    x.2 ∙ ap lines_said (x.1.2 ∙ ap (trial_outcome s picture stream) decoded ∙ sym y.1.2) ∙ sym y.2
one_tried s picture (Err budget) said other x y = x ∙ sym y

pub one_trial : OneTrial
unfolding encoding_of
one_trial s workers feeders seed said other x y = one_tried s (trial_picture s.shape seed) (encoding_of s (trial_picture s.shape seed)) said other x y
