-- The first samples of a seed, and an order, by computing.
use Rattle.std.proofs.Common.{◌≡◌, refl, [], ◌∷◌}
use Rattle.xs_layout.specs.declared.Format.TheVariants.{Mono, C422}
use Rattle.xs_trial.specs.Generator.{next_state, place_of, sample_of, sample_places, shuffle_of, state_after, trial_picture}

first : (trial_picture (record { width = 2; height = 1; format = Mono; depth = 8 }) 0).samples ≡ 1 ∷ 2 ∷ []
unfolding next_state sample_of
first = refl

half_wide : sample_places (record { width = 3; height = 1; format = C422; depth = 8 }) ≡ (0, 0) ∷ (0, 1) ∷ (0, 2) ∷ (0, 0) ∷ (0, 1) ∷ (0, 0) ∷ (0, 1) ∷ []
half_wide = refl

state : state_after (record { width = 2; height = 1; format = Mono; depth = 8 }) 0 ≡ 1876011003808476466
unfolding next_state
state = refl

order : shuffle_of 3 7 ≡ 0 ∷ 0 ∷ 2 ∷ 1 ∷ 1 ∷ 2 ∷ []
unfolding next_state place_of
order = refl
