-- The step Sum keeps the rule of the table.
use Rattle.std.proofs.Common.{◌≡◌, ℕ, ◌+◌, ◌*◌, ◌<◌, List, length, get_or, get_or-set_same, set, Option, sym, refl, ap, ◌∙◌, subst, arith}
use mathlib.Core.Option.{none}
use mathlib.Core.Option as maybe
use Rattle.atomic_table.specs.Table.{Me, keeps, step, Allows}
use Rattle.xs_lane_core.specs.Places.{with_words}
use Rattle.xs_lane_core.specs.declared.values.Stand.{Stand}
use Rattle.xs_lane_core.specs.declared.values.Stand.TheVariants.{Idle, Saw, Holding, Laid, Owing, Pulling, Spent}
use Rattle.xs_lane_core.specs.Machine.{Placing, Lane, Actor, Machine, lane_at, actor_at, nobody, changed, with_summary, stores, sees}
use Rattle.xs_lane_core.specs.Sound.{in_lane}
use Rattle.xs_lane_core.proofs.Summing.{sums_sound}
use Rattle.xs_lane_core.proofs.Turns.{got_same}
use Rattle.xs_lanes.specs.Filing.{summary_word, ShowsMachine, Filed}
use Rattle.xs_lanes.specs.Knowing.{FindsSummary}
use Rattle.xs_lanes.specs.Plays.{summed}
use Rattle.xs_lanes.proofs.Lists.{at_view}
use Rattle.xs_lanes.proofs.Shown.{word_else, slots_kept, shows_changed}
use Rattle.xs_lanes.proofs.Knows.{finds_before}

-- lane and words of a debt
abbrev debt_lane : {T : Type 0} → Stand T → ℕ
debt_lane Idle = 0
debt_lane (Saw l) = 0
debt_lane (Holding x) = 0
debt_lane (Laid x) = 0
debt_lane (Owing l o) = l
debt_lane (Pulling l j) = 0
debt_lane Spent = 0

abbrev debt_words : {T : Type 0} → Stand T → ℕ
debt_words Idle = 0
debt_words (Saw l) = 0
debt_words (Holding x) = 0
debt_words (Laid x) = 0
debt_words (Owing l o) = o
debt_words (Pulling l j) = 0
debt_words Spent = 0

module _ {T : Type 0} (k : Placing T) where
  -- the summary gains the words
  pub sum_shows : (words : List ℕ) (homes : List (maybe.Option (Option T))) (m : Machine T) (a l o : ℕ) → ShowsMachine k words homes m → a < length m.actors → l < length m.lanes
      → ShowsMachine k (set words (summary_word l) (with_words (get_or words (summary_word l) 0) o)) homes (changed m l (with_summary (lane_at m l) o) a (sees Idle l (with_words (lane_at m l).summary o) (actor_at m a)))
  sum_shows words homes m a l o s lt lt' = let y : Lane T = with_summary (lane_at m l) o in let new : ℕ = with_words (lane_at m l).summary o in let q : Actor T = sees Idle l new (actor_at m a) in
      let got = λ (j : ℕ). got_same (in_lane k j) m a q lt refl in let old = s.lane l lt' in let count = s.count in
      subst (λ u. ShowsMachine k (set words (summary_word l) u) homes (changed m l y a q)) (sym (ap (λ u. with_words u o) old.summary))
      (shows_changed k words homes homes m l 16 new a y q s lt' (omega arith) record {
        taken = λ w h. word_else words l 16 new l w (λ _ e. omega arith) (omega arith) (omega arith) ∙ old.taken w h;
        home = λ w h. word_else words l 16 new l (8 + w) (λ _ e. omega arith) (omega arith) (omega arith) ∙ old.home w h;
        summary = get_or-set_same words (summary_word l) new 0 (omega arith);
        claimed = word_else words l 16 new l 17 (λ _ e. omega arith) (omega arith) (omega arith) ∙ old.claimed;
        drawn = word_else words l 16 new l 18 (λ _ e. omega arith) (omega arith) (omega arith) ∙ (old.drawn ∙ sym (got l));
      } (λ j ne. got j) (slots_kept homes m l a y q s.slots lt' refl refl))

  Tells : Me (Option T) (Actor T) → Me (Option T) (Actor T) → Actor T → ℕ → ℕ → ℕ → Type 0
  Tells me m' v l o r = FindsSummary k v l r × (m'.0 ≡ sees Idle l (with_words r o) me.0) × (m'.1 ≡ me.1)

  sum_at : (n id : ℕ) (me : Me (Option T) (Actor T)) (l o : ℕ) → me.0.stand ≡ Owing l o → 512 * l < n → Allows (Filed k) n id me (summary_word l) (λ y. with_words y o) (summed k (step n (summary_word l) o 0 none) me)
  unfolding Tells
  sum_at n id me l o stand inside s r wide at _ = let m : Machine T = record { lanes = r.lanes; actors = s.views } in let here = at_view s.views id me.0 nobody at in
      let lt : id < length s.views = here.0 in let mine : actor_at m id ≡ me.0 = here.1 in let count = r.shows.slots.count in let lt' : l < length r.lanes = omega arith in
      let stand' : (actor_at m id).stand ≡ Owing l o = ap (λ (v : Actor T). v.stand) mine ∙ stand in let word : ℕ = get_or s.words (summary_word l) 0 in
      let h : ℕ = (lane_at m l).summary in let found : word ≡ h = (r.shows.lane l lt').summary in
      let q : Actor T = sees Idle l (with_words h o) (actor_at m id) in (
        q,
        keeps,
        tt,
        record {
          lanes = set r.lanes l (with_summary (lane_at m l) o);
          shows = sum_shows s.words s.homes m id l o r.shows lt lt';
          sound = sums_sound k m id l o r.sound lt lt' stand';
        },
        λ l' o' x v e. let debt = sym stand ∙ ap (λ (z : Actor T). z.stand) e in
            subst (λ j. Tells me (q, me.1) v j o' word) (ap debt_lane debt) (subst (λ p. Tells me (q, me.1) v l p word) (ap debt_words debt)
            (subst (λ u. Tells me (q, me.1) v l o u) (sym found) (finds_before k m id l o x v r.sound (mine ∙ (e ∙ (λ i. stores x (Owing (ap debt_lane (sym debt) i) (ap debt_words (sym debt) i)) v))), ap (sees Idle l (with_words h o)) mine, refl))),
      )

  pub sums_up : (n id : ℕ) (me : Me (Option T) (Actor T)) (l o w : ℕ) → me.0.stand ≡ Owing l o → 512 * l < n → w ≡ summary_word l → Allows (Filed k) n id me w (λ y. with_words y o) (summed k (step n w o 0 none) me)
  sums_up n id me l o w stand inside e = subst (λ w. Allows (Filed k) n id me w (λ y. with_words y o) (summed k (step n w o 0 none) me)) (sym e) (sum_at n id me l o stand inside)
