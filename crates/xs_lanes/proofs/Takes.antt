-- The step Take keeps the rule of the table.
use Rattle.std.proofs.Common.{◌≡◌, ◌≢◌, ℕ, ◌+◌, ◌*◌, ◌<◌, true, List, ◌∷◌, length, get_or, set, Option, Some, None, bit_or, sym, refl, ap, ◌∙◌, subst, arith}
use Rattle.std.proofs.lemmas.Nat.Bits.{bit_at_or, bit_at-lt, bit_at-pow_other, same_from_bits}
use Rattle.std.specs.Int.{bit_at}
use mathlib.Core.Option.{some, none, some-injective}
use mathlib.Core.Option as maybe
use mathlib.Core.Logic.{dite}
use native.Mathlib.Decide.{ℕ_discrete}
use Rattle.atomic_table.specs.Table.{Me, keeps, takes, step, Allows}
use Rattle.xs_lane_core.specs.Places.{places, set_words, word_of, place_bit, has, own_bit}
use Rattle.xs_lane_core.specs.declared.values.Stand.TheVariants.{Holding}
use Rattle.xs_lane_core.specs.Machine.{Placing, Lane, Actor, Machine, lane_at, actor_at, value_at, nobody, acted, changed, with_taken, stands, repeats}
use Rattle.xs_lane_core.specs.Steps.{is_free}
use Rattle.xs_lane_core.specs.Sound.{in_lane, IsAlone, IsSound, lies}
use Rattle.xs_lane_core.proofs.Free.{back_sound}
use Rattle.xs_lane_core.proofs.Taking.{takes_sound}
use Rattle.xs_lane_core.proofs.Turns.{got_same}
use Rattle.xs_lane_core.proofs.Sets.{word_low, same_place, own_here, joins_here, joins_other}
use Rattle.xs_lanes.specs.Filing.{lane_word, taken_word, slot_at, ShowsSlots, ShowsMachine, Filed}
use Rattle.xs_lanes.specs.Knowing.{IsChoice, FindsTaken}
use Rattle.xs_lanes.specs.Plays.{took}
use Rattle.xs_lanes.proofs.Lists.{at_view, set_same}
use Rattle.xs_lanes.proofs.Shown.{word_else, set_after, slots_after, shows_changed, shows_acted}
use Rattle.xs_lanes.proofs.Knows.{finds_taken, finds_choice}
use Rattle.xs_lanes.proofs.Steps.{narrow}

-- a word that has the place already
set_again : (y p : ℕ) → bit_at y (place_bit p) ≡ 1 → bit_or y (own_bit p) ≡ y
set_again y p e = same_from_bits (bit_or y (own_bit p)) y (λ q. let o = bit_at_or y (own_bit p) q in let b = bit_at-lt y q in let c = bit_at-lt (own_bit p) q in dite (ℕ_discrete q (place_bit p))
    (λ h. let f : bit_at y q ≡ 1 = ap (bit_at y) h ∙ e in omega arith)
    (λ ne. let f = bit_at-pow_other (place_bit p) q ne in omega arith))

bit_same : (p q : ℕ) → own_bit p ≡ own_bit q → place_bit p ≡ place_bit q
bit_same p q e = dite (ℕ_discrete (place_bit p) (place_bit q)) (λ y. y) (λ ne. let a = own_here p in let b = bit_at-pow_other (place_bit q) (place_bit p) ne in let c = ap (λ z. bit_at z (place_bit p)) e in absurd (omega arith))

-- where the word of a place stands tells its lane and its word, and the bit tells the place
place_of : (l p l' p' : ℕ) → p < places → p' < places → taken_word l p ≡ taken_word l' p' → own_bit p ≡ own_bit p' → (l ≡ l') × (p ≡ p')
place_of l p l' p' low low' e b = let w : word_of p ≡ word_of p' = omega arith in (omega arith, same_place p p' w (bit_same p p' b))

module _ {T : Type 0} (k : Placing T) where
  -- a place that nobody took has no value
  pub empty_place : (m : Machine T) (l p : ℕ) (x : T) → IsSound k m → has (lane_at m l).taken p ≡ 0 → value_at m l p ≢ Some x
  empty_place m l p x s empty e = let f = s.map_follows.filled l p in let o = s.one_holder.once l p in let c : lies (value_at m l p) ≡ 1 = ap lies e in absurd (omega arith)

  -- the slot of a free place goes out
  take_slots : (homes : List (maybe.Option (Option T))) (m : Machine T) (l p a : ℕ) (q : Actor T) → IsSound k m → ShowsSlots homes m → l < length m.lanes → p < places → has (lane_at m l).taken p ≡ 0
      → ShowsSlots (set homes (slot_at l p) none) (changed m l (with_taken (lane_at m l) p) a q)
  take_slots homes m l p a q s shows lt low free = let x : Lane T = lane_at m l in let room : word_of p < length x.taken = let t = (s.map_follows.wide l lt).taken in omega arith in slots_after homes m l p a (with_taken x p) q none shows (λ j r u. narrow k m s j r u) lt low
      (λ r u ne e. e)
      (λ r ne e. sym (joins_other x.taken p r room ne) ∙ e)
      (λ u e. absurd (empty_place m l p u s free e))
      (λ e. let o = joins_here x.taken p room in absurd (omega arith))
      (λ r u e. narrow k m s l r u e)

  -- the taken word gains a free place
  pub take_shows : (words : List ℕ) (homes : List (maybe.Option (Option T))) (m : Machine T) (a : ℕ) (x : T) → ShowsMachine k words homes m → IsSound k m → a < length m.actors → k.lane x < length m.lanes → k.place x < places → has (lane_at m (k.lane x)).taken (k.place x) ≡ 0
      → ShowsMachine k (set words (taken_word (k.lane x) (k.place x)) (bit_or (get_or words (taken_word (k.lane x) (k.place x)) 0) (own_bit (k.place x)))) (set homes (slot_at (k.lane x) (k.place x)) none)
      (changed m (k.lane x) (with_taken (lane_at m (k.lane x)) (k.place x)) a (stands (Holding x) (actor_at m a)))
  take_shows words homes m a x shows s lt lt' low empty = let l : ℕ = k.lane x in let p : ℕ = k.place x in let c : ℕ = word_of p in let q : Actor T = stands (Holding x) (actor_at m a) in let y : Lane T = with_taken (lane_at m l) p in
      let got = λ (j : ℕ). got_same (in_lane k j) m a q lt refl in let old = shows.lane l lt' in let count = shows.count in let low' : c < set_words = word_low p low in
      let room : c < length (lane_at m l).taken = let t = (s.map_follows.wide l lt').taken in omega arith in
      let z : ℕ = bit_or (get_or (lane_at m l).taken c 0) (own_bit p) in let new : bit_or (get_or words (taken_word l p) 0) (own_bit p) ≡ z = ap (λ u. bit_or u (own_bit p)) (old.taken c low') in
      subst (λ u. ShowsMachine k (set words (taken_word l p) u) (set homes (slot_at l p) none) (changed m l y a q)) (sym new)
      (shows_changed k words homes (set homes (slot_at l p) none) m l c z a y q shows lt' (omega arith) record {
        taken = set_after (lane_word l) (λ v w e. omega arith) words (lane_at m l).taken c z old.taken (omega arith) room;
        home = λ w h. word_else words l c z l (8 + w) (λ _ e. omega arith) (omega arith) (omega arith) ∙ old.home w h;
        summary = word_else words l c z l 16 (λ _ e. omega arith) (omega arith) (omega arith) ∙ old.summary;
        claimed = word_else words l c z l 17 (λ _ e. omega arith) (omega arith) (omega arith) ∙ old.claimed;
        drawn = word_else words l c z l 18 (λ _ e. omega arith) (omega arith) (omega arith) ∙ (old.drawn ∙ sym (got l));
      } (λ j ne. got j) (take_slots homes m l p a q s shows.slots lt' low empty))

  -- or has the place already
  pub held_shows : (words : List ℕ) (homes : List (maybe.Option (Option T))) (m : Machine T) (a : ℕ) (x : T) → ShowsMachine k words homes m → a < length m.actors → k.lane x < length m.lanes → k.place x < places → has (lane_at m (k.lane x)).taken (k.place x) ≡ 1
      → ShowsMachine k (set words (taken_word (k.lane x) (k.place x)) (bit_or (get_or words (taken_word (k.lane x) (k.place x)) 0) (own_bit (k.place x)))) homes (acted m a (repeats (k.lane x) (k.place x) (actor_at m a)))
  held_shows words homes m a x shows lt lt' low one = let l : ℕ = k.lane x in let p : ℕ = k.place x in let q : Actor T = repeats l p (actor_at m a) in let word : ℕ = get_or words (taken_word l p) 0 in
      let same : bit_or word (own_bit p) ≡ word = set_again word p (ap (λ u. bit_at u (place_bit p)) ((shows.lane l lt').taken (word_of p) (word_low p low)) ∙ one) in
      subst (λ ws. ShowsMachine k ws homes (acted m a q)) (sym (ap (set words (taken_word l p)) same ∙ set_same words (taken_word l p) 0)) (shows_acted k words homes m (set m.actors a q) shows (λ j. got_same (in_lane k j) m a q lt refl))

  Tells : Me (Option T) (Actor T) → Me (Option T) (Actor T) → Actor T → ℕ → ℕ → ℕ → Type 0
  Tells me m' v l p b = FindsTaken k v l p b × (IsAlone v → IsChoice k v)
      × (b ≡ 0 → (x : T) × (k.lane x ≡ l) × (k.place x ≡ p) × (m'.0 ≡ stands (Holding x) v) × (m'.1 ≡ (slot_at l p, None) ∷ me.1))
      × (b ≡ 1 → (m'.0 ≡ repeats l p v) × (m'.1 ≡ me.1))

  take_at : (n id : ℕ) (me : Me (Option T) (Actor T)) (x : T) → is_free me.0.stand ≡ true → 512 * k.lane x < n → k.place x < places
      → Allows (Filed k) n id me (taken_word (k.lane x) (k.place x)) (λ y. bit_or y (own_bit (k.place x))) (took k (step n (taken_word (k.lane x) (k.place x)) (own_bit (k.place x)) 0 none) me)
  unfolding Tells
  take_at n id me x free inside low s r wide at _ = let l : ℕ = k.lane x in let p : ℕ = k.place x in let m : Machine T = record { lanes = r.lanes; actors = s.views } in let here = at_view s.views id me.0 nobody at in
      let lt : id < length s.views = here.0 in let mine : actor_at m id ≡ me.0 = here.1 in let count = r.shows.slots.count in let lt' : l < length r.lanes = omega arith in
      let free' : is_free (actor_at m id).stand ≡ true = ap (λ (v : Actor T). is_free v.stand) mine ∙ free in let word : ℕ = get_or s.words (taken_word l p) 0 in
      let t : ℕ = has (lane_at m l).taken p in let found : bit_at word (place_bit p) ≡ t = ap (λ u. bit_at u (place_bit p)) ((r.shows.lane l lt').taken (word_of p) (word_low p low)) in let b = bit_at-lt (get_or (lane_at m l).taken (word_of p) 0) (place_bit p) in
      let tell : (m' : Me (Option T) (Actor T)) → Tells me m' (actor_at m id) l p t → took k (step n (taken_word l p) (own_bit p) 0 none) me word m' = λ m' h l' p' low' e e'. let same = place_of l p l' p' low low' e e' in
      subst (λ j. Tells me m' me.0 j p' (bit_at word (place_bit p'))) same.0 (subst (λ c. Tells me m' me.0 l c (bit_at word (place_bit c))) same.1
      (subst (λ u. Tells me m' me.0 l p u) (sym found) (subst (λ (v : Actor T). Tells me m' v l p t) mine h))) in
      dite (ℕ_discrete t 0)
      (λ empty. let q : Actor T = stands (Holding x) (actor_at m id) in let y : Lane T = with_taken (lane_at m l) p in (
        q,
        takes (slot_at l p) None,
        r.shows.slots.free l p lt' low empty,
        record {
          lanes = set r.lanes l y;
          shows = take_shows s.words s.homes m id x r.shows r.sound lt lt' low empty;
          sound = takes_sound k m id x r.sound lt lt' low free' empty;
        },
        tell (q, (slot_at l p, None) ∷ me.1) (finds_taken k m id l p r.sound lt free', finds_choice k m id r.sound lt free', (λ _. (x, refl, refl, refl, refl)), λ one. absurd (omega arith)),
      ))
      (λ held. let one : t ≡ 1 = omega arith in let q : Actor T = repeats l p (actor_at m id) in (
        q,
        keeps,
        tt,
        record {
          lanes = r.lanes;
          shows = held_shows s.words s.homes m id x r.shows lt lt' low one;
          sound = back_sound k m id l p r.sound lt free' one;
        },
        tell (q, me.1) (finds_taken k m id l p r.sound lt free', finds_choice k m id r.sound lt free', (λ z. absurd (omega arith)), λ _. (refl, refl)),
      ))

  pub takes_place : (n id : ℕ) (me : Me (Option T) (Actor T)) (x : T) (w b : ℕ) → is_free me.0.stand ≡ true → 512 * k.lane x < n → k.place x < places → w ≡ taken_word (k.lane x) (k.place x) → b ≡ own_bit (k.place x)
      → Allows (Filed k) n id me w (λ y. bit_or y b) (took k (step n w b 0 none) me)
  takes_place n id me x w b free inside low e e' = subst (λ w. Allows (Filed k) n id me w (λ y. bit_or y b) (took k (step n w b 0 none) me)) (sym e)
      (subst (λ b. Allows (Filed k) n id me (taken_word (k.lane x) (k.place x)) (λ y. bit_or y b) (took k (step n (taken_word (k.lane x) (k.place x)) b 0 none) me)) (sym e') (take_at n id me x free inside low))
