-- Who has the whole share is answered as the machine answers.
use Rattle.std.proofs.Common.{◌≡◌, ◌≢◌, ℕ, ◌+◌, ◌*◌, ◌<◌, ◌⊎◌, ⊎_elim, Bool, true, false, not, ◌&&◌, if◌then◌else◌, nat_eq, eq-eqb, ne_eqb, List, length, length-set, get_or, get_or-set_same, sym, refl, ap, ◌∙◌, subst, arith}
use Rattle.std.specs.Int.{bit_at}
use Rattle.std.proofs.lemmas.Nat.Bits.{bit_at-lt, same_from_bits, same_from_bits_below}
use mathlib.Core.Logic.{dite}
use native.Mathlib.Decide.{ℕ_discrete}
use Rattle.xs_lane_core.specs.Places.{places, word_of, place_bit, has, every_word, with_words}
use Rattle.xs_lane_core.specs.declared.values.Stand.TheVariants.{Idle, Holding, Owing}
use Rattle.xs_lane_core.specs.Machine.{Placing, Lane, Actor, Machine, lane_at, actor_at, nobody, changed, with_taken, stands, stores, stand_owing, mask}
use Rattle.xs_lane_core.specs.Steps.{Answer, Back, Owes, Stored, Made, Seen, is_free, debt_of, sum_answer}
use Rattle.xs_lane_core.specs.Sound.{IsAlone, HasFilled}
use Rattle.xs_lane_core.proofs.Turns.{lane_here}
use Rattle.xs_lanes.specs.declared.lanes.Put.{Put}
use Rattle.xs_lanes.specs.declared.lanes.Put.TheVariants as put
use Rattle.xs_lanes.specs.Knowing.{FindsHome, FindsSummary, stored_at}
use Rattle.xs_lanes.specs.Debts.{debt_after}
use Rattle.xs_lanes.specs.Answers.{HasStored, HasSummed, Answers}
use Rattle.xs_lanes.specs.Exact.{sum_on, put_on, put_answer, HasActor, PutExactly, LookExactly}
use Rattle.xs_lanes.proofs.Knows.{alone_taken, finds_home, finds_summary}
use Rattle.xs_lanes.proofs.Events.{brought, filed, looks_is, sums_is, takes_free_is, takes_held_is, put_homes_is}

module _ {T : Type 0} (k : Placing T) where
  -- a summary is what was filled
  same_filled : (l a b : ℕ) (xs : List T) → HasFilled k l a xs → HasFilled k l b xs → a ≡ b
  same_filled l a b xs h g = same_from_bits a b (λ w. let p = bit_at-lt a w in let q = bit_at-lt b w in dite (ℕ_discrete (bit_at a w) 1) (λ e. e ∙ sym ((g w).1 ((h w).0 e)))
      (λ ne. dite (ℕ_discrete (bit_at b w) 1) (λ e. absurd (ne ((h w).1 ((g w).0 e)))) (λ ne'. omega arith)))

  pub summary_same : (n : ℕ) (v : Actor T) (l found : ℕ) → is_free v.stand ≡ true → l < n → FindsSummary k v l found → IsAlone v → (m : Machine T) (a : ℕ) → HasActor k n v m a → (lane_at m l).summary ≡ found
  summary_same n v l found free lt f alone m a h = let wide = h.wide in let there = finds_summary k m a l h.sound h.inside (omega arith) (ap (λ (z : Actor T). is_free z.stand) h.is ∙ free) in
      same_filled l (lane_at m l).summary found v.stored (subst (λ (z : Actor T). HasFilled k l (lane_at m l).summary z.stored) h.is (there.alone (subst IsAlone (sym h.is) alone))) (f.alone alone)

  home_same : (n : ℕ) (v : Actor T) (l w found : ℕ) → l < n → FindsHome k v l w found → IsAlone v → (m : Machine T) (a : ℕ) → HasActor k n v m a → get_or (lane_at m l).home w 0 ≡ found
  home_same n v l w found lt f alone m a h = let wide = h.wide in let there = finds_home k m a l w h.sound h.inside (omega arith) in let mine = subst (λ (z : Actor T). FindsHome k z l w found) (sym h.is) f in let alone' = subst IsAlone (sym h.is) alone in
      same_from_bits_below 64 (get_or (lane_at m l).home w 0) found there.small mine.small (λ q lt'. let p : ℕ = 64 * w + q in let word : word_of p ≡ w = omega arith in let bit : place_bit p ≡ q = omega arith in
      ap (λ b. bit_at (get_or (lane_at m l).home w 0) b) (sym bit) ∙ (there.alone alone' p word ∙ (sym (mine.alone alone' p word) ∙ ap (bit_at found) bit)))

  taken_same : (n : ℕ) (v : Actor T) (l p : ℕ) → is_free v.stand ≡ true → IsAlone v → (m : Machine T) (a : ℕ) → HasActor k n v m a → has (lane_at m l).taken p ≡ stored_at k l p v
  taken_same n v l p free alone m a h = alone_taken k m a l p h.sound h.inside (ap (λ (z : Actor T). is_free z.stand) h.is ∙ free) (subst IsAlone (sym h.is) alone) ∙ ap (stored_at k l p) h.is

  pub look_exactly : (n : ℕ) (v : Actor T) (l found : ℕ) → is_free v.stand ≡ true → l < n → FindsSummary k v l found → LookExactly k n v l found
  look_exactly n v l found free lt f alone m a h = let wide = h.wide in ap (λ (r : Machine T × Answer T). r.1) (looks_is m a l h.inside (omega arith) (ap (λ (z : Actor T). is_free z.stand) h.is ∙ free)) ∙ ap Seen (summary_same n v l found free lt f alone m a h)

  -- the machine after Take, Put and Home, and what it answers then
  taken_home : (n : ℕ) (v : Actor T) (x : T) (before : ℕ) → is_free v.stand ≡ true → k.lane x < n → k.place x < places → HasStored k v x before → IsAlone v → (m : Machine T) (a : ℕ) → HasActor k n v m a
      → (n' : Machine T) × (length n'.actors ≡ length m.actors) × (length n'.lanes ≡ length m.lanes) × ((lane_at n' (k.lane x)).summary ≡ (lane_at m (k.lane x)).summary) × ((actor_at n' a).stand ≡ stand_owing (k.lane x) (debt_after k x before))
      × (put_answer k m a x ≡ sum_on k a n' (if nat_eq (debt_after k x before) 0 then Stored else Owes))
  taken_home n v x before free lt low s alone m a h = let l : ℕ = k.lane x in let p : ℕ = k.place x in let wide = h.wide in let inside : l < length m.lanes = omega arith in
      let q : Actor T = stands (Holding x) (actor_at m a) in let y : Lane T = with_taken (lane_at m l) p in let n1 : Machine T = changed m l y a q in let long : length n1.actors ≡ length m.actors = length-set m.actors a q in
      let broad : length n1.lanes ≡ length m.lanes = length-set m.lanes l y in let there = h.inside in let here : lane_at n1 l ≡ y = lane_here m.lanes l y inside in
      let same : debt_of k n1 x ≡ debt_after k x before = ap (λ b. debt_after k x b) (ap (λ (z : Lane T). get_or z.home (word_of p) 0) here ∙ home_same n v l (word_of p) before lt s.found alone m a h) in
      let n2 : Machine T = filed k n1 a x in let z : Lane T = brought (lane_at n1 l) p x (mask k x) in let u : Actor T = stores x (stand_owing l (debt_of k n1 x)) (actor_at n1 a) in (
        n2,
        length-set n1.actors a u ∙ long,
        length-set n1.lanes l z ∙ broad,
        ap (λ (z : Lane T). z.summary) (lane_here n1.lanes l z (omega arith)) ∙ ap (λ (z : Lane T). z.summary) here,
        ap (λ (z : Actor T). z.stand) (get_or-set_same n1.actors a u nobody (omega arith)) ∙ ap (stand_owing l) same,
        ap (λ (r : Machine T × Answer T). put_on k a r.0 r.1) (takes_free_is k m a x there inside low (ap (λ (z : Actor T). is_free z.stand) h.is ∙ free) (taken_same n v l p free alone m a h ∙ s.fresh))
            ∙ (ap (λ (r : Machine T × Answer T). sum_on k a r.0 r.1) (put_homes_is k n1 a x (omega arith) (omega arith) low (ap (λ (z : Actor T). z.stand) (get_or-set_same m.actors a q nobody there)))
            ∙ ap (λ o. sum_on k a n2 (if nat_eq o 0 then Stored else Owes)) same),
      )

  sum_made : (before after : ℕ) → before ≢ every_word → after ≡ every_word → sum_answer {V = T} before after ≡ Made
  sum_made before after ne e = λ i. if not (ne_eqb before every_word ne i) && eq-eqb after every_word e i then Made else Stored

  sum_stored : (before after : ℕ) → (before ≡ every_word) ⊎ (after ≢ every_word) → sum_answer {V = T} before after ≡ Stored
  sum_stored before after h = ⊎_elim (λ (e : before ≡ every_word). λ i. if not (eq-eqb before every_word e i) && nat_eq after every_word then Made else Stored)
      (λ (ne : after ≢ every_word). ap (λ (b : Bool). if not (nat_eq before every_word) && b then Made else Stored) (ne_eqb after every_word ne) ∙ never (not (nat_eq before every_word))) h
    where
      never : (b : Bool) → ◌≡◌ {A = Answer T} (if b && false then Made else Stored) Stored
      never true = refl
      never false = refl

  free_exactly : (n : ℕ) (v : Actor T) (x : T) (before : ℕ) → is_free v.stand ≡ true → k.lane x < n → k.place x < places → HasStored k v x before → debt_after k x before ≡ 0 → IsAlone v → (m : Machine T) (a : ℕ) → HasActor k n v m a → put_answer k m a x ≡ Stored
  free_exactly n v x before free lt low s none alone m a h = let t = taken_home n v x before free lt low s alone m a h in t.5 ∙ ap (λ (b : Bool). sum_on k a t.0 (if b then Stored else Owes)) (eq-eqb (debt_after k x before) 0 none)

  summed_exactly : (n : ℕ) (v : Actor T) (x : T) (w : Actor T) (before summary : ℕ) → is_free v.stand ≡ true → k.lane x < n → k.place x < places → HasSummed k v x w before summary → IsAlone v → (m : Machine T) (a : ℕ) → HasActor k n v m a
      → put_answer k m a x ≡ sum_answer summary (with_words summary (debt_after k x before))
  summed_exactly n v x w before summary free lt low s alone m a h = let l : ℕ = k.lane x in let o : ℕ = debt_after k x before in let t = taken_home n v x before free lt low s.stored alone m a h in let n' : Machine T = t.0 in let long = t.1 in let broad = t.2 in let wide = h.wide in let there = h.inside in
      let stand : (actor_at n' a).stand ≡ Owing l o = t.4 ∙ ap (λ (b : Bool). if b then Idle else Owing l o) (ne_eqb o 0 s.owes) in
      t.5 ∙ (ap (λ (b : Bool). sum_on k a n' (if b then Stored else Owes)) (ne_eqb o 0 s.owes) ∙ (ap (λ (r : Machine T × Answer T). r.1) (sums_is n' a l o (omega arith) (omega arith) stand)
      ∙ ap (λ z. sum_answer z (with_words z o)) (t.3 ∙ summary_same n v l summary free lt s.found alone m a h)))

  pub put_exactly : (n : ℕ) (v : Actor T) (x : T) (w : Actor T) (answer : Put T) → is_free v.stand ≡ true → k.lane x < n → k.place x < places → Answers k v x w answer → PutExactly k n v x answer
  put_exactly n v x w put.Stored free lt low s alone m a h = ⊎_elim
      (λ (f : (before : ℕ) × HasStored k v x before × (debt_after k x before ≡ 0) × (w ≡ stores x Idle v)). free_exactly n v x f.0 free lt low f.1 f.2 alone m a h)
      (λ (f : (before summary : ℕ) × HasSummed k v x w before summary × ((summary ≡ every_word) ⊎ (with_words summary (debt_after k x before) ≢ every_word))). summed_exactly n v x w f.0 f.1 free lt low f.2 alone m a h ∙ sum_stored f.1 (with_words f.1 (debt_after k x f.0)) f.3) s
  put_exactly n v x w put.Made free lt low s alone m a h = summed_exactly n v x w s.0 s.1 free lt low s.2 alone m a h ∙ sum_made s.1 (with_words s.1 (debt_after k x s.0)) s.3 s.4
  put_exactly n v x w (put.Repeat y) free lt low s alone m a h = let wide = h.wide in
      ap (λ (r : Machine T × Answer T). put_on k a r.0 r.1) (takes_held_is k m a x h.inside (omega arith) low (ap (λ (z : Actor T). is_free z.stand) h.is ∙ free) (taken_same n v (k.lane x) (k.place x) free alone m a h ∙ s.2 alone))
      ∙ ap Back (sym s.0)
