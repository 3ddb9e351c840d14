-- What the words and slots show after one word and one slot have changed.
use Rattle.std.proofs.Common.{◌≡◌, ◌≢◌, ℕ, ◌+◌, ◌*◌, ◌<◌, List, length, length-set, get_or, get_or-set_same, get_or-set_other, set, Option, Some, None, sym, ap, ◌∙◌, subst, arith}
use mathlib.Core.Option.{some, none}
use mathlib.Core.Option as maybe
use mathlib.Core.Logic.{dite}
use native.Mathlib.Decide.{ℕ_discrete}
use lib.ListN.{get_elem?}
use Rattle.atomic_table.proofs.Lists.{set_here, set_else}
use Rattle.xs_lane_core.specs.Places.{places, set_words, has}
use Rattle.xs_lane_core.specs.Machine.{Placing, Lane, Actor, Machine, lane_in, lane_at, value_at, no_lane, changed}
use Rattle.xs_lane_core.specs.Sound.{drawn}
use Rattle.xs_lane_core.proofs.Turns.{lane_here, part_same}
use Rattle.xs_lanes.specs.Filing.{lane_word, slot_at, ShowsSlots, ShowsLane, ShowsMachine}

-- another word stays
pub word_else : (words : List ℕ) (l i z j c : ℕ) → (j ≡ l → c ≢ i) → i < 19 → c < 19 → get_or (set words (lane_word l i) z) (lane_word j c) 0 ≡ get_or words (lane_word j c) 0
word_else words l i z j c ne low low' = get_or-set_other words (lane_word l i) (lane_word j c) z 0 (λ q. let a : j ≡ l = omega arith in let b : c ≡ i = omega arith in ne a b)

-- eight words of the table show a set, of which one word changes
pub set_after : (at : ℕ → ℕ) → ((v w : ℕ) → at v ≡ at w → v ≡ w) → (words xs : List ℕ) (i z : ℕ) → ((w : ℕ) → w < set_words → get_or words (at w) 0 ≡ get_or xs w 0) → at i < length words → i < length xs
    → (w : ℕ) → w < set_words → get_or (set words (at i) z) (at w) 0 ≡ get_or (set xs i z) w 0
set_after at apart words xs i z old lt lt' w low = dite (ℕ_discrete w i)
    (λ e. subst (λ w. get_or (set words (at i) z) (at w) 0 ≡ get_or (set xs i z) w 0) (sym e) (get_or-set_same words (at i) z 0 lt ∙ sym (get_or-set_same xs i z 0 lt')))
    (λ ne. get_or-set_other words (at i) (at w) z 0 (λ q. ne (apart w i q)) ∙ (old w low ∙ sym (get_or-set_other xs i w z 0 ne)))

module _ {T : Type 0} where
  lane_else : (lanes : List (Lane T)) (l j : ℕ) (y : Lane T) → j ≢ l → lane_in (set lanes l y) j ≡ lane_in lanes j
  lane_else lanes l j y ne = get_or-set_other lanes l j y no_lane ne

  -- the words of a lane stay, where one of another lane changes
  lane_kept : (words : List ℕ) (l i z j d d' : ℕ) (x : Lane T) → j ≢ l → i < 19 → d' ≡ d → ShowsLane words j x d → ShowsLane (set words (lane_word l i) z) j x d'
  lane_kept words l i z j d d' x ne low e s = record {
    taken = λ w lt. word_else words l i z j w (λ h. absurd (ne h)) low (omega arith) ∙ s.taken w lt;
    home = λ w lt. word_else words l i z j (8 + w) (λ h. absurd (ne h)) low (omega arith) ∙ s.home w lt;
    summary = word_else words l i z j 16 (λ h. absurd (ne h)) low (omega arith) ∙ s.summary;
    claimed = word_else words l i z j 17 (λ h. absurd (ne h)) low (omega arith) ∙ s.claimed;
    drawn = word_else words l i z j 18 (λ h. absurd (ne h)) low (omega arith) ∙ (s.drawn ∙ sym e);
  }

  -- the slots, where the slot of one place has changed
  pub slots_after : (homes : List (maybe.Option (Option T))) (m : Machine T) (l p a : ℕ) (y : Lane T) (q : Actor T) (o : maybe.Option (Option T)) → ShowsSlots homes m
      → ((j r : ℕ) (x : T) → value_at m j r ≡ Some x → r < places) → l < length m.lanes → p < places
      → ((r : ℕ) (x : T) → r ≢ p → get_or y.values r None ≡ Some x → value_at m l r ≡ Some x) → ((r : ℕ) → r ≢ p → has y.taken r ≡ 0 → has (lane_at m l).taken r ≡ 0)
      → ((x : T) → get_or y.values p None ≡ Some x → o ≡ some (Some x)) → (has y.taken p ≡ 0 → o ≡ some None) → ((r : ℕ) (x : T) → get_or y.values r None ≡ Some x → r < places)
      → ShowsSlots (set homes (slot_at l p) o) (changed m l y a q)
  slots_after homes m l p a y q o s wide lt low lying free mine empty narrow = let n : Machine T = changed m l y a q in let long : length (set m.lanes l y) ≡ length m.lanes = length-set m.lanes l y in let c = s.count in
      let inside : slot_at l p < length homes = omega arith in record {
        count = length-set homes (slot_at l p) o ∙ (s.count ∙ ap (λ z. 512 * z) (sym long));
        lying = λ j r x lt' e. dite (ℕ_discrete j l)
            (λ h. let v : get_or y.values r None ≡ Some x = ap (λ (z : Lane T). get_or z.values r None) (sym (lane_here m.lanes l y lt)) ∙ (ap (λ i. value_at n i r) (sym h) ∙ e) in dite (ℕ_discrete r p)
            (λ g. subst (λ i. get_elem? (set homes (slot_at l p) o) i ≡ some (some (Some x))) (let w : slot_at l p ≡ slot_at j r = omega arith in w)
            (set_here homes (slot_at l p) o inside ∙ ap some (mine x (ap (λ i. get_or y.values i None) (sym g) ∙ v))))
            (λ ng. set_else homes (slot_at l p) (slot_at j r) o (λ w. ng (omega arith)) ∙ s.lying j r x (omega arith) (ap (λ i. value_at m i r) h ∙ lying r x ng v)))
            (λ nh. let v : value_at m j r ≡ Some x = ap (λ (z : Lane T). get_or z.values r None) (sym (lane_else m.lanes l j y nh)) ∙ e in let inner = wide j r x v in
            set_else homes (slot_at l p) (slot_at j r) o (λ w. nh (omega arith)) ∙ s.lying j r x (omega arith) v);
        free = λ j r lt' low' e. dite (ℕ_discrete j l)
            (λ h. let t : has y.taken r ≡ 0 = ap (λ (z : Lane T). has z.taken r) (sym (lane_here m.lanes l y lt)) ∙ (ap (λ i. has (lane_at n i).taken r) (sym h) ∙ e) in dite (ℕ_discrete r p)
            (λ g. subst (λ i. get_elem? (set homes (slot_at l p) o) i ≡ some (some None)) (let w : slot_at l p ≡ slot_at j r = omega arith in w)
            (set_here homes (slot_at l p) o inside ∙ ap some (empty (ap (has y.taken) (sym g) ∙ t))))
            (λ ng. set_else homes (slot_at l p) (slot_at j r) o (λ w. ng (omega arith)) ∙ s.free j r (omega arith) low' (ap (λ i. has (lane_at m i).taken r) h ∙ free r ng t)))
            (λ nh. let t : has (lane_at m j).taken r ≡ 0 = ap (λ (z : Lane T). has z.taken r) (sym (lane_else m.lanes l j y nh)) ∙ e in
            set_else homes (slot_at l p) (slot_at j r) o (λ w. nh (omega arith)) ∙ s.free j r (omega arith) low' t);
      }

  -- no slot changes, and of the lane neither what is taken nor what lies there
  pub slots_kept : (homes : List (maybe.Option (Option T))) (m : Machine T) (l a : ℕ) (y : Lane T) (q : Actor T) → ShowsSlots homes m → l < length m.lanes → y.values ≡ (lane_at m l).values → y.taken ≡ (lane_at m l).taken
      → ShowsSlots homes (changed m l y a q)
  slots_kept homes m l a y q s lt same_values same_taken = let long : length (set m.lanes l y) ≡ length m.lanes = length-set m.lanes l y in
      let values = part_same (λ (z : Lane T). z.values) m.lanes l y lt same_values in let taken = part_same (λ (z : Lane T). z.taken) m.lanes l y lt same_taken in record {
        count = s.count ∙ ap (λ z. 512 * z) (sym long);
        lying = λ j r x lt' e. s.lying j r x (omega arith) (ap (λ (z : List (Option T)). get_or z r None) (sym (values j)) ∙ e);
        free = λ j r lt' low e. s.free j r (omega arith) low (ap (λ z. has z r) (sym (taken j)) ∙ e);
      }

  -- a slot in whose place no value lies comes home empty
  pub slots_back : (homes : List (maybe.Option (Option T))) (m : Machine T) (l p : ℕ) → ShowsSlots homes m → ((j r : ℕ) (x : T) → value_at m j r ≡ Some x → r < places) → l < length m.lanes → p < places
      → ((x : T) → value_at m l p ≢ Some x) → ShowsSlots (set homes (slot_at l p) (some None)) m
  slots_back homes m l p s wide lt low gone = let c = s.count in let inside : slot_at l p < length homes = omega arith in record {
    count = length-set homes (slot_at l p) (some None) ∙ s.count;
    lying = λ j r x lt' e. let w = wide j r x e in set_else homes (slot_at l p) (slot_at j r) (some None) (λ h. gone x (let a : l ≡ j = omega arith in let b : p ≡ r = omega arith in (λ i. value_at m (a i) (b i)) ∙ e)) ∙ s.lying j r x lt' e;
    free = λ j r lt' low' e. dite (ℕ_discrete (slot_at j r) (slot_at l p))
        (λ h. subst (λ i. get_elem? (set homes (slot_at l p) (some None)) i ≡ some (some None)) (sym h) (set_here homes (slot_at l p) (some None) inside))
        (λ ne. set_else homes (slot_at l p) (slot_at j r) (some None) ne ∙ s.free j r lt' low' e);
  }

module _ {T : Type 0} (k : Placing T) where
  -- a word and a slot of one lane change
  pub shows_changed : (words : List ℕ) (homes homes' : List (maybe.Option (Option T))) (m : Machine T) (l i z a : ℕ) (y : Lane T) (q : Actor T) → ShowsMachine k words homes m → l < length m.lanes → i < 19
      → ShowsLane (set words (lane_word l i) z) l y (drawn k (changed m l y a q) l) → ((j : ℕ) → j ≢ l → drawn k (changed m l y a q) j ≡ drawn k m j)
      → ShowsSlots homes' (changed m l y a q) → ShowsMachine k (set words (lane_word l i) z) homes' (changed m l y a q)
  shows_changed words homes homes' m l i z a y q s lt low here elsewhere slots = let n : Machine T = changed m l y a q in let long : length (set m.lanes l y) ≡ length m.lanes = length-set m.lanes l y in record {
    count = length-set words (lane_word l i) z ∙ (s.count ∙ ap (λ z. 19 * z) (sym long));
    lane = λ j lt'. dite (ℕ_discrete j l)
        (λ e. subst (λ j. ShowsLane (set words (lane_word l i) z) j (lane_at n j) (drawn k n j)) (sym e) (subst (λ x. ShowsLane (set words (lane_word l i) z) l x (drawn k n l)) (sym (lane_here m.lanes l y lt)) here))
        (λ ne. subst (λ x. ShowsLane (set words (lane_word l i) z) j x (drawn k n j)) (sym (lane_else m.lanes l j y ne)) (lane_kept words l i z j (drawn k m j) (drawn k n j) (lane_at m j) ne low (elsewhere j ne) (s.lane j (omega arith))));
    slots = slots;
  }

  -- no lane changes
  pub shows_acted : (words : List ℕ) (homes : List (maybe.Option (Option T))) (m : Machine T) (actors : List (Actor T)) → ShowsMachine k words homes m → ((l : ℕ) → drawn k record { lanes = m.lanes; actors = actors } l ≡ drawn k m l) → ShowsMachine k words homes record { lanes = m.lanes; actors = actors }
  shows_acted words homes m actors s same = record {
    count = s.count;
    lane = λ l lt. let x = s.lane l lt in record { taken = x.taken; home = x.home; summary = x.summary; claimed = x.claimed; drawn = x.drawn ∙ sym (same l) };
    slots = let t = s.slots in record { count = t.count; lying = t.lying; free = t.free };
  }
