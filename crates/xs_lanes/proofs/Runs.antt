-- The values that a claim pulls, one after the other, are those that the machine's claim gives.
use Rattle.std.proofs.Common.{◌≡◌, ℕ, suc, ◌+◌, ◌<◌, true, false, true≢false, if◌then◌else◌, Bool, List, [], ◌∷◌, ◌++◌, length, length-append, append-nil, append_assoc, Option, None, sym, refl, ap, ◌∙◌, subst, arith}
use Rattle.std.specs.List.{Contains}
use Rattle.std.proofs.lemmas.List.Sums.{sum_by_push}
use Rattle.std.proofs.lemmas.List.Elements.{Contains-append_right}
use Rattle.atomic_table.specs.Table.{Me}
use Rattle.xs_lane_core.specs.declared.values.Stand.{Stand}
use Rattle.xs_lane_core.specs.declared.values.Stand.TheVariants.{Idle, Pulling}
use Rattle.xs_lane_core.specs.Machine.{Placing, Actor, Machine, actor_at, gets}
use Rattle.xs_lane_core.specs.Sound.{at, IsSound}
use Rattle.xs_lane_core.specs.Claim.{GivesFrom}
use Rattle.xs_lane_core.proofs.Meanings.{got_was_stored}
use Rattle.xs_lane_core.proofs.Placed.{at_here}
use Rattle.xs_lanes.specs.Filing.{slot_at}
use Rattle.xs_lanes.specs.Claiming.{got_at, gets_all, IsActor, IsOpenRun, IsRun, IsClaimOf, HasDrawn, OwesSlot}

module _ {T : Type 0} (k : Placing T) where
  drawn_got : (v : Actor T) (l j : ℕ) (x : T) (w : Actor T) → HasDrawn k v l j x w → 0 < got_at k l j w
  drawn_got v l j x w d = let p = sum_by_push (at k l j) v.got x in let o = at_here k l j x d.lane d.place in let e = ap (got_at k l j) d.view in omega arith

  pub owes_slot : (v : Actor T) (l j : ℕ) (x : T) (me : Me (Option T) (Actor T)) → HasDrawn k v l j x me.0 → me.1 ≡ (slot_at l j, None) ∷ [] → OwesSlot k l me
  owes_slot v l j x me d out = (j, d.low, drawn_got v l j x me.0 d, out)

  open_push : (l j : ℕ) (xs : List T) (x : T) → IsOpenRun k l j xs → k.lane x ≡ l → k.place x ≡ j + length xs → k.closes x ≡ false → IsOpenRun k l j (xs ++ x ∷ [])
  open_push l j [] x r lane place open_value = (lane, place ∙ (let e : j + 0 ≡ j = omega arith in e), open_value, tt)
  open_push l j (y ∷ ys) x r lane place open_value = (r.0, r.1, r.2, open_push l (suc j) ys x r.3 lane (place ∙ (let e : j + suc (length ys) ≡ suc j + length ys = omega arith in e)) open_value)

  run_push : (l j : ℕ) (xs : List T) (x : T) → IsOpenRun k l j xs → k.lane x ≡ l → k.place x ≡ j + length xs → k.closes x ≡ true → IsRun k l j (xs ++ x ∷ [])
  run_push l j [] x r lane place closes = (lane, place ∙ (let e : j + 0 ≡ j = omega arith in e), (λ _. refl), λ e. absurd (true≢false (sym closes ∙ e)))
  run_push l j (y ∷ ys) x r lane place closes = (r.0, r.1, (λ e. absurd (true≢false (sym e ∙ r.2))), λ _. run_push l (suc j) ys x r.3 lane (place ∙ (let e : j + suc (length ys) ≡ suc j + length ys = omega arith in e)) closes)

  -- what was got in a sound machine was stored there
  gives_run : (m : Machine T) (a : ℕ) → IsSound k m → (l j : ℕ) (xs : List T) → IsRun k l j xs → ((x : T) → Contains xs x → Contains (actor_at m a).got x) → GivesFrom k m l j xs
  gives_run m a s l j [] r h = r
  gives_run m a s l j (x ∷ xs) r h = (got_was_stored k m a x s (h x (0, omega arith, refl)), r.0, r.1, r.2, λ e. gives_run m a s l (suc j) xs (r.3 e) (λ y c. let lt = c.1 in h y (suc c.0, omega arith, c.2)))

  pub claim_of : (v w : Actor T) (l : ℕ) (xs : List T) (s : Stand T) → IsRun k l 0 xs → IsActor k w → w ≡ gets_all xs s v → IsClaimOf k l xs w
  claim_of v w l xs s r actor is = let m : Machine T = actor.0 in let e : (actor_at m actor.1).got ≡ v.got ++ xs = ap (λ (z : Actor T). z.got) (actor.3 ∙ is) in
      (m, actor.1, actor.2, actor.3, actor.4, gives_run m actor.1 actor.2 l 0 xs r (λ x c. subst (λ ys. Contains ys x) (sym e) (Contains-append_right v.got xs x c)))

  with_got : Actor T → Stand T → List T → Actor T
  with_got v s ys = record { stand = s; stored = v.stored; repeated = v.repeated; got = ys; gone = v.gone; seen = v.seen; parts = v.parts; halved = v.halved }

  -- one more value
  all_then : (xs : List T) (x : T) (s s' : Stand T) (v : Actor T) → gets x s' (gets_all xs s v) ≡ gets_all (xs ++ x ∷ []) s' v
  unfolding with_got
  all_then xs x s s' v = ap (with_got v s') (append_assoc v.got xs (x ∷ []))

  -- the pass v pulled the values xs, of which none closed the lane, and is now w
  abbrev pub HasPulled : Actor T → ℕ → List T → Actor T → Type 0
  HasPulled v l xs w = (w ≡ gets_all xs (Pulling l (length xs)) v) × IsOpenRun k l 0 xs

  pub pulled_none : (v : Actor T) (l : ℕ) (xs : List T) → v.stand ≡ Pulling l 0 → xs ≡ [] → HasPulled v l xs v
  unfolding with_got
  pulled_none v l xs stand e = subst (λ ys. HasPulled v l ys v) (sym e) ((λ i. with_got v (stand i) (sym (append-nil v.got) i)), tt)

  pub pulled_more : (v : Actor T) (l : ℕ) (xs : List T) (x : T) (w w' : Actor T) → HasPulled v l xs w → HasDrawn k w l (length xs) x w' → k.closes x ≡ false → HasPulled v l (xs ++ x ∷ []) w'
  pulled_more v l xs x w w' p d e = let n : length xs + 1 ≡ length (xs ++ x ∷ []) = sym (length-append xs (x ∷ [])) in (
    d.view ∙ (ap (λ (b : Bool). gets x (if b then Idle else Pulling l (length xs + 1)) w) e ∙ (ap (gets x (Pulling l (length xs + 1))) p.0 ∙ (all_then xs x (Pulling l (length xs)) (Pulling l (length xs + 1)) v ∙ ap (λ i. gets_all (xs ++ x ∷ []) (Pulling l i) v) n))),
    open_push l 0 xs x p.1 d.lane (d.place ∙ (let z : length xs ≡ 0 + length xs = omega arith in z)) e,
  )

  pub pulled_last : (v : Actor T) (l : ℕ) (xs : List T) (x : T) (w w' : Actor T) → HasPulled v l xs w → HasDrawn k w l (length xs) x w' → k.closes x ≡ true → (w' ≡ gets_all (xs ++ x ∷ []) Idle v) × IsRun k l 0 (xs ++ x ∷ [])
  pulled_last v l xs x w w' p d e = (
    d.view ∙ (ap (λ (b : Bool). gets x (if b then Idle else Pulling l (length xs + 1)) w) e ∙ (ap (gets x Idle) p.0 ∙ all_then xs x (Pulling l (length xs)) Idle v)),
    run_push l 0 xs x p.1 d.lane (d.place ∙ (let z : length xs ≡ 0 + length xs = omega arith in z)) e,
  )
