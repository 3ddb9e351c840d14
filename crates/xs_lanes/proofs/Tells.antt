-- What the number that a step found tells the caller.
use Rattle.std.proofs.Common.{◌≡◌, ◌≢◌, ℕ, ◌<◌, ◌⊎◌, inl, inr, Bool, true, false, not, ◌&&◌, if◌then◌else◌, MatchBool, nat_eq, eq-eqb, ne_eqb, List, [], ◌∷◌, Option, Some, None, bit_and, bit_or, sym, ap, ◌∙◌, subst, arith}
use Rattle.std.specs.Int.{bit_at}
use Rattle.std.specs.List.{Contains}
use Rattle.std.proofs.lemmas.Nat.Bits.{bit_at-lt}
use mathlib.Core.Option.{none}
use mathlib.Core.Logic.{dite}
use native.Mathlib.Decide.{ℕ_discrete}
use Rattle.atomic_table.specs.Table.{Me, step, rest}
use Rattle.xs_lane_core.specs.Places.{places, word_of, place_bit, own_bit, every_word, with_words}
use Rattle.xs_lane_core.specs.declared.values.Stand.TheVariants.{Idle, Owing, Pulling}
use Rattle.xs_lane_core.specs.Machine.{Placing, Actor, stands, repeats, stores, sees, finds_gone, stand_owing}
use Rattle.xs_lane_core.specs.Sound.{IsAlone}
use Rattle.xs_lane_core.proofs.Kept.{mask_test}
use Rattle.xs_lanes.specs.declared.lanes.Put.TheVariants.{Stored}
use Rattle.xs_lanes.specs.Filing.{taken_word, claim_word, drawn_word, slot_at}
use Rattle.xs_lanes.specs.Knowing.{IsChoice, FindsHome, FindsSummary, stored_at}
use Rattle.xs_lanes.specs.Claiming.{got_in, HasDrawn}
use Rattle.xs_lanes.specs.Debts.{debt_after}
use Rattle.xs_lanes.specs.Plays.{first_item, took, came_home, summed, claimed, drew}
use Rattle.xs_lanes.specs.Answers.{HasTaken, HasStored, HasSummed, HasBrought, HasJoined, Answers}

-- the value of the slot that was taken last
abbrev head_item : {T : Type 0} → List (ℕ × Option T) → Option T
head_item [] = None
head_item (e ∷ es) = e.1

none_or : (n : ℕ) → (0 < n → ⊥) → n ≡ 0
none_or n h = dite (ℕ_discrete n 0) (λ e. e) (λ ne. absurd (h (omega arith)))

module _ {T : Type 0} (k : Placing T) where
  pub took_choice : (n l p r w b : ℕ) (me m' : Me (Option T) (Actor T)) → p < places → w ≡ taken_word l p → b ≡ own_bit p → took k (step n w b 0 none) me r m' → IsAlone me.0 → IsChoice k me.0
  took_choice n l p r w b me m' low e e' t = (t l p low e e').1

  pub took_tells : (n l p r w b : ℕ) (me m' : Me (Option T) (Actor T)) → p < places → w ≡ taken_word l p → b ≡ own_bit p → me.1 ≡ [] → took k (step n w b 0 none) me r m'
      → MatchBool (nat_eq (bit_and r b) 0) (HasTaken k me.0 m'.0 l p × (m'.1 ≡ (slot_at l p, None) ∷ [])) ((m'.0 ≡ repeats l p me.0) × (m'.1 ≡ []) × (IsAlone me.0 → stored_at k l p me.0 ≡ 1))
  took_tells n l p r w b me m' low e e' idle t = let u = t l p low e e' in let o : ℕ = place_bit p in let bit = bit_at-lt r o in
      let X : Type 0 = HasTaken k me.0 m'.0 l p × (m'.1 ≡ (slot_at l p, None) ∷ []) in let Y : Type 0 = (m'.0 ≡ repeats l p me.0) × (m'.1 ≡ []) × (IsAlone me.0 → stored_at k l p me.0 ≡ 1) in
      let test : nat_eq (bit_and r b) 0 ≡ nat_eq (bit_at r o) 0 = ap (λ c. nat_eq (bit_and r c) 0) e' ∙ mask_test r o in
      dite (ℕ_discrete (bit_at r o) 0)
      (λ z. let h = u.2 z in subst (λ (c : Bool). MatchBool c X Y) (sym (test ∙ eq-eqb (bit_at r o) 0 z)) (
        record {
          fresh = none_or (stored_at k l p me.0) (λ lt. let o = u.0.stored lt in omega arith);
          not_repeated = λ c. let o = u.0.repeated c in omega arith;
          held = h.0;
          lane = h.1;
          place = h.2;
          view = h.3;
        },
        h.4 ∙ ap (λ c. (slot_at l p, None) ∷ c) idle,
      ))
      (λ ne. let one : bit_at r o ≡ 1 = omega arith in let h = u.3 one in subst (λ (c : Bool). MatchBool c X Y) (sym (test ∙ ne_eqb (bit_at r o) 0 ne)) (h.0, h.1 ∙ idle, λ alone. sym (u.0.alone alone) ∙ one))

  pub home_tells : (n w b r slot : ℕ) (x : T) (v : Actor T) (me m' : Me (Option T) (Actor T)) → me ≡ (v, (slot, Some x) ∷ []) → came_home k (step n w b 0 none) me r m'
      → FindsHome k v (k.lane x) (word_of (k.place x)) r × (m'.0 ≡ stores x (stand_owing (k.lane x) (debt_after k x r)) v) × (m'.1 ≡ [])
  home_tells n w b r slot x v me m' is h = let t = h x (ap (λ (m : Me (Option T) (Actor T)). first_item m.1) is) in (
    subst (λ (m : Me (Option T) (Actor T)). FindsHome k m.0 (k.lane x) (word_of (k.place x)) r) is t.0,
    t.1 ∙ ap (λ (m : Me (Option T) (Actor T)). stores x (stand_owing (k.lane x) (debt_after k x r)) m.0) is,
    t.2 ∙ ap (λ (m : Me (Option T) (Actor T)). rest m.1) is,
  )

  -- what the found summary and the new one tell of the lane
  pub sum_tells : (n w r l o : ℕ) (me m' : Me (Option T) (Actor T)) (made : Bool) → made ≡ (not (nat_eq r every_word) && nat_eq (bit_or r o) every_word) → summed k (step n w o 0 none) me r m' → HasJoined k me.0 l o m'.0 made
  sum_tells n w r l o me m' made e h u x is = let t = h l o x u is in (
    r,
    t.0,
    t.1,
    dite (ℕ_discrete r every_word)
        (λ old. answered false (inl old) (e ∙ (λ i. not (eq-eqb r every_word old i) && nat_eq (bit_or r o) every_word)))
        (λ part. dite (ℕ_discrete (bit_or r o) every_word)
        (λ new. answered true (part, new) (e ∙ (λ i. not (ne_eqb r every_word part i) && eq-eqb (bit_or r o) every_word new i)))
        (λ still. answered false (inr still) (e ∙ (λ i. not (ne_eqb r every_word part i) && ne_eqb (bit_or r o) every_word still i)))),
  )
    where
      answered : (b : Bool) → MatchBool b ((r ≢ every_word) × (with_words r o ≡ every_word)) ((r ≡ every_word) ⊎ (with_words r o ≢ every_word)) → made ≡ b
          → MatchBool made ((r ≢ every_word) × (with_words r o ≡ every_word)) ((r ≡ every_word) ⊎ (with_words r o ≢ every_word))
      answered b told is = subst (λ (c : Bool). MatchBool c ((r ≢ every_word) × (with_words r o ≡ every_word)) ((r ≡ every_word) ⊎ (with_words r o ≢ every_word))) (sym is) told

  has_stored : (v : Actor T) (x : T) (v1 : Actor T) (before : ℕ) → HasTaken k v v1 (k.lane x) (k.place x) → FindsHome k v1 (k.lane x) (word_of (k.place x)) before → HasStored k v x before
  has_stored v x v1 before t f = record { fresh = t.fresh; not_repeated = t.not_repeated; found = let g = subst (λ (z : Actor T). FindsHome k z (k.lane x) (word_of (k.place x)) before) t.view f in record { small = g.small; alone = g.alone } }

  -- a value that is home and owes nothing, and one of which what it owed has joined the summary
  pub stored_free : (v : Actor T) (x : T) (v1 w : Actor T) (words : ℕ) → HasTaken k v v1 (k.lane x) (k.place x) → HasBrought k v1 x w words → words ≡ 0 → Answers k v x w Stored
  stored_free v x v1 w words t b free = let e : debt_after k x b.0 ≡ 0 = sym b.2 ∙ free in
      inl (b.0, has_stored v x v1 b.0 t b.1, e, b.3 ∙ (ap (λ o. stores x (stand_owing (k.lane x) o) v1) free ∙ ap (stores x Idle) t.view))

  owing_is : (l o : ℕ) → o ≢ 0 → stand_owing {V = T} l o ≡ Owing l o
  owing_is l o ne = ap (λ (b : Bool). if b then Idle else Owing l o) (ne_eqb o 0 ne)

  pub brought_owing : (v1 : Actor T) (x : T) (w : Actor T) (words : ℕ) → HasBrought k v1 x w words → words ≢ 0 → w ≡ stores x (Owing (k.lane x) words) v1
  brought_owing v1 x w words b ne = b.3 ∙ ap (λ s. stores x s v1) (owing_is (k.lane x) words ne)

  pub summed_up : (v : Actor T) (x : T) (v1 v2 w : Actor T) (words : ℕ) (made : Bool) → HasTaken k v v1 (k.lane x) (k.place x) → HasBrought k v1 x v2 words → words ≢ 0 → HasJoined k v2 (k.lane x) words w made
      → (before summary : ℕ) × HasSummed k v x w before summary × MatchBool made ((summary ≢ every_word) × (with_words summary (debt_after k x before) ≡ every_word)) ((summary ≡ every_word) ⊎ (with_words summary (debt_after k x before) ≢ every_word))
  summed_up v x v1 v2 w words made t b ne j = let is = brought_owing v1 x v2 words b ne in let h = j v1 x is in let r : ℕ = h.0 in let debt : words ≡ debt_after k x b.0 = b.2 in let f = subst (λ (z : Actor T). FindsSummary k z (k.lane x) r) t.view h.1 in (
    b.0,
    r,
    record {
      stored = has_stored v x v1 b.0 t b.1;
      owes = λ e. ne (debt ∙ e);
      found = record { seen = f.seen; low = f.low; alone = f.alone };
      view = h.2 ∙ (ap (sees Idle (k.lane x) (with_words r words)) (is ∙ ap (stores x (Owing (k.lane x) words)) t.view) ∙ ap (λ o. sees Idle (k.lane x) (with_words r o) (stores x Idle v)) debt);
    },
    subst (λ o. MatchBool made ((r ≢ every_word) × (with_words r o ≡ every_word)) ((r ≡ every_word) ⊎ (with_words r o ≢ every_word))) debt h.3,
  )

  pub won_tells : (n w r l : ℕ) (me m' : Me (Option T) (Actor T)) → w ≡ claim_word l → claimed k (step n w 1 0 none) me r m'
      → MatchBool (nat_eq r 0) ((m'.0 ≡ stands (Pulling l 0) me.0) × (got_in k l me.0 ≡ 0) × ¬ Contains me.0.gone l) ((m'.0 ≡ finds_gone l me.0) × (IsAlone me.0 → 0 < got_in k l me.0))
  won_tells n w r l me m' e h = let t = h l e in
      let X : Type 0 = (m'.0 ≡ stands (Pulling l 0) me.0) × (got_in k l me.0 ≡ 0) × ¬ Contains me.0.gone l in let Y : Type 0 = (m'.0 ≡ finds_gone l me.0) × (IsAlone me.0 → 0 < got_in k l me.0) in
      dite (ℕ_discrete r 0)
      (λ z. subst (λ (c : Bool). MatchBool c X Y) (sym (eq-eqb r 0 z)) (t.1 z, none_or (got_in k l me.0) (λ lt. let o = t.0.got lt in omega arith), λ c. let o = t.0.gone c in omega arith))
      (λ ne. subst (λ (c : Bool). MatchBool c X Y) (sym (ne_eqb r 0 ne)) (t.2 ne, λ alone. let o = t.0.alone alone in omega arith))

  pub drawn_tells : (n w r l slot : ℕ) (item : Option T) (me m1 m2 : Me (Option T) (Actor T)) → w ≡ drawn_word l → me.1 ≡ [] → drew k (step n w 1 0 none) me r m1 → slot ≡ slot_at l r → m1.1 ≡ (slot, item) ∷ rest m1.1 → m2 ≡ (m1.0, (slot, None) ∷ rest m1.1)
      → (j : ℕ) → me.0.stand ≡ Pulling l j → (x : T) × (item ≡ Some x) × HasDrawn k me.0 l j x m2.0 × (m2.1 ≡ (slot_at l j, None) ∷ [])
  drawn_tells n w r l slot item me m1 m2 e idle h at first after j stand = let t = h l j e stand in let u = t.2 in (
    u.0,
    ap head_item (sym first ∙ u.4),
    record { lane = u.1; place = u.2; low = t.1; view = ap (λ (m : Me (Option T) (Actor T)). m.0) after ∙ u.3 },
    ap (λ (m : Me (Option T) (Actor T)). m.1) after ∙ (λ i. ((at ∙ ap (slot_at l) t.0) i, None) ∷ (ap rest u.4 ∙ idle) i),
  )
