-- What a table that no thread shares any more shows, where one pass has the whole share.
use Rattle.std.proofs.Common.{◌≡◌, ◌↔◌, ℕ, zero, suc, ◌<◌, min, Bool, true, not, nat_eq, nat_lt, eq-eqb, ne_eqb, MatchBool, List, [], ◌∷◌, length, get_or, Option, bit_and, sym, refl, ap, ◌∙◌, subst, arith}
use Rattle.std.specs.Int.{bit_at}
use Rattle.std.proofs.lemmas.Bool.{lt-ltb}
use Rattle.std.proofs.lemmas.List.Elements.{All-weaker}
use Rattle.std.proofs.lemmas.Nat.Bits.{bit_at-lt}
use mathlib.Core.Option.{some}
use mathlib.Core.Logic.{dite}
use native.Mathlib.Decide.{ℕ_discrete}
use lib.ListN.{get_elem?}
use Rattle.atomic_table.specs.Table.{State, Final, Seen}
use Rattle.xs_lane_core.specs.Places.{places, word_of, place_bit, own_bit, every_word, IsWithin}
use Rattle.xs_lane_core.specs.Machine.{Placing, Actor, Machine, lane_in, lane_at, actor_at, nobody}
use Rattle.xs_lane_core.specs.Steps.{is_free}
use Rattle.xs_lane_core.specs.Sound.{at, claim_flag, IsAlone, FillsWord, IsSound}
use Rattle.xs_lane_core.proofs.Sets.{word_low}
use Rattle.xs_lane_core.proofs.Alone.{alone_stored, alone_is_stored, due_fills}
use Rattle.xs_lane_core.proofs.Kept.{mask_test}
use Rattle.xs_lane_core.proofs.Meanings.{got_was_stored}
use Rattle.xs_lane_core.proofs.Turns.{got_within}
use Rattle.xs_lanes.specs.Filing.{taken_word, summary_word, claim_word, Filed}
use Rattle.xs_lanes.specs.Knowing.{IsWhole, stored_at}
use Rattle.xs_lanes.specs.Claiming.{got_in}
use Rattle.xs_lanes.specs.Settled.{Settled, IsDone}
use Rattle.xs_lanes.proofs.Lists.{at_view}
use Rattle.xs_lanes.proofs.Knows.{alone_taken, finds_choice, finds_summary}
use Rattle.xs_lanes.proofs.Claims.{finds_claim}
use Rattle.xs_lanes.proofs.Wholes.{whole_summary}

over_none : (n : ℕ) → not (nat_eq n 0) ≡ nat_lt 0 n
over_none zero = refl
over_none (suc n) = ap not (ne_eqb (suc n) 0 (λ e. omega arith)) ∙ sym (lt-ltb 0 (suc n) (omega arith))

module _ {T : Type 0} (k : Placing T) where
  done : (m : Machine T) (a : ℕ) → IsSound k m → a < length m.actors → is_free (actor_at m a).stand ≡ true → IsAlone (actor_at m a) → IsDone k (actor_at m a)
  done m a s lt free alone = let v : Actor T = actor_at m a in record {
    choice = finds_choice k m a s lt free alone;
    got = λ i d lt'. alone_is_stored m a s.whole_share lt alone (got_or v i d) (got_was_stored k m a (got_or v i d) s (i, lt', same_default v.got i d lt'));
    once = λ l p. let g = s.map_follows.got_stored l p in let w = got_within (at k l p) m a in let t = alone_stored (at k l p) m a s.whole_share lt alone in
        let b = alone_taken k m a l p s lt free alone in let c = bit_at-lt (get_or (lane_at m l).taken (word_of p) 0) (place_bit p) in omega arith;
    gone = All-weaker (λ (l : ℕ). (lane_in m.lanes l).claimed ≡ true) (λ (l : ℕ). 0 < got_in k l v) (λ l e. let f = (finds_claim k m a l s lt free).alone alone in let c : claim_flag (lane_at m l).claimed ≡ 1 = ap claim_flag e in omega arith) v.gone (s.seen_below a).gone;
    seen = All-weaker (λ (z : ℕ × ℕ). IsWithin z.1 (lane_in m.lanes z.0).summary) (λ (z : ℕ × ℕ). (w : ℕ) → bit_at z.1 w ≡ 1 → FillsWord k z.0 w v.stored)
        (λ z h w lit. let b = bit_at-lt (lane_in m.lanes z.0).summary w in let g = h w in due_fills k m a z.0 w s lt alone (s.summary_follows.due z.0 w (omega arith))) v.seen (s.seen_below a).seen;
  }
    where
      got_or : Actor T → ℕ → T → T
      got_or v i d = get_or v.got i d

      same_default : (xs : List T) (i : ℕ) (d : T) → i < length xs → get_or xs i (get_or xs i d) ≡ get_or xs i d
      same_default [] i d lt = absurd (omega arith)
      same_default (x ∷ xs) zero d lt = refl
      same_default (x ∷ xs) (suc i) d lt = same_default xs i d (omega arith)

  settled : (s : State (Option T) (Actor T)) (id : ℕ) → (r : Filed k s) → (v : Actor T) → get_elem? s.views id ≡ some v → is_free v.stand ≡ true → IsAlone v → Settled k s.words v
  settled s id r v at_id free alone = let m : Machine T = record { lanes = r.lanes; actors = s.views } in let here = at_view s.views id v nobody at_id in let lt : id < length s.views = here.0 in let mine : actor_at m id ≡ v = here.1 in
      let free' : is_free (actor_at m id).stand ≡ true = ap (λ (z : Actor T). is_free z.stand) mine ∙ free in let alone' = subst IsAlone (sym mine) alone in let count = r.shows.count in
      subst (Settled k s.words) mine record {
        taken = λ l p place low. ap (λ u. bit_at u (place_bit p)) ((r.shows.lane l (omega arith)).taken (word_of p) (word_low p place)) ∙ alone_taken k m id l p r.sound lt free' alone';
        whole = λ l low. let f = finds_summary k m id l r.sound lt (omega arith) free' in let found = (r.shows.lane l (omega arith)).summary in
            subst (λ z. (z ≡ every_word) ↔ IsWhole k l (actor_at m id)) (sym found) (whole_summary k l (lane_at m l).summary (actor_at m id) f.low (f.alone alone'));
        claimed = λ l low. (r.shows.lane l (omega arith)).claimed ∙ (finds_claim k m id l r.sound lt free').alone alone';
      }

  pub settles : (id : ℕ) (v : Actor T) (words : List ℕ) (slots : List (Option T)) → is_free v.stand ≡ true → IsAlone v → Final (Seen (Filed k) id v) words slots → Settled k words v
  settles id v words slots free alone f = subst (λ ws. Settled k ws v) f.2 (settled f.0 id f.1.0 v f.1.1 free alone)

  pub ends : (id : ℕ) (v : Actor T) (words : List ℕ) (slots : List (Option T)) → is_free v.stand ≡ true → IsAlone v → Final (Seen (Filed k) id v) words slots → IsDone k v
  ends id v words slots free alone f = let s = f.0 in let r = f.1.0 in let m : Machine T = record { lanes = r.lanes; actors = s.views } in let here = at_view s.views id v nobody f.1.1 in let mine : actor_at m id ≡ v = here.1 in
      subst (IsDone k) mine (done m id r.sound here.0 (ap (λ (z : Actor T). is_free z.stand) mine ∙ free) (subst IsAlone (sym mine) alone))

  pub held_is : (words : List ℕ) (v : Actor T) (l p w b r : ℕ) → p < places → Settled k words v → w ≡ taken_word l p → b ≡ own_bit p → get_elem? words w ≡ some r → not (nat_eq (bit_and r b) 0) ≡ nat_lt 0 (stored_at k l p v)
  held_is words v l p w b r place s e e' there = let at_w = at_view words w r 0 there in let low = at_w.0 in let is : bit_at r (place_bit p) ≡ stored_at k l p v = ap (λ u. bit_at u (place_bit p)) (sym at_w.1 ∙ ap (λ i. get_or words i 0) e) ∙ s.taken l p place (omega arith) in
      ap not (ap (λ c. nat_eq (bit_and r c) 0) e' ∙ (mask_test r (place_bit p) ∙ ap (λ u. nat_eq u 0) is)) ∙ over_none (stored_at k l p v)

  pub claimed_is : (words : List ℕ) (v : Actor T) (l w r : ℕ) → Settled k words v → w ≡ claim_word l → get_elem? words w ≡ some r → not (nat_eq r 0) ≡ nat_lt 0 (got_in k l v)
  claimed_is words v l w r s e there = let at_w = at_view words w r 0 there in let low = at_w.0 in let is : r ≡ min 1 (got_in k l v) = sym at_w.1 ∙ (ap (λ i. get_or words i 0) e ∙ s.claimed l (omega arith)) in
      ap (λ u. not (nat_eq u 0)) is ∙ capped (got_in k l v)
    where
      capped : (n : ℕ) → not (nat_eq (min 1 n) 0) ≡ nat_lt 0 n
      capped zero = refl
      capped (suc n) = ap (λ u. not (nat_eq u 0)) (let e : min 1 (suc n) ≡ 1 = omega arith in e) ∙ sym (lt-ltb 0 (suc n) (omega arith))

  pub whole_is : (words : List ℕ) (v : Actor T) (l w r : ℕ) → Settled k words v → w ≡ summary_word l → get_elem? words w ≡ some r → MatchBool (nat_eq r every_word) (IsWhole k l v) (¬ IsWhole k l v)
  whole_is words v l w r s e there = let at_w = at_view words w r 0 there in let low = at_w.0 in let told = s.whole l (omega arith) in let is : get_or words (summary_word l) 0 ≡ r = ap (λ i. get_or words i 0) (sym e) ∙ at_w.1 in
      dite (ℕ_discrete r every_word)
      (λ all. subst (λ (c : Bool). MatchBool c (IsWhole k l v) (¬ IsWhole k l v)) (sym (eq-eqb r every_word all)) (told.0 (is ∙ all)))
      (λ part. subst (λ (c : Bool). MatchBool c (IsWhole k l v) (¬ IsWhole k l v)) (sym (ne_eqb r every_word part)) (λ whole. part (sym is ∙ told.1 whole)))
