-- What a pass knows is true of the words, and who has the whole share knows them all.
use Rattle.std.proofs.Common.{◌≡◌, ℕ, ◌<◌, true, List, [], ◌∷◌, ◌++◌, length, get_or, sym, refl, ap, ◌∙◌, subst, arith}
use Rattle.std.specs.Int.{bit_at}
use Rattle.std.specs.List.{Contains}
use Rattle.std.proofs.lemmas.List.Elements.{All-weaker, All-contains}
use Rattle.std.proofs.lemmas.Nat.Bits.{bit_at-lt}
use Rattle.xs_lane_core.specs.Places.{word_of, place_bit, has, IsWithin}
use Rattle.xs_lane_core.specs.declared.values.Stand.TheVariants.{Owing}
use Rattle.xs_lane_core.specs.Machine.{Placing, Actor, Machine, lane_in, lane_at, actor_at, stores}
use Rattle.xs_lane_core.specs.Steps.{is_free}
use Rattle.xs_lane_core.specs.Sound.{holding, laid, owing, at, brings, IsAlone, HasFilled, IsFreshDebt, IsSound}
use Rattle.xs_lane_core.proofs.Alone.{alone_stands, alone_stored, alone_filled}
use Rattle.xs_lane_core.proofs.Frames.{free_counts_none, counts_holding, counts_laid, counts_owing}
use Rattle.xs_lane_core.proofs.Turns.{stored_within}
use Rattle.xs_lanes.specs.Knowing.{IsChoice, stored_at, FindsTaken, FindsHome, FindsSummary}

-- lists with one more at the end
module _ {A : Type 0} where
  abbrev without_last : List A → List A
  without_last [] = []
  without_last (z ∷ []) = []
  without_last (z ∷ u ∷ us) = z ∷ without_last (u ∷ us)

  front_is : (zs : List A) (z : A) → without_last (zs ++ z ∷ []) ≡ zs
  front_is [] z = refl
  front_is (u ∷ []) z = refl
  front_is (u ∷ t ∷ ts) z = ap (λ l. u ∷ l) (front_is (t ∷ ts) z)

  snoc_same : (xs ys : List A) (x y : A) → xs ++ x ∷ [] ≡ ys ++ y ∷ [] → xs ≡ ys
  snoc_same xs ys x y e = sym (front_is xs x) ∙ (ap without_last e ∙ front_is ys y)

module _ {T : Type 0} (k : Placing T) where
  -- where the pass is alone and has no place out, the taken places are those that it stored
  pub alone_taken : (m : Machine T) (a l p : ℕ) → IsSound k m → a < length m.actors → is_free (actor_at m a).stand ≡ true → IsAlone (actor_at m a) → has (lane_at m l).taken p ≡ stored_at k l p (actor_at m a)
  alone_taken m a l p s lt free alone = let o = s.one_holder.once l p in let w = s.whole_share in
      let h = alone_stands (holding k l p) m a refl w lt alone in let h' = free_counts_none (holding k l p) (counts_holding k l p) (actor_at m a).stand free in
      let d = alone_stands (laid k l p) m a refl w lt alone in let d' = free_counts_none (laid k l p) (counts_laid k l p) (actor_at m a).stand free in
      let t = alone_stored (at k l p) m a w lt alone in omega arith

  pub finds_taken : (m : Machine T) (a l p : ℕ) → IsSound k m → a < length m.actors → is_free (actor_at m a).stand ≡ true → FindsTaken k (actor_at m a) l p (has (lane_at m l).taken p)
  finds_taken m a l p s lt free = record {
    stored = λ more. let o = s.one_holder.once l p in let w = stored_within (at k l p) m a in let b = bit_at-lt (get_or (lane_at m l).taken (word_of p) 0) (place_bit p) in omega arith;
    repeated = λ c. All-contains (λ (z : ℕ × ℕ). has (lane_in m.lanes z.0).taken z.1 ≡ 1) (actor_at m a).repeated (l, p) (s.seen_below a).repeated c;
    alone = alone_taken m a l p s lt free;
  }

  pub finds_choice : (m : Machine T) (a : ℕ) → IsSound k m → a < length m.actors → is_free (actor_at m a).stand ≡ true → IsAlone (actor_at m a) → IsChoice k (actor_at m a)
  finds_choice m a s lt free alone = record {
    one = λ l p. let t = alone_taken m a l p s lt free alone in let b = bit_at-lt (get_or (lane_at m l).taken (word_of p) 0) (place_bit p) in omega arith;
    repeated = All-weaker (λ (z : ℕ × ℕ). has (lane_in m.lanes z.0).taken z.1 ≡ 1) (λ (z : ℕ × ℕ). stored_at k z.0 z.1 (actor_at m a) ≡ 1) (λ z h. sym (alone_taken m a z.0 z.1 s lt free alone) ∙ h) (actor_at m a).repeated (s.seen_below a).repeated;
  }

  pub finds_home : (m : Machine T) (a l w : ℕ) → IsSound k m → a < length m.actors → l < length m.lanes → FindsHome k (actor_at m a) l w (get_or (lane_at m l).home w 0)
  finds_home m a l w s lt lt' = record {
    small = (s.map_follows.wide l lt').small w;
    alone = λ alone p word. let t = alone_stored (brings k l p) m a s.whole_share lt alone in let h = s.home_follows l p in let e : has (lane_at m l).home p ≡ bit_at (get_or (lane_at m l).home w 0) (place_bit p) = ap (λ z. bit_at (get_or (lane_at m l).home z 0) (place_bit p)) word in omega arith;
  }

  summary_found : (m : Machine T) (a l : ℕ) (v : Actor T) → IsSound k m → v.seen ≡ (actor_at m a).seen → (IsAlone v → HasFilled k l (lane_at m l).summary v.stored) → FindsSummary k v l (lane_at m l).summary
  summary_found m a l v s same alone = record {
    seen = λ old c. All-contains (λ (z : ℕ × ℕ). IsWithin z.1 (lane_in m.lanes z.0).summary) (actor_at m a).seen (l, old) (s.seen_below a).seen (subst (λ xs. Contains xs (l, old)) same c);
    low = λ w lit. (s.summary_follows.due l w lit).0;
    alone = alone;
  }

  pub finds_summary : (m : Machine T) (a l : ℕ) → IsSound k m → a < length m.actors → l < length m.lanes → is_free (actor_at m a).stand ≡ true → FindsSummary k (actor_at m a) l (lane_at m l).summary
  finds_summary m a l s lt lt' free = summary_found m a l (actor_at m a) s refl (λ alone. alone_filled k m a l s lt lt' alone (λ w. free_counts_none (owing l w) (counts_owing k l w) (actor_at m a).stand free))

  -- who owes finds the summary as it was before
  pub finds_before : (m : Machine T) (a l o : ℕ) (x : T) (v : Actor T) → IsSound k m → actor_at m a ≡ stores x (Owing l o) v → FindsSummary k v l (lane_at m l).summary
  finds_before m a l o x v s is = summary_found m a l v s (sym (ap (λ (z : Actor T). z.seen) is)) (λ alone.
      let f : IsFreshDebt k m.lanes (v.stored ++ x ∷ []) (Owing l o) = subst (λ (z : Actor T). IsAlone z → IsFreshDebt k m.lanes z.stored z.stand) is (s.summary_follows.fresh a) alone in
      subst (HasFilled k l (lane_at m l).summary) (sym (snoc_same v.stored f.0 x f.1 f.2)) f.3)
