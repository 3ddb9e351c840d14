-- Who has the whole share is answered to a claim as the machine answers.
use Rattle.std.proofs.Common.{◌≡◌, ℕ, ◌<◌, min, Bool, true, if◌then◌else◌, eq-eqb, List, length, length-set, get_or-set_same, sym, ap, ◌∙◌, subst, arith}
use Rattle.std.specs.List.{Contains}
use Rattle.xs_lane_core.specs.Places.{every_word}
use Rattle.xs_lane_core.specs.declared.values.Stand.TheVariants.{Idle, Saw}
use Rattle.xs_lane_core.specs.Machine.{Placing, Actor, Machine, lane_at, actor_at, nobody, acted, sees}
use Rattle.xs_lane_core.specs.Steps.{Answer, is_free, looks, claims}
use Rattle.xs_lane_core.specs.Sound.{claim_flag, IsAlone}
use Rattle.xs_lane_core.specs.Claim.{ClaimGives}
use Rattle.xs_lane_core.proofs.Gives.{gives_more}
use Rattle.xs_lanes.specs.declared.claim.Claim.{Claim}
use Rattle.xs_lanes.specs.declared.claim.Claim.TheVariants as claim
use Rattle.xs_lanes.specs.Knowing.{FindsSummary}
use Rattle.xs_lanes.specs.Claiming.{got_in, IsClaimOf, gets_all}
use Rattle.xs_lanes.specs.Claimed.{ClaimAnswers, ClaimExactly}
use Rattle.xs_lanes.specs.Exact.{HasActor}
use Rattle.xs_lane_core.proofs.Alone.{alone_is_stored}
use Rattle.xs_lanes.proofs.Events.{looks_is, claims_open_is, claims_gone_is}
use Rattle.xs_lanes.proofs.Claims.{flag_off, flag_on, finds_claim}
use Rattle.xs_lanes.proofs.Exactly.{summary_same, look_exactly}

module _ {T : Type 0} (k : Placing T) where
  -- the machine after a look at a lane that is whole
  looked_whole : (n : ℕ) (v : Actor T) (l : ℕ) → is_free v.stand ≡ true → l < n → FindsSummary k v l every_word → IsAlone v → (m : Machine T) (a : ℕ) → HasActor k n v m a
      → (looks m a l).0 ≡ acted m a (sees (Saw l) l (lane_at m l).summary (actor_at m a))
  looked_whole n v l free lt f alone m a h = let wide = h.wide in ap (λ (r : Machine T × Answer T). r.0) (looks_is m a l h.inside (omega arith) (ap (λ (z : Actor T). is_free z.stand) h.is ∙ free))
      ∙ ap (λ (b : Bool). acted m a (sees (if b then Saw l else Idle) l (lane_at m l).summary (actor_at m a))) (eq-eqb (lane_at m l).summary every_word (summary_same k n v l every_word free lt f alone m a h))

  flag_is : (n : ℕ) (v : Actor T) (l : ℕ) → is_free v.stand ≡ true → IsAlone v → (m : Machine T) (a : ℕ) → HasActor k n v m a → claim_flag (lane_at m l).claimed ≡ min 1 (got_in k l v)
  flag_is n v l free alone m a h = (finds_claim k m a l h.sound h.inside (ap (λ (z : Actor T). is_free z.stand) h.is ∙ free)).alone (subst IsAlone (sym h.is) alone) ∙ ap (λ (z : Actor T). min 1 (got_in k l z)) h.is

  -- the values that were got are stored in each such machine
  gives_here : (n : ℕ) (v : Actor T) (l : ℕ) (xs : List T) (w : Actor T) → w ≡ gets_all xs Idle (sees Idle l every_word v) → IsClaimOf k l xs w → IsAlone v → (m : Machine T) (a : ℕ) → HasActor k n v m a → ClaimGives k m l xs
  gives_here n v l xs w is c alone m a h = let m' : Machine T = c.0 in let b : ℕ = c.1 in let all : actor_at m' b ≡ gets_all xs Idle (sees Idle l every_word v) = c.3 ∙ is in
      let alone' : IsAlone (actor_at m' b) = subst IsAlone (sym all) alone in
      gives_more k m' m (λ x s. let mine = alone_is_stored m' b (c.2).whole_share c.4 alone' x s in (a, subst (λ ys. Contains ys x) (ap (λ (z : Actor T). z.stored) (all) ∙ sym (ap (λ (z : Actor T). z.stored) h.is)) mine)) xs l 0 c.5

  pub claim_exactly : (n : ℕ) (v : Actor T) (l : ℕ) (result : Claim) (xs : List T) (w : Actor T) → is_free v.stand ≡ true → l < n → ClaimAnswers k v l result xs w → ClaimExactly k n v l result xs
  claim_exactly n v l (claim.NotWhole found) xs w free lt s alone m a h = look_exactly k n v l found free lt s.1.found alone m a h
  claim_exactly n v l claim.Gone xs w free lt s alone m a h = let q : Actor T = sees (Saw l) l (lane_at m l).summary (actor_at m a) in let n' : Machine T = acted m a q in let wide = h.wide in
      let long : length n'.actors ≡ length m.actors = length-set m.actors a q in let there = h.inside in let is : actor_at n' a ≡ q = get_or-set_same m.actors a q nobody there in
      let f = flag_is n v l free alone m a h in let g = s.1.alone alone in
      ap (λ (z : Machine T). (claims z a).1) (looked_whole n v l free lt s.1.found alone m a h)
      ∙ ap (λ (r : Machine T × Answer T). r.1) (claims_gone_is k n' a l (omega arith) (omega arith) (ap (λ (z : Actor T). z.stand) is) (flag_on (lane_at m l).claimed (λ e. omega arith)))
  claim_exactly n v l claim.Got xs w free lt s alone m a h = let q : Actor T = sees (Saw l) l (lane_at m l).summary (actor_at m a) in let n' : Machine T = acted m a q in let wide = h.wide in
      let long : length n'.actors ≡ length m.actors = length-set m.actors a q in let there = h.inside in let is : actor_at n' a ≡ q = get_or-set_same m.actors a q nobody there in
      let f = flag_is n v l free alone m a h in let g = s.fresh in (
        ap (λ (z : Machine T). (claims z a).1) (looked_whole n v l free lt s.found alone m a h)
            ∙ ap (λ (r : Machine T × Answer T). r.1) (claims_open_is k n' a l (omega arith) (omega arith) (ap (λ (z : Actor T). z.stand) is) (flag_off (lane_at m l).claimed (omega arith))),
        gives_here n v l xs w s.view s.stored alone m a h,
      )
