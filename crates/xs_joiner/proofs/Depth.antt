-- How many levels take a row when the next line is made.
use Rattle.std.proofs.Common.{◌≡◌, ℕ, suc, ◌+◌, ◌*◌, ◌<◌, ◌≤◌, ◌⊎◌, get_or, Bool, true, false, nat_lt, arith, ap, sym, subst, ◌∙◌, inl, inr, refl}
use Rattle.std.proofs.lemmas.Bool.{cases_lt, ltb-true, ltb-false}
use Rattle.xs_signal.specs.Wavelet.{low_count}
use Rattle.xs_signal.specs.Stripe.{rows_at, rows_each}
use Rattle.xs_joiner.specs.Level.{NeedsRow}
use Rattle.xs_joiner.specs.Counts.{taken_by, given_at}
use Rattle.xs_joiner.specs.Chain.{split_of, IsLevelAt, IsChain}
use Rattle.xs_joiner.specs.Midway.{IsMovingDepth}
use Rattle.xs_joiner.specs.declared.level.Level.{Level}
use Rattle.xs_joiner.specs.declared.joiner.Joiner.{Joiner}
use Rattle.xs_joiner.proofs.Counts.{each_halved, given_deep, given_flat, needed_more, needed_none, given_most, given_from, rests_past}

-- the levels before this one take a row
pub record AreMoving (c : Joiner) (depth : ℕ) : Type 0 where
  pub far : depth ≤ c.across
  pub moves : (level : ℕ) → level ≤ depth → given_at (split_of c) c.first (c.given + 1) level ≡ given_at (split_of c) c.first c.given level + 1

pub moving_first : (c : Joiner) → AreMoving c 0
moving_first c = record {
  far = omega arith;
  moves = λ level to. let none : 0 ≡ level = omega (arith, to) in subst (λ k. given_at (split_of c) c.first (c.given + 1) k ≡ given_at (split_of c) c.first c.given k + 1) none refl;
}

pub level_of : (c : Joiner) (depth : ℕ) (l : Level) → IsChain c → depth < c.across → l ≡ get_or c.levels.items depth l → IsLevelAt (split_of c) depth (given_at (split_of c) c.first c.given depth) (given_at (split_of c) c.first c.given (suc depth)) l
level_of c depth l chain less value = subst (λ x. IsLevelAt (split_of c) depth (given_at (split_of c) c.first c.given depth) (given_at (split_of c) c.first c.given (suc depth)) x) (sym value) (chain.each depth l (omega arith) less)

-- a level that gives a row has not given all
pub room_at : (c : Joiner) (depth : ℕ) → IsChain c → c.given < c.height → given_at (split_of c) c.first (c.given + 1) depth ≡ given_at (split_of c) c.first c.given depth + 1 → given_at (split_of c) c.first c.given depth < rows_at (split_of c) depth
room_at c depth chain room moves = let most = given_most (split_of c) c.first (c.given + 1) depth (omega (arith, room)) in omega (arith, most, moves)

pub start_at : (c : Joiner) (depth : ℕ) → IsChain c → depth < c.down → 2 * (rows_each (split_of c) (suc depth) * c.first) ≤ given_at (split_of c) c.first c.given depth
start_at c depth chain less =
    let from = given_from (split_of c) c.first c.given depth chain.from chain.to in
    omega (arith, from, each_halved (split_of c) depth c.first less)

step_cases : (c : Joiner) (depth : ℕ) (l : Level) (deep : Bool) → nat_lt depth c.down ≡ deep → IsChain c → c.given < c.height → depth < c.across → l ≡ get_or c.levels.items depth l → (l.deep ≡ true → NeedsRow l)
    → given_at (split_of c) c.first (c.given + 1) depth ≡ given_at (split_of c) c.first c.given depth + 1 → given_at (split_of c) c.first (c.given + 1) (suc depth) ≡ given_at (split_of c) c.first c.given (suc depth) + 1
step_cases c depth l true is chain room less value needs moves =
    let s = split_of c in
    let down : depth < c.down = ltb-true depth c.down is in
    let at = level_of c depth l chain less value in
    let need = needs (at.deep ∙ is) in
    let g = given_at s c.first c.given depth in
    let t = given_at s c.first c.given (suc depth) in
    let start = rows_each s (suc depth) * c.first in
    let here = given_deep s c.first c.given depth down in
    let more : t < low_count (rows_at s depth) = subst (λ k. k < low_count (rows_at s depth)) at.taken (subst (λ h. l.columns.taken < low_count h) at.height need.more) in
    let past : 2 * t < g + 2 = subst (λ k. 2 * k < g + 2) at.taken (subst (λ k. 2 * l.columns.taken < k + 2) at.given need.past) in
    given_deep s c.first (c.given + 1) depth down ∙ ap (taken_by start (rows_at s depth)) moves ∙ needed_more start (rows_at s depth) g t here (start_at c depth chain down) (room_at c depth chain room moves) more past
step_cases c depth l false is chain room less value needs moves =
    let s = split_of c in
    let flat = ltb-false depth c.down is in
    given_flat s c.first (c.given + 1) depth flat ∙ moves ∙ ap (λ k. k + 1) (sym (given_flat s c.first c.given depth flat))

pub moving_next : (c : Joiner) (depth : ℕ) (l : Level) → IsChain c → c.given < c.height → AreMoving c depth → depth < c.across → l ≡ get_or c.levels.items depth l → (l.deep ≡ true → NeedsRow l) → AreMoving c (depth + 1)
moving_next c depth l chain room m less value needs = record {
  far = omega (arith, less);
  moves = λ level to.
      elim (cases_lt depth level) [
        | inl more ↦
            let here : suc depth ≡ level = omega (arith, more, to) in
            subst (λ k. given_at (split_of c) c.first (c.given + 1) k ≡ given_at (split_of c) c.first c.given k + 1) here (step_cases c depth l (nat_lt depth c.down) refl chain room less value needs (m.moves depth (omega arith)))
        | inr before ↦ m.moves level (omega (arith, before))
      ];
}

-- the first level that needs none
pub depth_found : (c : Joiner) (depth : ℕ) (l : Level) → IsChain c → c.given < c.height → AreMoving c depth → depth < c.across → l ≡ get_or c.levels.items depth l → l.deep ≡ true → (low_count l.columns.height ≤ l.columns.taken ⊎ l.given + 2 ≤ 2 * l.columns.taken) → IsMovingDepth c depth
depth_found c depth l chain room m less value deep known =
    let s = split_of c in
    let at = level_of c depth l chain less value in
    let down : depth < c.down = ltb-true depth c.down (sym at.deep ∙ deep) in
    let g = given_at s c.first c.given depth in
    let t = given_at s c.first c.given (suc depth) in
    let start = rows_each s (suc depth) * c.first in
    let here = given_deep s c.first c.given depth down in
    let moves = m.moves depth (omega arith) in
    let seen : low_count (rows_at s depth) ≤ t ⊎ g + 2 ≤ 2 * t =
    subst (λ k. low_count (rows_at s depth) ≤ k ⊎ g + 2 ≤ 2 * k) at.taken
    (subst (λ k. low_count (rows_at s depth) ≤ l.columns.taken ⊎ k + 2 ≤ 2 * l.columns.taken) at.given (subst (λ h. low_count h ≤ l.columns.taken ⊎ l.given + 2 ≤ 2 * l.columns.taken) at.height known)) in
    let next : given_at s c.first (c.given + 1) (suc depth) ≡ t =
    given_deep s c.first (c.given + 1) depth down ∙ ap (taken_by start (rows_at s depth)) moves ∙ needed_none start (rows_at s depth) g t here (start_at c depth chain down) (room_at c depth chain room moves) seen in
    record { far = m.far; moves = m.moves; rests = λ level past to. rests_past s c.first (c.given + 1) c.given (suc depth) level (omega (arith, past)) next }

-- all levels do
pub depth_all : (c : Joiner) (depth : ℕ) → AreMoving c depth → c.across ≤ depth → IsMovingDepth c depth
depth_all c depth m all = record { far = m.far; moves = m.moves; rests = λ level past to. absurd (omega (arith, past, to, all)) }
