-- One content for one list of bits.
use Rattle.std.proofs.Common.{◌≡◌, ℕ, zero, suc, ◌-◌, ◌/◌, ◌<◌, List, [], ◌++◌, refl, sym, ap, subst, ◌∙◌, arith}
use Rattle.std.specs.Prelude.{Bool, true, false, if◌then◌else◌, nat_eq, ◌&&◌}
use Rattle.std.proofs.lemmas.Bool.{true≢false, false≢true}
use Rattle.std.specs.Bool.{MatchBool}
use Rattle.xs_lists.specs.Spelling.{upto, SpellsEach}
use Rattle.xs_lists.proofs.Each.{each-agree, each-more, each-same, range-more, range-all, all-range}
use Rattle.std.proofs.Math.ListN.{get_or-append}
use Rattle.std.proofs.Common.{get_or, length, ◌∷◌, ◌≤◌, ◌+◌}
use Rattle.xs_lists.proofs.Cut.{same_head}
use Rattle.xs_spelling.specs.Counts.{Line, Moves, unary, has_flags, SpellsResidual, SpellsCount, SpellsCounts, is_insignificant, unspelled_count}
use Rattle.xs_spelling.specs.Laws.{OneResidual, SameBefore, SameCounts, OneCounts}

unary_one : (n k : ℕ) (y z : List ℕ) → unary n ++ y ≡ unary k ++ z → (n ≡ k) × (y ≡ z)
unary_one zero zero y z e = (refl, (same_head 0 0 y z e).1)
unary_one zero (suc k) y z e = let c : 0 ≡ 1 = (same_head 0 1 y (unary k ++ z) e).0 in absurd (omega (arith, c))
unary_one (suc n) zero y z e = let c : 1 ≡ 0 = (same_head 1 0 (unary n ++ y) z e).0 in absurd (omega (arith, c))
unary_one (suc n) (suc k) y z e =
    let rest = unary_one n k y z (same_head 1 1 (unary n ++ y) (unary k ++ z) e).1 in
    (ap suc rest.0, rest.1)

same_move : (n t m count other : ℕ) → Moves n t m count → Moves n t m other → count ≡ other
same_move n t m count other p q = grind (arith, p.far, p.down, p.up, q.far, q.down, q.up)

pub one_residual : OneResidual
one_residual m truncation count other a b y z p q e =
    let ones = unary_one p.0 q.0 y z (ap (λ l. l ++ y) (sym p.1) ∙ e ∙ ap (λ l. l ++ z) q.1) in
    (ones.1, same_move q.0 (m - truncation) m count other (subst (λ n. Moves n (m - truncation) m count) ones.0 p.2) q.2)

-- the same for two predictions and truncations that are equal
residual_agrees : (m k t u count other : ℕ) (a b y z : List ℕ) → m ≡ k → t ≡ u → SpellsResidual m t count a → SpellsResidual k u other b → a ++ y ≡ b ++ z → (y ≡ z) × (count ≡ other)
residual_agrees m k t u count other a b y z same cut p q e =
    one_residual k u count other a b y z (subst (λ x. SpellsResidual x u count a) same (subst (λ x. SpellsResidual m x count a) cut p)) q e

count_agrees : (run_mode : ℕ) (line other : Line) (flag flags : ℕ → ℕ) (group : ℕ) → is_insignificant line flag group ≡ is_insignificant other flags group
    → line.prediction group ≡ other.prediction group → line.truncation ≡ other.truncation
    → (a b y z : List ℕ) → SpellsCount run_mode line flag group a → SpellsCount run_mode other flags group b → a ++ y ≡ b ++ z → (y ≡ z) × (line.count group ≡ other.count group)
count_agrees run_mode line other flag flags group skip same cut a b y z p q e = go (is_insignificant line flag group) (is_insignificant other flags group) skip p.1 q.1
  where
    unspelled : unspelled_count run_mode line group ≡ unspelled_count run_mode other group
    unspelled = ap (λ m. if nat_eq run_mode 0 then m else line.truncation) same ∙ ap (λ t. if nat_eq run_mode 0 then other.prediction group else t) cut

    go : (s r : Bool) → s ≡ r
        → MatchBool s ((a ≡ []) × (line.count group ≡ unspelled_count run_mode line group)) (SpellsResidual (line.prediction group) line.truncation (line.count group) a)
        → MatchBool r ((b ≡ []) × (other.count group ≡ unspelled_count run_mode other group)) (SpellsResidual (other.prediction group) other.truncation (other.count group) b)
        → (y ≡ z) × (line.count group ≡ other.count group)
    go true true s p q = (ap (λ l. l ++ y) (sym p.0) ∙ e ∙ ap (λ l. l ++ z) q.0, p.1 ∙ unspelled ∙ sym q.1)
    go false false s p q = residual_agrees (line.prediction group) (other.prediction group) line.truncation other.truncation (line.count group) (other.count group) a b y z same cut p q e
    go true false s p q = absurd (true≢false s)
    go false true s p q = absurd (false≢true s)

-- the same for the line, where the flags say the same
pub counts_agree : (run_mode : ℕ) (line other : Line) (flag flags : ℕ → ℕ) (a b y z : List ℕ) → SameBefore line other
    → ((group : ℕ) → group < line.groups → is_insignificant line flag group ≡ is_insignificant other flags group)
    → SpellsCounts run_mode line flag a → SpellsCounts run_mode other flags b → a ++ y ≡ b ++ z → (y ≡ z) × SameCounts line other
counts_agree run_mode line other flag flags a b y z same skip p q e =
    let moved : SpellsEach (SpellsCount run_mode other flags) (upto line.groups) b = subst (λ n. SpellsEach (SpellsCount run_mode other flags) (upto n) b) (sym same.groups) q in
    let each = each-agree (SpellsCount run_mode line flag) (SpellsCount run_mode other flags) (λ group. line.count group ≡ other.count group) (upto line.groups)
    (range-all _ 0 line.groups (λ group low high. count_agrees run_mode line other flag flags group (skip group (omega (arith, high))) (same.prediction group (omega (arith, high))) same.truncation)) a b y z p moved e in
    (each.0, λ group inside. all-range (λ group. line.count group ≡ other.count group) 0 line.groups each.1 group (omega arith) (omega (arith, inside)))

pub one_counts : OneCounts
one_counts run_mode line other flag a b y z same p q e =
    counts_agree run_mode line other flag flag a b y z same (λ group inside. ap (λ mode. has_flags mode && nat_eq (flag (group / 8)) 1) same.mode) p q e

-- A reader's turn: one more count behind those that were read

abbrev pub line_of_counts : Line → List ℕ → Line
line_of_counts line counts = record line { count = λ group. get_or counts group 0 }

pub counts_more : (run_mode : ℕ) (line : Line) (flag : ℕ → ℕ) (counts : List ℕ) (count : ℕ) (a b : List ℕ)
    → SpellsEach (SpellsCount run_mode (line_of_counts line counts) flag) (upto (length counts)) a
    → SpellsCount run_mode (line_of_counts line (counts ++ count ∷ [])) flag (length counts) b
    → SpellsEach (SpellsCount run_mode (line_of_counts line (counts ++ count ∷ [])) flag) (upto (length counts + 1)) (a ++ b)
counts_more run_mode line flag counts count a b p q =
    subst (λ groups. SpellsEach (SpellsCount run_mode (line_of_counts line (counts ++ count ∷ [])) flag) groups (a ++ b)) (sym (range-more 0 (length counts) ∙ ap (λ k. upto (length counts) ++ k ∷ []) here))
    (each-more (SpellsCount run_mode (line_of_counts line (counts ++ count ∷ [])) flag) (upto (length counts)) (length counts) a b
    (each-same (SpellsCount run_mode (line_of_counts line counts) flag) (SpellsCount run_mode (line_of_counts line (counts ++ count ∷ [])) flag) (upto (length counts)) a
    (range-all _ 0 (length counts) (λ group low high l p. subst (Spelled group l) (sym (get_or-append counts (count ∷ []) 0 group (omega (arith, high)))) p)) p) q)
  where
    here : 0 + length counts ≡ length counts
    here = omega arith

    Spelled : ℕ → List ℕ → ℕ → Type 0
    Spelled group bits n = (n ≤ 15) × MatchBool (is_insignificant line flag group) ((bits ≡ []) × (n ≡ unspelled_count run_mode line group)) (SpellsResidual (line.prediction group) line.truncation n bits)
