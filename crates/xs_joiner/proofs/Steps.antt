-- One level's part in a line, as the loop over the levels does it.
use Rattle.std.proofs.Common.{◌≡◌, ℕ, zero, suc, ◌<◌, ◌∷◌, [], List, length, get_or, ℤ, arith, ap, refl, sym, subst, ◌∙◌}
use Rattle.std.proofs.Math.ListN.{set}
use Rattle.std.proofs.lemmas.Grind.{get_or-set_at}
use Rattle.std.proofs.lemmas.List.{set-set}
use Rattle.xs_joiner.specs.Level.{IsKnownLine}
use Rattle.xs_joiner.specs.Chain.{split_of, IsChain, HaveNext}
use Rattle.xs_joiner.specs.Midway.{IsMidway}
use Rattle.xs_joiner.specs.declared.level.Level.{Level}
use Rattle.xs_joiner.specs.declared.source.Band.{Band}
use Rattle.xs_joiner.specs.declared.joiner.Joiner.{Joiner}
use Rattle.xs_joiner.proofs.Midways.{IsGiven, IsTakenBy, IsReady, midway_at, level_now, ready, next_known, midway_next}

row_at : (xs : List (List ℤ)) (i : ℕ) (d e : List ℤ) → i < length xs → get_or xs i d ≡ get_or xs i e
row_at [] i d e less = absurd (omega (arith, less))
row_at (x ∷ xs) zero d e less = refl
row_at (x ∷ xs) (suc i) d e less = row_at xs i d e (omega (arith, less))

seen_at : (rows : Band → ℕ → List ℤ) (level i : ℕ) (old now : Joiner) (row x : List ℤ) → level ≡ suc i → IsMidway rows level old now → row ≡ x → x ≡ get_or now.lines.items level x → row ≡ get_or now.lines.items (suc i) []
seen_at rows level i old now row x is m same value =
    let to = m.to in
    same ∙ value ∙ row_at now.lines.items level x [] (omega (arith, to, m.lines)) ∙ ap (λ k. get_or now.lines.items k []) is

pub step_ready : (rows : Band → ℕ → List ℤ) (level i : ℕ) (old now : Joiner) (l : Level) (row x : List ℤ) → level ≡ suc i → IsMidway rows level old now → l ≡ get_or now.levels.items i l → row ≡ x → x ≡ get_or now.lines.items level x → IsChain old → old.given < old.height → HaveNext old rows → IsReady rows i row l
step_ready rows level i old now l row x is m value same seen chain room there = ready rows i old now l row (midway_at rows level i old now is m) value (seen_at rows level i old now row x is m same seen) chain room there

-- the level as it is after it took the row
pub level_same : (levels : List Level) (i : ℕ) (n x : Level) → i < length levels → x ≡ get_or (set levels i n) i x → x ≡ n
level_same levels i n x inside value = value ∙ get_or-set_at levels i i n x refl inside

pub step_same : (rows : Band → ℕ → List ℤ) (level i : ℕ) (old now : Joiner) (n x : Level) → level ≡ suc i → IsMidway rows level old now → x ≡ get_or (set now.levels.items i n) i x → x ≡ n
step_same rows level i old now n x is m value =
    let to = m.to in
    level_same now.levels.items i n x (omega (arith, to, is, m.many)) value

pub step_known : (rows : Band → ℕ → List ℤ) (level i : ℕ) (old now : Joiner) (l n x : Level) (row : List ℤ) → level ≡ suc i → IsMidway rows level old now → l ≡ get_or now.levels.items i l → IsChain old → old.given < old.height → IsTakenBy row rows i l n → x ≡ get_or (set now.levels.items i n) i x → IsKnownLine x
step_known rows level i old now l n x row is m value chain room taken after =
    subst IsKnownLine (sym (step_same rows level i old now n x is m after)) (next_known rows i old now l n row (midway_at rows level i old now is m) value chain room taken)

pub step_width : (rows : Band → ℕ → List ℤ) (level i : ℕ) (old now : Joiner) (l n x : Level) (row line : List ℤ) → level ≡ suc i → IsMidway rows level old now → l ≡ get_or now.levels.items i l → IsTakenBy row rows i l n → x ≡ get_or (set now.levels.items i n) i x → line ≡ get_or now.lines.items i line
    → length line ≡ x.columns.width
step_width rows level i old now l n x row line is m value taken after seen =
    let to = m.to in
    let same = step_same rows level i old now n x is m after in
    let at = level_now rows i old now l (midway_at rows level i old now is m) value in
    ap length (seen ∙ row_at now.lines.items i line [] (omega (arith, to, is, m.lines))) ∙ m.widths i (omega (arith, to, is)) ∙ sym (ap (λ y. y.columns.width) same ∙ taken.same.columns.width ∙ at.width)

pub step_next : (rows : Band → ℕ → List ℤ) (level i : ℕ) (old now new : Joiner) (l n x u : Level) (row y line : List ℤ) → level ≡ suc i → IsMidway rows level old now → l ≡ get_or now.levels.items i l → row ≡ y → y ≡ get_or now.lines.items level y → IsChain old → old.given < old.height → HaveNext old rows
    → IsTakenBy row rows i l n → x ≡ get_or (set now.levels.items i n) i x → IsGiven x u line → split_of new ≡ split_of now → new.first ≡ now.first → new.given ≡ now.given → new.lowest ≡ now.lowest → new.levels.items ≡ set (set now.levels.items i n) i u → new.lines.items ≡ set now.lines.items i line → IsMidway rows i old new
step_next rows level i old now new l n x u row y line is m value same seen chain room there taken after given split first kept lowest levels lines =
    midway_next rows i old now new l n u row line (midway_at rows level i old now is m) value (seen_at rows level i old now row y is m same seen) chain (step_ready rows level i old now l row y is m value same seen chain room there) taken
    (subst (λ z. IsGiven z u line) (step_same rows level i old now n x is m after) given) split first kept lowest (levels ∙ set-set now.levels.items i n u) lines
