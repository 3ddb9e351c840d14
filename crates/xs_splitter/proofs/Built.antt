-- The levels before the first row.
use Rattle.std.proofs.Common.{◌≡◌, ℕ, suc, ◌+◌, ◌<◌, ◌≤◌, ◌++◌, ◌∷◌, [], List, length, length-append, get_or, ℤ, Bool, true, false, nat_lt, if◌then◌else◌, arith, ap, sym, subst, ◌∙◌, inl, inr, refl}
use Rattle.std.proofs.lemmas.Bool.{cases_lt, ltb-true, ltb-false}
use Rattle.std.proofs.lemmas.List.{get_or_append_left}
use Rattle.std.proofs.Math.Seq.{get_or-append_seam}
use Rattle.xs_signal.specs.Wavelet.{Split, low_count, low_count_at, low_part}
use Rattle.xs_signal.specs.Stripe.{IsSplit, rows_at}
use Rattle.xs_splitter.specs.Level.{IsLevel, HoldsRows}
use Rattle.xs_splitter.specs.Chain.{split_by, rows_beside, bits_at, IsLevelAt, EachLevel, AreChained, HoldPlane}
use Rattle.xs_splitter.specs.declared.level.Level.{Level}
use Rattle.xs_splitter.specs.declared.level.LevelShape.{LevelShape}
use Rattle.xs_splitter.specs.declared.splitter.SplitShape.{SplitShape}
use Rattle.xs_splitter.proofs.Chains.{none_taken, rows_deep, rows_kept, bits_cases}

-- so many levels are there, and `next` is the shape of the one after them
pub record IsBuilt (shape : SplitShape) (level : ℕ) (next : LevelShape) (levels : List Level) : Type 0 where
  pub many : length levels ≡ level
  pub width : next.width ≡ low_count_at shape.width level
  pub height : next.height ≡ rows_at (split_by shape) level
  pub bits : next.bits ≡ bits_at (split_by shape) level
  pub deep : next.deep ≡ nat_lt level shape.down
  pub each : EachLevel 0 level levels (λ i l. IsLevelAt (split_by shape) i 0 l)
  pub holds : EachLevel 0 level levels (λ i l. (p : ℕ → ℕ → ℤ) (start : ℕ) → HoldsRows start p l)

pub each_more : (levels : List Level) (new : Level) (P : ℕ → Level → Type 0) (end : ℕ) → length levels ≡ end → EachLevel 0 end levels P → P end new → EachLevel 0 (end + 1) (levels ++ new ∷ []) P
each_more levels new P end many old here i other from to =
    elim (cases_lt i end) [
      | inl before ↦ subst (P i) (sym (get_or_append_left levels (new ∷ []) other i (omega (arith, before, many)))) (old i other from before)
      | inr past ↦
          let last : i ≡ length levels = omega (arith, past, to, many) in
          let seen : get_or (levels ++ new ∷ []) i other ≡ new = ap (λ k. get_or (levels ++ new ∷ []) k other) last ∙ get_or-append_seam levels new [] other in
          subst (P i) (sym seen) (subst (λ k. P k new) (sym (last ∙ many)) here)
    ]

height_cases : (s : Split) (level height : ℕ) (deep : Bool) → nat_lt level s.down ≡ deep → height ≡ rows_at s level → (if deep then low_count height else height) ≡ rows_at s (suc level)
height_cases s level height true is tall =
    let less : level < s.down = ltb-true level s.down is in
    ap low_count (tall ∙ rows_deep s level (omega (arith, less))) ∙ sym (rows_deep s (suc level) (omega (arith, less)))
height_cases s level height false is tall = tall ∙ sym (rows_kept s level (ltb-false level s.down is))

-- what is said of a new level
pub record IsNew (shape : LevelShape) (l : Level) : Type 0 where
  pub state : IsLevel l
  pub width : l.columns.width ≡ shape.width
  pub height : l.columns.height ≡ shape.height
  pub bits : l.columns.bits ≡ shape.bits
  pub deep : l.deep ≡ shape.deep
  pub taken : l.columns.taken ≡ 0
  pub holds : (p : ℕ → ℕ → ℤ) (start : ℕ) → HoldsRows start p l

pub built_more : (shape : SplitShape) (level : ℕ) (next after : LevelShape) (levels more : List Level) (l : Level) → IsBuilt shape level next levels → IsNew next l → more ≡ levels ++ l ∷ []
    → after.width ≡ low_count next.width → after.height ≡ (if next.deep then low_count next.height else next.height) → after.bits ≡ next.bits + (if next.deep then 2 else 1) → after.deep ≡ nat_lt (level + 1) shape.down
    → IsBuilt shape (level + 1) after more
built_more shape level next after levels more l b new added width height bits deep =
    let s = split_by shape in
    let one : suc level ≡ level + 1 = omega arith in
    let at : IsLevelAt s level 0 l = record { state = new.state; width = new.width ∙ b.width; height = new.height ∙ b.height; bits = new.bits ∙ b.bits; deep = new.deep ∙ b.deep; taken = new.taken } in
    record {
      many = ap length added ∙ length-append levels (l ∷ []) ∙ ap (λ k. k + 1) b.many;
      width = width ∙ ap low_count b.width ∙ ap (low_count_at shape.width) one;
      height = height ∙ ap (λ d. if d then low_count next.height else next.height) b.deep ∙ height_cases s level next.height (nat_lt level shape.down) refl b.height ∙ ap (rows_at s) one;
      bits = bits ∙ ap (λ k. k + (if next.deep then 2 else 1)) b.bits ∙ ap (λ d. bits_at s level + (if d then 2 else 1)) b.deep ∙ bits_cases s level (nat_lt level shape.down) refl ∙ ap (bits_at s) one;
      deep = deep;
      each = subst (λ xs. EachLevel 0 (level + 1) xs (λ i x. IsLevelAt s i 0 x)) (sym added) (each_more levels l (λ i x. IsLevelAt s i 0 x) level b.many b.each at);
      holds = subst (λ xs. EachLevel 0 (level + 1) xs (λ i x. (p : ℕ → ℕ → ℤ) (start : ℕ) → HoldsRows start p x)) (sym added) (each_more levels l (λ i x. (p : ℕ → ℕ → ℤ) (start : ℕ) → HoldsRows start p x) level b.many b.holds new.holds);
    }

pub built_chain : (shape : SplitShape) (level : ℕ) (next : LevelShape) (levels : List Level) → IsBuilt shape level next levels → level ≡ shape.across → IsSplit (split_by shape) → (shape.across ≤ 5) × (shape.down ≤ 2) → AreChained (split_by shape) 0 0 levels []
built_chain shape level next levels b all split few =
    let s = split_by shape in
    record {
      split = split;
      few = few;
      many = b.many ∙ all;
      each = λ i other from to. subst (λ k. IsLevelAt s i k (get_or levels i other)) (sym (none_taken s 0 i)) (b.each i other from (subst (λ k. i < k) (sym all) to));
      given = sym (none_taken s 0 shape.across);
    }

pub built_plane : (shape : SplitShape) (start level : ℕ) (next : LevelShape) (levels : List Level) (p : ℕ → ℕ → ℤ) → IsBuilt shape level next levels → level ≡ shape.across → HoldPlane (split_by shape) 0 start p levels []
built_plane shape start level next levels p b all = record {
  each = λ i other from to. b.holds i other from (subst (λ k. i < k) (sym all) to) (low_part (split_by shape) p i) (rows_beside (split_by shape) i start);
  lowest = record { wide = λ row above inside. absurd (omega (arith, inside)); shown = λ row above inside. absurd (omega (arith, inside)) };
}
