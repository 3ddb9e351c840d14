-- The levels before the first line.
use Rattle.std.proofs.Common.{◌≡◌, ℕ, suc, ◌+◌, ◌-◌, ◌*◌, ◌<◌, ◌≤◌, ◌++◌, ◌∷◌, [], List, length, length-append, get_or, ℤ, pos, Bool, nat_lt, if◌then◌else◌, arith, ap, sym, subst, ◌∙◌, inl, inr, refl}
use Rattle.std.proofs.lemmas.Bool.{cases_lt}
use Rattle.std.proofs.lemmas.Int.{ints}
use Rattle.std.proofs.lemmas.List.{get_or_append_left}
use Rattle.std.proofs.Math.Seq.{get_or-append_seam}
use Rattle.xs_signal.specs.Lines.{entries_of}
use Rattle.xs_signal.specs.Wavelet.{Split, Bands, low_count, low_count_at}
use Rattle.xs_signal.specs.Stripe.{IsSplit, rows_at, rows_each}
use Rattle.xs_joiner.specs.Units.{BelowUnits, rise}
use Rattle.xs_joiner.specs.Level.{IsLevel, HoldsRows}
use Rattle.xs_joiner.specs.Counts.{given_at}
use Rattle.xs_joiner.specs.Chain.{split_by, reach_at, IsLevelAt, EachLevel, AreChained, HoldPlane}
use Rattle.xs_joiner.specs.declared.level.Level.{Level}
use Rattle.xs_joiner.specs.declared.level.LevelShape.{LevelShape}
use Rattle.xs_joiner.specs.declared.joiner.JoinShape.{JoinShape}
use Rattle.xs_joiner.proofs.Counts.{rows_deep, none_given}
use Rattle.xs_joiner.proofs.Chains.{next_cases, reach_cases}

-- so many levels are there, and `next` is the shape of the one after them
pub record IsBuilt (shape : JoinShape) (level : ℕ) (next : LevelShape) (levels : List Level) (lines : List (List ℤ)) : Type 0 where
  pub to : level ≤ shape.across
  pub many : length levels ≡ level
  pub line_count : length lines ≡ level
  pub width : next.width ≡ low_count_at shape.width level
  pub height : next.height ≡ rows_at (split_by shape) level
  pub reach : next.reach ≡ reach_at (split_by shape) level
  pub deep : next.deep ≡ nat_lt level shape.down
  pub each : EachLevel 0 level levels (λ i l. IsLevelAt (split_by shape) i 0 0 l)
  pub widths : (i : ℕ) → i < level → length (get_or lines i []) ≡ low_count_at shape.width i
  pub small : 0 < level → BelowUnits 64 (entries_of (get_or lines 0 []))

pub zeros_small : (u : ℕ) (row : List ℤ) → 0 < u → ((k : ℕ) → entries_of row k ≡ pos 0) → BelowUnits u (entries_of row)
zeros_small u row some none k = let e = none k in record { least = omega (arith, ints, e, some); most = omega (arith, ints, e, some) }

pub built_first : (shape : JoinShape) (next : LevelShape) → next.width ≡ shape.width → next.height ≡ shape.height → next.reach ≡ 4 + 6 * shape.across + 15 * shape.down → next.deep ≡ nat_lt 0 shape.down → IsBuilt shape 0 next [] []
built_first shape next width height reach deep = record {
  to = omega arith;
  many = refl;
  line_count = refl;
  width = width;
  height = height ∙ sym (rows_deep (split_by shape) 0 (omega arith));
  reach = omega (arith, reach);
  deep = deep;
  each = λ i other from to. absurd (omega (arith, to));
  widths = λ i less. absurd (omega (arith, less));
  small = λ some. absurd (omega (arith, some));
}

each_more : (levels : List Level) (new : Level) (P : ℕ → Level → Type 0) (end : ℕ) → length levels ≡ end → EachLevel 0 end levels P → P end new → EachLevel 0 (end + 1) (levels ++ new ∷ []) P
each_more levels new P end many old here i other from to =
    elim (cases_lt i end) [
      | inl before ↦ subst (P i) (sym (get_or_append_left levels (new ∷ []) other i (omega (arith, before, many)))) (old i other from before)
      | inr past ↦
          let last : i ≡ length levels = omega (arith, past, to, many) in
          let seen : get_or (levels ++ new ∷ []) i other ≡ new = ap (λ k. get_or (levels ++ new ∷ []) k other) last ∙ get_or-append_seam levels new [] other in
          subst (P i) (sym seen) (subst (λ k. P k new) (sym (last ∙ many)) here)
    ]

pub widths_more : (width end : ℕ) (lines : List (List ℤ)) (line : List ℤ) → length lines ≡ end → length line ≡ low_count_at width end → ((i : ℕ) → i < end → length (get_or lines i []) ≡ low_count_at width i) → (i : ℕ) → i < end + 1 → length (get_or (lines ++ line ∷ []) i []) ≡ low_count_at width i
widths_more width end lines line many wide old i to =
    elim (cases_lt i end) [
      | inl before ↦ ap length (get_or_append_left lines (line ∷ []) [] i (omega (arith, before, many))) ∙ old i before
      | inr past ↦
          let last : i ≡ length lines = omega (arith, past, to, many) in
          let seen : get_or (lines ++ line ∷ []) i [] ≡ line = ap (λ k. get_or (lines ++ line ∷ []) k []) last ∙ get_or-append_seam lines line [] [] in
          ap length seen ∙ wide ∙ ap (low_count_at width) (sym (last ∙ many))
    ]

pub small_more : (end : ℕ) (lines : List (List ℤ)) (line : List ℤ) → length lines ≡ end → BelowUnits 64 (entries_of line) → (0 < end → BelowUnits 64 (entries_of (get_or lines 0 []))) → BelowUnits 64 (entries_of (get_or (lines ++ line ∷ []) 0 []))
small_more end lines line many new old =
    elim (cases_lt 0 end) [
      | inl some ↦ subst (λ xs. BelowUnits 64 (entries_of xs)) (sym (get_or_append_left lines (line ∷ []) [] 0 (omega (arith, some, many)))) (old some)
      | inr none ↦
          let last : 0 ≡ length lines = omega (arith, none, many) in
          let seen : get_or (lines ++ line ∷ []) 0 [] ≡ line = ap (λ k. get_or (lines ++ line ∷ []) k []) last ∙ get_or-append_seam lines line [] [] in
          subst (λ xs. BelowUnits 64 (entries_of xs)) (sym seen) new
    ]

-- what is said of a new level
pub record IsNew (shape : LevelShape) (l : Level) : Type 0 where
  pub state : IsLevel l
  pub width : l.columns.width ≡ shape.width
  pub height : l.columns.height ≡ shape.height
  pub reach : l.columns.reach ≡ shape.reach - rise shape.deep
  pub deep : l.deep ≡ shape.deep
  pub taken : l.columns.taken ≡ 0
  pub given : l.given ≡ 0

lower : (s : Split) (level : ℕ) (deep : Bool) (r : ℕ) → nat_lt level s.down ≡ deep → level < s.across → r ≡ reach_at s level → r - rise deep ≡ reach_at s (suc level)
lower s level deep r is less reach = let sum = reach_cases s level deep is less in omega (arith, sum, reach)

pub built_more : (shape : JoinShape) (level : ℕ) (next after : LevelShape) (levels more : List Level) (lines added : List (List ℤ)) (l : Level) (line : List ℤ) → IsBuilt shape level next levels lines → level < shape.across → IsNew next l → more ≡ levels ++ l ∷ [] → added ≡ lines ++ line ∷ []
    → length line ≡ next.width → ((k : ℕ) → entries_of line k ≡ pos 0)
    → after.width ≡ low_count next.width → after.height ≡ (if next.deep then low_count next.height else next.height) → after.reach ≡ next.reach - rise next.deep → after.deep ≡ nat_lt (level + 1) shape.down
    → IsBuilt shape (level + 1) after more added
built_more shape level next after levels more lines added l line b less new adds_level adds_line wide zeros width height reach deep =
    let s = split_by shape in
    let one : suc level ≡ level + 1 = omega arith in
    let low : next.reach - rise next.deep ≡ reach_at s (suc level) = ap (λ d. next.reach - rise d) b.deep ∙ lower s level (nat_lt level shape.down) next.reach refl less b.reach in
    let at : IsLevelAt s level 0 0 l = record { state = new.state; width = new.width ∙ b.width; height = new.height ∙ b.height; reach = new.reach ∙ low; deep = new.deep ∙ b.deep; given = new.given; taken = new.taken } in
    record {
      to = omega (arith, less);
      many = ap length adds_level ∙ length-append levels (l ∷ []) ∙ ap (λ k. k + 1) b.many;
      line_count = ap length adds_line ∙ length-append lines (line ∷ []) ∙ ap (λ k. k + 1) b.line_count;
      width = width ∙ ap low_count b.width ∙ ap (low_count_at shape.width) one;
      height = height ∙ ap (λ d. if d then low_count next.height else next.height) b.deep ∙ next_cases s level next.height (nat_lt level shape.down) refl b.height ∙ ap (rows_at s) one;
      reach = reach ∙ low ∙ ap (reach_at s) one;
      deep = deep;
      each = subst (λ xs. EachLevel 0 (level + 1) xs (λ i x. IsLevelAt s i 0 0 x)) (sym adds_level) (each_more levels l (λ i x. IsLevelAt s i 0 0 x) level b.many b.each at);
      widths = subst (λ xs. (i : ℕ) → i < level + 1 → length (get_or xs i []) ≡ low_count_at shape.width i) (sym adds_line) (widths_more shape.width level lines line b.line_count (wide ∙ b.width) b.widths);
      small = λ some. subst (λ xs. BelowUnits 64 (entries_of (get_or xs 0 []))) (sym adds_line) (small_more level lines line b.line_count (zeros_small 64 line (omega arith) zeros) b.small);
    }

pub built_chain : (shape : JoinShape) (level : ℕ) (next : LevelShape) (levels : List Level) (lines added : List (List ℤ)) (line : List ℤ) → IsBuilt shape level next levels lines → level ≡ shape.across → IsSplit (split_by shape) → 0 < shape.width → (shape.across ≤ 5) × (shape.down ≤ 2)
    → added ≡ lines ++ line ∷ [] → length line ≡ next.width → ((k : ℕ) → entries_of line k ≡ pos 0) → AreChained (split_by shape) 0 0 0 levels added
built_chain shape level next levels lines added line b all split some few adds wide zeros =
    let s = split_by shape in
    record {
      split = split;
      some = some;
      few = few.0;
      two = few.1;
      from = let none : rows_each s 0 * 0 ≡ 0 = omega arith in omega (arith, none);
      to = omega arith;
      many = b.many ∙ all;
      each = λ i other from to.
          subst (λ k. IsLevelAt s i k (given_at s 0 0 (suc i)) (get_or levels i other)) (sym (none_given s i))
          (subst (λ k. IsLevelAt s i 0 k (get_or levels i other)) (sym (none_given s (suc i))) (b.each i other from (subst (λ k. i < k) (sym all) to)));
      lowest_is = sym (none_given s shape.across);
      line_count = ap length adds ∙ length-append lines (line ∷ []) ∙ ap (λ k. k + 1) (b.line_count ∙ all);
      widths = λ i to. subst (λ xs. length (get_or xs i []) ≡ low_count_at shape.width i) (sym adds) (widths_more shape.width level lines line b.line_count (wide ∙ b.width) b.widths i (omega (arith, to, all)));
      small = subst (λ xs. BelowUnits 64 (entries_of (get_or xs 0 []))) (sym adds) (small_more level lines line b.line_count (zeros_small 64 line (omega arith) zeros) b.small);
    }

empty_holds : (start : ℕ) (t r : ℕ → ℕ → ℤ) (l : Level) → l.columns.taken ≡ 0 → HoldsRows start t r l
empty_holds start t r l none = record {
  last = λ deep. record { even = λ some. absurd (omega (arith, some, none)); odd = λ some. absurd (omega (arith, some, none)); high = λ some most. absurd (omega (arith, some, none)) };
  flat = λ flat some. absurd (omega (arith, some, none));
}

pub built_plane : (shape : JoinShape) (level : ℕ) (next : LevelShape) (levels : List Level) (lines added : List (List ℤ)) (b : Bands) → IsBuilt shape level next levels lines → level ≡ shape.across → HoldPlane (split_by shape) 0 0 b levels added
built_plane shape level next levels lines added bands b all = record {
  each = λ i other from to. empty_holds _ _ _ (get_or levels i other) (b.each i other from (subst (λ k. i < k) (sym all) to)).taken;
  line = λ begun. absurd (omega (arith, begun));
}
