-- The row of a line is handed from level to level.
use Rattle.std.proofs.Common.{◌≡◌, ◌≢◌, ℕ, zero, suc, ◌+◌, ◌-◌, ◌*◌, ◌<◌, ◌≤◌, [], min, List, length, length-set, get_or, get_or-set_other, ℤ, true, if◌then◌else◌, arith, ap, sym, subst, ◌∙◌, refl}
use Rattle.std.proofs.Math.ListN.{set}
use Rattle.std.proofs.lemmas.Grind.{get_or-set_at}
use Rattle.xs_signal.specs.Lines.{entries_of, Shows}
use Rattle.xs_signal.specs.Wavelet.{Split, Bands, low_count, high_count, low_count_at, inverse_line, restored, inverse_plane}
use Rattle.xs_signal.specs.Stripe.{rows_at, rows_each}
use Rattle.xs_joiner.specs.Units.{BelowUnits, rise, IsFresh}
use Rattle.xs_joiner.specs.Source.{ShowBands}
use Rattle.xs_joiner.specs.Columns.{SameLine}
use Rattle.xs_joiner.specs.Level.{IsLevel, IsSameLevel, IsKnownLine, HoldsRows, AreNext, given_rows, lows}
use Rattle.xs_joiner.specs.Counts.{taken_by, given_at}
use Rattle.xs_joiner.specs.Chain.{split_of, reach_at, part_of, low_rows, high_rows, IsLevelAt, EachLevel, HaveWidths, AreChained, IsChain, HoldPlane, HoldsBands, HoldsLevel, IsTaken, HaveNext}
use Rattle.xs_joiner.specs.Midway.{IsMidway, IsMovingDepth}
use Rattle.xs_joiner.specs.declared.level.Level.{Level}
use Rattle.xs_joiner.specs.declared.source.Band.{Band}
use Rattle.xs_joiner.specs.declared.source.Band.TheVariants.{Lowest, Hl, Lh, Hh}
use Rattle.xs_joiner.specs.declared.joiner.Joiner.{Joiner}
use Rattle.xs_joiner.proofs.Bounds.{units_more}
use Rattle.xs_joiner.proofs.Counts.{rows_deep, given_deep, given_flat, known_after, known_still, given_from}
use Rattle.xs_joiner.proofs.Chains.{row_joined, given_part, lows_at, begun_at, reach_given, is_deep, is_flat, each_set, widths_set}
use Rattle.xs_joiner.proofs.Depth.{level_of, room_at, start_at}

-- what a level's giving of a row says
pub record IsGiven (l n : Level) (line : List ℤ) : Type 0 where
  pub columns : n.columns ≡ l.columns
  pub deep : n.deep ≡ l.deep
  pub given : n.given ≡ l.given + 1
  pub low : n.low ≡ l.low
  pub high : n.high ≡ l.high
  pub width : length line ≡ l.columns.width
  pub small : BelowUnits (l.columns.reach + rise l.deep) (entries_of line)
  pub shows : (start : ℕ) (t r : ℕ → ℕ → ℤ) → HoldsRows start t r l → (if l.deep then 2 * start else start) ≤ l.given → Shows line (given_rows l t r l.given)

-- what its taking of a row says
pub record IsTakenBy (row : List ℤ) (rows : Band → ℕ → List ℤ) (number : ℕ) (l n : Level) : Type 0 where
  pub same : IsSameLevel l n
  pub given : n.given ≡ l.given
  pub taken : n.columns.taken ≡ l.columns.taken + 1
  pub state : IsLevel n
  pub holds : (start : ℕ) (t r : ℕ → ℕ → ℤ) → HoldsRows start t r l → AreNext l row rows number t r → HoldsRows start t r n

state_given : (l n : Level) (line : List ℤ) → IsGiven l n line → IsLevel l → IsLevel n
state_given l n line g state = record {
  columns = rw g.columns state.columns;
  two = λ deep. rw g.columns (state.two (sym g.deep ∙ deep));
  flat = λ flat. rw g.columns (state.flat (sym g.deep ∙ flat));
  low_width = ap length g.low ∙ state.low_width ∙ sym (ap (λ c. low_count c.width) g.columns);
  high_width = ap length g.high ∙ state.high_width ∙ sym (ap (λ c. high_count c.width) g.columns);
}

at_given : (s : Split) (level given taken more : ℕ) (l n : Level) (line : List ℤ) → IsGiven l n line → IsLevelAt s level given taken l → more ≡ given + 1 → IsLevelAt s level more taken n
at_given s level given taken more l n line g at one = record {
  state = state_given l n line g at.state;
  width = ap (λ c. c.width) g.columns ∙ at.width;
  height = ap (λ c. c.height) g.columns ∙ at.height;
  reach = ap (λ c. c.reach) g.columns ∙ at.reach;
  deep = g.deep ∙ at.deep;
  given = g.given ∙ ap (λ k. k + 1) at.given ∙ sym one;
  taken = ap (λ c. c.taken) g.columns ∙ at.taken;
}

at_taken : (s : Split) (level given taken more : ℕ) (row : List ℤ) (rows : Band → ℕ → List ℤ) (number : ℕ) (l n : Level) → IsTakenBy row rows number l n → IsLevelAt s level given taken l → more ≡ taken + 1 → IsLevelAt s level given more n
at_taken s level given taken more row rows number l n t at one = record {
  state = t.state;
  width = t.same.columns.width ∙ at.width;
  height = t.same.columns.height ∙ at.height;
  reach = t.same.columns.reach ∙ at.reach;
  deep = t.same.deep ∙ at.deep;
  given = t.given ∙ at.given;
  taken = t.taken ∙ ap (λ k. k + 1) at.taken ∙ sym one;
}

held_given : (start : ℕ) (t r : ℕ → ℕ → ℤ) (l n : Level) (line : List ℤ) → IsGiven l n line → HoldsRows start t r l → HoldsRows start t r n
held_given start t r l n line g h = record {
  last = λ deep. rw g.columns (h.last (sym g.deep ∙ deep));
  flat = λ flat. rw g.columns (h.flat (sym g.deep ∙ flat));
}

known_line : (s : Split) (level given taken : ℕ) (l : Level) → IsLevelAt s level given taken l → given < rows_at s level → (level < s.down → (2 * taken ≤ given + 3) × (given < 2 * taken) × (given + 1 ≡ 2 * taken → taken ≡ low_count (rows_at s level))) → (s.down ≤ level → taken ≡ given + 1) → IsKnownLine l
known_line s level given taken l at room deep flat =
    let inside : l.given < l.columns.height = omega (arith, room, at.given, at.height) in
    record {
      inside = inside;
      deep = λ is.
          let facts = deep (is_deep s level given taken l at is) in
          record {
            inside = inside;
            above = omega (arith, facts.0, at.given, at.taken);
            below = omega (arith, facts.1, at.given, at.taken);
            last = λ e. let one : given + 1 ≡ 2 * taken = omega (arith, e, at.given, at.taken) in at.taken ∙ facts.2 one ∙ ap low_count (sym at.height);
          };
      flat = λ is. at.taken ∙ flat (is_flat s level given taken l at is) ∙ ap (λ k. k + 1) (sym at.given);
    }

-- ---- the level where the line begins

pub begin_known : (c : Joiner) (depth : ℕ) (l : Level) → IsChain c → c.given < c.height → IsMovingDepth c depth → depth < c.across → l ≡ get_or c.levels.items depth l → IsKnownLine l
begin_known c depth l chain room d less value =
    let s = split_of c in
    let g = given_at s c.first c.given depth in
    let t = given_at s c.first c.given (suc depth) in
    let moves = d.moves depth (omega arith) in
    let rests = d.rests (suc depth) (omega arith) (omega (arith, less)) in
    let inside = room_at c depth chain room moves in
    known_line s depth g t l (level_of c depth l chain less value) inside
    (λ down.
    let start = rows_each s (suc depth) * c.first in
    let next : taken_by start (rows_at s depth) (g + 1) ≡ t = ap (taken_by start (rows_at s depth)) (sym moves) ∙ sym (given_deep s c.first (c.given + 1) depth down) ∙ rests in
    known_still start (rows_at s depth) g t (given_deep s c.first c.given depth down) next (start_at c depth chain down) inside)
    (λ flat. absurd (omega (arith, given_flat s c.first (c.given + 1) depth flat, given_flat s c.first c.given depth flat, moves, rests)))

pub begin_midway : (rows : Band → ℕ → List ℤ) (depth : ℕ) (c new : Joiner) (l n : Level) (line : List ℤ) → IsChain c → c.given < c.height → IsMovingDepth c depth → depth < c.across → l ≡ get_or c.levels.items depth l → IsGiven l n line
    → split_of new ≡ split_of c → new.first ≡ c.first → new.given ≡ c.given → new.lowest ≡ c.lowest → new.levels.items ≡ set c.levels.items depth n → new.lines.items ≡ set c.lines.items depth line → IsMidway rows depth c new
begin_midway rows depth c new l n line chain room d less value given split first same lowest levels lines =
    let s = split_of c in
    let g = given_at s c.first c.given depth in
    let at = level_of c depth l chain less value in
    let inside : depth < length c.levels.items = omega (arith, less, chain.many) in
    let inside_lines : depth < length c.lines.items = omega (arith, less, chain.line_count) in
    let moves = d.moves depth (omega arith) in
    let seen : get_or new.lines.items depth [] ≡ line = ap (λ xs. get_or xs depth []) lines ∙ get_or-set_at c.lines.items depth depth line [] refl inside_lines in
    record {
      to = omega (arith, less);
      same = record { split = split; first = first };
      given = same;
      lowest = lowest ∙ chain.lowest_is ∙ sym (d.rests c.across less (omega arith));
      many = ap length levels ∙ length-set c.levels.items depth n ∙ chain.many;
      lines = ap length lines ∙ length-set c.lines.items depth line ∙ chain.line_count;
      widths = subst (HaveWidths s) (sym lines) (widths_set s c.lines.items depth line inside_lines (given.width ∙ at.width) chain.widths);
      done = λ i other from to.
          subst (λ xs. EachLevel depth c.across xs (λ j x. IsLevelAt s j (given_at s c.first (c.given + 1) j) (given_at s c.first (c.given + 1) (suc j)) x)) (sym levels)
          (each_set c.levels.items depth depth c.across n (λ j x. IsLevelAt s j (given_at s c.first (c.given + 1) j) (given_at s c.first (c.given + 1) (suc j)) x) inside
          (subst (λ k. IsLevelAt s depth (given_at s c.first (c.given + 1) depth) k n) (sym (d.rests (suc depth) (omega arith) (omega (arith, less)))) (at_given s depth g _ _ l n line given at moves))
          (λ j o above below ne.
          let past : depth < j = omega (arith, above, ne) in
          subst (λ k. IsLevelAt s j k (given_at s c.first (c.given + 1) (suc j)) (get_or c.levels.items j o)) (sym (d.rests j past (omega (arith, below))))
          (subst (λ k. IsLevelAt s j (given_at s c.first c.given j) k (get_or c.levels.items j o)) (sym (d.rests (suc j) (omega (arith, past)) (omega (arith, below)))) (chain.each j o (omega arith) below)))) i other from to;
      rest = λ i other from to.
          let ne : i ≢ depth = omega (arith, to) in
          subst (λ x. IsLevelAt s i (given_at s c.first c.given i) (given_at s c.first c.given (suc i)) x) (sym (ap (λ xs. get_or xs i other) levels ∙ get_or-set_other c.levels.items depth i n other ne)) (chain.each i other from (omega (arith, to, less)));
      moves = d.moves;
      small = subst (λ xs. BelowUnits (reach_at s depth) (entries_of xs)) (sym seen) (subst (λ u. BelowUnits u (entries_of line)) (reach_given s depth g _ l less at) given.small);
      holds = λ b held shown.
          subst (λ xs. EachLevel 0 c.across xs (HoldsLevel s c.first b)) (sym levels)
          (each_set c.levels.items depth 0 c.across n (HoldsLevel s c.first b) inside (held_given _ _ _ l n line given (subst (λ x. HoldsLevel s c.first b depth x) (sym value) (held.each depth l (omega arith) less)))
          (λ j o above below ne. held.each j o above below));
      shows = λ b held shown.
          let mine = subst (λ x. HoldsLevel s c.first b depth x) (sym value) (held.each depth l (omega arith) less) in
          let row = given.shows _ _ _ mine (begun_at s depth c.first g _ l at (given_from s c.first c.given depth chain.from chain.to)) in
          subst (λ xs. Shows xs (part_of s b depth g)) (sym seen) (given_part s b depth g _ g l line less at (subst (λ k. Shows line (given_rows l (low_rows s b depth) (high_rows s b depth) k)) at.given row));
    }

-- the line begins with a row of the lowest band
pub lowest_taken : (rows : Band → ℕ → List ℤ) (depth : ℕ) (c : Joiner) → IsChain c → IsMovingDepth c depth → depth ≡ c.across → HaveNext c rows → IsFresh (low_count_at c.width c.across) (rows Lowest c.lowest)
lowest_taken rows depth c chain d all there =
    let moves = d.moves c.across (omega (arith, all)) in
    there.lowest c.lowest (chain.lowest_is, omega (arith, moves, chain.lowest_is))

columns_left : (n level : ℕ) → 0 < n → 0 < low_count_at n level
columns_left n zero some = some
columns_left n (suc level) some = let before = columns_left n level some in omega (arith, before)

pub lowest_known : (rows : Band → ℕ → List ℤ) (depth : ℕ) (c : Joiner) → IsChain c → IsMovingDepth c depth → depth ≡ c.across → HaveNext c rows → 0 < length (rows Lowest c.lowest)
lowest_known rows depth c chain d all there =
    let fresh = lowest_taken rows depth c chain d all there in
    let wide = fresh.wide in
    let some = columns_left c.width c.across chain.some in
    omega (arith, wide, some)

rows_left : (n level : ℕ) → low_count_at n level ≤ n
rows_left n zero = omega arith
rows_left n (suc level) = let before = rows_left n level in omega (arith, before)

pub lowest_room : (depth : ℕ) (c : Joiner) → IsChain c → c.given < c.height → IsMovingDepth c depth → depth ≡ c.across → c.lowest < c.height
lowest_room depth c chain room d all =
    let moves = d.moves c.across (omega (arith, all)) in
    let inside = room_at c c.across chain room moves in
    let most = rows_left c.height (min c.across c.down) in
    let is = chain.lowest_is in
    omega (arith, inside, most, is)

pub begin_lowest : (rows : Band → ℕ → List ℤ) (depth : ℕ) (c new : Joiner) (line : List ℤ) → IsChain c → IsMovingDepth c depth → depth ≡ c.across → HaveNext c rows → line ≡ rows Lowest c.lowest
    → split_of new ≡ split_of c → new.first ≡ c.first → new.given ≡ c.given → new.lowest ≡ c.lowest + 1 → new.levels.items ≡ c.levels.items → new.lines.items ≡ set c.lines.items depth line → IsMidway rows depth c new
begin_lowest rows depth c new line chain d all there is split first same lowest levels lines =
    let s = split_of c in
    let g = given_at s c.first c.given c.across in
    let fresh = lowest_taken rows depth c chain d all there in
    let moves = d.moves c.across (omega (arith, all)) in
    let deep = chain.split.deep in
    let inside : depth < length c.lines.items = omega (arith, all, chain.line_count) in
    let seen : get_or new.lines.items depth [] ≡ line = ap (λ xs. get_or xs depth []) lines ∙ get_or-set_at c.lines.items depth depth line [] refl inside in
    let wide : length line ≡ low_count_at c.width depth = ap length is ∙ fresh.wide ∙ ap (low_count_at c.width) (sym all) in
    let four : 4 ≡ reach_at s depth = omega (arith, all, deep) in
    let last : 0 ≡ c.across - depth = omega (arith, all) in
    record {
      to = omega (arith, all);
      same = record { split = split; first = first };
      given = same;
      lowest = lowest ∙ ap (λ k. k + 1) chain.lowest_is ∙ sym moves;
      many = ap length levels ∙ chain.many;
      lines = ap length lines ∙ length-set c.lines.items depth line ∙ chain.line_count;
      widths = subst (HaveWidths s) (sym lines) (widths_set s c.lines.items depth line inside wide chain.widths);
      done = λ i other from to. absurd (omega (arith, from, to, all));
      rest = λ i other from to. subst (λ xs. IsLevelAt s i (given_at s c.first c.given i) (given_at s c.first c.given (suc i)) (get_or xs i other)) (sym levels) (chain.each i other from (omega (arith, to, all)));
      moves = d.moves;
      small = subst (λ u. BelowUnits u (entries_of (get_or new.lines.items depth []))) four (subst (λ xs. BelowUnits 4 (entries_of xs)) (sym (seen ∙ is)) fresh.small);
      holds = λ b held shown. subst (λ xs. EachLevel 0 c.across xs (HoldsLevel s c.first b)) (sym levels) held.each;
      shows = λ b held shown.
          let row : Shows (rows Lowest c.lowest) (b.ll c.lowest) = shown Lowest c.lowest in
          let count : c.lowest ≡ given_at s c.first c.given depth = chain.lowest_is ∙ ap (given_at s c.first c.given) (sym all) in
          subst (λ k. Shows (get_or new.lines.items depth []) (restored s b k (given_at s c.first c.given depth))) last
          (subst (λ k. Shows (get_or new.lines.items depth []) (b.ll k)) count (subst (λ xs. Shows xs (b.ll c.lowest)) (sym (seen ∙ is)) row));
    }

-- ---- the next level

pub midway_at : (rows : Band → ℕ → List ℤ) (level i : ℕ) (old now : Joiner) → level ≡ suc i → IsMidway rows level old now → IsMidway rows (suc i) old now
midway_at rows level i old now is m = subst (λ k. IsMidway rows k old now) is m

pub level_now : (rows : Band → ℕ → List ℤ) (i : ℕ) (old now : Joiner) (l : Level) → IsMidway rows (suc i) old now → l ≡ get_or now.levels.items i l
    → IsLevelAt (split_of old) i (given_at (split_of old) old.first old.given i) (given_at (split_of old) old.first old.given (suc i)) l
level_now rows i old now l m value = subst (λ x. IsLevelAt (split_of old) i (given_at (split_of old) old.first old.given i) (given_at (split_of old) old.first old.given (suc i)) x) (sym value) (m.rest i l (omega arith) (omega arith))

-- what the level takes is there
pub record IsReady (rows : Band → ℕ → List ℤ) (number : ℕ) (row : List ℤ) (l : Level) : Type 0 where
  pub room : l.columns.taken < lows l
  pub lows : length row ≡ low_count l.columns.width
  pub small : BelowUnits l.columns.reach (entries_of row)
  pub hl : IsFresh (high_count l.columns.width) (rows (Hl number) l.columns.taken)
  pub lh : l.deep ≡ true → l.columns.taken < high_count l.columns.height → IsFresh (low_count l.columns.width) (rows (Lh number) l.columns.taken)
  pub hh : l.deep ≡ true → l.columns.taken < high_count l.columns.height → IsFresh (high_count l.columns.width) (rows (Hh number) l.columns.taken)

pub ready : (rows : Band → ℕ → List ℤ) (i : ℕ) (old now : Joiner) (l : Level) (row : List ℤ) → IsMidway rows (suc i) old now → l ≡ get_or now.levels.items i l → row ≡ get_or now.lines.items (suc i) [] → IsChain old → old.given < old.height → HaveNext old rows → IsReady rows i row l
ready rows i old now l row m value seen chain room there =
    let s = split_of old in
    let at = level_now rows i old now l m value in
    let t = given_at s old.first old.given (suc i) in
    let less : i < old.across = omega (arith, m.to) in
    let moves = m.moves (suc i) (omega arith) in
    let inside = room_at old (suc i) chain room moves in
    let taken : IsTaken s old.first old.given (suc i) l.columns.taken = (at.taken, omega (arith, at.taken, moves)) in
    let count = lows_at s i _ t l at in
    record {
      room = omega (arith, inside, at.taken, count);
      lows = ap length seen ∙ m.widths (suc i) m.to ∙ ap low_count (sym at.width);
      small = subst (λ u. BelowUnits u (entries_of row)) (sym at.reach) (subst (λ xs. BelowUnits (reach_at s (suc i)) (entries_of xs)) (sym seen) m.small);
      hl = subst (λ w. IsFresh (high_count w) (rows (Hl i) l.columns.taken)) (sym at.width) (there.hl i l.columns.taken less taken);
      lh = λ deep more.
          let down = is_deep s i _ t l at deep in
          let tall : l.columns.height ≡ low_count_at old.height i = at.height ∙ rows_deep s i (omega (arith, down)) in
          subst (λ w. IsFresh (low_count w) (rows (Lh i) l.columns.taken)) (sym at.width) (there.lh i l.columns.taken down taken (subst (λ h. l.columns.taken < high_count h) tall more));
      hh = λ deep more.
          let down = is_deep s i _ t l at deep in
          let tall : l.columns.height ≡ low_count_at old.height i = at.height ∙ rows_deep s i (omega (arith, down)) in
          subst (λ w. IsFresh (high_count w) (rows (Hh i) l.columns.taken)) (sym at.width) (there.hh i l.columns.taken down taken (subst (λ h. l.columns.taken < high_count h) tall more));
    }

-- and then it knows the row that it gives
pub next_known : (rows : Band → ℕ → List ℤ) (i : ℕ) (old now : Joiner) (l n : Level) (row : List ℤ) → IsMidway rows (suc i) old now → l ≡ get_or now.levels.items i l → IsChain old → old.given < old.height → IsTakenBy row rows i l n → IsKnownLine n
next_known rows i old now l n row m value chain room taken =
    let s = split_of old in
    let at = level_now rows i old now l m value in
    let g = given_at s old.first old.given i in
    let t = given_at s old.first old.given (suc i) in
    let moves = m.moves i (omega arith) in
    let next = m.moves (suc i) (omega arith) in
    let inside = room_at old i chain room moves in
    known_line s i g (t + 1) n (at_taken s i g t (t + 1) row rows i l n taken at refl) inside
    (λ down.
    let start = rows_each s (suc i) * old.first in
    let more : taken_by start (rows_at s i) (g + 1) ≡ t + 1 = ap (taken_by start (rows_at s i)) (sym moves) ∙ sym (given_deep s old.first (old.given + 1) i down) ∙ next in
    known_after start (rows_at s i) g t (given_deep s old.first old.given i down) more (start_at old i chain down) inside)
    (λ flat. ap (λ k. k + 1) (given_flat s old.first old.given i flat))

next_rows : (rows : Band → ℕ → List ℤ) (i : ℕ) (old now : Joiner) (l : Level) (row : List ℤ) (b : Bands) → IsMidway rows (suc i) old now → l ≡ get_or now.levels.items i l → row ≡ get_or now.lines.items (suc i) [] → IsReady rows i row l
    → HoldsBands b old → ShowBands rows b → AreNext l row rows i (low_rows (split_of old) b i) (high_rows (split_of old) b i)
next_rows rows i old now l row b m value seen r held shown =
    let s = split_of old in
    let at = level_now rows i old now l m value in
    let t = given_at s old.first old.given (suc i) in
    let k = l.columns.taken in
    let w = l.columns.width in
    let part : Shows row (part_of s b (suc i) k) = subst (λ j. Shows row (part_of s b (suc i) j)) (sym at.taken) (subst (λ xs. Shows xs (part_of s b (suc i) t)) (sym seen) (m.shows b held shown)) in
    let two = at.state.columns.two in
    record {
      low = subst (λ v. SameLine w (λ c. inverse_line v (part_of s b (suc i) k) (b.hl (i + 1) k) c) (inverse_line w (entries_of row) (entries_of (rows (Hl i) k)))) at.width
          (row_joined w (part_of s b (suc i) k) (b.hl (i + 1) k) row (rows (Hl i) k) two r.lows r.hl.wide part (shown (Hl i) k));
      high = λ deep more.
          let down = is_deep s i _ t l at deep in
          subst (λ v. SameLine w (λ c. inverse_line v (b.lh (i + 1) k) (b.hh (i + 1) k) c) (inverse_line w (entries_of (rows (Lh i) k)) (entries_of (rows (Hh i) k)))) at.width
          (row_joined w (b.lh (i + 1) k) (b.hh (i + 1) k) (rows (Lh i) k) (rows (Hh i) k) two (r.lh deep more).wide (r.hh deep more).wide (shown (Lh i) k) (shown (Hh i) k));
    }

pub midway_next : (rows : Band → ℕ → List ℤ) (i : ℕ) (old now new : Joiner) (l n u : Level) (row line : List ℤ) → IsMidway rows (suc i) old now → l ≡ get_or now.levels.items i l → row ≡ get_or now.lines.items (suc i) [] → IsChain old → IsReady rows i row l → IsTakenBy row rows i l n → IsGiven n u line
    → split_of new ≡ split_of now → new.first ≡ now.first → new.given ≡ now.given → new.lowest ≡ now.lowest → new.levels.items ≡ set now.levels.items i u → new.lines.items ≡ set now.lines.items i line → IsMidway rows i old new
midway_next rows i old now new l n u row line m value seen chain r taken given split first same lowest levels lines =
    let s = split_of old in
    let g = given_at s old.first old.given i in
    let t = given_at s old.first old.given (suc i) in
    let at = level_now rows i old now l m value in
    let to = m.to in
    let less : i < old.across = omega (arith, to) in
    let inside : i < length now.levels.items = omega (arith, less, m.many) in
    let inside_lines : i < length now.lines.items = omega (arith, less, m.lines) in
    let moves = m.moves i (omega arith) in
    let next = m.moves (suc i) (omega arith) in
    let mid = at_taken s i g t _ row rows i l n taken at next in
    let after = at_given s i g _ _ n u line given mid moves in
    let here : get_or new.lines.items i [] ≡ line = ap (λ xs. get_or xs i []) lines ∙ get_or-set_at now.lines.items i i line [] refl inside_lines in
    record {
      to = omega (arith, less);
      same = record { split = split ∙ m.same.split; first = first ∙ m.same.first };
      given = same ∙ m.given;
      lowest = lowest ∙ m.lowest;
      many = ap length levels ∙ length-set now.levels.items i u ∙ m.many;
      lines = ap length lines ∙ length-set now.lines.items i line ∙ m.lines;
      widths = subst (HaveWidths s) (sym lines) (widths_set s now.lines.items i line inside_lines (given.width ∙ mid.width) m.widths);
      done = subst (λ xs. EachLevel i old.across xs (λ j x. IsLevelAt s j (given_at s old.first (old.given + 1) j) (given_at s old.first (old.given + 1) (suc j)) x)) (sym levels)
          (each_set now.levels.items i i old.across u (λ j x. IsLevelAt s j (given_at s old.first (old.given + 1) j) (given_at s old.first (old.given + 1) (suc j)) x) inside after (λ j o above below ne. m.done j o (omega (arith, above, ne)) below));
      rest = λ j other from below.
          let ne : j ≢ i = omega (arith, below) in
          subst (λ x. IsLevelAt s j (given_at s old.first old.given j) (given_at s old.first old.given (suc j)) x) (sym (ap (λ xs. get_or xs j other) levels ∙ get_or-set_other now.levels.items i j u other ne)) (m.rest j other from (omega (arith, below)));
      moves = λ j below. m.moves j (omega (arith, below));
      small = subst (λ xs. BelowUnits (reach_at s i) (entries_of xs)) (sym here) (subst (λ v. BelowUnits v (entries_of line)) (reach_given s i g _ n less mid) given.small);
      holds = λ b held shown.
          let mine = subst (λ x. HoldsLevel s old.first b i x) (sym value) (m.holds b held shown i l (omega arith) less) in
          let after_take = taken.holds _ _ _ mine (next_rows rows i old now l row b m value seen r held shown) in
          subst (λ xs. EachLevel 0 old.across xs (HoldsLevel s old.first b)) (sym levels)
          (each_set now.levels.items i 0 old.across u (HoldsLevel s old.first b) inside (held_given _ _ _ n u line given after_take) (λ j o above below ne. m.holds b held shown j o above below));
      shows = λ b held shown.
          let mine = subst (λ x. HoldsLevel s old.first b i x) (sym value) (m.holds b held shown i l (omega arith) less) in
          let after_take = taken.holds _ _ _ mine (next_rows rows i old now l row b m value seen r held shown) in
          let made = given.shows _ _ _ after_take (begun_at s i old.first g _ n mid (given_from s old.first old.given i chain.from chain.to)) in
          subst (λ xs. Shows xs (part_of s b i g)) (sym here) (given_part s b i g _ g n line less mid (subst (λ k. Shows line (given_rows n (low_rows s b i) (high_rows s b i) k)) mid.given made));
    }

-- ---- after the first level

pub midway_chain : (rows : Band → ℕ → List ℤ) (level : ℕ) (old now new : Joiner) → level ≡ 0 → IsMidway rows level old now → IsChain old → old.given < old.height → split_of new ≡ split_of now → new.first ≡ now.first → new.given ≡ now.given + 1 → new.lowest ≡ now.lowest
    → new.levels.items ≡ now.levels.items → new.lines.items ≡ now.lines.items → IsChain new
midway_chain rows level old now new none m chain room split first given lowest levels lines =
    let s = split_of old in
    let m0 = subst (λ k. IsMidway rows k old now) none m in
    let few = chain.few in
    let two = chain.two in
    let from = chain.from in
    let same_split : s ≡ split_of new = sym (split ∙ m.same.split) in
    let same_first : old.first ≡ new.first = sym (first ∙ m.same.first) in
    let same_given : old.given + 1 ≡ new.given = sym (given ∙ ap (λ k. k + 1) m.given) in
    let made : AreChained s old.first (old.given + 1) now.lowest now.levels.items now.lines.items = record {
      split = chain.split;
      some = chain.some;
      few = few;
      two = two;
      from = omega (arith, from);
      to = omega (arith, room);
      many = m.many;
      each = m0.done;
      lowest_is = m.lowest;
      line_count = m.lines;
      widths = m.widths;
      small = units_more (reach_at s 0) 64 _ (omega (arith, few, two)) m0.small;
    } in
    subst (λ xs. AreChained (split_of new) new.first new.given new.lowest new.levels.items xs) (sym lines)
    (subst (λ xs. AreChained (split_of new) new.first new.given new.lowest xs now.lines.items) (sym levels)
    (subst (λ k. AreChained (split_of new) new.first new.given k now.levels.items now.lines.items) (sym lowest)
    (subst (λ k. AreChained (split_of new) new.first k now.lowest now.levels.items now.lines.items) same_given
    (subst (λ k. AreChained (split_of new) k (old.given + 1) now.lowest now.levels.items now.lines.items) same_first
    (subst (λ k. AreChained k old.first (old.given + 1) now.lowest now.levels.items now.lines.items) same_split made)))))

pub midway_holds : (rows : Band → ℕ → List ℤ) (level : ℕ) (old now new : Joiner) (b : Bands) → level ≡ 0 → IsMidway rows level old now → split_of new ≡ split_of now → new.first ≡ now.first → new.given ≡ now.given + 1
    → new.levels.items ≡ now.levels.items → new.lines.items ≡ now.lines.items → HoldsBands b old → ShowBands rows b → HoldsBands b new
midway_holds rows level old now new b none m split first given levels lines held shown =
    let s = split_of old in
    let m0 = subst (λ k. IsMidway rows k old now) none m in
    let same_split : s ≡ split_of new = sym (split ∙ m.same.split) in
    let same_first : old.first ≡ new.first = sym (first ∙ m.same.first) in
    let same_given : old.given + 1 ≡ new.given = sym (given ∙ ap (λ k. k + 1) m.given) in
    let back : old.given ≡ old.given + 1 - 1 = omega arith in
    let all : old.across - 0 ≡ old.across = omega arith in
    let made : HoldPlane s old.first (old.given + 1) b now.levels.items now.lines.items = record {
      each = m0.holds b held shown;
      line = λ begun. subst (λ k. Shows (get_or now.lines.items 0 []) (inverse_plane s b k)) back (subst (λ k. Shows (get_or now.lines.items 0 []) (restored s b k old.given)) all (m0.shows b held shown));
    } in
    subst (λ xs. HoldPlane (split_of new) new.first new.given b new.levels.items xs) (sym lines)
    (subst (λ xs. HoldPlane (split_of new) new.first new.given b xs now.lines.items) (sym levels)
    (subst (λ k. HoldPlane (split_of new) new.first k b now.levels.items now.lines.items) same_given
    (subst (λ k. HoldPlane (split_of new) k (old.given + 1) b now.levels.items now.lines.items) same_first (subst (λ k. HoldPlane k old.first (old.given + 1) b now.levels.items now.lines.items) same_split made))))
