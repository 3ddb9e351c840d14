-- The levels are begun anew at a precinct.
use Rattle.std.proofs.Common.{◌≡◌, ◌≢◌, ℕ, zero, suc, ◌+◌, ◌-◌, ◌*◌, ◌/◌, ◌^◌, ◌<◌, ◌≤◌, [], List, length, length-set, get_or, get_or-set_other, ℤ, Bool, true, false, nat_lt, if◌then◌else◌, arith, ap, sym, subst, ◌∙◌, refl}
use Rattle.std.proofs.Math.ListN.{set}
use Rattle.std.proofs.lemmas.Bool.{ltb-true, ltb-false}
use Rattle.xs_signal.specs.Lines.{entries_of}
use Rattle.xs_signal.specs.Wavelet.{Split, Bands, low_count, high_count, inverse_line}
use Rattle.xs_signal.specs.Stripe.{rows_at, rows_each}
use Rattle.xs_joiner.specs.Units.{BelowUnits, IsFresh}
use Rattle.xs_joiner.specs.Source.{ShowBands}
use Rattle.xs_joiner.specs.Columns.{SameLine}
use Rattle.xs_joiner.specs.Level.{IsLevel, IsSameLevel, HoldsRows}
use Rattle.xs_joiner.specs.Counts.{taken_by, given_at}
use Rattle.xs_joiner.specs.Chain.{split_of, low_rows, high_rows, HaveWidths, IsLevelAt, EachLevel, AreChained, IsChain, HoldPlane, HoldsBands, HoldsLevel, HaveAbove}
use Rattle.xs_joiner.specs.declared.level.Level.{Level}
use Rattle.xs_joiner.specs.declared.source.Band.{Band}
use Rattle.xs_joiner.specs.declared.source.Band.TheVariants.{Lh, Hh}
use Rattle.xs_joiner.specs.declared.joiner.Joiner.{Joiner}
use Rattle.xs_joiner.proofs.Counts.{each_halved, each_kept, given_deep, given_flat, given_most}
use Rattle.xs_joiner.proofs.Chains.{row_joined, is_deep, each_set}

begun_deep : (start h : ℕ) → 2 * start ≤ h → taken_by start h (2 * start) ≡ start
begun_deep start h inside = omega arith

begun_cases : (s : Split) (first n level : ℕ) (deep : Bool) → nat_lt level s.down ≡ deep → n ≤ s.height → given_at s first n level ≡ rows_each s level * first → given_at s first n (suc level) ≡ rows_each s (suc level) * first
begun_cases s first n level true is to before =
    let less : level < s.down = ltb-true level s.down is in
    let most = given_most s first n level to in
    let start = rows_each s (suc level) * first in
    let here : given_at s first n level ≡ 2 * start = before ∙ sym (each_halved s level first less) in
    given_deep s first n level less ∙ ap (taken_by start (rows_at s level)) here ∙ begun_deep start (rows_at s level) (omega (arith, most, here))
begun_cases s first n level false is to before =
    let more : s.down ≤ level = ltb-false level s.down is in
    given_flat s first n level more ∙ before ∙ sym (each_kept s level first more)

-- the rows that the levels give next are the precinct's first
pub begun_given : (s : Split) (first n level : ℕ) → n ≡ rows_each s 0 * first → n ≤ s.height → given_at s first n level ≡ rows_each s level * first
begun_given s first n zero is to = is
begun_given s first n (suc level) is to = begun_cases s first n level (nat_lt level s.down) refl to (begun_given s first n level is to)

-- a level's rows before and after it is begun
pub next_start : (s : Split) (first level start : ℕ) (deep : Bool) → nat_lt level s.down ≡ deep → start ≡ rows_each s level * first → (if deep then start / 2 else start) ≡ rows_each s (suc level) * first
next_start s first level start true is here = omega (arith, here, each_halved s level first (ltb-true level s.down is))
next_start s first level start false is here = here ∙ sym (each_kept s level first (ltb-false level s.down is))

-- what a level's beginning says
pub record IsBegun (rows : Band → ℕ → List ℤ) (number row start : ℕ) (l n : Level) : Type 0 where
  pub same : IsSameLevel l n
  pub state : IsLevel n
  pub taken : n.columns.taken ≡ start
  pub given : n.given ≡ row
  pub holds : (t r : ℕ → ℕ → ℤ) → (l.deep ≡ true → 0 < start → SameLine l.columns.width (r (start - 1)) (inverse_line l.columns.width (entries_of (rows (Lh number) (start - 1))) (entries_of (rows (Hh number) (start - 1))))) → HoldsRows start t r n

-- the levels before this one are begun
pub record AreBegun (rows : Band → ℕ → List ℤ) (first level start : ℕ) (old now : Joiner) : Type 0 where
  pub to : level ≤ old.across
  pub split : split_of now ≡ split_of old
  pub first_is : now.first ≡ first
  pub given : now.given ≡ rows_each (split_of old) 0 * first
  pub start_is : start ≡ rows_each (split_of old) level * first
  pub many : length now.levels.items ≡ old.across
  pub lines : now.lines ≡ old.lines
  pub done : EachLevel 0 level now.levels.items (λ i l. IsLevelAt (split_of old) i (rows_each (split_of old) i * first) (rows_each (split_of old) (suc i) * first) l)
  pub rest : (i : ℕ) (other : Level) → level ≤ i → get_or now.levels.items i other ≡ get_or old.levels.items i other
  pub holds : (b : Bands) → ShowBands rows b → EachLevel 0 level now.levels.items (HoldsLevel (split_of old) first b)

pub begun_first : (rows : Band → ℕ → List ℤ) (first start : ℕ) (old now : Joiner) → IsChain old → start ≡ 2 ^ old.down * first → split_of now ≡ split_of old → now.first ≡ first → now.given ≡ start → now.levels ≡ old.levels → now.lines ≡ old.lines → AreBegun rows first 0 start old now
begun_first rows first start old now chain is split first_is given levels lines =
    let none : old.down ≡ old.down - 0 = omega arith in
    let here : start ≡ rows_each (split_of old) 0 * first = is ∙ ap (λ k. 2 ^ k * first) none in
    record {
      to = omega arith;
      split = split;
      first_is = first_is;
      given = given ∙ here;
      start_is = here;
      many = ap (λ v. length v.items) levels ∙ chain.many;
      lines = lines;
      done = λ i other from to. absurd (omega (arith, to));
      rest = λ i other past. ap (λ v. get_or v.items i other) levels;
      holds = λ b shown i other from to. absurd (omega (arith, to));
    }

pub old_level : (rows : Band → ℕ → List ℤ) (first level start : ℕ) (old now : Joiner) (l : Level) → AreBegun rows first level start old now → IsChain old → level < old.across → l ≡ get_or now.levels.items level l
    → IsLevelAt (split_of old) level (given_at (split_of old) old.first old.given level) (given_at (split_of old) old.first old.given (suc level)) l
old_level rows first level start old now l m chain less value =
    let s = split_of old in
    subst (λ x. IsLevelAt s level (given_at s old.first old.given level) (given_at s old.first old.given (suc level)) x) (sym (value ∙ m.rest level l (omega arith))) (chain.each level l (omega arith) less)

pub next_is : (rows : Band → ℕ → List ℤ) (first level start next : ℕ) (old now : Joiner) → AreBegun rows first level start old now → next ≡ (if nat_lt level now.down then start / 2 else start) → next ≡ rows_each (split_of old) (suc level) * first
next_is rows first level start next old now m is =
    let down : now.down ≡ old.down = ap (λ s. s.down) m.split in
    is ∙ ap (λ d. if nat_lt level d then start / 2 else start) down ∙ next_start (split_of old) first level start (nat_lt level old.down) refl m.start_is

pub begin_lh : (rows : Band → ℕ → List ℤ) (first level start next : ℕ) (old now : Joiner) (l : Level) → AreBegun rows first level start old now → IsChain old → HaveAbove old first rows → level < old.across → l ≡ get_or now.levels.items level l
    → next ≡ rows_each (split_of old) (suc level) * first → l.deep ≡ true → 0 < next → IsFresh (low_count l.columns.width) (rows (Lh level) (next - 1))
begin_lh rows first level start next old now l m chain there less value is deep some =
    let s = split_of old in
    let at = old_level rows first level start old now l m chain less value in
    subst (λ w. IsFresh (low_count w) (rows (Lh level) (next - 1))) (sym at.width) (there.lh level (next - 1) (is_deep s level _ _ l at deep) (omega (arith, some, is)))

pub begin_hh : (rows : Band → ℕ → List ℤ) (first level start next : ℕ) (old now : Joiner) (l : Level) → AreBegun rows first level start old now → IsChain old → HaveAbove old first rows → level < old.across → l ≡ get_or now.levels.items level l
    → next ≡ rows_each (split_of old) (suc level) * first → l.deep ≡ true → 0 < next → IsFresh (high_count l.columns.width) (rows (Hh level) (next - 1))
begin_hh rows first level start next old now l m chain there less value is deep some =
    let s = split_of old in
    let at = old_level rows first level start old now l m chain less value in
    subst (λ w. IsFresh (high_count w) (rows (Hh level) (next - 1))) (sym at.width) (there.hh level (next - 1) (is_deep s level _ _ l at deep) (omega (arith, some, is)))

pub begun_next : (rows : Band → ℕ → List ℤ) (first level start next : ℕ) (old now new : Joiner) (l n : Level) → AreBegun rows first level start old now → IsChain old → HaveAbove old first rows → level < old.across → l ≡ get_or now.levels.items level l
    → next ≡ rows_each (split_of old) (suc level) * first → IsBegun rows level start next l n → split_of new ≡ split_of now → new.first ≡ now.first → new.given ≡ now.given → new.levels.items ≡ set now.levels.items level n → new.lines ≡ now.lines → AreBegun rows first (level + 1) next old new
begun_next rows first level start next old now new l n m chain there less value is begun split first_is given levels lines =
    let s = split_of old in
    let at = old_level rows first level start old now l m chain less value in
    let inside : level < length now.levels.items = omega (arith, less, m.many) in
    let one : suc level ≡ level + 1 = omega arith in
    let here : IsLevelAt s level (rows_each s level * first) (rows_each s (suc level) * first) n = record {
      state = begun.state;
      width = begun.same.columns.width ∙ at.width;
      height = begun.same.columns.height ∙ at.height;
      reach = begun.same.columns.reach ∙ at.reach;
      deep = begun.same.deep ∙ at.deep;
      given = begun.given ∙ m.start_is;
      taken = begun.taken ∙ is;
    } in
    record {
      to = omega (arith, less);
      split = split ∙ m.split;
      first_is = first_is ∙ m.first_is;
      given = given ∙ m.given;
      start_is = is ∙ ap (λ k. rows_each s k * first) one;
      many = ap length levels ∙ length-set now.levels.items level n ∙ m.many;
      lines = lines ∙ m.lines;
      done = subst (λ xs. EachLevel 0 (level + 1) xs (λ i x. IsLevelAt s i (rows_each s i * first) (rows_each s (suc i) * first) x)) (sym levels)
          (each_set now.levels.items level 0 (level + 1) n (λ i x. IsLevelAt s i (rows_each s i * first) (rows_each s (suc i) * first) x) inside here (λ i o from to ne. m.done i o from (omega (arith, to, ne))));
      rest = λ i other past.
          let ne : i ≢ level = omega (arith, past) in
          ap (λ xs. get_or xs i other) levels ∙ get_or-set_other now.levels.items level i n other ne ∙ m.rest i other (omega (arith, past));
      holds = λ b shown.
          let w = l.columns.width in
          let k = next - 1 in
          let mine : HoldsRows next (low_rows s b level) (high_rows s b level) n =
          begun.holds _ _ (λ deep some.
          subst (λ v. SameLine w (λ c. inverse_line v (b.lh (level + 1) k) (b.hh (level + 1) k) c) (inverse_line w (entries_of (rows (Lh level) k)) (entries_of (rows (Hh level) k)))) at.width
          (row_joined w (b.lh (level + 1) k) (b.hh (level + 1) k) (rows (Lh level) k) (rows (Hh level) k) at.state.columns.two (begin_lh rows first level start next old now l m chain there less value is deep some).wide
          (begin_hh rows first level start next old now l m chain there less value is deep some).wide (shown (Lh level) k) (shown (Hh level) k))) in
          subst (λ xs. EachLevel 0 (level + 1) xs (HoldsLevel s first b)) (sym levels)
          (each_set now.levels.items level 0 (level + 1) n (HoldsLevel s first b) inside (subst (λ j. HoldsRows j (low_rows s b level) (high_rows s b level) n) is mine) (λ i o from to ne. m.holds b shown i o from (omega (arith, to, ne))));
    }

pub begun_chain : (rows : Band → ℕ → List ℤ) (first level start : ℕ) (old now new : Joiner) → AreBegun rows first level start old now → IsChain old → rows_each (split_of old) 0 * first ≤ old.height → level ≡ old.across → split_of new ≡ split_of now → new.first ≡ now.first → new.given ≡ now.given → new.lowest ≡ start
    → new.levels ≡ now.levels → new.lines ≡ now.lines → IsChain new
begun_chain rows first level start old now new m chain inside all split first_is given lowest levels lines =
    let s = split_of old in
    let n = rows_each s 0 * first in
    let few = chain.few in
    let whole : AreChained s first n start now.levels.items now.lines.items = record {
      split = chain.split;
      some = chain.some;
      few = chain.few;
      two = chain.two;
      from = omega arith;
      to = inside;
      many = m.many;
      each = λ i other from to.
          subst (λ k. IsLevelAt s i k (given_at s first n (suc i)) (get_or now.levels.items i other)) (sym (begun_given s first n i refl inside))
          (subst (λ k. IsLevelAt s i (rows_each s i * first) k (get_or now.levels.items i other)) (sym (begun_given s first n (suc i) refl inside)) (m.done i other from (subst (λ k. i < k) (sym all) to)));
      lowest_is = m.start_is ∙ ap (λ k. rows_each s k * first) all ∙ sym (begun_given s first n old.across refl inside);
      line_count = ap (λ v. length v.items) m.lines ∙ chain.line_count;
      widths = subst (λ v. HaveWidths s v.items) (sym m.lines) chain.widths;
      small = subst (λ v. BelowUnits 64 (entries_of (get_or v.items 0 []))) (sym m.lines) chain.small;
    } in
    moved s (split_of new) first new.first n new.given start new.lowest now.levels.items new.levels.items now.lines.items new.lines.items (sym (split ∙ m.split)) (sym (first_is ∙ m.first_is)) (sym (given ∙ m.given)) (sym lowest) (sym (ap (λ v. v.items) levels)) (sym (ap (λ v. v.items) lines)) whole
  where
    moved : (s t : Split) (f g m n k l : ℕ) (xs ys : List Level) (us vs : List (List ℤ)) → s ≡ t → f ≡ g → m ≡ n → k ≡ l → xs ≡ ys → us ≡ vs → AreChained s f m k xs us → AreChained t g n l ys vs
    moved s t f g m n k l xs ys us vs e1 e2 e3 e4 e5 e6 h =
        subst (λ z. AreChained t g n l ys z) e6 (subst (λ z. AreChained t g n l z us) e5 (subst (λ z. AreChained t g n z xs us) e4 (subst (λ z. AreChained t g z k xs us) e3 (subst (λ z. AreChained t z m k xs us) e2 (subst (λ z. AreChained z f m k xs us) e1 h)))))

pub begun_holds : (rows : Band → ℕ → List ℤ) (first level start : ℕ) (old now new : Joiner) (b : Bands) → AreBegun rows first level start old now → level ≡ old.across → split_of new ≡ split_of now → new.first ≡ now.first → new.given ≡ now.given → new.levels ≡ now.levels → ShowBands rows b → HoldsBands b new
begun_holds rows first level start old now new b m all split first_is given levels shown =
    let s = split_of old in
    let n = rows_each s 0 * first in
    let whole : HoldPlane s first n b now.levels.items new.lines.items = record {
      each = subst (λ k. EachLevel 0 k now.levels.items (HoldsLevel s first b)) all (m.holds b shown);
      line = λ begun. absurd (omega (arith, begun));
    } in
    subst (λ v. HoldPlane (split_of new) new.first new.given b v.items new.lines.items) (sym levels)
    (subst (λ k. HoldPlane (split_of new) new.first k b now.levels.items new.lines.items) (sym (given ∙ m.given))
    (subst (λ k. HoldPlane (split_of new) k n b now.levels.items new.lines.items) (sym (first_is ∙ m.first_is)) (subst (λ t. HoldPlane t first n b now.levels.items new.lines.items) (sym (split ∙ m.split)) whole)))
