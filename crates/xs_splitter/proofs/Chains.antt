-- A row goes on from level to level.
use Rattle.std.proofs.Common.{◌≡◌, ◌≢◌, ℕ, zero, suc, ◌+◌, ◌^◌, ◌<◌, ◌≤◌, ◌++◌, ◌∷◌, [], min, List, length, length-set, get_or, get_or-set_other, ℤ, Bool, true, false, nat_lt, if◌then◌else◌, arith, ap, sym, subst, ◌∙◌, inl, inr, refl}
use Rattle.std.proofs.Math.ListN.{set}
use Rattle.std.proofs.lemmas.Bool.{cases_eq, cases_lt, lt-ltb, le-ltb, ltb-true, ltb-false}
use Rattle.std.proofs.lemmas.Grind.{get_or-set_at}
use Rattle.xs_signal.specs.Lines.{entries_of, Shows, AllBelow}
use Rattle.xs_signal.specs.Wavelet.{Split, low_count, low_count_at, low_of, columns_low, columns_kept, low_part}
use Rattle.xs_signal.specs.Stripe.{rows_at}
use Rattle.xs_splitter.specs.Columns.{HasOneMore, low_rows}
use Rattle.xs_splitter.specs.Level.{IsLevel, HoldsRows, ShowRows, kept_rows, given_rows, known_rows}
use Rattle.xs_splitter.specs.Chain.{split_of, rows_beside, taken_at, bits_at, IsLevelAt, EachLevel, IsChain, AreChained, HoldsPlane, HoldPlane, IsSameBefore, IsNextRow}
use Rattle.xs_splitter.specs.declared.level.Level.{Level}
use Rattle.xs_splitter.specs.declared.splitter.Splitter.{Splitter}
use Rattle.xs_splitter.proofs.Bands.{rows_added, one_added}

-- ---- numbers of rows

pub rows_deep : (s : Split) (level : ℕ) → level ≤ s.down → rows_at s level ≡ low_count_at s.height level
rows_deep s level less = let here : min level s.down ≡ level = omega (arith, less) in ap (low_count_at s.height) here

pub rows_kept : (s : Split) (level : ℕ) → s.down ≤ level → rows_at s (suc level) ≡ rows_at s level
rows_kept s level more = let here : min (suc level) s.down ≡ min level s.down = omega (arith, more) in ap (low_count_at s.height) here

pub taken_first : (s : Split) (first taken : ℕ) → taken_at s first taken first ≡ taken
taken_first s zero taken = refl
taken_first s (suc first) taken = ap (λ b. if b then taken else (if nat_lt first s.down then known_rows (taken_at s (suc first) taken first) else taken_at s (suc first) taken first)) (lt-ltb first (suc first) (omega arith))

pub taken_next : (s : Split) (first taken level : ℕ) → first ≤ level → taken_at s first taken (suc level) ≡ (if nat_lt level s.down then known_rows (taken_at s first taken level) else taken_at s first taken level)
taken_next s first taken level from = ap (λ b. if b then taken else (if nat_lt level s.down then known_rows (taken_at s first taken level) else taken_at s first taken level)) (le-ltb level first from)

-- where a level got no row more, those after it got none
pub taken_past : (s : Split) (first a b level other : ℕ) → first ≤ level → level ≤ other → taken_at s first a level ≡ taken_at s first b level → taken_at s first a other ≡ taken_at s first b other
taken_past s first a b level zero from past same =
    let last : level ≡ 0 = omega (arith, past) in
    subst (λ k. taken_at s first a k ≡ taken_at s first b k) last same
taken_past s first a b level (suc other) from past same =
    elim (cases_lt level (suc other)) [
      | inl less ↦
          let before = taken_past s first a b level other from (omega (arith, less)) same in
          taken_next s first a other (omega (arith, from, less)) ∙ ap (λ t. if nat_lt other s.down then known_rows t else t) before ∙ sym (taken_next s first b other (omega (arith, from, less)))
      | inr more ↦ let last : level ≡ suc other = omega (arith, past, more) in subst (λ k. taken_at s first a k ≡ taken_at s first b k) last same
    ]

room_cases : (s : Split) (level t : ℕ) (deep : Bool) → nat_lt level s.down ≡ deep → t < rows_at s level → (if deep then known_rows t else t) < rows_at s (suc level)
room_cases s level t true is room =
    let less : level < s.down = ltb-true level s.down is in
    let here = rows_deep s level (omega (arith, less)) in
    let next = rows_deep s (suc level) (omega (arith, less)) in
    omega (arith, here, next, room)
room_cases s level t false is room = omega (arith, rows_kept s level (ltb-false level s.down is), room)

pub room_next : (s : Split) (first taken level : ℕ) → first ≤ level → taken_at s first taken level < rows_at s level → taken_at s first taken (suc level) < rows_at s (suc level)
room_next s first taken level from room = subst (λ k. k < rows_at s (suc level)) (sym (taken_next s first taken level from)) (room_cases s level (taken_at s first taken level) (nat_lt level s.down) refl room)

-- ---- what a level gives

pub given_count : (s : Split) (level t : ℕ) (l : Level) → IsLevelAt s level t l → length l.hl.items ≡ (if nat_lt level s.down then known_rows t else t)
given_count s level t l at =
    at.state.low ∙ ap (λ d. if d then known_rows l.columns.taken else l.columns.taken) at.deep ∙ ap (λ k. if nat_lt level s.down then known_rows k else k) at.taken

pub given_at : (s : Split) (first taken level : ℕ) (l : Level) → first ≤ level → IsLevelAt s level (taken_at s first taken level) l → length l.hl.items ≡ taken_at s first taken (suc level)
given_at s first taken level l from at = given_count s level (taken_at s first taken level) l at ∙ sym (taken_next s first taken level from)

pub level_more : (s : Split) (level t u : ℕ) (l n : Level) → IsLevelAt s level t l → u ≡ t + 1 → IsLevel n → HasOneMore l.columns n.columns → n.deep ≡ l.deep → IsLevelAt s level u n
level_more s level t u l n at one state more deep = record {
  state = state;
  width = more.width ∙ at.width;
  height = more.height ∙ at.height;
  bits = more.bits ∙ at.bits;
  deep = deep ∙ at.deep;
  taken = more.taken ∙ ap (λ k. k + 1) at.taken ∙ sym one;
}

pub bits_cases : (s : Split) (level : ℕ) (deep : Bool) → nat_lt level s.down ≡ deep → bits_at s level + (if deep then 2 else 1) ≡ bits_at s (suc level)
bits_cases s level true is = let less : level < s.down = ltb-true level s.down is in omega arith
bits_cases s level false is = let more : s.down ≤ level = ltb-false level s.down is in omega arith

pub next_row : (s : Split) (level t : ℕ) (l : Level) (low : List ℤ) → IsLevelAt s level t l → length low ≡ low_count l.columns.width → AllBelow (2 ^ (l.columns.bits + (if l.deep then 2 else 1))) (entries_of low) → IsNextRow s (suc level) low
next_row s level t l low at wide small = record {
  wide = wide ∙ ap low_count at.width;
  small =
      let bits : l.columns.bits + (if l.deep then 2 else 1) ≡ bits_at s (suc level) = ap (λ b. b + (if l.deep then 2 else 1)) at.bits ∙ ap (λ d. bits_at s level + (if d then 2 else 1)) at.deep ∙ bits_cases s level (nat_lt level s.down) refl in
      subst (λ b. AllBelow (2 ^ b) (entries_of low)) bits small;
}

pub kept_cases : (s : Split) (level height : ℕ) (p : ℕ → ℕ → ℤ) (deep : Bool) → nat_lt level s.down ≡ deep → height ≡ rows_at s level → (row : ℕ) → (if deep then low_rows height p else p) row ≡ (if deep then columns_low s level p else p) row
kept_cases s level height p true is tall row =
    let less : level < s.down = ltb-true level s.down is in
    ap (λ h. low_rows h p row) (tall ∙ rows_deep s level (omega (arith, less)))
kept_cases s level height p false is tall row = refl

pub given_part : (s : Split) (level t k : ℕ) (p : ℕ → ℕ → ℤ) (l : Level) (low : List ℤ) → IsLevelAt s level t l → k ≡ length l.hl.items → Shows low (given_rows l (low_part s p level) (length l.hl.items)) → Shows low (low_part s p (suc level) k)
given_part s level t k p l low at count shown =
    let q = low_part s p level in
    let here : kept_rows l q k ≡ columns_kept s level q k = ap (λ d. (if d then low_rows l.columns.height q else q) k) at.deep ∙ kept_cases s level l.columns.height q (nat_lt level s.down) refl at.height k in
    subst (λ f. Shows low (low_of (low_count_at s.width level) f)) here
    (subst (λ w. Shows low (low_of w (kept_rows l q k))) at.width (subst (λ i. Shows low (given_rows l q i)) (sym count) shown))

-- ---- one level of them is changed

pub each_set : (levels : List Level) (at first end : ℕ) (new : Level) (P : ℕ → Level → Type 0) → at < length levels → P at new → ((level : ℕ) (other : Level) → first ≤ level → level < end → level ≢ at → P level (get_or levels level other)) → EachLevel first end (set levels at new) P
each_set levels at first end new P inside here others level other from to =
    elim (cases_eq level at) [
      | inl e ↦ subst (P level) (sym (get_or-set_at levels at level new other e inside)) (subst (λ k. P k new) (sym e) here)
      | inr ne ↦ subst (P level) (sym (get_or-set_other levels at level new other ne)) (others level other from to ne)
    ]

-- ---- on the way

-- The levels from `first` up to `level` took a row more; `row` is what the next one takes.
pub record IsMidway (first place level : ℕ) (old now : Splitter) (begun row : List ℤ) : Type 0 where
  pub from : first ≤ level
  pub to : level ≤ old.across
  pub same : IsSameBefore first old now
  pub low : now.low ≡ old.low
  pub many : length now.levels.items ≡ old.across
  pub done : EachLevel first level now.levels.items (λ i l. IsLevelAt (split_of old) i (taken_at (split_of old) first (place + 1) i) l)
  pub rest : EachLevel level old.across now.levels.items (λ i l. IsLevelAt (split_of old) i (taken_at (split_of old) first place i) l)
  pub next : taken_at (split_of old) first (place + 1) level ≡ taken_at (split_of old) first place level + 1
  pub room : taken_at (split_of old) first place level < rows_at (split_of old) level
  pub fits : IsNextRow (split_of old) level row
  pub holds : (p : ℕ → ℕ → ℤ) (start : ℕ) → HoldsPlane first start p old → Shows begun (low_part (split_of old) p first place) → EachLevel first old.across now.levels.items (λ i l. HoldsRows (rows_beside (split_of old) i start) (low_part (split_of old) p i) l)
  pub shows : (p : ℕ → ℕ → ℤ) (start : ℕ) → HoldsPlane first start p old → Shows begun (low_part (split_of old) p first place) → Shows row (low_part (split_of old) p level (taken_at (split_of old) first place level))

pub midway_first : (first place : ℕ) (old : Splitter) (row : List ℤ) → IsChain first place old → first ≤ old.across → place < rows_at (split_of old) first → IsNextRow (split_of old) first row → IsMidway first place first old old row row
midway_first first place old row chain inside room next =
    let s = split_of old in
    let here = taken_first s first place in
    record {
      from = omega arith;
      to = inside;
      same = record { split = refl; taken = refl; before = λ level other less. refl };
      low = refl;
      many = chain.many;
      done = λ level other from to. absurd (omega (arith, from, to));
      rest = chain.each;
      next = taken_first s first (place + 1) ∙ ap (λ k. k + 1) (sym here);
      room = subst (λ k. k < rows_at s first) (sym here) room;
      fits = next;
      holds = λ p start held shown. held.each;
      shows = λ p start held shown. subst (λ k. Shows row (low_part s p first k)) (sym here) shown;
    }

-- what the next level's taking of the row says
pub record IsTaken (row : List ℤ) (l n : Level) : Type 0 where
  pub more : HasOneMore l.columns n.columns
  pub deep : n.deep ≡ l.deep
  pub state : IsLevel n
  pub holds : (p : ℕ → ℕ → ℤ) (start : ℕ) → HoldsRows start p l → Shows row (p l.columns.taken) → HoldsRows start p n

level_here : (first place level : ℕ) (old now : Splitter) (begun row : List ℤ) (l : Level) → IsMidway first place level old now begun row → level < old.across → l ≡ get_or now.levels.items level l → IsLevelAt (split_of old) level (taken_at (split_of old) first place level) l
level_here first place level old now begun row l m less value = subst (λ x. IsLevelAt (split_of old) level (taken_at (split_of old) first place level) x) (sym value) (m.rest level l (omega arith) less)

taken_here : (first place level : ℕ) (old now : Splitter) (begun row : List ℤ) (l n : Level) (p : ℕ → ℕ → ℤ) (start : ℕ) → IsMidway first place level old now begun row → level < old.across → l ≡ get_or now.levels.items level l → IsTaken row l n
    → HoldsPlane first start p old → Shows begun (low_part (split_of old) p first place) → HoldsRows (rows_beside (split_of old) level start) (low_part (split_of old) p level) n
taken_here first place level old now begun row l n p start m less value taken held shown =
    let s = split_of old in
    let at = level_here first place level old now begun row l m less value in
    taken.holds (low_part s p level) (rows_beside s level start) (subst (λ x. HoldsRows (rows_beside s level start) (low_part s p level) x) (sym value) (m.holds p start held shown level l m.from less)) (subst (λ k. Shows row (low_part s p level k)) (sym at.taken) (m.shows p start held shown))

held_here : (first place level : ℕ) (old now : Splitter) (begun row : List ℤ) (l n : Level) (p : ℕ → ℕ → ℤ) (start : ℕ) → IsMidway first place level old now begun row → level < old.across → l ≡ get_or now.levels.items level l → IsTaken row l n
    → HoldsPlane first start p old → Shows begun (low_part (split_of old) p first place) → EachLevel first old.across (set now.levels.items level n) (λ i x. HoldsRows (rows_beside (split_of old) i start) (low_part (split_of old) p i) x)
held_here first place level old now begun row l n p start m less value taken held shown =
    let many = m.many in
    each_set now.levels.items level first old.across n (λ i x. HoldsRows (rows_beside (split_of old) i start) (low_part (split_of old) p i) x) (omega (arith, less, many)) (taken_here first place level old now begun row l n p start m less value taken held shown)
    (λ i other from to ne. m.holds p start held shown i other from to)

same_here : (first level : ℕ) (old now new : Splitter) (n : Level) → first ≤ level → IsSameBefore first old now → split_of new ≡ split_of now → new.taken ≡ now.taken → new.levels.items ≡ set now.levels.items level n → IsSameBefore first old new
same_here first level old now new n from same split taken levels = record {
  split = split ∙ same.split;
  taken = taken ∙ same.taken;
  before = λ i other less.
      let ne : i ≢ level = omega (arith, less, from) in
      ap (λ xs. get_or xs i other) levels ∙ get_or-set_other now.levels.items level i n other ne ∙ same.before i other less;
}

-- the level gives a row on
pub midway_more : (first place level : ℕ) (old now new : Splitter) (begun row low : List ℤ) (l n : Level) → IsMidway first place level old now begun row → level < old.across → l ≡ get_or now.levels.items level l → IsTaken row l n
    → split_of new ≡ split_of now → new.taken ≡ now.taken → new.low ≡ now.low → new.levels.items ≡ set now.levels.items level n
    → length n.hl.items ≡ length l.hl.items + 1 → length low ≡ low_count l.columns.width → AllBelow (2 ^ (l.columns.bits + (if l.deep then 2 else 1))) (entries_of low)
    → ((p : ℕ → ℕ → ℤ) (start : ℕ) → HoldsRows start p l → Shows row (p l.columns.taken) → Shows low (given_rows l p (length l.hl.items))) → IsMidway first place (suc level) old new begun low
midway_more first place level old now new begun row low l n m less value taken split count lows levels added wide small shows =
    let s = split_of old in
    let at = level_here first place level old now begun row l m less value in
    let after = level_more s level (taken_at s first place level) (taken_at s first (place + 1) level) l n at m.next taken.state taken.more taken.deep in
    let inside : level < length now.levels.items = subst (λ k. level < k) (sym m.many) less in
    let from = m.from in
    let given = given_at s first place level l m.from at in
    let later = given_at s first (place + 1) level n m.from after in
    record {
      from = omega (arith, from);
      to = omega (arith, less);
      same = same_here first level old now new n m.from m.same split count levels;
      low = lows ∙ m.low;
      many = ap length levels ∙ length-set now.levels.items level n ∙ m.many;
      done = subst (λ xs. EachLevel first (suc level) xs (λ i x. IsLevelAt s i (taken_at s first (place + 1) i) x)) (sym levels)
          (each_set now.levels.items level first (suc level) n (λ i x. IsLevelAt s i (taken_at s first (place + 1) i) x) inside after (λ i other above to ne. m.done i other above (omega (arith, to, ne))));
      rest = subst (λ xs. EachLevel (suc level) old.across xs (λ i x. IsLevelAt s i (taken_at s first place i) x)) (sym levels)
          (λ i other above to.
          let ne : i ≢ level = omega (arith, above) in
          subst (λ x. IsLevelAt s i (taken_at s first place i) x) (sym (get_or-set_other now.levels.items level i n other ne)) (m.rest i other (omega (arith, above)) to));
      next = sym later ∙ added ∙ ap (λ k. k + 1) given;
      room = room_next s first place level m.from m.room;
      fits = next_row s level (taken_at s first place level) l low at wide small;
      holds = λ p start held shown. subst (λ xs. EachLevel first old.across xs (λ i x. HoldsRows (rows_beside s i start) (low_part s p i) x)) (sym levels) (held_here first place level old now begun row l n p start m less value taken held shown);
      shows = λ p start held shown. given_part s level (taken_at s first place level) (taken_at s first place (suc level)) p l low at (sym given)
          (shows (low_part s p level) (rows_beside s level start) (subst (λ x. HoldsRows (rows_beside s level start) (low_part s p level) x) (sym value) (m.holds p start held shown level l m.from less)) (subst (λ k. Shows row (low_part s p level k)) (sym at.taken) (m.shows p start held shown)));
    }

pub midway_next : (first place level : ℕ) (old now new : Splitter) (begun row low : List ℤ) (l n : Level) → IsMidway first place level old now begun row → level < old.across → l ≡ get_or now.levels.items level l → IsTaken row l n
    → split_of new ≡ split_of now → new.taken ≡ now.taken → new.low ≡ now.low → new.levels.items ≡ set now.levels.items level n
    → length n.hl.items ≡ length l.hl.items + 1 → length low ≡ low_count l.columns.width → AllBelow (2 ^ (l.columns.bits + (if l.deep then 2 else 1))) (entries_of low)
    → ((p : ℕ → ℕ → ℤ) (start : ℕ) → HoldsRows start p l → Shows row (p l.columns.taken) → Shows low (given_rows l p (length l.hl.items))) → IsMidway first place (level + 1) old new begun low
midway_next first place level old now new begun row low l n m less value taken split count lows levels added wide small shows =
    let one : suc level ≡ level + 1 = omega arith in
    subst (λ k. IsMidway first place k old new begun low) one (midway_more first place level old now new begun row low l n m less value taken split count lows levels added wide small shows)

-- the level gives no row: those after it have all that they can have
pub stopped : (first place level : ℕ) (old now new : Splitter) (begun row : List ℤ) (l n : Level) → IsMidway first place level old now begun row → level < old.across → l ≡ get_or now.levels.items level l → IsTaken row l n
    → split_of new ≡ split_of now → new.low ≡ now.low → new.levels.items ≡ set now.levels.items level n → length n.hl.items ≡ length l.hl.items → IsChain first place old → IsChain first (place + 1) new
stopped first place level old now new begun row l n m less value taken split lows levels none chain =
    let s = split_of old in
    let at = level_here first place level old now begun row l m less value in
    let after = level_more s level (taken_at s first place level) (taken_at s first (place + 1) level) l n at m.next taken.state taken.more taken.deep in
    let inside : level < length now.levels.items = subst (λ k. level < k) (sym m.many) less in
    let from = m.from in
    let equal : taken_at s first (place + 1) (suc level) ≡ taken_at s first place (suc level) = sym (given_at s first (place + 1) level n m.from after) ∙ none ∙ given_at s first place level l m.from at in
    subst (λ t. AreChained t first (place + 1) new.levels.items new.low.items) (sym (split ∙ m.same.split)) (record {
      split = chain.split;
      few = chain.few;
      many = ap length levels ∙ length-set now.levels.items level n ∙ m.many;
      each = subst (λ xs. EachLevel first old.across xs (λ i x. IsLevelAt s i (taken_at s first (place + 1) i) x)) (sym levels)
          (each_set now.levels.items level first old.across n (λ i x. IsLevelAt s i (taken_at s first (place + 1) i) x) inside after
          (λ i other above to ne.
          elim (cases_lt i level) [
            | inl before ↦ m.done i other above before
            | inr past ↦
                let there : taken_at s first (place + 1) i ≡ taken_at s first place i = taken_past s first (place + 1) place (suc level) i (omega (arith, from)) (omega (arith, past, ne)) equal in
                subst (λ k. IsLevelAt s i k (get_or now.levels.items i other)) (sym there) (m.rest i other past to)
          ]));
      given = ap (λ v. length v.items) (lows ∙ m.low) ∙ chain.given ∙ sym (taken_past s first (place + 1) place (suc level) old.across (omega (arith, from)) (omega (arith, less)) equal);
    })

pub stopped_same : (first place level : ℕ) (old now new : Splitter) (begun row : List ℤ) (n : Level) → IsMidway first place level old now begun row → split_of new ≡ split_of now → new.taken ≡ now.taken → new.levels.items ≡ set now.levels.items level n → IsSameBefore first old new
stopped_same first place level old now new begun row n m split count levels = same_here first level old now new n m.from m.same split count levels

pub stopped_holds : (first place level : ℕ) (old now new : Splitter) (begun row : List ℤ) (l n : Level) (p : ℕ → ℕ → ℤ) (start : ℕ) → IsMidway first place level old now begun row → level < old.across → l ≡ get_or now.levels.items level l → IsTaken row l n
    → split_of new ≡ split_of now → new.low ≡ now.low → new.levels.items ≡ set now.levels.items level n → HoldsPlane first start p old → Shows begun (low_part (split_of old) p first place) → HoldsPlane first start p new
stopped_holds first place level old now new begun row l n p start m less value taken split lows levels held shown =
    let s = split_of old in
    subst (λ t. HoldPlane t first start p new.levels.items new.low.items) (sym (split ∙ m.same.split)) (record {
      each = subst (λ xs. EachLevel first old.across xs (λ i x. HoldsRows (rows_beside s i start) (low_part s p i) x)) (sym levels) (held_here first place level old now begun row l n p start m less value taken held shown);
      lowest = subst (λ v. ShowRows start (low_count_at s.width s.across) v.items (low_part s p old.across)) (sym (lows ∙ m.low)) held.lowest;
    })

-- the last level gives a row
pub ended : (first place level : ℕ) (old now new : Splitter) (begun row : List ℤ) → IsMidway first place level old now begun row → level ≡ old.across → split_of new ≡ split_of now → new.levels ≡ now.levels → new.low.items ≡ now.low.items ++ row ∷ [] → IsChain first place old
    → IsChain first (place + 1) new
ended first place level old now new begun row m all split levels lows chain =
    let s = split_of old in
    let more : new.low.items ≡ old.low.items ++ row ∷ [] = lows ∙ ap (λ v. v.items ++ row ∷ []) m.low in
    let last : length old.low.items ≡ taken_at s first place level = chain.given ∙ ap (taken_at s first place) (sym all) in
    subst (λ t. AreChained t first (place + 1) new.levels.items new.low.items) (sym (split ∙ m.same.split)) (record {
      split = chain.split;
      few = chain.few;
      many = ap (λ v. length v.items) levels ∙ m.many;
      each = subst (λ v. EachLevel first old.across v.items (λ i x. IsLevelAt s i (taken_at s first (place + 1) i) x)) (sym levels) (subst (λ k. EachLevel first k now.levels.items (λ i x. IsLevelAt s i (taken_at s first (place + 1) i) x)) all m.done);
      given = one_added old.low.items new.low.items row more ∙ ap (λ k. k + 1) last ∙ sym m.next ∙ ap (taken_at s first (place + 1)) all;
    })

pub ended_same : (first place level : ℕ) (old now new : Splitter) (begun row : List ℤ) → IsMidway first place level old now begun row → split_of new ≡ split_of now → new.taken ≡ now.taken → new.levels ≡ now.levels → IsSameBefore first old new
ended_same first place level old now new begun row m split count levels = record {
  split = split ∙ m.same.split;
  taken = count ∙ m.same.taken;
  before = λ i other less. ap (λ v. get_or v.items i other) levels ∙ m.same.before i other less;
}

pub ended_holds : (first place level : ℕ) (old now new : Splitter) (begun row : List ℤ) (p : ℕ → ℕ → ℤ) (start : ℕ) → IsMidway first place level old now begun row → level ≡ old.across → split_of new ≡ split_of now → new.levels ≡ now.levels → new.low.items ≡ now.low.items ++ row ∷ []
    → IsChain first place old → HoldsPlane first start p old → Shows begun (low_part (split_of old) p first place) → HoldsPlane first start p new
ended_holds first place level old now new begun row p start m all split levels lows chain held shown =
    let s = split_of old in
    let more : new.low.items ≡ old.low.items ++ row ∷ [] = lows ∙ ap (λ v. v.items ++ row ∷ []) m.low in
    let last : taken_at s first place level ≡ length old.low.items = sym (chain.given ∙ ap (taken_at s first place) (sym all)) in
    let seen : Shows row (low_part s p old.across (length old.low.items)) = subst (λ k. Shows row (low_part s p old.across k)) last (subst (λ k. Shows row (low_part s p k (taken_at s first place level))) all (m.shows p start held shown)) in
    subst (λ t. HoldPlane t first start p new.levels.items new.low.items) (sym (split ∙ m.same.split)) (record {
      each = subst (λ v. EachLevel first old.across v.items (λ i x. HoldsRows (rows_beside s i start) (low_part s p i) x)) (sym levels) (m.holds p start held shown);
      lowest = rows_added start (low_count_at s.width s.across) old.low.items new.low.items row (low_part s p old.across) more held.lowest (m.fits.wide ∙ ap (low_count_at s.width) all) seen;
    })

-- ---- before the first row

pub none_taken : (s : Split) (first level : ℕ) → taken_at s first 0 level ≡ 0
none_taken s first zero = refl
none_taken s first (suc level) = none_cases s level (nat_lt level first) (nat_lt level s.down) (taken_at s first 0 level) (none_taken s first level)
  where
    none_cases : (s : Split) (level : ℕ) (early deep : Bool) (t : ℕ) → t ≡ 0 → (if early then 0 else (if deep then known_rows t else t)) ≡ 0
    none_cases s level true deep t none = refl
    none_cases s level false true t none = ap known_rows none
    none_cases s level false false t none = none
