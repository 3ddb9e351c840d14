-- Rows that were given up are not missed by who looks past them.
use Rattle.std.proofs.Common.{◌≡◌, ◌≢◌, ℕ, ◌+◌, ◌-◌, ◌*◌, ◌^◌, ◌<◌, ◌≤◌, [], min, List, length, length-set, get_or, get_or-set_other, ℤ, arith, ap, sym, subst, ◌∙◌, inl, inr, refl}
use Rattle.std.proofs.Math.ListN.{set}
use Rattle.std.proofs.lemmas.Bool.{cases_eq, cases_lt}
use Rattle.std.proofs.lemmas.Grind.{get_or-set_at}
use Rattle.std.proofs.lemmas.List.{get_or_default, get_or_past}
use Rattle.std.proofs.lemmas.Nat.{mul-le}
use Rattle.xs_signal.specs.Lines.{Shows}
use Rattle.xs_signal.specs.Wavelet.{Split, low_part}
use Rattle.xs_splitter.specs.Level.{IsLevel, HoldsRows, HoldsBands, IsSameLevel, ShowRows, AreGivenUp, HasGivenUp}
use Rattle.xs_splitter.specs.Columns.{IsColumns, HoldsLast}
use Rattle.xs_splitter.specs.Chain.{split_of, rows_beside, IsLevelAt, IsDoneAt, EachLevel, IsChain, AreChained, HasAll, HaveAll, HasForgotten, HoldsPlane, HoldPlane, HoldBands}
use Rattle.xs_splitter.specs.declared.level.Level.{Level}
use Rattle.xs_splitter.specs.declared.splitter.Splitter.{Splitter}
use Rattle.xs_splitter.proofs.Bands.{hl_same, lh_same, hh_same}

-- ---- rows are given up one by one

-- those from `first` up to `row` were; those up to `stop` are to be
pub record IsGivingUp (first stop row : ℕ) (old now : List (List ℤ)) : Type 0 where
  pub from : first ≤ row
  pub to : first < row → row ≤ stop
  pub rows : AreGivenUp first row old now

pub giving_first : (first stop : ℕ) (old : List (List ℤ)) → IsGivingUp first stop first old old
giving_first first stop old = record {
  from = omega arith;
  to = λ more. absurd (omega (arith, more));
  rows = record { many = refl; empty = λ k above below. absurd (omega (arith, above, below)); before = λ k below. refl; after = λ k above. refl };
}

pub giving_more : (first stop row : ℕ) (old now new : List (List ℤ)) → IsGivingUp first stop row old now → row < stop → row < length now → new ≡ set now row [] → IsGivingUp first stop (row + 1) old new
giving_more first stop row old now new g less inside made = subst (IsGivingUp first stop (row + 1) old) (sym made) (record {
  from = omega (arith, g.from);
  to = λ more. omega (arith, less);
  rows = record {
    many = length-set now row [] ∙ g.rows.many;
    empty = λ k above below.
        elim (cases_eq k row) [
          | inl is ↦ get_or-set_at now row k [] [] is inside
          | inr other ↦ get_or-set_other now row k [] [] other ∙ g.rows.empty k above (omega (arith, below, other))
        ];
    before = λ k below. get_or-set_other now row k [] [] (omega (arith, below, g.from)) ∙ g.rows.before k below;
    after = λ k above. get_or-set_other now row k [] [] (omega (arith, above)) ∙ g.rows.after k (omega (arith, above));
  };
})

pub giving_all : (first end stop row : ℕ) (old new : List (List ℤ)) → IsGivingUp first stop row old new → stop ≤ row → stop ≡ min end (length old) → AreGivenUp first end old new
giving_all first end stop row old new g done is = record {
  many = g.rows.many;
  empty = λ k above below.
      elim (cases_lt k row) [
        | inl less ↦ g.rows.empty k above less
        | inr past ↦ get_or_past new k [] (omega (arith, past, done, is, below, g.rows.many))
      ];
  before = g.rows.before;
  after = λ k above.
      elim (cases_lt k row) [
        | inl less ↦
            elim (cases_lt first row) [
              | inl more ↦ absurd (omega (arith, less, above, g.to more, is))
              | inr none ↦ g.rows.before k (omega (arith, less, none))
            ]
        | inr past ↦ g.rows.after k past
      ];
}

-- ---- the rows after them

rows_later : (from later width : ℕ) (rows : List (List ℤ)) (q : ℕ → ℕ → ℤ) → from ≤ later → ShowRows from width rows q → ShowRows later width rows q
rows_later from later width rows q more held = record { wide = λ k above inside. held.wide k (omega (arith, above, more)) inside; shown = λ k above inside. held.shown k (omega (arith, above, more)) inside }

rows_left : (first end from width : ℕ) (old new : List (List ℤ)) (q : ℕ → ℕ → ℤ) → end ≤ from → AreGivenUp first end old new → ShowRows from width old q → ShowRows from width new q
rows_left first end from width old new q past g held = record {
  wide = λ k above inside. ap length (g.after k (omega (arith, above, past))) ∙ held.wide k above (subst (λ n. k < n) g.many inside);
  shown = λ k above inside. subst (λ r. Shows r (q k)) (sym (g.after k (omega (arith, above, past)))) (held.shown k above (subst (λ n. k < n) g.many inside));
}

beside_later : (s : Split) (level count more : ℕ) → count ≤ more → rows_beside s level count ≤ rows_beside s level more
beside_later s level count more less =
    let each = 2 ^ (s.down - min (level + 1) s.down) in
    mul-le count each more each less (omega arith)

-- ---- a level

bands_later : (from later : ℕ) (p : ℕ → ℕ → ℤ) (l : Level) → from ≤ later → HoldsBands from p l → HoldsBands later p l
bands_later from later p l more held = record { hl = rows_later from later _ _ _ more held.hl; lh = rows_later from later _ _ _ more held.lh; hh = rows_later from later _ _ _ more held.hh }

same_level : (first end : ℕ) (l n : Level) → HasGivenUp first end l n → IsSameLevel l n
same_level first end l n g = record { width = ap (λ m. m.width) g.columns; height = ap (λ m. m.height) g.columns; bits = ap (λ m. m.bits) g.columns; deep = g.deep }

bands_left : (first end from : ℕ) (p : ℕ → ℕ → ℤ) (l n : Level) → end ≤ from → HasGivenUp first end l n → HoldsBands from p l → HoldsBands from p n
bands_left first end from p l n past g held =
    let same = same_level first end l n g in
    record {
      hl = hl_same from l n p n.hl.items same (rows_left first end from _ _ _ _ past g.hl held.hl);
      lh = lh_same from l n p n.lh.items same (rows_left first end from _ _ _ _ past g.lh held.lh);
      hh = hh_same from l n p n.hh.items same (rows_left first end from _ _ _ _ past g.hh held.hh);
    }

level_left : (first end from : ℕ) (p : ℕ → ℕ → ℤ) (l n : Level) → end ≤ from → HasGivenUp first end l n → HoldsRows from p l → HoldsRows from p n
level_left first end from p l n past g held = record {
  last = λ deep. subst (λ c. HoldsLast p c) (sym g.columns) (held.last (sym g.deep ∙ deep));
  bands = bands_left first end from p l n past g held.bands;
}

level_state : (first end : ℕ) (l n : Level) → HasGivenUp first end l n → IsLevel l → IsLevel n
level_state first end l n g s = record {
  two = subst (λ c. 2 ≤ c.width) (sym g.columns) s.two;
  bits = subst (λ c. c.bits ≤ 26) (sym g.columns) s.bits;
  columns = λ deep. subst (λ c. IsColumns c) (sym g.columns) (s.columns (sym g.deep ∙ deep));
  low = cc (g.hl.many, s.low, g.columns, g.deep);
  lh = λ deep. cc (g.lh.many, s.lh (sym g.deep ∙ deep), g.columns);
  hh = λ deep. cc (g.hh.many, s.hh (sym g.deep ∙ deep), g.columns);
}

level_at : (s : Split) (level count first end : ℕ) (l n : Level) → HasGivenUp first end l n → IsLevelAt s level count l → IsLevelAt s level count n
level_at s level count first end l n g at = record {
  state = level_state first end l n g at.state;
  width = ap (λ c. c.width) g.columns ∙ at.width;
  height = ap (λ c. c.height) g.columns ∙ at.height;
  bits = ap (λ c. c.bits) g.columns ∙ at.bits;
  deep = g.deep ∙ at.deep;
  taken = ap (λ c. c.taken) g.columns ∙ at.taken;
}

level_done : (s : Split) (level first end : ℕ) (l n : Level) → HasGivenUp first end l n → IsDoneAt s level l → IsDoneAt s level n
level_done s level first end l n g at = record {
  width = ap (λ c. c.width) g.columns ∙ at.width;
  height = ap (λ c. c.height) g.columns ∙ at.height;
  deep = g.deep ∙ at.deep;
  all = record { hl = cc (g.hl.many, at.all.hl, g.columns); lh = cc (g.lh.many, at.all.lh, g.columns); hh = cc (g.hh.many, at.all.hh, g.columns) };
}

-- ---- all levels

-- what holds of each level and is kept where its rows are given up
each_left : (first end from to : ℕ) (old new : Splitter) (P : ℕ → Level → Type 0) → HasForgotten first end old new
    → ((level : ℕ) (l n : Level) → HasGivenUp (rows_beside (split_of old) level first) (rows_beside (split_of old) level end) l n → P level l → P level n)
    → EachLevel from to old.levels.items P → EachLevel from to new.levels.items P
each_left first end from to old new P f keep held level other above below =
    elim (cases_lt level (length old.levels.items)) [
      | inl inside ↦ keep level (get_or old.levels.items level other) (get_or new.levels.items level other) (f.each level other inside) (held level other above below)
      | inr past ↦
          let before = get_or_past old.levels.items level other past in
          let after = get_or_past new.levels.items level other (omega (arith, past, f.many)) in
          subst (P level) (before ∙ sym after) (held level other above below)
    ]

pub chain_left : (first end k taken : ℕ) (old new : Splitter) → split_of new ≡ split_of old → HasForgotten first end old new → IsChain k taken old → IsChain k taken new
chain_left first end k taken old new split f chain =
    let s = split_of old in
    subst (λ t. AreChained t k taken new.levels.items new.low.items) (sym split) (record {
      split = chain.split;
      few = chain.few;
      many = f.many ∙ chain.many;
      each = each_left first end k s.across old new _ f (λ level l n g at. level_at s level _ _ _ l n g at) chain.each;
      given = f.lowest.many ∙ chain.given;
    })

pub all_left : (first end : ℕ) (old new : Splitter) → split_of new ≡ split_of old → HasForgotten first end old new → HasAll old → HasAll new
all_left first end old new split f all =
    let s = split_of old in
    subst (λ t. HaveAll t new.levels.items new.low.items) (sym split) (record {
      many = f.many ∙ all.many;
      done = each_left first end 0 s.down old new _ f (λ level l n g at. level_done s level _ _ l n g at) all.done;
      rest = each_left first end s.down s.across old new _ f (λ level l n g at. level_at s level _ _ _ l n g at) all.rest;
      given = f.lowest.many ∙ all.given;
    })

pub plane_left : (first end k from : ℕ) (old new : Splitter) (p : ℕ → ℕ → ℤ) → split_of new ≡ split_of old → HasForgotten first end old new → end ≤ from → HoldsPlane k from p old → HoldsPlane k from p new
plane_left first end k from old new p split f past held =
    let s = split_of old in
    subst (λ t. HoldPlane t k from p new.levels.items new.low.items) (sym split) (record {
      each = each_left first end k s.across old new _ f (λ level l n g is. level_left _ _ _ (low_part s p level) l n (beside_later s level end from past) g is) held.each;
      lowest = rows_left first end from _ _ _ _ past f.lowest held.lowest;
    })

pub held_left : (first end from : ℕ) (old new : Splitter) (p : ℕ → ℕ → ℤ) → split_of new ≡ split_of old → HasForgotten first end old new → end ≤ from → HoldBands (split_of old) from p old.levels.items old.low.items
    → HoldBands (split_of new) from p new.levels.items new.low.items
held_left first end from old new p split f past held =
    let s = split_of old in
    subst (λ t. HoldBands t from p new.levels.items new.low.items) (sym split) (record {
      each = each_left first end 0 s.across old new _ f (λ level l n g is. bands_left _ _ _ (low_part s p level) l n (beside_later s level end from past) g is) held.each;
      lowest = rows_left first end from _ _ _ _ past f.lowest held.lowest;
    })

-- what is held from a row on is held from each later one
pub plane_later : (first from later : ℕ) (p : ℕ → ℕ → ℤ) (c : Splitter) → HoldsPlane first from p c → from ≤ later → HoldsPlane first later p c
plane_later first from later p c held more =
    let s = split_of c in
    record {
      each = λ level other above below.
          let is = held.each level other above below in
          record { last = is.last; bands = bands_later _ _ _ _ (beside_later s level from later more) is.bands };
      lowest = rows_later from later _ _ _ more held.lowest;
    }

pub held_later : (from later : ℕ) (p : ℕ → ℕ → ℤ) (c : Splitter) → HoldBands (split_of c) from p c.levels.items c.low.items → from ≤ later → HoldBands (split_of c) later p c.levels.items c.low.items
held_later from later p c held more =
    let s = split_of c in
    record {
      each = λ level other above below. bands_later _ _ _ _ (beside_later s level from later more) (held.each level other above below);
      lowest = rows_later from later _ _ _ more held.lowest;
    }

-- ---- level by level

-- the levels before this one gave up their rows
pub record IsForgetting (first end level : ℕ) (old now : Splitter) : Type 0 where
  pub split : split_of now ≡ split_of old
  pub taken : now.taken ≡ old.taken
  pub low : now.low ≡ old.low
  pub many : length now.levels.items ≡ length old.levels.items
  pub done : (i : ℕ) (other : Level) → i < level → HasGivenUp (rows_beside (split_of old) i first) (rows_beside (split_of old) i end) (get_or old.levels.items i other) (get_or now.levels.items i other)
  pub rest : (i : ℕ) (other : Level) → level ≤ i → get_or now.levels.items i other ≡ get_or old.levels.items i other

pub forgetting_first : (first end : ℕ) (old : Splitter) → IsForgetting first end 0 old old
forgetting_first first end old = record { split = refl; taken = refl; low = refl; many = refl; done = λ i other less. absurd (omega (arith, less)); rest = λ i other above. refl }

pub forgetting_next : (first end level each : ℕ) (old now new : Splitter) (l n : Level) → IsForgetting first end level old now → level < length now.levels.items → l ≡ get_or now.levels.items level l → each ≡ rows_beside (split_of now) level 1
    → HasGivenUp (first * each) (end * each) l n → split_of new ≡ split_of now → new.taken ≡ now.taken → new.low ≡ now.low → new.levels.items ≡ set now.levels.items level n → IsForgetting first end (level + 1) old new
forgetting_next first end level each old now new l n f inside value number g split taken low levels =
    let s = split_of old in
    let many : each ≡ 2 ^ (s.down - min (level + 1) s.down) = subst (λ t. each ≡ 2 ^ (t.down - min (level + 1) t.down)) f.split (omega (arith, number)) in
    record {
      split = split ∙ f.split;
      taken = taken ∙ f.taken;
      low = low ∙ f.low;
      many = ap length levels ∙ length-set now.levels.items level n ∙ f.many;
      done = λ i other less.
          elim (cases_eq i level) [
            | inl is ↦
                let from : get_or old.levels.items level other ≡ l = sym (f.rest level other (omega arith)) ∙ get_or_default now.levels.items level other l inside ∙ sym value in
                let to : get_or new.levels.items level other ≡ n = ap (λ xs. get_or xs level other) levels ∙ get_or-set_at now.levels.items level level n other refl inside in
                subst (λ k. HasGivenUp (rows_beside s k first) (rows_beside s k end) (get_or old.levels.items k other) (get_or new.levels.items k other)) (sym is)
                (subst (λ e. HasGivenUp (first * e) (end * e) (get_or old.levels.items level other) (get_or new.levels.items level other)) many
                (subst (λ x. HasGivenUp (first * each) (end * each) x (get_or new.levels.items level other)) (sym from) (subst (λ x. HasGivenUp (first * each) (end * each) l x) (sym to) g)))
            | inr ne ↦
                let kept : get_or new.levels.items i other ≡ get_or now.levels.items i other = ap (λ xs. get_or xs i other) levels ∙ get_or-set_other now.levels.items level i n other ne in
                subst (λ x. HasGivenUp (rows_beside s i first) (rows_beside s i end) (get_or old.levels.items i other) x) (sym kept) (f.done i other (omega (arith, less, ne)))
          ];
      rest = λ i other above.
          let ne : i ≢ level = omega (arith, above) in
          ap (λ xs. get_or xs i other) levels ∙ get_or-set_other now.levels.items level i n other ne ∙ f.rest i other (omega (arith, above));
    }

pub forgotten : (first end level : ℕ) (old now new : Splitter) → IsForgetting first end level old now → length old.levels.items ≤ level → new.levels ≡ now.levels → AreGivenUp first end now.low.items new.low.items → HasForgotten first end old new
forgotten first end level old now new f all levels lows = record {
  many = ap (λ v. length v.items) levels ∙ f.many;
  each = λ i other less.
      subst (λ v. HasGivenUp (rows_beside (split_of old) i first) (rows_beside (split_of old) i end) (get_or old.levels.items i other) (get_or v.items i other)) (sym levels) (f.done i other (omega (arith, less, all)));
  lowest = subst (λ v. AreGivenUp first end v.items new.low.items) f.low lows;
}
