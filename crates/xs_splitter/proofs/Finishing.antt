-- After the last row: level by level the last rows become known.
use Rattle.std.proofs.Common.{◌≡◌, ◌≢◌, ℕ, zero, suc, ◌+◌, ◌<◌, ◌≤◌, min, List, length, length-set, get_or, get_or-set_other, ℤ, nat_lt, if◌then◌else◌, arith, ap, sym, subst, ◌∙◌, inl, inr, refl}
use Rattle.std.proofs.Math.ListN.{set}
use Rattle.std.proofs.lemmas.Bool.{cases_lt, lt-ltb, le-ltb}
use Rattle.xs_signal.specs.Lines.{Shows}
use Rattle.xs_signal.specs.Wavelet.{Split, low_count, low_count_at, low_part}
use Rattle.xs_signal.specs.Stripe.{rows_at}
use Rattle.xs_splitter.specs.Level.{HoldsRows, HoldsBands, HasAllRows, IsSameLevel, given_rows, known_rows}
use Rattle.xs_splitter.specs.Chain.{split_of, rows_beside, taken_at, IsLevelAt, IsDoneAt, EachLevel, AreChained, HasAll, HaveAll, HoldsPlane, HoldPlane, HoldBands, IsSameBefore, IsChain}
use Rattle.xs_splitter.specs.declared.level.Level.{Level}
use Rattle.xs_splitter.specs.declared.splitter.Splitter.{Splitter}
use Rattle.xs_splitter.proofs.Chains.{taken_first, taken_next, given_count, given_part, each_set, rows_deep}

shift_first : (s : Split) (level rows : ℕ) → level < s.down → taken_at s level rows (suc level) ≡ taken_at s (suc level) (known_rows rows) (suc level)
shift_first s level rows less =
    taken_next s level rows level (omega arith) ∙ ap (λ d. if d then known_rows (taken_at s level rows level) else taken_at s level rows level) (lt-ltb level s.down less) ∙ ap known_rows (taken_first s level rows) ∙ sym (taken_first s (suc level) (known_rows rows))

shift : (s : Split) (level rows i : ℕ) → level < s.down → suc level ≤ i → taken_at s level rows i ≡ taken_at s (suc level) (known_rows rows) i
shift s level rows zero less past = absurd (omega (arith, past))
shift s level rows (suc i) less past =
    elim (cases_lt level i) [
      | inl more ↦
          let before = shift s level rows i less (omega (arith, more)) in
          taken_next s level rows i (omega (arith, more)) ∙ ap (λ t. if nat_lt i s.down then known_rows t else t) before ∙ sym (taken_next s (suc level) (known_rows rows) i (omega (arith, more)))
      | inr last ↦
          let here : level ≡ i = omega (arith, last, past) in
          subst (λ j. taken_at s level rows (suc j) ≡ taken_at s (suc level) (known_rows rows) (suc j)) here (shift_first s level rows less)
    ]

mid_suc : (s : Split) (level rows : ℕ) (levels : List Level) (n : Level) (low : List (List ℤ)) → AreChained s level rows levels low → level < s.down → AreChained s (suc level) (known_rows rows) (set levels level n) low
mid_suc s level rows levels n low chain less =
    let deep = chain.split.deep in
    record {
      split = chain.split;
      few = chain.few;
      many = length-set levels level n ∙ chain.many;
      each = λ i other above to.
          let ne : i ≢ level = omega (arith, above) in
          subst (λ x. IsLevelAt s i (taken_at s (suc level) (known_rows rows) i) x) (sym (get_or-set_other levels level i n other ne))
          (subst (λ k. IsLevelAt s i k (get_or levels i other)) (shift s level rows i less above) (chain.each i other (omega (arith, above)) to));
      given = chain.given ∙ shift s level rows s.across less (omega (arith, less, deep));
    }

-- what is left to the levels after this one
pub mid_chain : (s : Split) (level next rows : ℕ) (levels : List Level) (n : Level) (low : List (List ℤ)) → next ≡ suc level → AreChained s level rows levels low → level < s.down → AreChained s next (known_rows rows) (set levels level n) low
mid_chain s level next rows levels n low is chain less = subst (λ k. AreChained s k (known_rows rows) (set levels level n) low) (sym is) (mid_suc s level rows levels n low chain less)

pub mid_plane : (s : Split) (level next start : ℕ) (p : ℕ → ℕ → ℤ) (levels : List Level) (n : Level) (low : List (List ℤ)) → next ≡ suc level → HoldPlane s level start p levels low → HoldPlane s next start p (set levels level n) low
mid_plane s level next start p levels n low is held = record {
  each = λ i other above to.
      let ne : i ≢ level = omega (arith, above, is) in
      subst (λ x. HoldsRows (rows_beside s i start) (low_part s p i) x) (sym (get_or-set_other levels level i n other ne)) (held.each i other (omega (arith, above, is)) to);
  lowest = held.lowest;
}

pub room_after : (s : Split) (level next rows : ℕ) → next ≡ suc level → level < s.down → rows ≡ rows_at s level → 1 ≤ rows → known_rows rows < rows_at s next
room_after s level next rows is less all some =
    let here = rows_deep s level (omega (arith, less)) in
    let after = rows_deep s (suc level) (omega (arith, less)) in
    subst (λ k. known_rows rows < rows_at s k) (sym is) (omega (arith, here, after, all, some))

pub rows_after : (s : Split) (level next rows : ℕ) → next ≡ suc level → level < s.down → rows ≡ rows_at s level → 1 ≤ rows → known_rows rows + 1 ≡ rows_at s next
rows_after s level next rows is less all some =
    let here = rows_deep s level (omega (arith, less)) in
    let after = rows_deep s (suc level) (omega (arith, less)) in
    let sum : known_rows rows + 1 ≡ low_count (low_count_at s.height level) = omega (arith, here, all, some) in
    sum ∙ sym after ∙ ap (rows_at s) (sym is)

-- The levels before this one are done; this one was given all its rows.
pub record IsFinishing (level rows : ℕ) (old now : Splitter) : Type 0 where
  pub to : level ≤ old.down
  pub split : split_of now ≡ split_of old
  pub all : rows ≡ rows_at (split_of old) level
  pub chain : AreChained (split_of old) level rows now.levels.items now.low.items
  pub done : EachLevel 0 level now.levels.items (λ i l. IsDoneAt (split_of old) i l)
  pub holds : (p : ℕ → ℕ → ℤ) (start : ℕ) → HoldsPlane 0 start p old → HoldPlane (split_of old) level start p now.levels.items now.low.items
  pub bands : (p : ℕ → ℕ → ℤ) (start : ℕ) → HoldsPlane 0 start p old → EachLevel 0 level now.levels.items (λ i l. HoldsBands (rows_beside (split_of old) i start) (low_part (split_of old) p i) l)

pub level_now : (level rows : ℕ) (old now : Splitter) (l : Level) → IsFinishing level rows old now → level < old.down → l ≡ get_or now.levels.items level l → IsLevelAt (split_of old) level rows l
level_now level rows old now l f less value =
    let s = split_of old in
    let deep = f.chain.split.deep in
    subst (λ k. IsLevelAt s level k l) (taken_first s level rows) (subst (λ x. IsLevelAt s level (taken_at s level rows level) x) (sym value) (f.chain.each level l (omega arith) (omega (arith, less, deep))))

pub finish_next : (level next rows : ℕ) (old now mid new : Splitter) (l n : Level) (low : List ℤ) → next ≡ suc level → IsFinishing level rows old now → level < old.down → l ≡ get_or now.levels.items level l
    → split_of mid ≡ split_of now → mid.levels.items ≡ set now.levels.items level n → mid.low ≡ now.low → IsSameLevel l n → HasAllRows n → ((p : ℕ → ℕ → ℤ) (start : ℕ) → HoldsRows start p l → HoldsBands start p n)
    → ((p : ℕ → ℕ → ℤ) (start : ℕ) → HoldsRows start p l → Shows low (given_rows l p (length l.hl.items))) → IsChain next (known_rows rows + 1) new → IsSameBefore next mid new
    → ((p : ℕ → ℕ → ℤ) (start : ℕ) → HoldsPlane next start p mid → Shows low (low_part (split_of mid) p next (known_rows rows)) → HoldsPlane next start p new) → 1 ≤ rows → IsFinishing next (known_rows rows + 1) old new
finish_next level next rows old now mid new l n low is f less value split levels lows same all bands shows chain before holds some =
    let s = split_of old in
    let deep = f.chain.split.deep in
    let inside : level < length now.levels.items = omega (arith, less, deep, f.chain.many) in
    let at = level_now level rows old now l f less value in
    let to_mid : split_of mid ≡ s = split ∙ f.split in
    let to_new : split_of new ≡ s = before.split ∙ to_mid in
    let count : known_rows rows ≡ length l.hl.items = sym (given_count s level rows l at ∙ ap (λ d. if d then known_rows rows else rows) (lt-ltb level s.down less)) in
    let here : IsDoneAt s level n = record { width = same.width ∙ at.width; height = same.height ∙ at.height; deep = same.deep ∙ at.deep; all = all } in
    let held_level = λ (p : ℕ → ℕ → ℤ) (start : ℕ) (held : HoldsPlane 0 start p old). subst (λ x. HoldsRows (rows_beside s level start) (low_part s p level) x) (sym value) ((f.holds p start held).each level l (omega arith) (omega (arith, less, deep))) in
    record {
      to = omega (arith, is, less);
      split = to_new;
      all = rows_after s level next rows is less f.all some;
      chain = subst (λ t. AreChained t next (known_rows rows + 1) new.levels.items new.low.items) to_new chain;
      done = λ i other from to. subst (λ x. IsDoneAt s i x) (sym (before.before i other to ∙ ap (λ xs. get_or xs i other) levels))
          (each_set now.levels.items level 0 next n (λ j x. IsDoneAt s j x) inside here (λ j d above below ne. f.done j d above (omega (arith, below, ne, is))) i other from to);
      holds = λ p start held.
          let middle : HoldsPlane next start p mid = subst (λ t. HoldPlane t next start p mid.levels.items mid.low.items) (sym to_mid) (subst (λ xs. HoldPlane s next start p xs mid.low.items) (sym levels) (subst (λ v. HoldPlane s next start p (set now.levels.items level n) v.items) (sym lows) (mid_plane s level next start p now.levels.items n now.low.items is (f.holds p start held)))) in
          let part : Shows low (low_part s p (suc level) (known_rows rows)) = given_part s level rows (known_rows rows) p l low at count (shows (low_part s p level) (rows_beside s level start) (held_level p start held)) in
          let seen : Shows low (low_part (split_of mid) p next (known_rows rows)) = subst (λ t. Shows low (low_part t p next (known_rows rows))) (sym to_mid) (subst (λ k. Shows low (low_part s p k (known_rows rows))) (sym is) part) in
          subst (λ t. HoldPlane t next start p new.levels.items new.low.items) to_new (holds p start middle seen);
      bands = λ p start held i other from to. subst (λ x. HoldsBands (rows_beside s i start) (low_part s p i) x) (sym (before.before i other to ∙ ap (λ xs. get_or xs i other) levels))
          (each_set now.levels.items level 0 next n (λ j x. HoldsBands (rows_beside s j start) (low_part s p j) x) inside (bands (low_part s p level) (rows_beside s level start) (held_level p start held)) (λ j d above below ne. f.bands p start held j d above (omega (arith, below, ne, is))) i other from to);
    }

flat_past : (s : Split) (taken level : ℕ) → s.down ≤ level → taken_at s s.down taken level ≡ taken
flat_past s taken zero past = refl
flat_past s taken (suc level) past =
    elim (cases_lt level s.down) [
      | inl less ↦ let last : suc level ≡ s.down = omega (arith, less, past) in subst (λ k. taken_at s s.down taken k ≡ taken) (sym last) (taken_first s s.down taken)
      | inr more ↦ taken_next s s.down taken level more ∙ ap (λ d. if d then known_rows (taken_at s s.down taken level) else taken_at s s.down taken level) (le-ltb level s.down more) ∙ flat_past s taken level more
    ]

rows_flat : (s : Split) (level : ℕ) → s.down ≤ level → rows_at s s.down ≡ rows_at s level
rows_flat s level past = let same : min s.down s.down ≡ min level s.down = omega (arith, past) in ap (low_count_at s.height) same

all_known : (s : Split) (rows level : ℕ) → rows ≡ rows_at s s.down → s.down ≤ level → taken_at s s.down rows level ≡ rows_at s level
all_known s rows level all past = flat_past s rows level past ∙ all ∙ rows_flat s level past

pub finish_all : (rows : ℕ) (old now : Splitter) → IsFinishing old.down rows old now → HasAll now
finish_all rows old now f =
    let s = split_of old in
    let deep = f.chain.split.deep in
    subst (λ t. HaveAll t now.levels.items now.low.items) (sym f.split) (record {
      many = f.chain.many;
      done = f.done;
      rest = λ i other from to. subst (λ k. IsLevelAt s i k (get_or now.levels.items i other)) (all_known s rows i f.all from) (f.chain.each i other from to);
      given = f.chain.given ∙ all_known s rows s.across f.all deep;
    })

pub finish_bands : (rows : ℕ) (old now : Splitter) (p : ℕ → ℕ → ℤ) (start : ℕ) → IsFinishing old.down rows old now → HoldsPlane 0 start p old → HoldBands (split_of now) start p now.levels.items now.low.items
finish_bands rows old now p start f held =
    let s = split_of old in
    subst (λ t. HoldBands t start p now.levels.items now.low.items) (sym f.split) (record {
      each = λ i other from to.
          elim (cases_lt i s.down) [
            | inl less ↦ f.bands p start held i other from less
            | inr past ↦ ((f.holds p start held).each i other past to).bands
          ];
      lowest = (f.holds p start held).lowest;
    })

pub finish_first : (old : Splitter) → IsChain 0 old.taken old → old.taken ≡ old.height → IsFinishing 0 old.taken old old
finish_first old chain all = record {
  to = omega arith;
  split = refl;
  all = let none : 0 ≡ min 0 old.down = omega arith in all ∙ ap (low_count_at old.height) none;
  chain = chain;
  done = λ i other from to. absurd (omega (arith, to));
  holds = λ p start held. held;
  bands = λ p start held i other from to. absurd (omega (arith, to));
}
