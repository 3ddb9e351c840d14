-- What the levels hold are the rows of the bands of the whole plane.
use Rattle.std.proofs.Common.{◌≡◌, ℕ, ◌+◌, ◌-◌, ◌<◌, ◌≤◌, [], List, get_or, ℤ, nat_lt, if◌then◌else◌, arith, ap, subst, ◌∙◌, refl, inl, inr}
use Rattle.std.proofs.lemmas.Bool.{cases_lt}
use Rattle.xs_signal.specs.Lines.{Shows}
use Rattle.xs_signal.specs.Wavelet.{Split, bands_of_plane, low_count, high_count, low_count_at, low_of, high_of, columns_kept, columns_high, low_part, rows_high, rows_low}
use Rattle.xs_signal.specs.Stripe.{rows_at}
use Rattle.xs_splitter.specs.Columns.{low_rows, high_rows}
use Rattle.xs_splitter.specs.Level.{HoldsBands, ShowRows, kept_rows}
use Rattle.xs_splitter.specs.Chain.{rows_beside, EachLevel}
use Rattle.xs_splitter.specs.Shown.{ShowBands, BandsShown}
use Rattle.xs_splitter.specs.declared.level.Level.{Level}
use Rattle.xs_splitter.proofs.Chains.{kept_cases, rows_deep}

-- the size of a level's rows
pub record HasShape (s : Split) (level : ℕ) (l : Level) : Type 0 where
  pub width : l.columns.width ≡ low_count_at s.width level
  pub height : l.columns.height ≡ rows_at s level
  pub deep : l.deep ≡ nat_lt level s.down

hl_shown : (s : Split) (start level : ℕ) (p : ℕ → ℕ → ℤ) (l : Level) → HasShape s level l → HoldsBands start (low_part s p level) l → ShowRows start (high_count (low_count_at s.width level)) l.hl.items ((bands_of_plane s p).hl (level + 1))
hl_shown s start level p l shape held = record {
  wide = λ k above inside. held.hl.wide k above inside ∙ ap high_count shape.width;
  shown = λ k above inside.
      let q = low_part s p level in
      let back : level ≡ level + 1 - 1 = omega arith in
      let here : kept_rows l q k ≡ columns_kept s level q k = ap (λ d. (if d then low_rows l.columns.height q else q) k) shape.deep ∙ kept_cases s level l.columns.height q (nat_lt level s.down) refl shape.height k in
      subst (λ i. Shows (get_or l.hl.items k []) (rows_high s i (columns_kept s i (low_part s p i)) k)) back
      (subst (λ f. Shows (get_or l.hl.items k []) (high_of (low_count_at s.width level) f)) here (subst (λ w. Shows (get_or l.hl.items k []) (high_of w (kept_rows l q k))) shape.width (held.hl.shown k above inside)));
}

lh_shown : (s : Split) (start level : ℕ) (p : ℕ → ℕ → ℤ) (l : Level) → level < s.down → HasShape s level l → HoldsBands start (low_part s p level) l → ShowRows start (low_count (low_count_at s.width level)) l.lh.items ((bands_of_plane s p).lh (level + 1))
lh_shown s start level p l less shape held = record {
  wide = λ k above inside. held.lh.wide k above inside ∙ ap low_count shape.width;
  shown = λ k above inside.
      let q = low_part s p level in
      let back : level ≡ level + 1 - 1 = omega arith in
      let tall : l.columns.height ≡ low_count_at s.height level = shape.height ∙ rows_deep s level (omega (arith, less)) in
      subst (λ i. Shows (get_or l.lh.items k []) (rows_low s i (columns_high s i (low_part s p i)) k)) back
      (subst (λ h. Shows (get_or l.lh.items k []) (low_of (low_count_at s.width level) (high_rows h q k))) tall (subst (λ w. Shows (get_or l.lh.items k []) (low_of w (high_rows l.columns.height q k))) shape.width (held.lh.shown k above inside)));
}

hh_shown : (s : Split) (start level : ℕ) (p : ℕ → ℕ → ℤ) (l : Level) → level < s.down → HasShape s level l → HoldsBands start (low_part s p level) l → ShowRows start (high_count (low_count_at s.width level)) l.hh.items ((bands_of_plane s p).hh (level + 1))
hh_shown s start level p l less shape held = record {
  wide = λ k above inside. held.hh.wide k above inside ∙ ap high_count shape.width;
  shown = λ k above inside.
      let q = low_part s p level in
      let back : level ≡ level + 1 - 1 = omega arith in
      let tall : l.columns.height ≡ low_count_at s.height level = shape.height ∙ rows_deep s level (omega (arith, less)) in
      subst (λ i. Shows (get_or l.hh.items k []) (rows_high s i (columns_high s i (low_part s p i)) k)) back
      (subst (λ h. Shows (get_or l.hh.items k []) (high_of (low_count_at s.width level) (high_rows h q k))) tall (subst (λ w. Shows (get_or l.hh.items k []) (high_of w (high_rows l.columns.height q k))) shape.width (held.hh.shown k above inside)));
}

all_shown : (s : Split) (start : ℕ) (p : ℕ → ℕ → ℤ) (levels : List Level) (low : List (List ℤ)) → s.down ≤ s.across → EachLevel 0 s.across levels (λ i l. HasShape s i l) → EachLevel 0 s.across levels (λ i l. HoldsBands (rows_beside s i start) (low_part s p i) l) → ShowRows start (low_count_at s.width s.across) low (low_part s p s.across)
    → ShowBands s start p levels low
all_shown s start p levels low deep shapes held lowest = record {
  ll = lowest;
  hl = λ level other less. hl_shown s (rows_beside s level start) level p (get_or levels level other) (shapes level other (omega arith) less) (held level other (omega arith) less);
  lh = λ level other less. lh_shown s (rows_beside s level start) level p (get_or levels level other) less (shapes level other (omega arith) (omega (arith, less, deep))) (held level other (omega arith) (omega (arith, less, deep)));
  hh = λ level other less. hh_shown s (rows_beside s level start) level p (get_or levels level other) less (shapes level other (omega arith) (omega (arith, less, deep))) (held level other (omega arith) (omega (arith, less, deep)));
}

pub bands_shown : BandsShown
bands_shown = record {
  between = λ s start p taken levels low chain held.
      all_shown s start p levels low chain.split.deep (λ i other from to. let at = chain.each i other from to in record { width = at.width; height = at.height; deep = at.deep }) (λ i other from to. (held.each i other from to).bands) held.lowest;
  last = λ s start p levels low deep all held.
      all_shown s start p levels low deep
      (λ i other from to.
      elim (cases_lt i s.down) [
        | inl less ↦ let at = all.done i other from less in record { width = at.width; height = at.height; deep = at.deep }
        | inr past ↦ let at = all.rest i other past to in record { width = at.width; height = at.height; deep = at.deep }
      ]) held.each held.lowest;
}
