-- The rows of the bands of a picture.
use Rattle.std.proofs.Common.{◌≡◌, ℕ, zero, suc, ◌+◌, ◌^◌, ◌<◌, ◌≤◌, List, [], ◌∷◌, ◌++◌, length, ℤ, pos, ◌+ℤ◌, ◌*ℤ◌, ◌<ℤ◌, true, false, take, drop, sym, ap, subst, ◌∙◌, arith, inl, inr, append-nil, length-append}
use Rattle.std.specs.Prelude.{if◌then◌else◌, map, slice_index, slice_index_or}
use Rattle.std.proofs.lemmas.List.{drop_all, length-map, map-append, take_all}
use Rattle.std.proofs.Math.ListN.{get_or-append}
use Rattle.std.proofs.Math.Seq.{get_or-append_seam}
use Rattle.std.proofs.lemmas.Bool.{cases_eq}
use Rattle.std.proofs.lemmas.Int.{ints}
use Rattle.xs_layout.specs.declared.Format.TheVariants.{C444}
use Rattle.xs_layout.specs.Geometry.{components_of}
use Rattle.xs_layout.specs.Limits.{IsDepth, IsPrecision}
use Rattle.xs_params.specs.declared.header.Header.{Header}
use Rattle.xs_params.specs.Geometry.{component_width}
use Rattle.xs_params.specs.Picture.{AreSamples, Picture, sample_at, samples_of_row, width_of}
use Rattle.xs_params.proofs.Areas.{row_sample}
use Rattle.xs_signal.specs.Colour.{rct}
use Rattle.xs_signal.specs.Lines.{AllBelow, IsBelow, Shows, entries_of}
use Rattle.xs_signal.specs.Picture.{coloured, one_of, scaled}
use Rattle.xs_signal.specs.Samples.{scale_in}
use Rattle.xs_signal.proofs.Floors.{quarter_low, quarter_high}
use Rattle.xs_rate.specs.Coefficients.{signal_of}
use Rattle.xs_splitter.specs.Chain.{split_of, IsChain, HasAll, HoldBands, HoldsPlane}
use Rattle.xs_splitter.specs.declared.splitter.Splitter.{Splitter}
use Rattle.xs_decoding.proofs.Within.{full_width}
use Rattle.xs_picture.proofs.Bounds.{below_more, list_small}
use Rattle.xs_picture.specs.Analysed.{AreBandsOf, AreComponentBandsOf, ArePictureRows, IsGiven, IsLine, IsSplitUp, RowsByType, numbers_of, rct_entry, rows_by_type, rows_of_component}

-- ---- samples

-- a number of 20 bits
pub record IsScaled (z : ℤ) : Type 0 where
  pub least : pos 0 <ℤ (z +ℤ pos (2 ^ 19 + 1))
  pub most : z <ℤ pos (2 ^ 19)

pub scaled_below : (b : ℕ) (z : ℤ) → 2 ^ 20 ≤ b → IsScaled z → IsBelow b z
scaled_below b z room small = record { least = omega (arith, ints, small.least, small.most, room); most = omega (arith, ints, small.least, small.most, room) }

abbrev SmallAt : ℕ → ℕ → ℕ → Type 0
SmallAt sample depth bw = sample < 2 ^ depth → IsScaled (scale_in depth bw sample)

by_bits : (sample depth bw : ℕ) → SmallAt sample depth 18 → SmallAt sample depth 20 → IsPrecision bw → SmallAt sample depth bw
by_bits sample depth bw low high bits = elim bits [ inl is ↦ subst (SmallAt sample depth) (sym is) low | inr is ↦ subst (SmallAt sample depth) (sym is) high ]

at_8 : (sample bw : ℕ) → IsPrecision bw → SmallAt sample 8 bw
at_8 sample bw =
    by_bits sample 8 bw (λ small. record { least = omega (arith, ints, small); most = omega (arith, ints, small) }) (λ small. record { least = omega (arith, ints, small); most = omega (arith, ints, small) })

at_10 : (sample bw : ℕ) → IsPrecision bw → SmallAt sample 10 bw
at_10 sample bw =
    by_bits sample 10 bw (λ small. record { least = omega (arith, ints, small); most = omega (arith, ints, small) }) (λ small. record { least = omega (arith, ints, small); most = omega (arith, ints, small) })

at_12 : (sample bw : ℕ) → IsPrecision bw → SmallAt sample 12 bw
at_12 sample bw =
    by_bits sample 12 bw (λ small. record { least = omega (arith, ints, small); most = omega (arith, ints, small) }) (λ small. record { least = omega (arith, ints, small); most = omega (arith, ints, small) })

-- a scaled sample is small
pub sample_small : (depth bw sample : ℕ) → IsDepth depth → IsPrecision bw → sample < 2 ^ depth → IsScaled (scale_in depth bw sample)
sample_small depth bw sample is_depth bits =
    elim is_depth [
      | inl is ↦ subst (λ d. SmallAt sample d bw) (sym is) (at_8 sample bw bits)
      | inr more ↦ elim more [ inl is ↦ subst (λ d. SmallAt sample d bw) (sym is) (at_10 sample bw bits) | inr is ↦ subst (λ d. SmallAt sample d bw) (sym is) (at_12 sample bw bits) ]
    ]

-- ---- a component

pub more_given : (h : Header) (picture : Picture) (component from line : ℕ) (row : List ℤ) (c n : Splitter) → IsLine h picture component line row → IsGiven h picture component from line c → IsChain 0 n.taken n → n.taken ≡ c.taken + 1 → split_of n ≡ split_of c
    → ((p : ℕ → ℕ → ℤ) (start : ℕ) → HoldsPlane 0 start p c → Shows row (p c.taken) → HoldsPlane 0 start p n) → IsGiven h picture component from (line + 1) n
more_given h picture component from line row c n is g chain taken split holds =
    let p : ℕ → ℕ → ℤ = numbers_of h picture component in
    record {
      chain = chain;
      taken = taken ∙ ap (λ k. k + 1) g.taken;
      split = split ∙ g.split;
      holds = holds p from g.holds (subst (λ k. Shows row (p k)) (sym g.taken) is.shown);
    }

-- a row is as wide as its splitter wants
pub given_width : (h : Header) (picture : Picture) (component from line : ℕ) (row : List ℤ) (c : Splitter) → IsLine h picture component line row → IsGiven h picture component from line c → length row ≡ c.width
given_width h picture component from line row c is g = is.width ∙ sym (ap (λ s. s.width) g.split)

pub given_room : (h : Header) (picture : Picture) (component from line : ℕ) (c : Splitter) → line < h.shape.height → IsGiven h picture component from line c → c.taken < c.height
given_room h picture component from line c inside g = omega (arith, inside, g.taken, ap (λ s. s.height) g.split)

pub given_all : (h : Header) (picture : Picture) (component from line : ℕ) (c : Splitter) → line ≡ h.shape.height → IsGiven h picture component from line c → c.taken ≡ c.height
given_all h picture component from line c all g = omega (arith, all, g.taken, ap (λ s. s.height) g.split)

pub given_up : (h : Header) (picture : Picture) (component from line : ℕ) (c n : Splitter) → IsGiven h picture component from line c → HasAll n → split_of n ≡ split_of c
    → ((p : ℕ → ℕ → ℤ) (start : ℕ) → HoldsPlane 0 start p c → HoldBands (split_of n) start p n.levels.items n.low.items) → IsSplitUp h picture component from n
given_up h picture component from line c n g all same holds = record { all = all; split = same ∙ g.split; holds = holds (numbers_of h picture component) from g.holds }

-- a row of scaled samples
pub plain_line : (h : Header) (picture : Picture) (component line : ℕ) (samples : List ℕ) (row : List ℤ) → h.colour ≡ false → picture.shape ≡ h.shape → length row ≡ component_width h component → samples ≡ samples_of_row picture component line
    → ((k : ℕ) → k < length row → entries_of row k ≡ scale_in h.shape.depth h.bw (slice_index samples k)) → AllBelow (2 ^ 20) (entries_of row) → IsLine h picture component line row
plain_line h picture component line samples row plain shape wide is values small = record {
  width = wide;
  shown = λ k inside.
      let there : k < width_of picture.shape component = subst (λ s. k < width_of s component) (sym shape) (subst (λ n. k < n) wide inside) in
      let sample : slice_index samples k ≡ sample_at picture component line k = ap (λ r. slice_index r k) is ∙ row_sample picture component line k there in
      values k inside ∙ ap (scale_in h.shape.depth h.bw) sample
      ∙ sym (ap (λ b. (if b then coloured (scaled (signal_of h) (sample_at picture)) else scaled (signal_of h) (sample_at picture)) component line k) plain);
  small = small;
}

-- a row of luma or of a difference
pub colour_line : (h : Header) (picture : Picture) (component line : ℕ) (red green blue : List ℕ) (row : List ℤ) → h.colour ≡ true → h.shape.format ≡ C444 → picture.shape ≡ h.shape → length row ≡ h.shape.width
    → red ≡ samples_of_row picture 0 line → green ≡ samples_of_row picture 1 line → blue ≡ samples_of_row picture 2 line
    → ((k : ℕ) → k < length row → entries_of row k ≡ rct_entry h.shape.depth h.bw component (slice_index red k) (slice_index green k) (slice_index blue k)) → AllBelow (2 ^ 20) (entries_of row) → IsLine h picture component line row
colour_line h picture component line red green blue row colour format shape wide is_red is_green is_blue turned small = record {
  width = wide ∙ sym (full_width h.shape component format);
  shown = λ k inside.
      let there : (other : ℕ) → k < width_of picture.shape other = λ other. subst (λ s. k < width_of s other) (sym shape) (subst (λ n. k < n) (wide ∙ sym (full_width h.shape other format)) inside) in
      let first : slice_index red k ≡ sample_at picture 0 line k = ap (λ r. slice_index r k) is_red ∙ row_sample picture 0 line k (there 0) in
      let second : slice_index green k ≡ sample_at picture 1 line k = ap (λ r. slice_index r k) is_green ∙ row_sample picture 1 line k (there 1) in
      let third : slice_index blue k ≡ sample_at picture 2 line k = ap (λ r. slice_index r k) is_blue ∙ row_sample picture 2 line k (there 2) in
      turned k inside ∙ ap (λ r. rct_entry h.shape.depth h.bw component r (slice_index green k) (slice_index blue k)) first
      ∙ ap (λ g. rct_entry h.shape.depth h.bw component (sample_at picture 0 line k) g (slice_index blue k)) second
      ∙ ap (λ b. rct_entry h.shape.depth h.bw component (sample_at picture 0 line k) (sample_at picture 1 line k) b) third
      ∙ sym (ap (λ b. (if b then coloured (scaled (signal_of h) (sample_at picture)) else scaled (signal_of h) (sample_at picture)) component line k) colour);
  small = small;
}

-- ---- all components

-- the bands of the first components
pub record AreBandsTo (h : Header) (picture : Picture) (n : ℕ) (bands : List Splitter) : Type 0 where
  pub count : length bands ≡ n
  pub each : (component : ℕ) → component < n → AreComponentBandsOf h picture component (rows_of_component bands component)

pub bands_more : (h : Header) (picture : Picture) (component : ℕ) (bands next : List Splitter) (splitter : Splitter) → next ≡ bands ++ splitter ∷ [] → AreComponentBandsOf h picture component (rows_by_type splitter)
    → AreBandsTo h picture component bands → AreBandsTo h picture (component + 1) next
bands_more h picture component bands next splitter more these before = record {
  count = omega (arith, ap length more, length-append bands (splitter ∷ []), before.count);
  each = λ k inside. subst (λ l. AreComponentBandsOf h picture k (slice_index_or l k (λ _. []))) (sym turned)
      (elim (cases_eq k component) [
        | inl is ↦ subst (λ j. AreComponentBandsOf h picture j (slice_index_or (old ++ rows_by_type splitter ∷ []) j (λ _. []))) (sym (is ∙ sym many))
            (subst (AreComponentBandsOf h picture (length old)) (sym (get_or-append_seam old (rows_by_type splitter) [] (λ _. []))) (subst (λ j. AreComponentBandsOf h picture j (rows_by_type splitter)) (sym many) these))
        | inr other ↦ subst (AreComponentBandsOf h picture k) (sym (get_or-append old (rows_by_type splitter ∷ []) (λ _. []) k (omega (arith, inside, other, many)))) (before.each k (omega (arith, inside, other)))
      ]);
}
  where
    old : List RowsByType
    old = map rows_by_type bands

    many : length old ≡ component
    many = length-map bands rows_by_type ∙ before.count

    turned : map rows_by_type next ≡ old ++ rows_by_type splitter ∷ []
    turned = ap (map rows_by_type) more ∙ map-append rows_by_type bands (splitter ∷ [])

-- the bands of three components
pub three_bands : (h : Header) (picture : Picture) (a b c : Splitter) (bands : List Splitter) → h.shape.format ≡ C444 → bands ≡ a ∷ b ∷ c ∷ [] → AreComponentBandsOf h picture 0 (rows_by_type a) → AreComponentBandsOf h picture 1 (rows_by_type b)
    → AreComponentBandsOf h picture 2 (rows_by_type c) → AreBandsOf h picture bands
three_bands h picture a b c bands format is of_a of_b of_c = subst (AreBandsOf h picture) (sym is) (record { count = sym three; each = λ component there. at component (omega (arith, there, three)) })
  where
    three : components_of h.shape.format ≡ 3
    three = ap components_of format

    at : (component : ℕ) → component < 3 → AreComponentBandsOf h picture component (rows_of_component (a ∷ b ∷ c ∷ []) component)
    at zero there = of_a
    at (suc zero) there = of_b
    at (suc (suc zero)) there = of_c
    at (suc (suc (suc component))) there = absurd (omega (arith, there))

pub picture_rows : (h : Header) (picture : Picture) (bands : List Splitter) → AreBandsOf h picture bands → ArePictureRows h bands
picture_rows h picture bands are = record { count = are.count; each = λ component inside. (are.each component inside).are }

-- three scaled samples have small luma and differences
pub rct_small : (r g b : ℤ) (component : ℕ) → IsScaled r → IsScaled g → IsScaled b → IsBelow (2 ^ 20) (one_of (rct r g b) component)
rct_small r g b zero p q s = record {
  least = omega (arith, ints, quarter_low (r +ℤ pos 2 *ℤ g +ℤ b), quarter_high (r +ℤ pos 2 *ℤ g +ℤ b), p.least, p.most, q.least, q.most, s.least, s.most);
  most = omega (arith, ints, quarter_low (r +ℤ pos 2 *ℤ g +ℤ b), quarter_high (r +ℤ pos 2 *ℤ g +ℤ b), p.least, p.most, q.least, q.most, s.least, s.most);
}
rct_small r g b (suc zero) p q s = record { least = omega (arith, ints, q.least, q.most, s.least, s.most); most = omega (arith, ints, q.least, q.most, s.least, s.most) }
rct_small r g b (suc (suc component)) p q s = record { least = omega (arith, ints, p.least, p.most, q.least, q.most); most = omega (arith, ints, p.least, p.most, q.least, q.most) }

-- so is the number of a colour
pub entry_small : (depth bw component red green blue : ℕ) (z : ℤ) → IsDepth depth → IsPrecision bw → red < 2 ^ depth → green < 2 ^ depth → blue < 2 ^ depth → z ≡ rct_entry depth bw component red green blue → IsBelow (2 ^ 20) z
entry_small depth bw component red green blue z is_depth bits small_red small_green small_blue is =
    subst (IsBelow (2 ^ 20)) (sym is)
    (rct_small (scale_in depth bw red) (scale_in depth bw green) (scale_in depth bw blue) component (sample_small depth bw red is_depth bits small_red) (sample_small depth bw green is_depth bits small_green) (sample_small depth bw blue is_depth bits small_blue))

-- a row that is turned has the numbers of a component
pub turned_shown : (depth bw component : ℕ) (red green blue : List ℕ) (r g b turned : List ℤ) → ((k : ℕ) → k < length turned → entries_of r k ≡ scale_in depth bw (slice_index red k))
    → ((k : ℕ) → k < length turned → entries_of g k ≡ scale_in depth bw (slice_index green k)) → ((k : ℕ) → k < length turned → entries_of b k ≡ scale_in depth bw (slice_index blue k))
    → ((k : ℕ) → k < length turned → entries_of turned k ≡ one_of (rct (entries_of r k) (entries_of g k) (entries_of b k)) component)
    → (k : ℕ) → k < length turned → entries_of turned k ≡ rct_entry depth bw component (slice_index red k) (slice_index green k) (slice_index blue k)
turned_shown depth bw component red green blue r g b turned reds greens blues is k inside =
    is k inside ∙ ap (λ x. one_of (rct x (entries_of g k) (entries_of b k)) component) (reds k inside)
    ∙ ap (λ x. one_of (rct (scale_in depth bw (slice_index red k)) x (entries_of b k)) component) (greens k inside)
    ∙ ap (λ x. one_of (rct (scale_in depth bw (slice_index red k)) (scale_in depth bw (slice_index green k)) x) component) (blues k inside)

-- and they are small
pub turned_small : (depth bw component : ℕ) (red green blue : List ℕ) (turned : List ℤ) → IsDepth depth → IsPrecision bw → AreSamples depth red → AreSamples depth green → AreSamples depth blue
    → length red ≡ length turned → length green ≡ length turned → length blue ≡ length turned
    → ((k : ℕ) → k < length turned → entries_of turned k ≡ rct_entry depth bw component (slice_index red k) (slice_index green k) (slice_index blue k)) → AllBelow (2 ^ 20) (entries_of turned)
turned_small depth bw component red green blue turned is_depth bits reds greens blues wide_red wide_green wide_blue is =
    list_small (2 ^ 20) turned (omega arith)
    (λ k inside.
    entry_small depth bw component (slice_index red k) (slice_index green k) (slice_index blue k) (entries_of turned k) is_depth bits (reds k 0 (omega (arith, inside, wide_red))) (greens k 0 (omega (arith, inside, wide_green)))
    (blues k 0 (omega (arith, inside, wide_blue))) (is k inside))

pub all_below : (b c : ℕ) (xs : List ℤ) → b ≤ c → AllBelow b (entries_of xs) → AllBelow c (entries_of xs)
all_below b c xs more small k = below_more b c (entries_of xs k) more (small k)

-- what is left of a list that was lent as a slice
pub lent_row : (new items : List ℤ) (n : ℕ) → n ≡ length items → length new ≡ length items → take n (new ++ drop (length new) items) ≡ new
lent_row new items n all same =
    ap (λ l. take n (new ++ l)) (drop_all (length new) items (omega (arith, same))) ∙ ap (take n) (append-nil new) ∙ take_all n new (omega (arith, all, same))
