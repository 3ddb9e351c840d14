-- A picture that has the lines of the stripes of all slices is that of their rows.
use Rattle.std.proofs.Common.{◌≡◌, ◌⊎◌, inl, inr, ℕ, ◌+◌, ◌*◌, ◌/◌, ◌^◌, ◌<◌, ◌≤◌, List, [], ◌∷◌, ◌++◌, All, length, get_or, append-nil, append_assoc, refl, sym, ap, subst, ◌∙◌, arith}
use Rattle.std.specs.Prelude.{slice_index}
use Rattle.std.specs.List.{Contains}
use Rattle.std.proofs.Math.Nat.{div-lt_iff_lt-mul, div-mul-le_self, lt-div-mul-add, mul-le-mul_right, mul_comm}
use Rattle.std.proofs.lemmas.Bool.{cases_lt}
use Rattle.std.proofs.lemmas.Nat.{pow_pos}
use Rattle.std.proofs.lemmas.List.Elements.{All-cons, All-contains, All-contains_itself, Contains-append_left, Contains-append_right, Contains-push}
use Rattle.xs_layout.specs.Geometry.{ceil_div}
use Rattle.xs_params.specs.declared.header.Header.{Header}
use Rattle.xs_params.specs.Accepted.{IsAccepted}
use Rattle.xs_params.specs.Geometry.{precinct_count, slice_count}
use Rattle.xs_params.specs.Picture.{IsPicture, IsPlace, Picture, sample_at}
use Rattle.xs_params.specs.Rows.{Rows}
use Rattle.xs_decoding.specs.Decoded.{IsPictureOf, decoded_sample}
use Rattle.xs_stripe.specs.Stripe.{IsStripeOf, line_of, stripe_row}
use Rattle.xs_stripe.specs.Written.{HasLinesOf, IsStripeFor}
use Rattle.xs_stripe.proofs.Written.{fits_picture}
use Rattle.xs_recv.specs.declared.activity.MadeStripe.{MadeStripe}
use Rattle.xs_recv.specs.Finishing.{AreStripesOf, HaveStripes}

-- Each line stands in a slice

covers : (n d : ℕ) → 1 ≤ d → n ≤ ceil_div n d * d
covers n d some = omega (arith, some)

below_count : (n d k : ℕ) → 1 ≤ d → k < n → k / d < ceil_div n d
below_count n d k some less = let all = covers n d some in (div-lt_iff_lt-mul some).1 (omega (arith, less, all))

-- the precincts of a line, and the slice of that
module _ (unit hsl line : ℕ) (some : 1 ≤ hsl) (more : 1 ≤ unit) where
  abbrev precinct : ℕ
  precinct = line / unit

  abbrev slice : ℕ
  slice = precinct / hsl

  low_line : unit * (slice * hsl) ≤ line
  low_line =
      let first : slice * hsl * unit ≤ precinct * unit = mul-le-mul_right unit (div-mul-le_self precinct hsl) in
      let from : precinct * unit ≤ line = div-mul-le_self line unit in
      let same : unit * (slice * hsl) ≡ slice * hsl * unit = mul_comm unit (slice * hsl) in
      omega (arith, first, from, same)

  high_line : line < unit * ((slice + 1) * hsl)
  high_line =
      let to : line < precinct * unit + unit = lt-div-mul-add more in
      let up : precinct < slice * hsl + hsl = lt-div-mul-add some in
      let next : (slice + 1) * hsl ≡ slice * hsl + hsl = omega arith in
      let one : (precinct + 1) * unit ≤ (slice + 1) * hsl * unit = mul-le-mul_right unit (omega (arith, up, next)) in
      let after : (precinct + 1) * unit ≡ precinct * unit + unit = omega arith in
      let same : unit * ((slice + 1) * hsl) ≡ (slice + 1) * hsl * unit = mul_comm unit ((slice + 1) * hsl) in
      omega (arith, to, one, after, same)

-- the slice of a line
pub record HasSlice (h : Header) (line : ℕ) : Type 0 where
  pub slice : ℕ
  pub there : slice < slice_count h
  pub from : line_of h (slice * h.hsl) ≤ line
  pub to : line < line_of h ((slice + 1) * h.hsl)

slice_of_line : (h : Header) (line : ℕ) → IsAccepted h → line < h.shape.height → HasSlice h line
slice_of_line h line accepted below =
    let unit : 1 ≤ 2 ^ h.nly = pow_pos h.nly in
    let low : 2 ^ h.nly * (line / 2 ^ h.nly / h.hsl * h.hsl) ≤ line = low_line (2 ^ h.nly) h.hsl line accepted.geometry.hsl unit in
    let high : line < 2 ^ h.nly * ((line / 2 ^ h.nly / h.hsl + 1) * h.hsl) = high_line (2 ^ h.nly) h.hsl line accepted.geometry.hsl unit in
    record {
      slice = line / 2 ^ h.nly / h.hsl;
      there = below_count (precinct_count h) h.hsl (line / 2 ^ h.nly) accepted.geometry.hsl (below_count h.shape.height (2 ^ h.nly) line unit below);
      from = omega (arith, low);
      to = omega (arith, high, below);
    }

-- The lines of the stripes are the picture's

module _ (h : Header) (rows : Rows) (made : List MadeStripe) (picture : Picture) (accepted : IsAccepted h) (whole : IsPicture picture) (shape : picture.shape ≡ h.shape) (right : AreStripesOf h rows made) (each : HaveStripes h made)
    (lines : All (λ (m : MadeStripe). HasLinesOf picture m.stripe) made) where
  sample_right : (component line column : ℕ) → IsPlace h.shape component line column → (m : MadeStripe) → IsStripeOf h m.slice m.stripe rows → HasLinesOf picture m.stripe → m.stripe.first ≤ line → line < m.stripe.end
      → sample_at picture component line column ≡ decoded_sample h rows component line column
  sample_right component line column place m is has from to =
      let row = is.lines component line place.row_there.component_there from to in
      sym (has component line column (subst (λ s. IsPlace s component line column) (sym shape) place) from to) ∙ row.samples column (subst (λ n. column < n) (sym row.wide) place.column_there)

  samples_right : (component line column : ℕ) → IsPlace h.shape component line column → sample_at picture component line column ≡ decoded_sample h rows component line column
  samples_right component line column place =
      let at = slice_of_line h line accepted place.row_there.row_there in
      let m = each at.slice at.there in
      let is = All-contains (λ (x : MadeStripe). IsStripeOf h x.slice x.stripe rows) made m.0 right m.1 in
      let has = All-contains (λ (x : MadeStripe). HasLinesOf picture x.stripe) made m.0 lines m.1 in
      let from : m.0.stripe.first ≤ line = subst (λ n. n ≤ line) (sym (is.first_is ∙ ap (λ k. line_of h (k * h.hsl)) m.2)) at.from in
      let to : line < m.0.stripe.end = subst (λ n. line < n) (sym (is.end_is ∙ ap (λ k. line_of h ((k + 1) * h.hsl)) m.2)) at.to in
      sample_right component line column place m.0 is has from to

  pub picture_of_stripes : IsPictureOf h rows picture
  picture_of_stripes = record { whole = whole; shape = shape; samples = samples_right }

-- A stripe is written

-- after another stripe is written, the picture still has the lines of this one, since both are of the same rows
pub lines_still : (h : Header) (rows : Rows) (old new : Picture) (m next : MadeStripe) → old.shape ≡ h.shape → new.shape ≡ old.shape → IsStripeOf h m.slice m.stripe rows → IsStripeOf h next.slice next.stripe rows → HasLinesOf old m.stripe
    → HasLinesOf new next.stripe → ((component line column : ℕ) → IsPlace old.shape component line column → (line < next.stripe.first) ⊎ (next.stripe.end ≤ line) → sample_at new component line column ≡ sample_at old component line column)
    → HasLinesOf new m.stripe
lines_still h rows old new m next shape same is also has now others component line column place from to =
    elim (cases_lt line next.stripe.first) [
      | inl before ↦ has component line column there from to ∙ sym (others component line column there (inl before))
      | inr past ↦ elim (cases_lt line next.stripe.end) [
        | inr after ↦ has component line column there from to ∙ sym (others component line column there (inr after))
        | inl inside ↦ equal_at past inside ∙ now component line column place past inside
      ]
    ]
  where
    there : IsPlace old.shape component line column
    there = subst (λ s. IsPlace s component line column) same place

    own : IsPlace h.shape component line column
    own = subst (λ s. IsPlace s component line column) shape there

    equal_at : next.stripe.first ≤ line → line < next.stripe.end → slice_index (stripe_row m.stripe component line) column ≡ slice_index (stripe_row next.stripe component line) column
    equal_at low high =
        let a = is.lines component line own.row_there.component_there from to in
        let b = also.lines component line own.row_there.component_there low high in
        a.samples column (subst (λ n. column < n) (sym a.wide) own.column_there) ∙ sym (b.samples column (subst (λ n. column < n) (sym b.wide) own.column_there))

-- The stripes that are written so far are the last ones, and the picture has their lines.
pub record AreFilled (h : Header) (all left : List MadeStripe) (picture : Picture) : Type 0 where
  pub written : List MadeStripe
  pub split : all ≡ left ++ written
  pub shape : picture.shape ≡ h.shape
  pub lines : All (λ (m : MadeStripe). HasLinesOf picture m.stripe) written

pub none_filled : (h : Header) (all left : List MadeStripe) (picture : Picture) → left ≡ all → picture.shape ≡ h.shape → AreFilled h all left picture
none_filled h all left picture same shape = record {
  written = [];
  split = sym same ∙ sym (append-nil left);
  shape = shape;
  lines = λ i d below. absurd (omega (arith, below));
}

pub more_filled : (h : Header) (rows : Rows) (all left rest : List MadeStripe) (next : MadeStripe) (old new : Picture) → AreStripesOf h rows all → left ≡ rest ++ next ∷ [] → AreFilled h all left old → new.shape ≡ old.shape → HasLinesOf new next.stripe
    → ((component line column : ℕ) → IsPlace old.shape component line column → (line < next.stripe.first) ⊎ (next.stripe.end ≤ line) → sample_at new component line column ≡ sample_at old component line column) → AreFilled h all rest new
more_filled h rows all left rest next old new right popped so same now others = record {
  written = next ∷ so.written;
  split = split;
  shape = same ∙ so.shape;
  lines = All-cons (λ (m : MadeStripe). HasLinesOf new m.stripe) next so.written now
      (λ i d below. lines_still h rows old new (get_or so.written i d) next so.shape same (right_of (get_or so.written i d) (in_written i d below)) (right_of next in_next) (so.lines i d below) now others);
}
  where
    split : all ≡ rest ++ next ∷ so.written
    split = so.split ∙ ap (λ (l : List MadeStripe). l ++ so.written) popped ∙ append_assoc rest (next ∷ []) so.written

    right_of : (m : MadeStripe) → Contains all m → IsStripeOf h m.slice m.stripe rows
    right_of m has = All-contains (λ (x : MadeStripe). IsStripeOf h x.slice x.stripe rows) all m right has

    in_next : Contains all next
    in_next = subst (λ (l : List MadeStripe). Contains l next) (sym split) (Contains-append_right rest (next ∷ so.written) next (0, omega arith, refl))

    in_written : (i : ℕ) (d : MadeStripe) → i < length so.written → Contains all (get_or so.written i d)
    in_written i d below = subst (λ (l : List MadeStripe). Contains l (get_or so.written i d)) (sym so.split) (Contains-append_right left so.written (get_or so.written i d) (All-contains_itself so.written i d below))

-- The stripe that is next is one of all
pub next_fits : (h : Header) (rows : Rows) (all left rest : List MadeStripe) (next : MadeStripe) (picture : Picture) → AreStripesOf h rows all → left ≡ rest ++ next ∷ [] → AreFilled h all left picture → IsStripeFor picture.shape next.stripe
next_fits h rows all left rest next picture right popped so =
    subst (λ s. IsStripeFor s next.stripe) (sym so.shape) (fits_picture h next.slice next.stripe rows (All-contains (λ (x : MadeStripe). IsStripeOf h x.slice x.stripe rows) all next right has))
  where
    has : Contains all next
    has = subst (λ (l : List MadeStripe). Contains l next) (sym so.split) (Contains-append_left left so.written next (subst (λ (l : List MadeStripe). Contains l next) (sym popped) (Contains-push rest next)))

pub all_filled : (h : Header) (all left : List MadeStripe) (picture : Picture) → length left ≡ 0 → AreFilled h all left picture → All (λ (m : MadeStripe). HasLinesOf picture m.stripe) all
all_filled h all [] picture none so = subst (All (λ (m : MadeStripe). HasLinesOf picture m.stripe)) (sym so.split) so.lines
all_filled h all (m ∷ left) picture none so = absurd (omega (arith, none))

-- a number that is not over 0
pub none_left : (n : ℕ) → (0 < n → ⊥) → n ≡ 0
none_left n none = elim (cases_lt 0 n) [ inl some ↦ absurd (none some) | inr few ↦ omega (arith, few) ]
