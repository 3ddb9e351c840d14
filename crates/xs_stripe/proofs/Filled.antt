-- The rows of a stripe are added line by line.
use Rattle.std.proofs.Common.{◌≡◌, ℕ, zero, suc, ◌+◌, ◌-◌, ◌*◌, ◌/◌, ◌%◌, ◌<◌, ◌≤◌, List, [], ◌∷◌, ◌++◌, length, get_or, refl, ap, sym, subst, ◌∙◌, arith, inl, inr}
use Rattle.std.proofs.lemmas.Bool.{cases_lt, cases_eq}
use Rattle.std.proofs.lemmas.List.{get_or_append_left, length-append}
use Rattle.std.proofs.Math.Seq.{get_or-append_seam}
use Rattle.xs_layout.specs.declared.Format.{Format}
use Rattle.xs_layout.specs.declared.Format.TheVariants.{Mono, C422, C444}
use Rattle.xs_layout.specs.Geometry.{components_of, component_width_of}
use Rattle.xs_params.specs.declared.header.Header.{Header}
use Rattle.xs_rate.specs.Coefficients.{Rows}
use Rattle.xs_stripe.specs.Lines.{HoldRows}
use Rattle.xs_stripe.specs.Stripe.{IsDecodedRow, AreDecodedFrom}
use Rattle.xs_stripe.specs.declared.lines.Lines.{Lines}

-- the samples of the first k components of a line stand behind the others
pub record AreAdded (h : Header) (lines : Lines) (line k : ℕ) (old now : List (List ℕ)) : Type 0 where
  pub count : length now ≡ length old + k
  pub kept : (number : ℕ) → number < length old → get_or now number [] ≡ get_or old number []
  pub added : (coefficients : Rows) → HoldRows coefficients lines → (component : ℕ) → component < k → IsDecodedRow h coefficients component line (get_or now (length old + component) [])

pub added_none : (h : Header) (lines : Lines) (line : ℕ) (old : List (List ℕ)) → AreAdded h lines line 0 old old
added_none h lines line old = record { count = omega arith; kept = λ number inside. refl; added = λ coefficients holds component less. absurd (omega (arith, less)) }

pub added_more : (h : Header) (lines : Lines) (line k : ℕ) (old now new : List (List ℕ)) (row : List ℕ) → AreAdded h lines line k old now → new ≡ now ++ row ∷ [] → ((coefficients : Rows) → HoldRows coefficients lines → IsDecodedRow h coefficients k line row)
    → AreAdded h lines line (k + 1) old new
added_more h lines line k old now new row a is here = record {
  count = ap length is ∙ length-append now (row ∷ []) ∙ ap (λ n. n + 1) a.count ∙ omega arith;
  kept = λ number inside. ap (λ l. get_or l number []) is ∙ get_or_append_left now (row ∷ []) [] number (omega (arith, inside, a.count)) ∙ a.kept number inside;
  added = λ coefficients holds component less.
      elim (cases_eq component k) [
        | inl same ↦
            let at : length old + component ≡ length now = omega (arith, same, a.count) in
            let seen : get_or new (length old + component) [] ≡ row = ap (λ l. get_or l (length old + component) []) is ∙ ap (λ i. get_or (now ++ row ∷ []) i []) at ∙ get_or-append_seam now row [] [] in
            subst (IsDecodedRow h coefficients component line) (sym seen) (subst (λ c. IsDecodedRow h coefficients c line row) (sym same) (here coefficients holds))
        | inr apart ↦
            let seen : get_or new (length old + component) [] ≡ get_or now (length old + component) [] =
            ap (λ l. get_or l (length old + component) []) is ∙ get_or_append_left now (row ∷ []) [] (length old + component) (omega (arith, less, apart, a.count)) in
            subst (IsDecodedRow h coefficients component line) (sym seen) (a.added coefficients holds component (omega (arith, less, apart)))
      ];
}

component_at : (f : Format) (n c number : ℕ) → number ≡ n * components_of f + c → c < components_of f → number % components_of f ≡ c
component_at Mono n c number is less = omega (arith, is, less)
component_at C422 n c number is less = omega (arith, is, less)
component_at C444 n c number is less = omega (arith, is, less)

line_at : (f : Format) (n c number : ℕ) → number ≡ n * components_of f + c → c < components_of f → number / components_of f ≡ n
line_at Mono n c number is less = omega (arith, is, less)
line_at C422 n c number is less = omega (arith, is, less)
line_at C444 n c number is less = omega (arith, is, less)

pub added_all : (h : Header) (lines : Lines) (first given : ℕ) (old new : List (List ℕ)) (coefficients : Rows) → AreAdded h lines (given - 1) (components_of h.shape.format) old new → HoldRows coefficients lines → first < given
    → length old ≡ (given - 1 - first) * components_of h.shape.format → AreDecodedFrom h coefficients first old → AreDecodedFrom h coefficients first new
added_all h lines first given old new coefficients a holds some count before number inside =
    let f = h.shape.format in
    elim (cases_lt number (length old)) [
      | inl less ↦ subst (IsDecodedRow h coefficients (number % components_of f) (first + number / components_of f)) (sym (a.kept number less)) (before number less)
      | inr past ↦
          let component = number - length old in
          let there : component < components_of f = omega (arith, inside, a.count, past) in
          let at : number ≡ (given - 1 - first) * components_of f + component = omega (arith, past, count) in
          let here : length old + component ≡ number = omega (arith, past) in
          let line : given - 1 ≡ first + number / components_of f = omega (arith, line_at f (given - 1 - first) component number at there, some) in
          subst (λ c. IsDecodedRow h coefficients c (first + number / components_of f) (get_or new number [])) (sym (component_at f (given - 1 - first) component number at there))
          (subst (λ l. IsDecodedRow h coefficients component l (get_or new number [])) line (subst (λ i. IsDecodedRow h coefficients component (given - 1) (get_or new i [])) here (a.added coefficients holds component there)))
    ]

-- a row of a stripe is one of those that were added
pub number_known : (f : Format) (n c count : ℕ) → c < components_of f → n < count → n * components_of f + c < count * components_of f
number_known Mono n c count less inside = omega (arith, less, inside)
number_known C422 n c count less inside = omega (arith, less, inside)
number_known C444 n c count less inside = omega (arith, less, inside)

pub decoded_at : (h : Header) (rows : Rows) (first line component : ℕ) (list : List (List ℕ)) → AreDecodedFrom h rows first list → component < components_of h.shape.format → first ≤ line → (line - first) * components_of h.shape.format + component < length list
    → IsDecodedRow h rows component line (get_or list ((line - first) * components_of h.shape.format + component) [])
decoded_at h rows first line component list decoded there from inside =
    let f = h.shape.format in
    let number = (line - first) * components_of f + component in
    let at : first + number / components_of f ≡ line = omega (arith, line_at f (line - first) component number refl there, from) in
    subst (λ l. IsDecodedRow h rows component l (get_or list number [])) at (subst (λ c. IsDecodedRow h rows c (first + number / components_of f) (get_or list number [])) (component_at f (line - first) component number refl there) (decoded number inside))

pub columns_most : (f : Format) (width component : ℕ) → component < components_of f → component_width_of f width component ≤ width
columns_most Mono width zero there = omega arith
columns_most Mono width (suc component) there = absurd (omega (arith, there))
columns_most C422 width zero there = omega arith
columns_most C422 width (suc zero) there = omega arith
columns_most C422 width (suc (suc zero)) there = omega arith
columns_most C422 width (suc (suc (suc component))) there = absurd (omega (arith, there))
columns_most C444 width zero there = omega arith
columns_most C444 width (suc zero) there = omega arith
columns_most C444 width (suc (suc zero)) there = omega arith
columns_most C444 width (suc (suc (suc component))) there = absurd (omega (arith, there))
