-- The places of a precinct's packets by number: which types they have, and which line.
use Rattle.std.proofs.Common.{◌≡◌, ◌⊎◌, ℕ, zero, suc, ◌+◌, ◌-◌, ◌*◌, ◌/◌, ◌%◌, ◌^◌, ◌<◌, ◌≤◌, length, refl, sym, ap, subst, ◌∙◌, arith, inl, inr}
use Rattle.std.specs.List.{Contains}
use Rattle.std.proofs.lemmas.Bool.{cases_lt}
use Rattle.xs_layout.specs.Geometry.{PacketPlace, components_of, packet_places_of}
use Rattle.xs_params.specs.declared.header.Header.{Header}
use Rattle.xs_params.specs.Geometry.{band_height_of, packet_bands, packet_places}
use Rattle.xs_geometry.specs.Places.{place_in}
use Rattle.xs_geometry.proofs.Places.{one_type, second_level, places_counted}
use Rattle.xs_geometry.proofs.PlaceFacts.{types_in, bands_in, type_number, type_at, rows_in, lines_in, first_height, wide_rows, wide_lines, deep_lines}

-- the first place has the types that are not split down, the next three the deepest level, the others the level above it
pub record IsWide (h : Header) (precinct number type line : ℕ) : Type 0 where
  pub first : number ≡ 0
  pub inside : type ≤ h.nlx - h.nly
  pub line_is : line ≡ precinct

pub record IsDeepest (h : Header) (precinct number type line : ℕ) : Type 0 where
  pub split : 1 ≤ h.nly
  pub from : 1 ≤ number
  pub to : number ≤ 3
  pub type_is : type ≡ h.nlx - h.nly + 1 + (number - 1)
  pub line_is : line ≡ precinct

pub record IsNext (h : Header) (precinct number type line : ℕ) : Type 0 where
  pub split : h.nly ≡ 2
  pub from : 4 ≤ number
  pub to : number ≤ 9
  pub type_is : type ≡ h.nlx - h.nly + 1 + 3 + (number - 4) % 3
  pub line_is : line ≡ 2 * precinct + (number - 4) / 3

-- the place with this number has this type and this line
abbrev pub IsAt : Header → ℕ → ℕ → ℕ → ℕ → Type 0
IsAt h precinct number type line = IsWide h precinct number type line ⊎ IsDeepest h precinct number type line ⊎ IsNext h precinct number type line

-- Places by number

first_level : (nlx nly precinct number : ℕ) → 1 ≤ nly → nly ≤ 2 → 1 ≤ number → number ≤ 3 → one_type (nlx - nly + 1 + (number - 1)) precinct ≡ place_in (packet_places_of nlx nly precinct) number
first_level nlx zero precinct number some few from to = absurd (omega (arith, some))
first_level nlx (suc zero) precinct zero some few from to = absurd (omega (arith, from))
first_level nlx (suc zero) precinct (suc zero) some few from to = grind arith
first_level nlx (suc zero) precinct (suc (suc zero)) some few from to = grind arith
first_level nlx (suc zero) precinct (suc (suc (suc zero))) some few from to = grind arith
first_level nlx (suc zero) precinct (suc (suc (suc (suc number)))) some few from to = absurd (omega (arith, to))
first_level nlx (suc (suc zero)) precinct zero some few from to = absurd (omega (arith, from))
first_level nlx (suc (suc zero)) precinct (suc zero) some few from to = grind arith
first_level nlx (suc (suc zero)) precinct (suc (suc zero)) some few from to = grind arith
first_level nlx (suc (suc zero)) precinct (suc (suc (suc zero))) some few from to = grind arith
first_level nlx (suc (suc zero)) precinct (suc (suc (suc (suc number)))) some few from to = absurd (omega (arith, to))
first_level nlx (suc (suc (suc nly))) precinct number some few from to = absurd (omega (arith, few))

-- how many there are, where a place past the first few is
split_once : (nly number : ℕ) → nly ≤ 2 → 1 ≤ number → number < 3 * 2 ^ nly - 2 → 1 ≤ nly
split_once zero number few from inside = absurd (omega (arith, from, inside))
split_once (suc nly) number few from inside = omega arith

split_twice : (nly number : ℕ) → nly ≤ 2 → 4 ≤ number → number < 3 * 2 ^ nly - 2 → (nly ≡ 2) × (number ≤ 9)
split_twice zero number few from inside = absurd (omega (arith, from, inside))
split_twice (suc zero) number few from inside = absurd (omega (arith, from, inside))
split_twice (suc (suc zero)) number few from inside = (refl, omega (arith, inside))
split_twice (suc (suc (suc nly))) number few from inside = absurd (omega (arith, few))

-- a place with this first type and line, of one type
at_one : (h : Header) (precinct number band first line : ℕ) → one_type first line ≡ place_in (packet_places h precinct) number → Contains (packet_bands h (place_in (packet_places h precinct) number)) band
    → (type_number h band ≡ first) × ((place_in (packet_places h precinct) number).line ≡ line)
at_one h precinct number band first line here has =
    let between = types_in h (one_type first line) band (subst (λ place. Contains (packet_bands h place) band) (sym here) has) in
    (omega (arith, between), sym (ap (λ (place : PacketPlace). place.line) here))

pub at_place : (h : Header) (precinct number band : ℕ) → h.nly ≤ 2 → number < length (packet_places h precinct) → Contains (packet_bands h (place_in (packet_places h precinct) number)) band
    → IsAt h precinct number (type_number h band) (place_in (packet_places h precinct) number).line
at_place h precinct number band few inside has =
    let count = places_counted h.nlx h.nly precinct few in
    let below : number < 3 * 2 ^ h.nly - 2 = omega (arith, inside, count) in
    elim (cases_lt number 1) [
      | inl less ↦
          let none : number ≡ 0 = omega (arith, less) in
          let between = types_in h (place_in (packet_places h precinct) 0) band (subst (λ k. Contains (packet_bands h (place_in (packet_places h precinct) k)) band) none has) in
          inl (record { first = none; inside = omega (arith, between); line_is = ap (λ k. (place_in (packet_places h precinct) k).line) none })
      | inr some ↦ elim (cases_lt number 4) [
        | inl less ↦
            let split = split_once h.nly number few some below in
            let here = first_level h.nlx h.nly precinct number split few some (omega (arith, less)) in
            let facts = at_one h precinct number band _ _ here has in
            inr (inl (record { split = split; from = some; to = omega (arith, less); type_is = facts.0; line_is = facts.1 }))
        | inr more ↦
            let split = split_twice h.nly number few more below in
            let here = second_level h.nlx h.nly precinct number few (omega (arith, more)) inside in
            let facts = at_one h precinct number band _ _ here has in
            inr (inr (record { split = split.0; from = more; to = split.1; type_is = facts.0; line_is = facts.1 }))
      ]
    ]

-- a place of one type, back
one_at : (h : Header) (precinct number band first line : ℕ) → one_type first line ≡ place_in (packet_places h precinct) number → type_number h band ≡ first
    → Contains (packet_bands h (place_in (packet_places h precinct) number)) band × ((place_in (packet_places h precinct) number).line ≡ line)
one_at h precinct number band first line here type = (
  subst (λ place. Contains (packet_bands h place) band) here (bands_in h (one_type first line) band (omega (arith, type)) (omega (arith, type))),
  sym (ap (λ (place : PacketPlace). place.line) here),
)

pub place_at : (h : Header) (precinct number band line : ℕ) → h.nly ≤ 2 → IsAt h precinct number (type_number h band) line
    → (number < length (packet_places h precinct)) × Contains (packet_bands h (place_in (packet_places h precinct) number)) band × ((place_in (packet_places h precinct) number).line ≡ line)
place_at h precinct number band line few (inl wide) =
    let count = places_counted h.nlx h.nly precinct few in
    let has : Contains (packet_bands h (place_in (packet_places h precinct) 0)) band = bands_in h (place_in (packet_places h precinct) 0) band (omega arith) (omega (arith, wide.inside)) in (
      omega (arith, wide.first),
      subst (λ k. Contains (packet_bands h (place_in (packet_places h precinct) k)) band) (sym wide.first) has,
      ap (λ k. (place_in (packet_places h precinct) k).line) wide.first ∙ sym wide.line_is,
    )
place_at h precinct number band line few (inr (inl deep)) =
    let count = places_counted h.nlx h.nly precinct few in
    let more : 2 ≤ 2 ^ h.nly = some_lines h.nly deep.split few in
    let back = one_at h precinct number band _ _ (first_level h.nlx h.nly precinct number deep.split few deep.from deep.to) deep.type_is in
    (omega (arith, count, more, deep.to), back.0, back.1 ∙ sym deep.line_is)
  where
    some_lines : (nly : ℕ) → 1 ≤ nly → nly ≤ 2 → 2 ≤ 2 ^ nly
    some_lines zero some few = absurd (omega (arith, some))
    some_lines (suc zero) some few = omega arith
    some_lines (suc (suc zero)) some few = omega arith
    some_lines (suc (suc (suc nly))) some few = absurd (omega (arith, few))
place_at h precinct number band line few (inr (inr next)) =
    let count : length (packet_places h precinct) ≡ 10 = places_counted h.nlx h.nly precinct few ∙ ap (λ k. 3 * 2 ^ k - 2) next.split in
    let inside : number < length (packet_places h precinct) = omega (arith, count, next.to) in
    let back = one_at h precinct number band _ _ (second_level h.nlx h.nly precinct number few (omega (arith, next.from)) inside) next.type_is in
    (inside, back.0, back.1 ∙ sym next.line_is)

-- What a place tells

-- the precinct by the line
pub precinct_by_line : (h : Header) (precinct number type line : ℕ) → h.nly ≤ h.nlx → IsAt h precinct number type line → line / lines_in h (type_at h type) ≡ precinct
precinct_by_line h precinct number type line below (inl wide) = ap (λ n. line / n) (wide_lines h type below wide.inside) ∙ omega (arith, wide.line_is)
precinct_by_line h precinct number type line below (inr (inl deep)) =
    let side : number - 1 < 3 = omega (arith, deep.to, deep.from) in
    let here : type ≡ h.nlx - h.nly + 1 + (3 * 0 + (number - 1)) = omega (arith, deep.type_is) in
    ap (λ n. line / n) (deep_lines h type 0 (number - 1) here (omega (arith, deep.split)) side) ∙ omega (arith, deep.line_is)
precinct_by_line h precinct number type line below (inr (inr next)) =
    let side : (number - 4) % 3 < 3 = omega arith in
    let here : type ≡ h.nlx - h.nly + 1 + (3 * 1 + (number - 4) % 3) = omega (arith, next.type_is) in
    ap (λ n. line / n) (deep_lines h type 1 ((number - 4) % 3) here (omega (arith, next.split)) side) ∙ omega (arith, next.line_is, next.to, next.from)

-- a type and a line stand at one number of a precinct
pub one_number : (h : Header) (precinct number other type line : ℕ) → IsAt h precinct number type line → IsAt h precinct other type line → number ≡ other
one_number h precinct number other type line (inl a) (inl b) = omega (arith, a.first, b.first)
one_number h precinct number other type line (inl a) (inr (inl b)) = absurd (omega (arith, a.inside, b.type_is))
one_number h precinct number other type line (inl a) (inr (inr b)) = absurd (omega (arith, a.inside, b.type_is))
one_number h precinct number other type line (inr (inl a)) (inl b) = absurd (omega (arith, b.inside, a.type_is))
one_number h precinct number other type line (inr (inl a)) (inr (inl b)) = omega (arith, a.type_is, b.type_is, a.from, b.from)
one_number h precinct number other type line (inr (inl a)) (inr (inr b)) = absurd (omega (arith, a.type_is, b.type_is, a.to, a.from))
one_number h precinct number other type line (inr (inr a)) (inl b) = absurd (omega (arith, b.inside, a.type_is))
one_number h precinct number other type line (inr (inr a)) (inr (inl b)) = absurd (omega (arith, a.type_is, b.type_is, b.to, b.from))
one_number h precinct number other type line (inr (inr a)) (inr (inr b)) = omega (arith, a.type_is, b.type_is, a.line_is, b.line_is, a.from, b.from)

-- each type and line stand at a number of a precinct
pub some_number : (h : Header) (type line : ℕ) → h.nly ≤ 2 → h.nly ≤ h.nlx → type < 2 * h.nly + h.nlx + 1 → (precinct number : ℕ) × IsAt h precinct number type line
some_number h type line few below there =
    elim (cases_lt type (h.nlx - h.nly + 1)) [
      | inl less ↦ (line, 0, inl (record { first = refl; inside = omega (arith, less); line_is = refl }))
      | inr more ↦ elim (cases_lt type (h.nlx - h.nly + 4)) [
        | inl less ↦ (
          line,
          1 + (type - (h.nlx - h.nly + 1)),
          inr (inl (record { split = omega (arith, more, there, below); from = omega arith; to = omega (arith, less, more); type_is = omega (arith, more); line_is = refl })),
        )
        | inr past ↦ (
          line / 2,
          4 + 3 * (line % 2) + (type - (h.nlx - h.nly + 4)),
          inr (inr (record {
            split = omega (arith, past, there, below, few);
            from = omega arith;
            to = omega (arith, past, there, below, few);
            type_is = omega (arith, past, there, below, few);
            line_is = omega (arith, past, there, below, few);
          })),
        )
      ]
    ]

-- the type is one of the types
pub type_there : (h : Header) (precinct number type line : ℕ) → h.nly ≤ h.nlx → IsAt h precinct number type line → type < 2 * h.nly + h.nlx + 1
type_there h precinct number type line below (inl wide) = omega (arith, wide.inside)
type_there h precinct number type line below (inr (inl deep)) = omega (arith, deep.type_is, deep.to, deep.split, below)
type_there h precinct number type line below (inr (inr next)) = omega (arith, next.type_is, next.split, below)

-- the first band of the place is as high as each of the type
pub same_rows : (h : Header) (precinct number type line : ℕ) → h.nly ≤ 2 → number < length (packet_places h precinct) → IsAt h precinct number type line
    → band_height_of h ((place_in (packet_places h precinct) number).first_type * components_of h.shape.format) ≡ rows_in h (type_at h type)
same_rows h precinct number type line few inside (inl wide) =
    ap (λ k. band_height_of h ((place_in (packet_places h precinct) k).first_type * components_of h.shape.format)) wide.first ∙ first_height h 0 ∙ wide_rows h 0 (omega arith) ∙ sym (wide_rows h type wide.inside)
same_rows h precinct number type line few inside (inr (inl deep)) =
    let first = sym (ap (λ (place : PacketPlace). place.first_type) (first_level h.nlx h.nly precinct number deep.split few deep.from deep.to)) ∙ sym deep.type_is in
    ap (λ k. band_height_of h (k * components_of h.shape.format)) first ∙ first_height h type
same_rows h precinct number type line few inside (inr (inr next)) =
    let first = sym (ap (λ (place : PacketPlace). place.first_type) (second_level h.nlx h.nly precinct number few (omega (arith, next.from)) inside)) ∙ sym next.type_is in
    ap (λ k. band_height_of h (k * components_of h.shape.format)) first ∙ first_height h type
