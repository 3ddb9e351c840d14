-- How many bytes are held, and the offers of parts one after the other.
use Rattle.std.proofs.Common.{◌≡◌, ℕ, zero, suc, ◌+◌, ◌<◌, ◌≤◌, inl, inr, List, [], ◌∷◌, ◌++◌, length, Option, None, Some, refl, sym, ap, subst, ◌∙◌, arith, take, get_or, append-nil}
use mathlib.Core.Logic.{◌⊎◌}
use Rattle.std.specs.Option.{option_map_or, option_or}
use Rattle.std.specs.List.{range_with_len, sum_by}
use Rattle.std.proofs.lemmas.List.{take_more}
use Rattle.std.proofs.lemmas.List.Concat.{flat_map-append}
use Rattle.std.proofs.lemmas.Bool.{cases_eq}
use Rattle.std.proofs.lemmas.List.Sums.{sum_by-cons}
use Rattle.xs_capture.specs.Offer.{last_unit, Offer, unit_places}
use Rattle.xs_capture.specs.Selection.{Held, bytes_at}
use Rattle.xs_recv.specs.Filed.{held_size, unit_size}
use Rattle.xs_recv.specs.Received.{offers_of_parts}

-- Sums of which one term grows

sum_late : (f g : ℕ → ℕ) (first n : ℕ) → ((k : ℕ) → first ≤ k → g k ≤ f k) → sum_by g (range_with_len first n) ≤ sum_by f (range_with_len first n)
sum_late f g first zero less = omega arith
sum_late f g first (suc n) less =
    let here : g first ≤ f first = less first (omega arith) in
    let rest = sum_late f g (first + 1) n (λ k from. less k (omega (arith, from))) in
    omega (arith, sum_by-cons f first (range_with_len (first + 1) n), sum_by-cons g first (range_with_len (first + 1) n), here, rest)

pub sum_grows : (f g : ℕ → ℕ) (more at first n : ℕ) → ((k : ℕ) → (k ≡ at → ⊥) → g k ≤ f k) → g at ≤ f at + more → sum_by g (range_with_len first n) ≤ sum_by f (range_with_len first n) + more
sum_grows f g more at first zero others here = omega arith
sum_grows f g more at first (suc n) others here = elim (cases_eq first at) [
  | inl same ↦
      let head : g first ≤ f first + more = subst (λ k. g k ≤ f k + more) (sym same) here in
      let rest = sum_late f g (first + 1) n (λ k from. others k (λ e. absurd (omega (arith, e, same, from)))) in
      omega (arith, sum_by-cons f first (range_with_len (first + 1) n), sum_by-cons g first (range_with_len (first + 1) n), head, rest)
  | inr unlike ↦
      let head : g first ≤ f first = others first unlike in
      let rest = sum_grows f g more at (first + 1) n others here in
      omega (arith, sum_by-cons f first (range_with_len (first + 1) n), sum_by-cons g first (range_with_len (first + 1) n), head, rest)
]

not_more : (a b : ℕ) → a ≡ b → a ≤ b
not_more a b same = omega (arith, same)

-- One packet more is held

-- a slot is that of the packet, or it is not
pub same_slot : (p : Offer) (unit place : ℕ) → ((unit ≡ p.unit) × (place ≡ p.place)) ⊎ ((unit ≡ p.unit) × (place ≡ p.place) → ⊥)
same_slot p unit place = elim (cases_eq unit p.unit) [
  | inl one ↦ elim (cases_eq place p.place) [ inl two ↦ inl (one, two) | inr unlike ↦ inr (λ both. unlike both.1) ]
  | inr unlike ↦ inr (λ both. unlike both.0)
]

module _ (p : Offer) (before now : Held) (here : now p.unit p.place ≡ option_or (before p.unit p.place) (Some p)) (others : (unit place : ℕ) → ((unit ≡ p.unit) × (place ≡ p.place) → ⊥) → now unit place ≡ before unit place) where
  abbrev size_of : Option Offer → ℕ
  size_of o = length (option_map_or (λ (q : Offer). q.bytes) o [])

  size_or : (o : Option Offer) → size_of (option_or o (Some p)) ≤ size_of o + length p.bytes
  size_or None = omega arith
  size_or (Some q) = omega arith

  place_grows : size_of (now p.unit p.place) ≤ size_of (before p.unit p.place) + length p.bytes
  place_grows = subst (λ o. size_of o ≤ size_of (before p.unit p.place) + length p.bytes) (sym here) (size_or (before p.unit p.place))

  place_kept : (unit place : ℕ) → ((unit ≡ p.unit) × (place ≡ p.place) → ⊥) → size_of (now unit place) ≤ size_of (before unit place)
  place_kept unit place unlike = not_more (size_of (now unit place)) (size_of (before unit place)) (ap size_of (others unit place unlike))

  unit_grows : unit_size now p.unit ≤ unit_size before p.unit + length p.bytes
  unfolding unit_size
  unit_grows =
      sum_grows (λ place. size_of (before p.unit place)) (λ place. size_of (now p.unit place)) (length p.bytes) p.place 0 unit_places (λ place other. place_kept p.unit place (λ both. other both.1)) place_grows

  unit_kept : (unit : ℕ) → (unit ≡ p.unit → ⊥) → unit_size now unit ≤ unit_size before unit
  unfolding unit_size
  unit_kept unit other = sum_late (λ place. size_of (before unit place)) (λ place. size_of (now unit place)) 0 unit_places (λ place from. place_kept unit place (λ both. other both.0))

  pub all_grow : held_size now ≤ held_size before + length p.bytes
  unfolding held_size
  all_grow = sum_grows (unit_size before) (unit_size now) (length p.bytes) p.unit 0 (last_unit + 1) unit_kept unit_grows

sum_zero : (f : ℕ → ℕ) (first n : ℕ) → ((k : ℕ) → f k ≡ 0) → sum_by f (range_with_len first n) ≡ 0
sum_zero f first zero none = refl
sum_zero f first (suc n) none = omega (arith, sum_by-cons f first (range_with_len (first + 1) n), none first, sum_zero f (first + 1) n none)

none_of_unit : (held : Held) → ((unit place : ℕ) → held unit place ≡ None) → (unit : ℕ) → unit_size held unit ≡ 0
unfolding unit_size
none_of_unit held none unit = sum_zero (λ place. length (bytes_at held unit place)) 0 unit_places (λ place. ap (λ o. length (option_map_or (λ (q : Offer). q.bytes) o [])) (none unit place))

pub none_of_all : (held : Held) → ((unit place : ℕ) → held unit place ≡ None) → held_size held ≡ 0
unfolding held_size
none_of_all held none = sum_zero (unit_size held) 0 (last_unit + 1) (none_of_unit held none)

-- the offers of one part more
pub parts_more : (parts : List (List Offer)) (part : ℕ) → part < length parts → offers_of_parts (take (part + 1) parts) ≡ offers_of_parts (take part parts) ++ get_or parts part []
parts_more parts part there =
    ap offers_of_parts (take_more parts part [] there) ∙ flat_map-append (λ (l : List Offer). l) (take part parts) (get_or parts part [] ∷ [])
    ∙ ap (λ l. offers_of_parts (take part parts) ++ l) (append-nil (get_or parts part []))
