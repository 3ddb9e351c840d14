-- The joiners of the components, one after the other.
use Rattle.std.proofs.Common.{◌≡◌, ℕ, zero, suc, ◌+◌, ◌-◌, ◌*◌, ◌/◌, ◌^◌, ◌<◌, ◌≤◌, List, [], ◌∷◌, ◌++◌, length, length-set, get_or, get_or-set_other, refl, ap, sym, subst, ◌∙◌, arith, inl, inr}
use Rattle.std.proofs.Math.ListN.{set}
use Rattle.std.proofs.lemmas.Bool.{cases_eq}
use Rattle.std.proofs.lemmas.Grind.{get_or-set_at}
use Rattle.std.proofs.lemmas.List.{get_or_append_left, length-append}
use Rattle.std.proofs.Math.Seq.{get_or-append_seam}
use Rattle.xs_layout.specs.Geometry.{components_of}
use Rattle.xs_params.specs.declared.header.Header.{Header}
use Rattle.xs_params.specs.Geometry.{slice_count}
use Rattle.xs_params.specs.Accepted.{IsAccepted}
use Rattle.xs_rate.specs.Coefficients.{Rows}
use Rattle.xs_joiner.specs.declared.joiner.Joiner.{Joiner}
use Rattle.xs_joiner.specs.Chain.{HoldsBands}
use Rattle.xs_geometry.proofs.Counts.{slice_begins}
use Rattle.xs_stripe.specs.Joined.{AreJoiners, IsComponentJoiner, raised_bands}

-- ---- lists of which the first are done

pub first_set : (P : ℕ → Joiner → Type 0) (js : List Joiner) (k : ℕ) (new : Joiner) → k < length js → ((c : ℕ) (other : Joiner) → c < k → P c (get_or js c other)) → P k new
    → (c : ℕ) (other : Joiner) → c < k + 1 → P c (get_or (set js k new) c other)
first_set P js k new inside before here c other below =
    elim (cases_eq c k) [
      | inl same ↦ subst (P c) (sym (get_or-set_at js k c new other same inside)) (subst (λ i. P i new) (sym same) here)
      | inr apart ↦ subst (P c) (sym (get_or-set_other js k c new other apart)) (before c other (omega (arith, below, apart)))
    ]

pub first_added : (P : ℕ → Joiner → Type 0) (js more : List Joiner) (k : ℕ) (new : Joiner) → length js ≡ k → more ≡ js ++ new ∷ [] → ((c : ℕ) (other : Joiner) → c < k → P c (get_or js c other)) → P k new
    → (c : ℕ) (other : Joiner) → c < k + 1 → P c (get_or more c other)
first_added P js more k new many added before here c other below =
    subst (λ xs. P c (get_or xs c other)) (sym added)
    (elim (cases_eq c k) [
      | inl same ↦
          let seen : get_or (js ++ new ∷ []) c other ≡ new = ap (λ i. get_or (js ++ new ∷ []) i other) (same ∙ sym many) ∙ get_or-append_seam js new [] other in
          subst (P c) (sym seen) (subst (λ i. P i new) (sym same) here)
      | inr apart ↦ subst (P c) (sym (get_or_append_left js (new ∷ []) other c (omega (arith, below, apart, many)))) (before c other (omega (arith, below, apart)))
    ])

-- ---- all joiners one step on

-- the joiners of the first components are those of a place, and hold what they need where those before did; the others are as before
pub record AreMoved (h : Header) (first given k : ℕ) (starts : Rows → ℕ → Joiner → Type 0) (old now : List Joiner) : Type 0 where
  pub many : length now ≡ components_of h.shape.format
  pub done : (c : ℕ) (other : Joiner) → c < k → IsComponentJoiner h c first given (get_or now c other)
  pub rest : (c : ℕ) (other : Joiner) → k ≤ c → get_or now c other ≡ get_or old c other
  pub holds : (coefficients : Rows) → ((c : ℕ) (other : Joiner) → c < components_of h.shape.format → starts coefficients c (get_or old c other)) → (c : ℕ) (other : Joiner) → c < k → HoldsBands (raised_bands h coefficients c) (get_or now c other)

pub moved_first : (h : Header) (first given : ℕ) (starts : Rows → ℕ → Joiner → Type 0) (old : List Joiner) → length old ≡ components_of h.shape.format → AreMoved h first given 0 starts old old
moved_first h first given starts old many = record {
  many = many;
  done = λ c other less. absurd (omega (arith, less));
  rest = λ c other past. refl;
  holds = λ coefficients start c other less. absurd (omega (arith, less));
}

pub moved_next : (h : Header) (first given k : ℕ) (starts : Rows → ℕ → Joiner → Type 0) (old now : List Joiner) (was new : Joiner) → AreMoved h first given k starts old now → k < components_of h.shape.format
    → was ≡ get_or now k was → IsComponentJoiner h k first given new → ((coefficients : Rows) → starts coefficients k was → HoldsBands (raised_bands h coefficients k) new)
    → AreMoved h first given (k + 1) starts old (set now k new)
moved_next h first given k starts old now was new m less is state holds =
    let inside : k < length now = omega (arith, less, m.many) in
    record {
      many = length-set now k new ∙ m.many;
      done = first_set (λ c j. IsComponentJoiner h c first given j) now k new inside m.done state;
      rest = λ c other past. get_or-set_other now k c new other (λ e. omega (arith, e, past)) ∙ m.rest c other (omega (arith, past));
      holds = λ coefficients start. first_set (λ c j. HoldsBands (raised_bands h coefficients c) j) now k new inside (m.holds coefficients start)
          (holds coefficients (subst (starts coefficients k) (sym (is ∙ m.rest k was (omega arith))) (start k was less)));
    }

pub moved_all : (h : Header) (first given k : ℕ) (starts : Rows → ℕ → Joiner → Type 0) (old now : List Joiner) → AreMoved h first given k starts old now → components_of h.shape.format ≤ k → AreJoiners h first given now
moved_all h first given k starts old now m all = record { many = m.many; each = λ c other less. m.done c other (omega (arith, less, all)) }

-- a joiner that was not moved yet
pub not_moved : (h : Header) (first given was_first was_given k : ℕ) (starts : Rows → ℕ → Joiner → Type 0) (old now : List Joiner) (was : Joiner) → AreMoved h first given k starts old now → k < components_of h.shape.format
    → was ≡ get_or now k was → AreJoiners h was_first was_given old → IsComponentJoiner h k was_first was_given was
not_moved h first given was_first was_given k starts old now was m less is before =
    subst (IsComponentJoiner h k was_first was_given) (sym (is ∙ m.rest k was (omega arith))) (before.each k was less)

-- ---- new joiners

pub record AreMade (h : Header) (k : ℕ) (js : List Joiner) : Type 0 where
  pub many : length js ≡ k
  pub state : (c : ℕ) (other : Joiner) → c < k → IsComponentJoiner h c 0 0 (get_or js c other)
  pub holds : (coefficients : Rows) (c : ℕ) (other : Joiner) → c < k → HoldsBands (raised_bands h coefficients c) (get_or js c other)

pub made_none : (h : Header) → AreMade h 0 []
made_none h = record { many = refl; state = λ c other less. absurd (omega (arith, less)); holds = λ coefficients c other less. absurd (omega (arith, less)) }

pub made_more : (h : Header) (k : ℕ) (js more : List Joiner) (new : Joiner) → AreMade h k js → more ≡ js ++ new ∷ [] → IsComponentJoiner h k 0 0 new → ((coefficients : Rows) → HoldsBands (raised_bands h coefficients k) new) → AreMade h (k + 1) more
made_more h k js more new m added state holds = record {
  many = ap length added ∙ length-append js (new ∷ []) ∙ ap (λ n. n + 1) m.many;
  state = first_added (λ c j. IsComponentJoiner h c 0 0 j) js more k new m.many added m.state state;
  holds = λ coefficients. first_added (λ c j. HoldsBands (raised_bands h coefficients c) j) js more k new m.many added (m.holds coefficients) (holds coefficients);
}

-- ---- precincts

precinct_begins : (nly height precinct : ℕ) → nly ≤ 2 → precinct < (height + 2 ^ nly - 1) / 2 ^ nly → 2 ^ nly * precinct < height
precinct_begins zero height precinct few there = omega (arith, there)
precinct_begins (suc zero) height precinct few there = omega (arith, there)
precinct_begins (suc (suc zero)) height precinct few there = omega (arith, there)
precinct_begins (suc (suc (suc nly))) height precinct few there = absurd (omega (arith, few))

pub slice_inside : (h : Header) (slice : ℕ) → IsAccepted h → slice < slice_count h → 2 ^ h.nly * (slice * h.hsl) < h.shape.height
slice_inside h slice accepted there =
    precinct_begins h.nly h.shape.height (slice * h.hsl) (omega (arith, accepted.geometry.nly)) (slice_begins h slice accepted.geometry.hsl there)
