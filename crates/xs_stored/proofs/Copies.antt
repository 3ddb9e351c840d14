-- A copy of a unit's packets has the unit's bytes.
use Rattle.std.proofs.Common.{◌≡◌, ℕ, zero, suc, ◌+◌, ◌<◌, Bool, true, false, Option, Some, List, [], ◌∷◌, ◌++◌, length, All, append-nil, append_assoc, sym, refl, ap, subst, ◌∙◌, arith}
use Rattle.std.specs.Prelude.{IsSomeAnd}
use Rattle.std.specs.List.{Contains, flat_map}
use Rattle.std.specs.Option.{option_map_or}
use Rattle.std.proofs.lemmas.List.Elements.{All-contains, All-weaker}
use Rattle.std.proofs.lemmas.List.Concat.{flat_map-append}
use Rattle.xs_lists.specs.Spelling.{upto}
use Rattle.xs_lists.proofs.Each.{range-more}
use Rattle.xs_lane_core.specs.Machine.{Actor}
use Rattle.xs_lanes.specs.Claiming.{IsRun}
use Rattle.xs_lanes.specs.Settled.{IsDone}
use Rattle.xs_capture.specs.Offer.{Offer}
use Rattle.xs_capture.specs.Selection.{bytes_at, EndsAt, HasBytes, Held, unit_bytes}
use Rattle.xs_capture.proofs.Wholes.{StaysOpen}
use Rattle.xs_stored.specs.Stored.{packets, held_in, joined_bytes, IsCopy}
use Rattle.xs_stored.specs.Laws.{CopiesHaveBytes}
use Rattle.xs_stored.proofs.Found.{held_is}
use Rattle.xs_stored.proofs.WholeUnits.{opens_more}

-- the bytes of a unit below a place
abbrev bytes_below : Held → ℕ → ℕ → List ℕ
bytes_below held unit place = flat_map (bytes_at held unit) (upto place)

-- the bytes of one place more
joined_more : (held : Held) (unit place : ℕ) → bytes_below held unit (place + 1) ≡ bytes_below held unit place ++ bytes_at held unit place
joined_more held unit place =
    let here : 0 + place ≡ place = omega arith in
    ap (flat_map (bytes_at held unit)) (range-more 0 place ∙ ap (λ k. upto place ++ k ∷ []) here) ∙ flat_map-append (bytes_at held unit) (upto place) (place ∷ [])
    ∙ ap (λ l. bytes_below held unit place ++ l) (append-nil (bytes_at held unit place))

-- the packets of a unit from a place on have the rest of its bytes
abbrev HasRest : Held → ℕ → ℕ → List Offer → Type 0
HasRest held unit place xs = (end : ℕ) × EndsAt held unit end × (bytes_below held unit place ++ joined_bytes xs ≡ unit_bytes held unit end)

run_has_rest : (held : Held) (unit place : ℕ) (xs : List Offer) → IsRun packets unit place xs → All (λ (x : Offer). held x.unit x.place ≡ Some x) xs → StaysOpen held unit place → HasRest held unit place xs
run_has_rest held unit place [] run all opens = absurd run
run_has_rest held unit place (x ∷ xs) run all opens = by_end (λ r o. run_has_rest held unit (suc place) xs r (λ i d lt. all (suc i) d (omega arith)) o) x.last refl
  where
    is : held unit place ≡ Some x
    is = subst (λ u. held u place ≡ Some x) run.0 (subst (λ p. held x.unit p ≡ Some x) run.1 (all 0 x (omega arith)))

    bytes : bytes_at held unit place ≡ x.bytes
    bytes = ap (λ o. option_map_or (λ (p : Offer). p.bytes) o []) is

    by_end : (IsRun packets unit (suc place) xs → StaysOpen held unit (suc place) → HasRest held unit (suc place) xs) → (b : Bool) → x.last ≡ b → HasRest held unit place (x ∷ xs)
    by_end more true e = (
      place,
      record { closes = subst (λ (o : Option Offer). IsSomeAnd o (λ p. p.last ≡ true)) (sym is) e; before = opens },
      ap (λ ys. bytes_below held unit place ++ (x.bytes ++ joined_bytes ys)) (run.2 e) ∙ ap (λ l. bytes_below held unit place ++ l) (append-nil x.bytes ∙ sym bytes) ∙ sym (joined_more held unit place),
    )
    by_end more false e =
        let rest = more (run.3 e) (opens_more held unit place opens (subst (λ (o : Option Offer). IsSomeAnd o (λ p. p.last ≡ false)) (sym is) e)) in
        let next : place + 1 ≡ suc place = omega arith in
        let step : bytes_below held unit (suc place) ≡ bytes_below held unit place ++ x.bytes = ap (bytes_below held unit) (sym next) ∙ joined_more held unit place ∙ ap (λ l. bytes_below held unit place ++ l) bytes in
        (rest.0, rest.1, sym (append_assoc (bytes_below held unit place) x.bytes (joined_bytes xs)) ∙ ap (λ l. l ++ joined_bytes xs) (sym step) ∙ rest.2)

pub copies_have_bytes : CopiesHaveBytes
copies_have_bytes v unit bytes done copy =
    let stored : (x : Offer) → Contains v.got x → Contains v.stored x = λ x got. All-contains (Contains v.stored) v.got x done.got got in
    let held : All (λ (x : Offer). held_in v.stored x.unit x.place ≡ Some x) copy.values =
    All-weaker (Contains v.got) (λ (x : Offer). held_in v.stored x.unit x.place ≡ Some x) (λ x got. held_is v.stored x (stored x got) (done.choice.one x.unit x.place)) copy.values copy.from in
    let rest = run_has_rest (held_in v.stored) unit 0 copy.values copy.run held (λ before below. absurd (omega (arith, below))) in
    (rest.0, rest.1, copy.joins ∙ rest.2)
