-- Rows in one block stay where they are when another is added.
use Rattle.std.proofs.Common.{◌≡◌, ℕ, zero, suc, ◌+◌, ◌-◌, ◌<◌, ◌≤◌, List, [], ◌∷◌, ◌++◌, length, get_or, take, drop, ap, ◌∙◌, arith}
use Rattle.std.proofs.lemmas.List.{take-append-le, drop-append-le, length-drop, length-map, get_or-map}
use Rattle.std.proofs.Math.Seq.{drop-append_seam, take-length}
use Rattle.xs_stripe.specs.Block.{rows_at_places, StandIn}
use Rattle.xs_stripe.specs.declared.place.RowPlace.{RowPlace}

pub stand_at : (all : ℕ) (ps : List RowPlace) (at : ℕ) (other : RowPlace) → at < length ps → StandIn all ps → ((get_or ps at other).start ≤ (get_or ps at other).end) × ((get_or ps at other).end ≤ all)
stand_at all [] at other inside stand = absurd (omega (arith, inside))
stand_at all (p ∷ ps) zero other inside stand = (stand.0, stand.1)
stand_at all (p ∷ ps) (suc at) other inside stand = stand_at all ps at other (omega (arith, inside)) stand.2

pub stand_more : (all more : ℕ) (ps : List RowPlace) → all ≤ more → StandIn all ps → StandIn more ps
stand_more all more [] least stand = omega arith
stand_more all more (p ∷ ps) least stand = (stand.0, omega (arith, stand.1, least), stand_more all more ps least stand.2)

pub stand_push : (all : ℕ) (ps : List RowPlace) (p : RowPlace) → p.start ≤ p.end → p.end ≤ all → StandIn all ps → StandIn all (ps ++ p ∷ [])
stand_push all [] p order inside stand = (order, inside, omega arith)
stand_push all (q ∷ ps) p order inside stand = (stand.0, stand.1, stand_push all ps p order inside stand.2)

part_kept : {T : Type 0} (start end : ℕ) (xs ys : List T) → start ≤ end → end ≤ length xs → take (end - start) (drop start (xs ++ ys)) ≡ take (end - start) (drop start xs)
part_kept start end xs ys order inside =
    ap (take (end - start)) (drop-append-le start xs ys (omega (arith, order, inside)))
    ∙ take-append-le (end - start) (drop start xs) ys (omega (arith, length-drop start xs, order, inside))

part_added : {T : Type 0} (xs ys : List T) (start end : ℕ) → start ≡ length xs → end ≡ length xs + length ys → take (end - start) (drop start (xs ++ ys)) ≡ ys
part_added xs ys start end is_start is_end =
    let count : end - start ≡ length ys = omega (arith, is_start, is_end) in
    ap (λ k. take (end - start) (drop k (xs ++ ys))) is_start ∙ ap (take (end - start)) (drop-append_seam xs ys) ∙ ap (λ k. take k ys) count ∙ take-length ys

pub rows_kept : {T : Type 0} (ps : List RowPlace) (xs ys : List T) → StandIn (length xs) ps → rows_at_places ps (xs ++ ys) ≡ rows_at_places ps xs
rows_kept [] xs ys stand = cc
rows_kept (p ∷ ps) xs ys stand =
    ap (λ r. r ∷ rows_at_places ps (xs ++ ys)) (part_kept p.start p.end xs ys stand.0 stand.1) ∙ ap (λ r. take (p.end - p.start) (drop p.start xs) ∷ r) (rows_kept ps xs ys stand.2)

pub rows_added : {T : Type 0} (ps : List RowPlace) (p : RowPlace) (xs ys : List T) → p.start ≡ length xs → p.end ≡ length xs + length ys → StandIn (length xs) ps → rows_at_places (ps ++ p ∷ []) (xs ++ ys) ≡ rows_at_places ps xs ++ ys ∷ []
rows_added [] p xs ys start end stand = ap (λ r. r ∷ []) (part_added xs ys p.start p.end start end)
rows_added (q ∷ ps) p xs ys start end stand =
    ap (λ r. r ∷ rows_at_places (ps ++ p ∷ []) (xs ++ ys)) (part_kept q.start q.end xs ys stand.0 stand.1) ∙ ap (λ r. take (q.end - q.start) (drop q.start xs) ∷ r) (rows_added ps p xs ys start end stand.2)

pub row_at_place : {T : Type 0} (ps : List RowPlace) (xs : List T) (at : ℕ) (other : RowPlace) → at < length ps → get_or (rows_at_places ps xs) at [] ≡ take ((get_or ps at other).end - (get_or ps at other).start) (drop (get_or ps at other).start xs)
row_at_place ps xs at other inside = get_or-map (λ p. take (p.end - p.start) (drop p.start xs)) ps at other [] inside

pub rows_count : {T : Type 0} (ps : List RowPlace) (xs : List T) → length (rows_at_places ps xs) ≡ length ps
rows_count ps xs = length-map ps (λ p. take (p.end - p.start) (drop p.start xs))
