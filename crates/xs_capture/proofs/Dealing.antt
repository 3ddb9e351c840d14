-- Packets dealt in turn.
use Rattle.std.proofs.Common.{◌≡◌, ◌≢◌, ℕ, ◌+◌, ◌%◌, ◌<◌, List, [], ◌∷◌, ◌++◌, length, map, set, replicate, get_or, Bool, true, false, refl, sym, ap, ◌∙◌, arith, cond, length-append}
use Rattle.std.specs.Prelude.{nat_eq, if◌then◌else◌}
use Rattle.std.specs.List.{zip, filter}
use Rattle.std.proofs.lemmas.Bool.{eqb-true, eq-eqb}
use Rattle.std.proofs.lemmas.List.{get_or-map, map-append}
use Rattle.std.proofs.lemmas.List.FromFn.{length-range_with_len, get_or-range_with_len}
use Rattle.std.proofs.lemmas.List.Elements.{filter-append}
use Rattle.xs_lists.specs.Spelling.{upto}
use Rattle.xs_lists.proofs.Each.{range-more}
use Rattle.xs_capture.specs.Offer.{Offer}
use Rattle.xs_capture.specs.Pictures.{dealt_part, dealt_parts}
use Rattle.xs_capture.proofs.Edits.{chosen, passed, map_but, map_one, zip_more}

abbrev of_part : ℕ → ℕ → Offer × ℕ → Bool
of_part parts part entry = nat_eq (entry.1 % parts) part

kept_one : (b : Bool) (p : Offer) (n : ℕ) → map (λ (entry : Offer × ℕ). entry.0) (cond b ((p, n) ∷ []) []) ≡ (if b then p ∷ [] else [])
kept_one true p n = refl
kept_one false p n = refl

-- one packet more
part_more : (parts : ℕ) (offers : List Offer) (p : Offer) (part : ℕ)
    → dealt_part parts (offers ++ p ∷ []) part ≡ dealt_part parts offers part ++ (if nat_eq (length offers % parts) part then p ∷ [] else [])
part_more parts offers p part =
    let pairs = zip offers (upto (length offers)) in
    let count : length (offers ++ p ∷ []) ≡ length offers + 1 = omega (arith, length-append offers (p ∷ [])) in
    let size : length offers ≡ length (upto (length offers)) = sym (length-range_with_len 0 (length offers)) in
    let last : 0 + length offers ≡ length offers = omega arith in
    let pair : zip (offers ++ p ∷ []) (upto (length (offers ++ p ∷ []))) ≡ pairs ++ (p, length offers) ∷ [] =
    ap (λ n. zip (offers ++ p ∷ []) (upto n)) count ∙ ap (λ l. zip (offers ++ p ∷ []) l) (range-more 0 (length offers))
    ∙ ap (λ n. zip (offers ++ p ∷ []) (upto (length offers) ++ n ∷ [])) last ∙ zip_more offers (upto (length offers)) p (length offers) size in
    ap (λ l. map (λ (entry : Offer × ℕ). entry.0) (filter (of_part parts part) l)) pair
    ∙ ap (map (λ (entry : Offer × ℕ). entry.0)) (filter-append (of_part parts part) pairs ((p, length offers) ∷ []))
    ∙ map-append (λ (entry : Offer × ℕ). entry.0) (filter (of_part parts part) pairs) (filter (of_part parts part) ((p, length offers) ∷ []))
    ∙ ap (λ l. dealt_part parts offers part ++ l) (kept_one (nat_eq (length offers % parts) part) p (length offers))

pub dealt_more : (parts : ℕ) (offers : List Offer) (p : Offer) → 0 < parts
    → dealt_parts parts (offers ++ p ∷ []) ≡ set (dealt_parts parts offers) (length offers % parts) (get_or (dealt_parts parts offers) (length offers % parts) [] ++ p ∷ [])
dealt_more parts offers p some =
    let k = length offers % parts in
    let inside : length offers % parts < parts = omega (arith, some) in
    let count : length (upto parts) ≡ parts = length-range_with_len 0 parts in
    let there : length offers % parts < length (upto parts) = omega (arith, inside, count) in
    let at : get_or (upto parts) (length offers % parts) 0 ≡ length offers % parts = let e : 0 + length offers % parts ≡ length offers % parts = omega arith in get_or-range_with_len 0 parts (length offers % parts) 0 inside ∙ e in
    let this : dealt_part parts (offers ++ p ∷ []) (get_or (upto parts) (length offers % parts) 0) ≡ dealt_part parts offers (get_or (upto parts) (length offers % parts) 0) ++ p ∷ [] =
    part_more parts offers p (get_or (upto parts) (length offers % parts) 0)
    ∙ chosen (nat_eq (length offers % parts) (get_or (upto parts) (length offers % parts) 0)) (dealt_part parts offers (get_or (upto parts) (length offers % parts) 0)) p (eq-eqb (length offers % parts) (get_or (upto parts) (length offers % parts) 0) (sym at)) in
    let old : get_or (dealt_parts parts offers) (length offers % parts) [] ≡ dealt_part parts offers (get_or (upto parts) (length offers % parts) 0) = get_or-map (dealt_part parts offers) (upto parts) (length offers % parts) 0 [] there in
    map_but (dealt_part parts offers) (dealt_part parts (offers ++ p ∷ [])) (upto parts) (length offers % parts) 0 there others
    ∙ ap (λ l. set (dealt_parts parts offers) (length offers % parts) l) (this ∙ ap (λ l. l ++ p ∷ []) (sym old))
  where
    others : (j : ℕ) → j < length (upto parts) → j ≢ length offers % parts → dealt_part parts (offers ++ p ∷ []) (get_or (upto parts) j 0) ≡ dealt_part parts offers (get_or (upto parts) j 0)
    others j below apart =
        let count : length (upto parts) ≡ parts = length-range_with_len 0 parts in
        let less : j < parts = omega (arith, below, count) in
        let zero_more : 0 + j ≡ j = omega arith in
        let at : get_or (upto parts) j 0 ≡ j = get_or-range_with_len 0 parts j 0 less ∙ zero_more in
        part_more parts offers p (get_or (upto parts) j 0)
        ∙ passed (nat_eq (length offers % parts) (get_or (upto parts) j 0)) (dealt_part parts offers (get_or (upto parts) j 0)) p
        (λ so. apart (sym (eqb-true (length offers % parts) (get_or (upto parts) j 0) so ∙ at)))

-- none
pub dealt_none : (parts : ℕ) → dealt_parts parts [] ≡ replicate parts []
dealt_none parts = map_one [] (upto parts) ∙ ap (λ n. replicate n []) (length-range_with_len 0 parts)
