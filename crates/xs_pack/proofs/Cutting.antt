-- Units cut into packets, one after the other.
use Rattle.std.proofs.Common.{◌≡◌, ℕ, zero, suc, ◌+◌, ◌*◌, ◌<◌, ◌≤◌, ◌^◌, List, [], ◌∷◌, ◌++◌, length, get_or, map, Bool, true, false, refl, sym, ap, subst, ◌∙◌, arith, append-nil, length-append}
use Rattle.std.specs.Prelude.{nat_eq, sum_by}
use Rattle.std.specs.List.{flat_map}
use mathlib.Core.Logic.{inl, inr}
use Rattle.std.proofs.lemmas.Bool.{cases_lt, eqb-true, eq-eqb}
use Rattle.std.proofs.lemmas.List.{map-append}
use Rattle.std.proofs.lemmas.List.Concat.{flat_map-append}
use Rattle.std.proofs.lemmas.List.FromFn.{length-map-range_with_len}
use Rattle.std.proofs.lemmas.List.Sums.{sum_by-append}
use Rattle.xs_lists.specs.Spelling.{upto}
use Rattle.xs_lists.proofs.Each.{range-more}
use Rattle.xs_params.specs.Markers.{eoc}
use Rattle.xs_params.specs.Stream.{Stream}
use Rattle.xs_params.specs.declared.settings.Settings.{Settings}
use Rattle.xs_pack.specs.declared.packing.Packer.{Packer}
use Rattle.xs_pack.specs.Datagrams.{datagram, ended, IsPackable, piece_count, pieces_before, sent_unit, unit_at, unit_datagrams, unit_pieces, units_of}
use Rattle.xs_pack.specs.Packing.{datagrams_below}
use Rattle.xs_pack.proofs.Pieces.{few_pieces}

-- one number more
upto_more : (n : ℕ) → upto (n + 1) ≡ upto n ++ n ∷ []
upto_more n = let e : 0 + n ≡ n = omega arith in range-more 0 n ∙ ap (λ k. upto n ++ k ∷ []) e

pub map_more : {A : Type 0} (f : ℕ → A) (n : ℕ) → map f (upto (n + 1)) ≡ map f (upto n) ++ f n ∷ []
map_more f n = ap (map f) (upto_more n) ∙ map-append f (upto n) (n ∷ [])

-- Slices, and the units that they are sent in

pub length-ended : (slices : List (List ℕ)) → length (ended slices) ≡ length slices
length-ended [] = refl
length-ended (slice ∷ []) = refl
length-ended (slice ∷ next ∷ slices) = let e = length-ended (next ∷ slices) in omega (arith, e)

pub ended_other : (slices : List (List ℕ)) (k : ℕ) → k + 1 < length slices → get_or (ended slices) k [] ≡ get_or slices k []
ended_other [] k less = refl
ended_other (slice ∷ []) zero less = absurd (omega (arith, less))
ended_other (slice ∷ []) (suc k) less = absurd (omega (arith, less))
ended_other (slice ∷ next ∷ slices) zero less = refl
ended_other (slice ∷ next ∷ slices) (suc k) less = ended_other (next ∷ slices) k (omega (arith, less))

pub ended_last : (slices : List (List ℕ)) (k : ℕ) → k + 1 ≡ length slices → get_or (ended slices) k [] ≡ get_or slices k [] ++ eoc
ended_last [] k same = absurd (omega (arith, same))
ended_last (slice ∷ []) zero same = refl
ended_last (slice ∷ []) (suc k) same = absurd (omega (arith, same))
ended_last (slice ∷ next ∷ slices) zero same = absurd (omega (arith, same))
ended_last (slice ∷ next ∷ slices) (suc k) same = ended_last (next ∷ slices) k (omega (arith, same))

-- the unit of a slice
unit_of_slice : (header : List ℕ) (units : List (List ℕ)) (k : ℕ) → unit_at (header ∷ units) (k + 1) ≡ get_or units k []
unit_of_slice header units k = let e : k + 1 ≡ suc k = omega arith in ap (unit_at (header ∷ units)) e

pub unit_other : (boxes : List ℕ) (stream : Stream) (k : ℕ) → k + 1 < length stream.slices → unit_at (units_of boxes stream) (k + 1) ≡ get_or stream.slices k []
unit_other boxes stream k less = unit_of_slice (boxes ++ stream.header) (ended stream.slices) k ∙ ended_other stream.slices k less

pub unit_last : (boxes : List ℕ) (stream : Stream) (k : ℕ) → k + 1 ≡ length stream.slices → unit_at (units_of boxes stream) (k + 1) ≡ get_or stream.slices k [] ++ eoc
unit_last boxes stream k same = unit_of_slice (boxes ++ stream.header) (ended stream.slices) k ∙ ended_last stream.slices k same

pub unit_count : (boxes : List ℕ) (stream : Stream) → length (units_of boxes stream) ≡ length stream.slices + 1
unit_count boxes stream = let e = length-ended stream.slices in omega (arith, e)

same_tests : (x y : Bool) → (x ≡ true → y ≡ true) → (y ≡ true → x ≡ true) → x ≡ y
same_tests true y there back = sym (there refl)
same_tests false true there back = absurd (cc (back refl))
same_tests false false there back = refl

-- whether a unit ends the picture
pub final_unit : (boxes : List ℕ) (stream : Stream) (k : ℕ) → k + 1 ≡ length stream.slices → true ≡ nat_eq (k + 1 + 1) (length (units_of boxes stream))
final_unit boxes stream k last = sym (eq-eqb (k + 1 + 1) (length (units_of boxes stream)) (omega (arith, last, unit_count boxes stream)))

pub other_unit : (boxes : List ℕ) (stream : Stream) (k : ℕ) → k + 1 < length stream.slices → false ≡ nat_eq (k + 1 + 1) (length (units_of boxes stream))
other_unit boxes stream k less =
    same_tests false (nat_eq (k + 1 + 1) (length (units_of boxes stream))) (λ e. absurd (cc e))
    (λ e. let is : k + 1 + 1 ≡ length (units_of boxes stream) = eqb-true (k + 1 + 1) (length (units_of boxes stream)) e in absurd (omega (arith, is, less, unit_count boxes stream)))

pub is_header_final : (boxes : List ℕ) (stream : Stream) (count : ℕ) → count ≡ length stream.slices → nat_eq count 0 ≡ nat_eq 1 (length (units_of boxes stream))
is_header_final boxes stream count same =
    let units = unit_count boxes stream in
    same_tests (nat_eq count 0) (nat_eq 1 (length (units_of boxes stream)))
    (λ e. let is : count ≡ 0 = eqb-true count 0 e in eq-eqb 1 (length (units_of boxes stream)) (omega (arith, is, same, units)))
    (λ e. let is : 1 ≡ length (units_of boxes stream) = eqb-true 1 (length (units_of boxes stream)) e in eq-eqb count 0 (omega (arith, is, same, units)))

-- Packets

abbrev packets_in : Packer → Stream → ℕ → List (List ℕ)
packets_in packer stream unit = unit_datagrams packer.settings.now (sent_unit packer.settings.now (units_of packer.settings.now.boxes stream) packer.picture packer.sequence unit)

-- one unit more
pub below_more : (packer : Packer) (stream : Stream) (unit : ℕ) → datagrams_below packer stream (unit + 1) ≡ datagrams_below packer stream unit ++ packets_in packer stream unit
below_more packer stream unit =
    ap (flat_map (packets_in packer stream)) (upto_more unit) ∙ flat_map-append (packets_in packer stream) (upto unit) (unit ∷ [])
    ∙ ap (λ l. datagrams_below packer stream unit ++ l) (append-nil (packets_in packer stream unit))

-- how many packets there are before a unit
before_more : (chunk : ℕ) (units : List (List ℕ)) (unit : ℕ) → pieces_before chunk units (unit + 1) ≡ pieces_before chunk units unit + unit_pieces chunk units unit
before_more chunk units unit =
    let sum = sum_by-append (unit_pieces chunk units) (upto unit) (unit ∷ []) in
    let more : pieces_before chunk units (unit + 1) ≡ sum_by (unit_pieces chunk units) (upto unit ++ unit ∷ []) = ap (sum_by (unit_pieces chunk units)) (upto_more unit) in
    omega (arith, sum, more)

pub below_count : (packer : Packer) (stream : Stream) (unit : ℕ) → length (datagrams_below packer stream unit) ≡ pieces_before packer.settings.now.chunk (units_of packer.settings.now.boxes stream) unit
below_count packer stream zero = refl
below_count packer stream (suc unit) =
    let one : unit + 1 ≡ suc unit = omega arith in
    let rest = below_count packer stream unit in
    let chunk = packer.settings.now.chunk in
    let units = units_of packer.settings.now.boxes stream in
    let here : length (packets_in packer stream unit) ≡ unit_pieces packer.settings.now.chunk (units_of packer.settings.now.boxes stream) unit =
    length-map-range_with_len (datagram packer.settings.now (sent_unit packer.settings.now (units_of packer.settings.now.boxes stream) packer.picture packer.sequence unit)) 0 (unit_pieces packer.settings.now.chunk (units_of packer.settings.now.boxes stream) unit) in
    let joined : length (datagrams_below packer stream (unit + 1)) ≡ length (datagrams_below packer stream unit) + length (packets_in packer stream unit) =
    ap length (below_more packer stream unit) ∙ length-append (datagrams_below packer stream unit) (packets_in packer stream unit) in
    let sum = before_more packer.settings.now.chunk (units_of packer.settings.now.boxes stream) unit in
    ap (λ n. length (datagrams_below packer stream n)) (sym one) ∙ (omega (arith, joined, rest, here, sum)) ∙ ap (pieces_before packer.settings.now.chunk (units_of packer.settings.now.boxes stream)) one

-- and that they are few
pub few_before : (chunk : ℕ) (units : List (List ℕ)) → ((unit : ℕ) → unit < length units → unit_pieces chunk units unit ≤ 512) → (unit : ℕ) → unit ≤ length units → pieces_before chunk units unit ≤ 512 * unit
few_before chunk units few zero inside = omega arith
few_before chunk units few (suc unit) inside =
    let one : unit + 1 ≡ suc unit = omega arith in
    let rest = few_before chunk units few unit (omega (arith, inside)) in
    let here = few unit (omega (arith, inside)) in
    let sum = before_more chunk units unit in
    let same : pieces_before chunk units (unit + 1) ≡ pieces_before chunk units (suc unit) = ap (pieces_before chunk units) one in
    omega (arith, rest, here, sum, same)

-- a unit whose packets are appended to those of the units before it
pub unit_packed : (packer : Packer) (stream : Stream) (unit : ℕ) (old new : List (List ℕ)) (bytes : List ℕ) (final : Bool)
    → bytes ≡ unit_at (units_of packer.settings.now.boxes stream) unit → final ≡ nat_eq (unit + 1) (length (units_of packer.settings.now.boxes stream)) → old ≡ datagrams_below packer stream unit
    → new ≡ old ++ unit_datagrams packer.settings.now (record { number = unit; bytes = bytes; final = final; picture = packer.picture; first = packer.sequence + length old })
    → new ≡ datagrams_below packer stream (unit + 1)
unit_packed packer stream unit old new bytes final same ends before made =
    let there = unit_at (units_of packer.settings.now.boxes stream) unit in
    let last = nat_eq (unit + 1) (length (units_of packer.settings.now.boxes stream)) in
    let below = datagrams_below packer stream unit in
    made
    ∙ ap (λ b. old ++ unit_datagrams packer.settings.now (record { number = unit; bytes = b; final = final; picture = packer.picture; first = packer.sequence + length old })) same
    ∙ ap (λ f. old ++ unit_datagrams packer.settings.now (record { number = unit; bytes = there; final = f; picture = packer.picture; first = packer.sequence + length old })) ends
    ∙ ap (λ l. l ++ unit_datagrams packer.settings.now (record { number = unit; bytes = there; final = last; picture = packer.picture; first = packer.sequence + length l })) before
    ∙ ap (λ n. below ++ unit_datagrams packer.settings.now (record { number = unit; bytes = there; final = last; picture = packer.picture; first = packer.sequence + n })) (below_count packer stream unit)
    ∙ sym (below_more packer stream unit)

-- its pieces are few
pub few_in : (packer : Packer) (stream : Stream) (unit : ℕ) (bytes : List ℕ) → IsPackable packer.settings.now stream → unit < length (units_of packer.settings.now.boxes stream)
    → bytes ≡ unit_at (units_of packer.settings.now.boxes stream) unit → piece_count packer.settings.now.chunk bytes ≤ 512
few_in packer stream unit bytes packable inside same = subst (λ b. piece_count packer.settings.now.chunk b ≤ 512) (sym same) (packable.pieces unit inside)

-- and so are all packets
pub few_below : (packer : Packer) (stream : Stream) (unit : ℕ) (packets : List (List ℕ)) → IsPackable packer.settings.now stream → unit ≤ length (units_of packer.settings.now.boxes stream)
    → packets ≡ datagrams_below packer stream unit → length packets < 2 ^ 32
few_below packer stream unit packets packable inside same =
    let count : length packets ≡ pieces_before packer.settings.now.chunk (units_of packer.settings.now.boxes stream) unit = ap length same ∙ below_count packer stream unit in
    let few = few_before packer.settings.now.chunk (units_of packer.settings.now.boxes stream) packable.pieces unit inside in
    let units = unit_count packer.settings.now.boxes stream in
    omega (arith, count, few, inside, units, packable.slices)

-- what has the bytes for no more pieces than there are places can be packed
pub packable : (s : Settings) (stream : Stream) → 1 ≤ s.chunk → length stream.slices ≤ 2047 → length s.boxes + length stream.header ≤ 512 * s.chunk
    → ((k : ℕ) → k < length stream.slices → length (get_or stream.slices k []) + 2 ≤ 512 * s.chunk) → IsPackable s stream
packable s stream some slices header each = record { pieces = pieces; slices = slices }
  where
    of_slice : (k : ℕ) → k < length stream.slices → length (get_or (ended stream.slices) k []) ≤ 512 * s.chunk
    of_slice k inside = elim (cases_lt (k + 1) (length stream.slices)) [
      | inl less ↦ let e : length (get_or (ended stream.slices) k []) ≡ length (get_or stream.slices k []) = ap length (ended_other stream.slices k less) in omega (arith, e, each k inside)
      | inr most ↦
          let last : k + 1 ≡ length stream.slices = omega (arith, inside, most) in
          let e : length (get_or (ended stream.slices) k []) ≡ length (get_or stream.slices k []) + 2 = ap length (ended_last stream.slices k last) ∙ length-append (get_or stream.slices k []) eoc in
          omega (arith, e, each k inside)
    ]

    pieces : (unit : ℕ) → unit < length (units_of s.boxes stream) → unit_pieces s.chunk (units_of s.boxes stream) unit ≤ 512
    pieces zero inside = few_pieces s.chunk (s.boxes ++ stream.header) some (omega (arith, header, length-append s.boxes stream.header))
    pieces (suc k) inside =
        let below : k < length stream.slices = omega (arith, inside, unit_count s.boxes stream) in
        few_pieces s.chunk (get_or (ended stream.slices) k []) some (of_slice k below)
