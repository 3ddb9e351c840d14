-- What is read of the items of a range, one after the other.
use Rattle.std.proofs.Common.{◌≡◌, ℕ, zero, suc, ◌+◌, ◌-◌, ◌^◌, ◌<◌, ◌≤◌, List, [], ◌∷◌, ◌++◌, map, length, take, set, refl, sym, ap, ◌∙◌, arith, append_assoc, append-nil}
use Rattle.std.specs.Prelude.{Bool, nat_eq, Result, Ok, Err}
use Rattle.std.specs.List.{range_with_len}
use Rattle.std.proofs.lemmas.List.{take_more_set, take_all, map-append}
use Rattle.std.proofs.lemmas.List.Elements.{All-push}
use Rattle.xs_lists.specs.Bits.{bits_of, bit_of}
use Rattle.xs_bits.specs.Counts.{AreCounts}
use Rattle.xs_spelling.specs.Reading.{read_each}
use Rattle.xs_lists.proofs.Ranges.{range_first, range_end}

-- what was read before stands before the rest
abbrev pub prepend : {B E : Type 0} → List B → Result (List B × List ℕ) E → Result (List B × List ℕ) E
prepend done r = elim r [ Ok others ↦ Ok (done ++ others.0, others.1) | Err fault ↦ Err fault ]

-- what is read of the items from a place on, behind what was read of those before it
abbrev pub reads_on : {B E : Type 0} → (ℕ → List ℕ → Result (B × List ℕ) E) → ℕ → ℕ → List B → List ℕ → Result (List B × List ℕ) E
reads_on read n k into bits = prepend (take k into) (read_each read (range_with_len k (n - k)) bits)

abbrev after_one : {B E : Type 0} → B → Result (List B × List ℕ) E → Result (List B × List ℕ) E
after_one value r = elim r [ Ok others ↦ Ok (value ∷ others.0, others.1) | Err fault ↦ Err fault ]

joined : {B E : Type 0} (done : List B) (value : B) (r : Result (List B × List ℕ) E) → prepend done (after_one value r) ≡ prepend (done ++ value ∷ []) r
joined done value (Ok others) = ap (λ l. Ok (l, others.1)) (sym (append_assoc done (value ∷ []) others.0))
joined done value (Err fault) = refl

abbrev next : {B E : Type 0} → (List ℕ → Result (List B × List ℕ) E) → Result (B × List ℕ) E → Result (List B × List ℕ) E
next others r = elim r [ Ok first ↦ after_one first.0 (others first.1) | Err fault ↦ Err fault ]

pub read_more : {B E : Type 0} (read : ℕ → List ℕ → Result (B × List ℕ) E) (n k : ℕ) (into : List B) (value : B) (bits rest : List ℕ) (whole : Result (List B × List ℕ) E)
    → k < n → k < length into → whole ≡ reads_on read n k into bits → read k bits ≡ Ok (value, rest)
    → whole ≡ reads_on read n (k + 1) (set into k value) rest
read_more read n k into value bits rest whole less inside before now =
    before
    ∙ ap (λ l. prepend (take k into) (read_each read l bits)) (range_first k n less)
    ∙ ap (λ r. prepend (take k into) (next (read_each read (range_with_len (k + 1) (n - (k + 1)))) r)) now
    ∙ joined (take k into) value (read_each read (range_with_len (k + 1) (n - (k + 1))) rest)
    ∙ ap (λ l. prepend l (read_each read (range_with_len (k + 1) (n - (k + 1))) rest)) (sym (take_more_set into k value inside))

pub read_stops : {B E : Type 0} (read : ℕ → List ℕ → Result (B × List ℕ) E) (n k : ℕ) (into : List B) (fault : E) (bits : List ℕ) (whole : Result (List B × List ℕ) E)
    → k < n → whole ≡ reads_on read n k into bits → read k bits ≡ Err fault → whole ≡ Err fault
read_stops read n k into fault bits whole less before now =
    before
    ∙ ap (λ l. prepend (take k into) (read_each read l bits)) (range_first k n less)
    ∙ ap (λ r. prepend (take k into) (next (read_each read (range_with_len (k + 1) (n - (k + 1)))) r)) now

pub read_ends : {B E : Type 0} (read : ℕ → List ℕ → Result (B × List ℕ) E) (n k : ℕ) (into : List B) (bits : List ℕ) (whole : Result (List B × List ℕ) E)
    → n ≤ k → length into ≤ k → whole ≡ reads_on read n k into bits → whole ≡ Ok (into, bits)
read_ends read n k into bits whole past all before =
    before
    ∙ ap (λ l. prepend (take k into) (read_each read l bits)) (range_end k n past)
    ∙ ap (λ l. Ok (l, bits)) (append-nil (take k into) ∙ take_all k into all)

-- one more count among the first
pub counts_more : (k value : ℕ) (into : List ℕ) → k < length into → value ≤ 15 → AreCounts (take k into) → AreCounts (take (k + 1) (set into k value))
counts_more k value into inside small before = rw (take_more_set into k value inside) (All-push (λ item. item ≤ 15) (take k into) value before small)

as_flag : (bit : ℕ) → bit < 2 ^ 1 → bits_of 1 bit ≡ bit_of (nat_eq bit 1) ∷ []
unfolding bits_of
as_flag zero small = refl
as_flag (suc zero) small = refl
as_flag (suc (suc n)) small = absurd (omega (arith, small))

-- one more flag behind those that were read
pub flag_more : (k : ℕ) (items : List Bool) (bit : ℕ) (whole now rest : List ℕ) → k < length items → bit < 2 ^ 1 → whole ≡ map bit_of (take k items) ++ now → now ≡ bits_of 1 bit ++ rest
    → whole ≡ map bit_of (take (k + 1) (set items k (nat_eq bit 1))) ++ rest
flag_more k items bit whole now rest inside small before one =
    before ∙ ap (λ l. map bit_of (take k items) ++ l) (one ∙ ap (λ l. l ++ rest) (as_flag bit small)) ∙ sym (append_assoc (map bit_of (take k items)) (bit_of (nat_eq bit 1) ∷ []) rest)
    ∙ ap (λ l. l ++ rest) (sym (map-append bit_of (take k items) (nat_eq bit 1 ∷ [])))
    ∙ ap (λ l. map bit_of l ++ rest) (sym (take_more_set items k (nat_eq bit 1) inside))
