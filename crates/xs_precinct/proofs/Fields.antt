-- Fields of bits that a reader takes one after the other.
use Rattle.std.proofs.Common.{◌≡◌, ℕ, zero, suc, ◌+◌, ◌-◌, ◌*◌, ◌^◌, ◌<◌, ◌≤◌, List, [], ◌∷◌, ◌++◌, length, take, drop, refl, sym, ap, subst, ◌∙◌, arith}
use Rattle.std.proofs.lemmas.List.{drop-take, take_all, take-append-le}
use Rattle.xs_bits.specs.Reading.{BitReading, left}
use Rattle.xs_lists.specs.Bits.{bits_of, bits_of_bytes}
use Rattle.xs_lists.specs.Packing.{number_of}
use Rattle.xs_lists.proofs.Bits.{length-bits_of}
use Rattle.xs_lists.proofs.Bitwise.{bits_of-are}
use Rattle.xs_lists.proofs.Cut.{bits_of_one}
use Rattle.xs_lists.proofs.Packing.{bits_of-number}
use Rattle.xs_reading.specs.Packet.{field_at}
use Rattle.xs_reading.proofs.Parts.{field-small, take-bytes}

whole : (width value : ℕ) → take width (bits_of width value) ≡ bits_of width value
whole width value = take_all width (bits_of width value) (omega (arith, length-bits_of width value))

number_back : (width value : ℕ) → value < 2 ^ width → number_of (bits_of width value) ≡ value
number_back width value small =
    let size : length (bits_of width value) ≡ width = length-bits_of width value in
    let below : number_of (bits_of width value) < 2 ^ width = subst (λ l. number_of l < 2 ^ width) (whole width value) (field-small (bits_of width value) 0 width (bits_of-are width value) (omega (arith, size))) in
    bits_of_one width (number_of (bits_of width value)) value below small (ap (λ n. bits_of n (number_of (bits_of width value))) (sym size) ∙ bits_of-number (bits_of width value) (bits_of-are width value))

-- what is taken is the field
pub field_got : (place width value : ℕ) (bits rest : List ℕ) → value < 2 ^ width → drop place bits ≡ bits_of width value ++ rest → value ≡ field_at bits place width
field_got place width value bits rest small e =
    let room : width ≤ length (bits_of width value) = omega (arith, length-bits_of width value) in
    let front : take width (drop place bits) ≡ bits_of width value = ap (take width) e ∙ take-append-le width (bits_of width value) rest room ∙ whole width value in
    sym (ap number_of front ∙ number_back width value small)

-- a reader at its start has all bits left
pub left_all : (r : BitReading) (bytes : List ℕ) → r.bits ≡ bits_of_bytes bytes → r.place ≡ 0 → left r ≡ bits_of_bytes bytes
left_all r bytes e f = ap (λ p. drop p r.bits) f ∙ e

short : (m k : ℕ) (xs : List ℕ) → m ≤ k → take m (take k xs) ≡ take m xs
short zero k xs less = refl
short (suc m) zero xs less = absurd (omega (arith, less))
short (suc m) (suc k) [] less = refl
short (suc m) (suc k) (x ∷ xs) less = ap (λ l. x ∷ l) (short m k xs (omega (arith, less)))

-- a field that stands in the first bytes is one of all bytes
pub field_front : (n : ℕ) (bytes : List ℕ) (place width : ℕ) → n ≤ length bytes → place + width ≤ 8 * n → field_at (bits_of_bytes (take n bytes)) place width ≡ field_at (bits_of_bytes bytes) place width
field_front n bytes place width enough inside =
    let bits : List ℕ = bits_of_bytes bytes in
    let all : 8 * n ≡ place + (8 * n - place) = omega (arith, inside) in
    ap (λ l. number_of (take width (drop place l))) (take-bytes n bytes enough ∙ ap (λ k. take k bits) all)
    ∙ ap number_of (ap (take width) (drop-take place (8 * n - place) bits) ∙ short width (8 * n - place) (drop place bits) (omega (arith, inside)))
