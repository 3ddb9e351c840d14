-- Lists of bits and of bytes, by how they are made.
use Rattle.std.proofs.Common.{ℕ, zero, suc, ◌/◌, ◌%◌, ◌<◌, List, [], ◌∷◌, replicate, arith}
use Rattle.std.specs.Prelude.{Bool, true, false}
use Rattle.std.specs.List.{flat_map}
use Rattle.xs_lists.specs.Bits.{bits_of, bits_of_fields, bit_of}
use Rattle.xs_lists.specs.Packing.{AreBits}
use Rattle.xs_lists.proofs.Walk.{all-append}

pub bits_of-are : (width value : ℕ) → AreBits (bits_of width value)
unfolding bits_of
bits_of-are zero value = tt
bits_of-are (suc width) value =
    let last : value % 2 < 2 = omega arith in
    all-append (λ bit. bit < 2) (bits_of width (value / 2)) (value % 2 ∷ []) (bits_of-are width (value / 2)) (last, tt)

pub fields-are : (fields : List (ℕ × ℕ)) → AreBits (bits_of_fields fields)
fields-are [] = tt
fields-are (field ∷ fields) = all-append (λ bit. bit < 2) (bits_of field.0 field.1) (bits_of_fields fields) (bits_of-are field.0 field.1) (fields-are fields)

pub join-are : {A : Type 0} (f : A → List ℕ) → ((x : A) → AreBits (f x)) → (xs : List A) → AreBits (flat_map f xs)
join-are f h [] = tt
join-are f h (x ∷ xs) = all-append (λ bit. bit < 2) (f x) (flat_map f xs) (h x) (join-are f h xs)

pub replicate-are : (n bit : ℕ) → bit < 2 → AreBits (replicate n bit)
replicate-are zero bit h = tt
replicate-are (suc n) bit h = (h, replicate-are n bit h)

pub bit_of-is : (test : Bool) → bit_of test < 2
bit_of-is true = omega arith
bit_of-is false = omega arith
