-- Parts of bytes, the numbers in them, and tests.
use Rattle.std.proofs.Common.{◌≡◌, ℕ, zero, suc, ◌+◌, ◌^◌, ◌<◌, ◌≤◌, List, [], ◌∷◌, ◌++◌, length, take, drop, get_or, Bool, true, false, refl, sym, ap, ◌∙◌, arith, append_assoc, length-append}
use mathlib.Core.Logic.{◌⊎◌, inl, inr}
use Rattle.std.specs.Prelude.{nat_lt, not, ◌&&◌, ◌||◌, if◌then◌else◌, Option, None, Some}
use Rattle.std.specs.Int.{to_be_bytes, from_be_bytes, from_le_bytes, w16, w32}
use Rattle.std.specs.List.{AllByRecursion}
use Rattle.std.proofs.lemmas.Bool.{ltb-false, not-true}
use Rattle.std.proofs.lemmas.List.{drop_at, drop-drop, length-drop, length-take-le, take_at, take-append-drop}
use Rattle.std.proofs.lemmas.Nat.{be_bytes_2, be_bytes_4, le_bytes_4, from_be_bytes-to_be_bytes_4, from_le_bytes-to_le_bytes_4}
use Rattle.xs_lists.specs.Fields.{half_word_at}
use Rattle.xs_lists.specs.First.{first_of, when}
use Rattle.xs_lists.specs.Packing.{AreBytes}
use Rattle.xs_pcap.specs.declared.numbers.Order.{Order}
use Rattle.xs_pcap.specs.declared.numbers.Order.TheVariants.{Big, Little}
use Rattle.xs_pcap.specs.Numbers.{word_bytes, word_of, ordered_word_at}

-- Parts

pub take_are : (n : ℕ) (xs : List ℕ) → AreBytes xs → AreBytes (take n xs)
take_are zero xs all = tt
take_are (suc n) [] all = tt
take_are (suc n) (x ∷ xs) all = (all.0, take_are n xs all.1)

pub drop_are : (n : ℕ) (xs : List ℕ) → AreBytes xs → AreBytes (drop n xs)
drop_are zero xs all = all
drop_are (suc n) [] all = tt
drop_are (suc n) (x ∷ xs) all = drop_are n xs all.1

pub each_byte : (xs : List ℕ) → AreBytes xs → (i : ℕ) → get_or xs i 0 < 256
each_byte [] all zero = omega arith
each_byte [] all (suc i) = omega arith
each_byte (x ∷ xs) all zero = all.0
each_byte (x ∷ xs) all (suc i) = each_byte xs all.1 i

pub are_bytes : (xs : List ℕ) → ((i : ℕ) → get_or xs i 0 < 256) → AreBytes xs
are_bytes [] each = tt
are_bytes (x ∷ xs) each = (each 0, are_bytes xs (λ i. each (suc i)))

-- the part of n bytes at a place, and what follows it
pub peel : (n at : ℕ) (xs : List ℕ) → drop at xs ≡ take n (drop at xs) ++ drop (at + n) xs
peel n at xs = sym (take-append-drop n (drop at xs)) ∙ ap (λ l. take n (drop at xs) ++ l) (drop-drop n at xs)

-- a part that stands at a place, and what follows it
pub part_at : (n m : ℕ) (xs part rest : List ℕ) → drop n xs ≡ part ++ rest → length part ≡ m → take m (drop n xs) ≡ part
part_at n m xs part rest e size = ap (take m) e ∙ take_at part rest m size

pub after_part : (n m : ℕ) (xs part rest : List ℕ) → drop n xs ≡ part ++ rest → length part ≡ m → drop (n + m) xs ≡ rest
after_part n m xs part rest e size = sym (drop-drop m n xs) ∙ ap (drop m) e ∙ drop_at part rest m size

pub part_size : (n at : ℕ) (xs : List ℕ) → at + n ≤ length xs → length (take n (drop at xs)) ≡ n
part_size n at xs inside = length-take-le n (drop at xs) (omega (arith, length-drop at xs, inside))

-- joined parts, from the left and from the right

pub assoc_4 : (a b c d : List ℕ) → a ++ b ++ c ++ d ≡ a ++ (b ++ (c ++ d))
assoc_4 a b c d = append_assoc (a ++ b) c d ∙ append_assoc a b (c ++ d)

pub assoc_5 : (a b c d e : List ℕ) → a ++ b ++ c ++ d ++ e ≡ a ++ (b ++ (c ++ (d ++ e)))
assoc_5 a b c d e = append_assoc (a ++ b ++ c) d e ∙ assoc_4 a b c (d ++ e)

pub assoc_6 : (a b c d e f : List ℕ) → a ++ b ++ c ++ d ++ e ++ f ≡ a ++ (b ++ (c ++ (d ++ (e ++ f))))
assoc_6 a b c d e f = append_assoc (a ++ b ++ c ++ d) e f ∙ assoc_5 a b c d (e ++ f)

pub assoc_7 : (a b c d e f g : List ℕ) → a ++ b ++ c ++ d ++ e ++ f ++ g ≡ a ++ (b ++ (c ++ (d ++ (e ++ (f ++ g)))))
assoc_7 a b c d e f g = append_assoc (a ++ b ++ c ++ d ++ e) f g ∙ assoc_6 a b c d e (f ++ g)

pub assoc_8 : (a b c d e f g h : List ℕ) → a ++ b ++ c ++ d ++ e ++ f ++ g ++ h ≡ a ++ (b ++ (c ++ (d ++ (e ++ (f ++ (g ++ h))))))
assoc_8 a b c d e f g h = append_assoc (a ++ b ++ c ++ d ++ e ++ f) g h ∙ assoc_7 a b c d e f (g ++ h)

pub length_3 : (a b c : List ℕ) → length (a ++ b ++ c) ≡ length a + length b + length c
length_3 a b c = length-append (a ++ b) c ∙ ap (λ n. n + length c) (length-append a b)

pub length_4 : (a b c d : List ℕ) → length (a ++ b ++ c ++ d) ≡ length a + length b + length c + length d
length_4 a b c d = length-append (a ++ b ++ c) d ∙ ap (λ n. n + length d) (length_3 a b c)

-- Numbers

pub half_word_back : (xs : List ℕ) (at : ℕ) → AreBytes xs → at + 2 ≤ length xs → to_be_bytes w16 (half_word_at xs at) ≡ take 2 (drop at xs)
half_word_back xs at all room = be_bytes_2 (take 2 (drop at xs)) (half_word_at xs at) (part_size 2 at xs room) (each_byte (take 2 (drop at xs)) (take_are 2 (drop at xs) (drop_are at xs all))) refl

pub half_word_small : (xs : List ℕ) (at : ℕ) → AreBytes xs → half_word_at xs at < 2 ^ 16
half_word_small xs at all =
    let each = each_byte (take 2 (drop at xs)) (take_are 2 (drop at xs) (drop_are at xs all)) in
    omega (arith, each 0, each 1)

pub word_size : (order : Order) (number : ℕ) → length (word_bytes order number) ≡ 4
word_size Big number = refl
word_size Little number = refl

pub word_again : (order : Order) (number : ℕ) → number < 2 ^ 32 → word_of order (word_bytes order number) ≡ number
word_again Big number small = from_be_bytes-to_be_bytes_4 number small
word_again Little number small = from_le_bytes-to_le_bytes_4 number small

four_back : (order : Order) (four : List ℕ) → length four ≡ 4 → ((i : ℕ) → get_or four i 0 < 256) → word_bytes order (word_of order four) ≡ four
four_back Big four size each = be_bytes_4 four (from_be_bytes w32 four) size each refl
four_back Little four size each = le_bytes_4 four (from_le_bytes w32 four) size each refl

four_small : (order : Order) (four : List ℕ) → ((i : ℕ) → get_or four i 0 < 256) → word_of order four < 2 ^ 32
four_small Big four each = omega (arith, each 0, each 1, each 2, each 3)
four_small Little four each = omega (arith, each 0, each 1, each 2, each 3)

pub word_back : (order : Order) (xs : List ℕ) (at : ℕ) → AreBytes xs → at + 4 ≤ length xs → word_bytes order (ordered_word_at order xs at) ≡ take 4 (drop at xs)
word_back order xs at all room = four_back order (take 4 (drop at xs)) (part_size 4 at xs room) (each_byte (take 4 (drop at xs)) (take_are 4 (drop at xs) (drop_are at xs all)))

pub word_small : (order : Order) (xs : List ℕ) (at : ℕ) → AreBytes xs → ordered_word_at order xs at < 2 ^ 32
word_small order xs at all = four_small order (take 4 (drop at xs)) (each_byte (take 4 (drop at xs)) (take_are 4 (drop at xs) (drop_are at xs all)))

-- Tests

pub both_hold : (a b : Bool) → (a && b) ≡ true → (a ≡ true) × (b ≡ true)
both_hold true b e = (refl, e)
both_hold false b e = absurd (cc e)

pub one_holds : (a b : Bool) → (a || b) ≡ true → (a ≡ true) ⊎ (b ≡ true)
one_holds true b e = inl refl
one_holds false b e = inr e

pub and_false : (a : Bool) → (a && false) ≡ false
and_false true = refl
and_false false = refl

pub or_true : (a : Bool) → (a || true) ≡ true
or_true true = refl
or_true false = refl

pub at_least : (a b : ℕ) → not (nat_lt a b) ≡ true → b ≤ a
at_least a b e = ltb-false a b (not-true (nat_lt a b) e)

-- what is answered behind a test, and where it holds
pub guarded : {A : Type 0} (short test : Bool) (x y : A) → (if short then None else when test x) ≡ Some y → (short ≡ false) × (test ≡ true) × (x ≡ y)
guarded true test x y e = absurd (cc e)
guarded false true x y e = (refl, refl, cc e)
guarded false false x y e = absurd (cc e)

pub no_row : {A : Type 0} (rows : List (Bool × A)) → first_of rows ≡ None → AllByRecursion (λ (row : Bool × A). row.0 ≡ false) rows
no_row [] e = tt
no_row {A} (row ∷ rows) e = let p = step row.0 (first_of rows) e in (p.0, no_row rows p.1)
  where
    step : (b : Bool) (rest : Option A) → (if b then Some row.1 else rest) ≡ None → (b ≡ false) × (rest ≡ None)
    step true rest same = absurd (cc same)
    step false rest same = (refl, same)
