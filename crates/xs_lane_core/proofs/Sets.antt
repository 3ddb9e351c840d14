-- Sets of places and words of them: what joins, what stays, and when a word is full.
use Rattle.std.proofs.Common.{◌≡◌, ◌≢◌, ℕ, suc, ◌^◌, ◌<◌, max, Bool, true, false, not, ◌&&◌, cond, nat_eq, eq-eqb, ne_eqb, ◌⊎◌, inl, inr, true≢false, List, length, get_or, get_or-set_same, get_or-set_other, bit_or, sym, refl, ap, ◌∙◌, arith}
use Rattle.std.specs.Int.{bit_at}
use Rattle.std.proofs.lemmas.Bool.{eqb-true}
use Rattle.std.proofs.lemmas.Nat.Bits.{bit_at-lt, bit_at-zero, bit_at_or, bit_at_ones, bit_at_ones_above, bit_at_above, bit_at-pow_same, bit_at-pow_other, bit_at_mask_inside, bit_at_mask_below, bit_at_mask_above, same_from_bits}
use mathlib.Core.Logic.{dite}
use native.Mathlib.Decide.{ℕ_discrete, dec_le}
use Rattle.xs_lane_core.specs.Places.{places, set_words, word_of, place_bit, has, own_bit, full_word, with_bits, words_above, every_word, HasEvery}
use Rattle.xs_lane_core.specs.Machine.{owed}

pub word_low : (p : ℕ) → p < places → word_of p < set_words
word_low p lt = omega arith

pub bit_low : (p : ℕ) → place_bit p < 64
bit_low p = omega arith

pub same_place : (p q : ℕ) → word_of p ≡ word_of q → place_bit p ≡ place_bit q → p ≡ q
same_place p q a b = omega arith

-- a word of a set gains bits
pub has_more : (set : List ℕ) (w more p : ℕ) → w < length set → word_of p ≡ w → has (with_bits set w more) p ≡ max (has set p) (bit_at more (place_bit p))
has_more set w more p lt e = ap (λ u. bit_at u (place_bit p)) (ap (λ v. get_or (with_bits set w more) v 0) e ∙ get_or-set_same set w (bit_or (get_or set w 0) more) 0 lt)
    ∙ (bit_at_or (get_or set w 0) more (place_bit p) ∙ ap (λ v. max (bit_at (get_or set v 0) (place_bit p)) (bit_at more (place_bit p))) (sym e))

pub has_other : (set : List ℕ) (w more p : ℕ) → word_of p ≢ w → has (with_bits set w more) p ≡ has set p
has_other set w more p ne = ap (λ u. bit_at u (place_bit p)) (get_or-set_other set w (word_of p) (bit_or (get_or set w 0) more) 0 ne)

pub own_here : (p : ℕ) → bit_at (own_bit p) (place_bit p) ≡ 1
own_here p = bit_at-pow_same (place_bit p)

-- one place joins
pub joins_here : (set : List ℕ) (p : ℕ) → word_of p < length set → has (with_bits set (word_of p) (own_bit p)) p ≡ 1
joins_here set p lt = let h = has_more set (word_of p) (own_bit p) p lt refl in let o = own_here p in let b = bit_at-lt (get_or set (word_of p) 0) (place_bit p) in omega arith

pub joins_other : (set : List ℕ) (p q : ℕ) → word_of p < length set → q ≢ p → has (with_bits set (word_of p) (own_bit p)) q ≡ has set q
joins_other set p q lt ne = dite (ℕ_discrete (word_of q) (word_of p))
    (λ e. let h = has_more set (word_of p) (own_bit p) q lt e in let o = bit_at-pow_other (place_bit p) (place_bit q) (λ f. ne (same_place q p e f)) in omega arith)
    (λ other. has_other set (word_of p) (own_bit p) q other)

pub full_has : (n p : ℕ) → n ≡ full_word → bit_at n (place_bit p) ≡ 1
full_has n p e = ap (λ z. bit_at z (place_bit p)) e ∙ bit_at_ones 64 (place_bit p) (bit_low p)

-- a full word stays full
pub stays_full : (n more : ℕ) → n ≡ full_word → more < 18446744073709551616 → bit_or n more ≡ full_word
stays_full n more e lt = ap (λ z. bit_or z more) e ∙ same_from_bits (bit_or full_word more) full_word (λ q. bit_at_or full_word more q ∙ at_bit q)
  where
    at_bit : (q : ℕ) → max (bit_at full_word q) (bit_at more q) ≡ bit_at full_word q
    at_bit q = dite (dec_le 64 q)
        (λ le. let a = bit_at_ones_above 64 q le in let b = bit_at_above more 64 q lt le in omega arith)
        (λ no. let a = bit_at_ones 64 q (omega arith) in let b = bit_at-lt more q in omega arith)

pub every_has : (n : ℕ) → n ≡ every_word → HasEvery n
every_has n e w lt = ap (λ z. bit_at z w) e ∙ bit_at_ones 8 w lt

-- a summary that has all words, and no other bits
pub has_every : (n : ℕ) → ((w : ℕ) → bit_at n w ≡ 1 → w < set_words) → HasEvery n → n ≡ every_word
has_every n low every = same_from_bits n every_word (λ w. dite (dec_le 8 w)
    (λ le. let a = bit_at_ones_above 8 w le in let b = bit_at-lt n w in dite (ℕ_discrete (bit_at n w) 1) (λ e. let lt = low w e in absurd (omega arith)) (λ ne. omega arith))
    (λ no. every w (omega arith) ∙ sym (bit_at_ones 8 w (omega arith))))

either_bit : (b : Bool) (n w : ℕ) → bit_at (cond b n 0) w ≡ 1 → (b ≡ true) × (bit_at n w ≡ 1)
either_bit true n w e = (refl, e)
either_bit false n w e = let z = bit_at-zero w in absurd (omega arith)

and_first : (a b : Bool) → a && b ≡ true → a ≡ true
and_first true b e = refl
and_first false b e = e

and_second : (a b : Bool) → a && b ≡ true → b ≡ true
and_second true b e = e
and_second false b e = absurd (true≢false (sym e))

-- what is owed: a word above the value's, which closes, or the value's own, which is full
pub owed_is : (closes : Bool) (word before after w : ℕ) → word < set_words → bit_at (owed closes word before after) w ≡ 1 → (w < set_words) × (((closes ≡ true) × (word < w)) ⊎ ((w ≡ word) × (after ≡ full_word)))
owed_is closes word before after w low lit = let o = bit_at_or (cond closes (words_above word) 0) (cond filled (2 ^ word) 0) w in
    dite (ℕ_discrete (bit_at (cond closes (words_above word) 0) w) 1)
    (λ e. let h = either_bit closes (words_above word) w e in above (h.0) h.1)
    (λ ne. let b = bit_at-lt (cond closes (words_above word) 0) w in let c = bit_at-lt (cond filled (2 ^ word) 0) w in let h = either_bit filled (2 ^ word) w (omega arith) in own h.0 h.1)
  where
    filled : Bool
    filled = not (nat_eq before full_word) && nat_eq after full_word

    above : closes ≡ true → bit_at (words_above word) w ≡ 1 → (w < set_words) × (((closes ≡ true) × (word < w)) ⊎ ((w ≡ word) × (after ≡ full_word)))
    above c e = dite (dec_le 8 w) (λ le. let z = bit_at_mask_above (suc word) 8 w le in absurd (omega arith))
        (λ no. dite (dec_le w word) (λ le. let z = bit_at_mask_below (suc word) 8 w (omega arith) in absurd (omega arith)) (λ more. (omega arith, inl (c, omega arith))))

    own : filled ≡ true → bit_at (2 ^ word) w ≡ 1 → (w < set_words) × (((closes ≡ true) × (word < w)) ⊎ ((w ≡ word) × (after ≡ full_word)))
    own f e = dite (ℕ_discrete w word) (λ same. (omega arith, inr (same, eqb-true after full_word (and_second (not (nat_eq before full_word)) (nat_eq after full_word) f))))
        (λ ne. let z = bit_at-pow_other word w ne in absurd (omega arith))

pub owed_above : (word before after w : ℕ) → word < w → w < set_words → bit_at (owed true word before after) w ≡ 1
owed_above word before after w lt low = let filled : Bool = not (nat_eq before full_word) && nat_eq after full_word in
    let o = bit_at_or (words_above word) (cond filled (2 ^ word) 0) w in let a = bit_at_mask_inside (suc word) 8 w lt low in let b = bit_at-lt (cond filled (2 ^ word) 0) w in omega arith

pub owed_own : (closes : Bool) (word before after : ℕ) → before ≢ full_word → after ≡ full_word → bit_at (owed closes word before after) word ≡ 1
owed_own closes word before after ne is = let o = bit_at_or (cond closes (words_above word) 0) (cond (not (nat_eq before full_word) && nat_eq after full_word) (2 ^ word) 0) word in
    let f : (not (nat_eq before full_word) && nat_eq after full_word) ≡ true = (λ i. not (ne_eqb before full_word ne i) && eq-eqb after full_word is i) in
    let b = ap (λ (t : Bool). bit_at (cond t (2 ^ word) 0) word) f ∙ bit_at-pow_same word in let c = bit_at-lt (cond closes (words_above word) 0) word in omega arith
