-- Numbers put one after the other over those that were there, and the places of their signs.
use Rattle.std.proofs.Common.{◌≡◌, ℕ, zero, suc, ◌+◌, ◌-◌, ◌*◌, ◌^◌, ◌<◌, ◌≤◌, List, [], ◌∷◌, ◌++◌, map, length, drop, set, get_or, refl, sym, ap, ◌∙◌, arith, append_assoc, append-nil, length-append}
use Rattle.std.specs.Prelude.{Bool, true, false, cond, nat_eq, nat_lt, if◌then◌else◌, ℤ, pos, negsuc, unsigned_abs}
use Rattle.std.specs.Int.{is_negative}
use Rattle.std.specs.List.{range_with_len, filter}
use Rattle.std.proofs.lemmas.Bool.{ltb-false}
use Rattle.std.proofs.lemmas.List.{set_at, get_or_at, drop_more, drop_all, drop-drop, get_or-drop, length-drop, length-map}
use Rattle.std.proofs.lemmas.List.Elements.{filter-append}
use Rattle.std.proofs.lemmas.List.FromFn.{length-map-range_with_len, get_or-map-range_with_len, map-range_with_len_more}
use Rattle.xs_bits.specs.Reading.{BitReading, left}
use Rattle.xs_lists.specs.Bits.{bits_of, bit_of}
use Rattle.xs_lists.specs.Spelling.{upto}
use Rattle.xs_spelling.specs.Counts.{Line}
use Rattle.xs_spelling.specs.Sizes.{numbered, signs_size}
use Rattle.xs_spelling.specs.Reading.{bit_at, signed, sign_place, with_signs}
use Rattle.xs_planes.specs.Numbers.{AreNumbers, put_four, signed_in}
use Rattle.xs_lists.proofs.Puts.{put_more, put_to}
use Rattle.xs_lists.proofs.Ranges.{range_cut}
use Rattle.xs_planes.proofs.Signs.{signs_from, signs_first}

-- four more
pub four_more : (f : ℕ → ℤ) (old into : List ℤ) (k : ℕ) (number : ℕ → ℤ) → 4 * k + 4 ≤ length old → into ≡ put_to f old (4 * k)
    → number 0 ≡ f (4 * k) → number 1 ≡ f (4 * k + 1) → number 2 ≡ f (4 * k + 2) → number 3 ≡ f (4 * k + 3) → put_four into (4 * k) number ≡ put_to f old (4 * (k + 1))
four_more f old into k number inside before a b c d =
    let two : 4 * k + 1 + 1 ≡ 4 * k + 2 = omega arith in
    let three : 4 * k + 2 + 1 ≡ 4 * k + 3 = omega arith in
    let next : 4 * k + 3 + 1 ≡ 4 * (k + 1) = omega arith in
    put_more f old _ (4 * k + 3) (number 3) (omega (arith, inside))
    (put_more f old _ (4 * k + 2) (number 2) (omega (arith, inside))
    (put_more f old _ (4 * k + 1) (number 1) (omega (arith, inside)) (put_more f old into (4 * k) (number 0) (omega (arith, inside)) before a) b ∙ ap (put_to f old) two) c ∙ ap (put_to f old) three) d
    ∙ ap (put_to f old) next

-- Signs

pub place_more : (line : Line) (k : ℕ) (some : Bool) → nat_lt 0 (unsigned_abs (line.value k)) ≡ some → sign_place line (k + 1) ≡ sign_place line k + (if some then 1 else 0)
place_more line k some e =
    ap (λ l. length (filter test l)) cut ∙ ap length (filter-append test (upto k) (k ∷ [])) ∙ length-append (filter test (upto k)) (filter test (k ∷ []))
    ∙ ap (λ t. sign_place line k + length (cond t (k ∷ []) [])) e ∙ ap (λ n. sign_place line k + n) (cases some)
  where
    test : ℕ → Bool
    test column = nat_lt 0 (unsigned_abs (line.value column))

    cut : upto (k + 1) ≡ upto k ++ k ∷ []
    cut = let here : 0 + k ≡ k = omega arith in range_cut 0 k 1 ∙ ap (λ j. upto k ++ j ∷ []) here

    cases : (t : Bool) → length (cond t (k ∷ []) []) ≡ (if t then 1 else 0)
    cases true = refl
    cases false = refl

pub place_rest : (line : Line) (end k : ℕ) → k ≤ end → sign_place line end ≡ sign_place line k + length (signs_from line end k)
place_rest line end k inside =
    let all : end ≡ k + (end - k) = omega (arith, inside) in
    let here : 0 + k ≡ k = omega arith in
    ap (λ n. length (filter test (upto n))) all ∙ ap (λ l. length (filter test l)) (range_cut 0 k (end - k) ∙ ap (λ j. upto k ++ range_with_len j (end - k)) here)
    ∙ ap length (filter-append test (upto k) (range_with_len k (end - k))) ∙ length-append (filter test (upto k)) (filter test (range_with_len k (end - k)))
    ∙ ap (λ n. sign_place line k + n) (sym (length-map (filter test (range_with_len k (end - k))) (λ column. bit_of (is_negative (line.value column)))))
  where
    test : ℕ → Bool
    test column = nat_lt 0 (unsigned_abs (line.value column))

pub place_all : (line : Line) → signs_size line ≡ sign_place line (4 * line.groups)
place_all line = length-map (filter (λ column. nat_lt 0 (unsigned_abs (line.value column))) (upto (4 * line.groups))) (λ column. bit_of (is_negative (line.value column)))

one_long : (bit : ℕ) → bit < 2 ^ 1 → bits_of 1 bit ≡ bit ∷ []
unfolding bits_of
one_long zero small = refl
one_long (suc zero) small = refl
one_long (suc (suc n)) small = absurd (omega (arith, small))

-- a bit that was read is the one at its place
pub bit_there : (all now rest : List ℕ) (k bit : ℕ) → bit < 2 ^ 1 → now ≡ drop k all → now ≡ bits_of 1 bit ++ rest → (bit_at all k ≡ bit) × (k + 1 ≤ length all)
bit_there all now rest k bit small here read = (
  (let at : k + 0 ≡ k = omega arith in sym (get_or-drop k all 0 0 ∙ ap (λ j. get_or all j 0) at) ∙ ap (λ l. get_or l 0 0) (sym here ∙ read ∙ ap (λ l. l ++ rest) (one_long bit small))),
  (let size = ap length (read ∙ ap (λ l. l ++ rest) (one_long bit small)) in let cut = ap length here ∙ length-drop k all in omega (arith, size, cut)),
)

pub signed_size : (negative : Bool) (m : ℕ) → unsigned_abs (signed negative m) ≡ m
signed_size false m = refl
signed_size true zero = refl
signed_size true (suc m) = refl

-- a number without a sign is 0, whatever bit stands for it
pub no_sign : (z : ℤ) (negative : Bool) → nat_lt 0 (unsigned_abs z) ≡ false → z ≡ signed negative (unsigned_abs z)
no_sign (pos zero) true e = refl
no_sign (pos zero) false e = refl
no_sign (pos (suc m)) negative e = let none = ltb-false 0 (suc m) e in absurd (omega (arith, none))
no_sign (negsuc m) negative e = let none = ltb-false 0 (suc m) e in absurd (omega (arith, none))

pub still_numbers : (t : ℕ) (counts : List ℕ) (old into : List ℤ) (bits : List ℕ) → AreNumbers t counts old → into ≡ signed_in t counts old bits → AreNumbers t counts into
still_numbers t counts old into bits are e = record {
  most = are.most;
  size = size;
  small = λ column inside.
      let there : column < 4 * length counts = omega (arith, size, inside) in
      let value = ap (λ l. get_or l column (pos 0)) e ∙ get_or-map-range_with_len (with_signs (numbered t counts old) bits).value 0 (4 * length counts) column column (pos 0) there (omega arith) in
      let same = ap unsigned_abs value ∙ signed_size (nat_eq (bit_at bits (sign_place (numbered t counts old) column)) 1) (unsigned_abs (get_or old column (pos 0))) in
      let small = are.small column (omega (arith, there, are.size)) in
      rw (same) small;
}
  where
    size : length into ≡ 4 * length counts
    size = ap length e ∙ length-map-range_with_len (with_signs (numbered t counts old) bits).value 0 (4 * length counts)

-- what is left after so many more bits
pub left_at : (now old : BitReading) (n : ℕ) → now.place ≡ old.place + n → now.bits ≡ old.bits → left now ≡ drop n (left old)
left_at now old n place same = ap (λ bits. drop now.place bits) same ∙ ap (λ p. drop p old.bits) place ∙ sym (drop-drop n old.place old.bits)

pub signs_short : (line : Line) (all now : List ℕ) (k : ℕ) → k < 4 * line.groups → nat_lt 0 (unsigned_abs (line.value k)) ≡ true → now ≡ drop (sign_place line k) all → length now < 1
    → length all < signs_size line
signs_short line all now k inside some here short =
    let cut = ap length here ∙ length-drop (sign_place line k) all in
    let one = ap length (signs_first line (4 * line.groups) k true inside some) in
    omega (arith, place_all line, place_rest line (4 * line.groups) k (omega (arith, inside)), one, cut, short)
