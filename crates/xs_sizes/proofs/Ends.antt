-- The truncations at which a number is 0.
use Rattle.std.proofs.Common.{◌≡◌, ℕ, zero, suc, ◌+◌, ◌-◌, ◌*◌, ◌/◌, ◌^◌, ◌<◌, ◌≤◌, List, [], ◌∷◌, length, get_or, refl, sym, ap, subst, ◌∙◌, arith, inl, inr}
use Rattle.std.specs.Prelude.{Bool, true, false, cond, nat_le, nat_lt, count_by, ◌&&◌, if◌then◌else◌}
use Rattle.std.proofs.Math.Nat.{mul-le-mul_left, mul-le-mul_right, pow-suc}
use Rattle.std.proofs.Math.Pow.{pow_mono}
use Rattle.std.proofs.lemmas.Bool.{cases_eq, cases_lt, leb-true, leb-false, ltb-true, ltb-false, lt-ltb}
use Rattle.std.proofs.lemmas.Nat.{le-div, leading_length, pow-add, pow_pos, shl_below, shr_below}
use Rattle.xs_lists.specs.Bits.{bit_of}
use Rattle.xs_layout.specs.declared.Quant.{Quant}
use Rattle.xs_layout.specs.declared.Quant.TheVariants.{DeadZone, Uniform}
use Rattle.xs_signal.specs.Quantiser.{quantised}
use Rattle.xs_rate.specs.Content.{digits_of}
use Rattle.xs_rate.proofs.Digits.{digits-room}
use Rattle.xs_groups.proofs.Planes.{digits_is}

not_less : (a b : ℕ) → b ≤ a → nat_lt a b ≡ false
not_less a b past = go (nat_lt a b) refl
  where
    go : (test : Bool) → nat_lt a b ≡ test → test ≡ false
    go true is = absurd (omega (arith, ltb-true a b is, past))
    go false is = refl

and_false : (a : Bool) → (a && false) ≡ false
and_false true = refl
and_false false = refl

-- below its end a number is sent, and from it on it is 0
pub end_is : (kind : Quant) (count x end t : ℕ) → (t < end → t < count) → (t < end → 1 ≤ quantised kind count t x) → (end ≤ t → t < count → quantised kind count t x ≡ 0) → nat_lt t end ≡ (nat_lt t count && nat_lt 0 (quantised kind count t x))
end_is kind count x end t inside some none = elim (cases_lt t end) [
  | inl below ↦
      let first : nat_lt t count ≡ true = lt-ltb t count (inside below) in
      let sent : nat_lt 0 (quantised kind count t x) ≡ true = lt-ltb 0 (quantised kind count t x) (omega (arith, some below)) in
      lt-ltb t end below ∙ sym (ap (λ b. b && nat_lt 0 (quantised kind count t x)) first ∙ sent)
  | inr past ↦ not_less t end past ∙ sym (cases (nat_lt t count) refl past)
]
  where
    cases : (test : Bool) → nat_lt t count ≡ test → end ≤ t → (test && nat_lt 0 (quantised kind count t x)) ≡ false
    cases true e past = ap (nat_lt 0) (none past (ltb-true t count e))
    cases false e past = refl

-- The digits of a magnitude

least_of : (n m : ℕ) → 2 ^ n ≤ 2 * m + 1 → 0 < n → 2 ^ (n - 1) ≤ m
least_of zero m under some = absurd (omega (arith, some))
least_of (suc k) m under some =
    let half : 2 ^ suc k ≡ 2 ^ k * 2 = pow-suc 2 k in
    let back : suc k - 1 ≡ k = omega arith in
    subst (λ j. 2 ^ j ≤ m) (sym back) (omega (arith, half, under))

digits_least : (m : ℕ) → m < 2 ^ 15 → 0 < digits_of m → 2 ^ (digits_of m - 1) ≤ m
digits_least m small some =
    let known = leading_length 32 m (omega (arith, small)) in
    let same : digits_of m ≡ known.0 = digits_is m known.0 small known.2 known.3 in
    least_of (digits_of m) m (subst (λ k. 2 ^ k ≤ 2 * m + 1) (sym same) known.3) some

pub small_word : (x count : ℕ) → x < 2 ^ count → count ≤ 15 → x < 2 ^ 15
small_word x count small few = let power : 2 ^ count ≤ 2 ^ 15 = pow_mono {i = count} {j = 15} few in omega (arith, power, small)

-- a magnitude in so many planes has no more digits
pub few_digits : (x count : ℕ) → x < 2 ^ count → count ≤ 15 → digits_of x ≤ count
few_digits x count small few = elim (cases_lt count (digits_of x)) [
  | inl more ↦
      let power : 2 ^ count ≤ 2 ^ (digits_of x - 1) = pow_mono {i = count} {j = digits_of x - 1} (omega (arith, more)) in
      absurd (omega (arith, power, small, digits_least x (small_word x count small few) (omega (arith, more))))
  | inr less ↦ less
]

-- Dead zone

pub dead_end : (x count t : ℕ) → x < 2 ^ count → count ≤ 15 → nat_lt t (digits_of x) ≡ (nat_lt t count && nat_lt 0 (quantised DeadZone count t x))
dead_end x count t small few = end_is DeadZone count x (digits_of x) t
    (λ below. omega (arith, below, few_digits x count small few))
    (λ below. (let power : 2 ^ t ≤ 2 ^ (digits_of x - 1) = pow_mono {i = t} {j = digits_of x - 1} (omega (arith, below)) in
    let some : 0 < 2 ^ t = pow_pos t in
    le-div 1 x (2 ^ t) some (omega (arith, power, digits_least x (small_word x count small few) (omega (arith, below))))))
    (λ past inside. (let power : 2 ^ digits_of x ≤ 2 ^ t = pow_mono {i = digits_of x} {j = t} past in
    let here : 0 + t ≡ t = omega arith in
    let below : x < 2 ^ (0 + t) = subst (λ k. x < 2 ^ k) (sym here) (omega (arith, power, digits-room x (small_word x count small few))) in
    let one : x / 2 ^ t < 2 ^ 0 = shr_below x 0 t below in
    omega (arith, one)))

-- Uniform

-- what the uniform quantiser divides
abbrev scaled_up : ℕ → ℕ → ℕ → ℕ
scaled_up x count t = x * 2 ^ (count - t + 1) - x + 2 ^ count

sent_some : (x count t : ℕ) → 2 ^ count ≤ x * 2 ^ (count - t + 1) - x → 1 ≤ quantised Uniform count t x
sent_some x count t most =
    let twice : 2 ^ (count + 1) ≡ 2 ^ count * 2 ^ 1 = pow-add 2 count 1 in
    le-div 1 (scaled_up x count t) (2 ^ (count + 1)) (pow_pos (count + 1)) (omega (arith, most, twice))

sent_none : (x count t : ℕ) → x * 2 ^ (count - t + 1) - x < 2 ^ count → quantised Uniform count t x ≡ 0
sent_none x count t less =
    let twice : 2 ^ (count + 1) ≡ 2 ^ count * 2 ^ 1 = pow-add 2 count 1 in
    let here : 0 + (count + 1) ≡ count + 1 = omega arith in
    let below : scaled_up x count t < 2 ^ (0 + (count + 1)) = subst (λ k. scaled_up x count t < 2 ^ k) (sym here) (omega (arith, less, twice)) in
    let one : scaled_up x count t / 2 ^ (count + 1) < 2 ^ 0 = shr_below (scaled_up x count t) 0 (count + 1) below in
    omega (arith, one)

upper : (x count t d : ℕ) → x < 2 ^ count → 2 ^ (d - 1) ≤ x → t < d → d ≤ count → 2 ^ count ≤ x * 2 ^ (count - t + 1) - x
upper x count t d small least below inside =
    let factor : 2 ^ (count - d + 2) ≤ 2 ^ (count - t + 1) = pow_mono {i = count - d + 2} {j = count - t + 1} (omega (arith, below, inside)) in
    let across : 2 ^ (d - 1) * 2 ^ (count - d + 2) ≤ x * 2 ^ (count - d + 2) = mul-le-mul_right (2 ^ (count - d + 2)) least in
    let up : x * 2 ^ (count - d + 2) ≤ x * 2 ^ (count - t + 1) = mul-le-mul_left x factor in
    let sum : d - 1 + (count - d + 2) ≡ count + 1 = omega (arith, below, inside) in
    let whole : 2 ^ (count + 1) ≡ 2 ^ (d - 1) * 2 ^ (count - d + 2) = ap (λ k. 2 ^ k) (sym sum) ∙ pow-add 2 (d - 1) (count - d + 2) in
    let twice : 2 ^ (count + 1) ≡ 2 ^ count * 2 ^ 1 = pow-add 2 count 1 in
    omega (arith, across, up, whole, twice, small)

lower : (x count t d : ℕ) → x < 2 ^ d → d < t → t < count → x * 2 ^ (count - t + 1) - x < 2 ^ count
lower x count t d small past inside =
    let factor : 2 ^ (count - t + 1) ≤ 2 ^ (count - d) = pow_mono {i = count - t + 1} {j = count - d} (omega (arith, past, inside)) in
    let up : x * 2 ^ (count - t + 1) ≤ x * 2 ^ (count - d) = mul-le-mul_left x factor in
    let below = shl_below x d (count - d) small in
    let sum : d + (count - d) ≡ count = omega (arith, past, inside) in
    omega (arith, up, below, ap (λ k. 2 ^ k) sum)

pub uniform_end : (x count end t : ℕ) → x < 2 ^ count → count ≤ 15
    → end ≡ digits_of x + bit_of (nat_lt (digits_of x) count && nat_le (2 ^ count) (x * 2 ^ (count - digits_of x + 1) - x))
    → nat_lt t end ≡ (nat_lt t count && nat_lt 0 (quantised Uniform count t x))
uniform_end x count end t small few e = go (nat_lt (digits_of x) count) (nat_le (2 ^ count) (x * 2 ^ (count - digits_of x + 1) - x)) refl refl
  where
    d : ℕ
    d = digits_of x

    room : x < 2 ^ digits_of x
    room = digits-room x (small_word x count small few)

    most : digits_of x ≤ count
    most = few_digits x count small few

    at : (p q : Bool) → nat_lt (digits_of x) count ≡ p → nat_le (2 ^ count) (x * 2 ^ (count - digits_of x + 1) - x) ≡ q → end ≡ digits_of x + bit_of (p && q)
    at p q f g = e ∙ ap (λ b. digits_of x + bit_of (b && nat_le (2 ^ count) (x * 2 ^ (count - digits_of x + 1) - x))) f ∙ ap (λ b. digits_of x + bit_of (p && b)) g

    below_digits : t < digits_of x → 1 ≤ quantised Uniform count t x
    below_digits less = sent_some x count t (upper x count t (digits_of x) small (digits_least x (small_word x count small few) (omega (arith, less))) less most)

    past_digits : digits_of x < t → t < count → quantised Uniform count t x ≡ 0
    past_digits past inside = sent_none x count t (lower x count t (digits_of x) room past inside)

    go : (p q : Bool) → nat_lt (digits_of x) count ≡ p → nat_le (2 ^ count) (x * 2 ^ (count - digits_of x + 1) - x) ≡ q → nat_lt t end ≡ (nat_lt t count && nat_lt 0 (quantised Uniform count t x))
    go true true f g =
        let here : end ≡ digits_of x + 1 = at true true f g in
        let inside = ltb-true (digits_of x) count f in
        end_is Uniform count x end t (λ below. omega (arith, below, here, inside))
        (λ below. elim (cases_eq t (digits_of x)) [
          | inl same ↦ subst (λ k. 1 ≤ quantised Uniform count k x) (sym same) (sent_some x count (digits_of x) (leb-true _ _ g))
          | inr other ↦ below_digits (omega (arith, below, here, other))
        ])
        (λ past less. past_digits (omega (arith, past, here)) less)
    go true false f g =
        let here : end ≡ digits_of x = omega (arith, at true false f g) in
        end_is Uniform count x end t (λ below. omega (arith, below, here, most)) (λ below. below_digits (omega (arith, below, here)))
        (λ past less. elim (cases_eq t (digits_of x)) [
          | inl same ↦ subst (λ k. quantised Uniform count k x ≡ 0) (sym same) (sent_none x count (digits_of x) (leb-false _ _ g))
          | inr other ↦ past_digits (omega (arith, past, here, other)) less
        ])
    go false q f g =
        let here : end ≡ digits_of x = omega (arith, at false q f g) in
        end_is Uniform count x end t (λ below. omega (arith, below, here, most)) (λ below. below_digits (omega (arith, below, here)))
        (λ past less. absurd (omega (arith, past, here, less, ltb-false (digits_of x) count f)))

-- Four numbers

abbrev tally : Bool → Bool → Bool → Bool → ℕ
tally a b c d = count_by (λ (x : Bool). x) (a ∷ b ∷ c ∷ d ∷ [])

pub four_ends : (test : Bool) (t : ℕ) (p : ℕ → Bool) (e f g h a b c d : ℕ) → nat_lt t e ≡ (test && p a) → nat_lt t f ≡ (test && p b) → nat_lt t g ≡ (test && p c) → nat_lt t h ≡ (test && p d)
    → count_by (λ end. nat_lt t end) (e ∷ f ∷ g ∷ h ∷ []) ≡ (if test then count_by p (a ∷ b ∷ c ∷ d ∷ []) else 0)
four_ends test t p e f g h a b c d i j k l =
    ap (λ x. tally x (nat_lt t f) (nat_lt t g) (nat_lt t h)) i ∙ ap (λ x. tally (test && p a) x (nat_lt t g) (nat_lt t h)) j
    ∙ ap (λ x. tally (test && p a) (test && p b) x (nat_lt t h)) k ∙ ap (λ x. tally (test && p a) (test && p b) (test && p c) x) l ∙ cases test
  where
    cases : (test : Bool) → tally (test && p a) (test && p b) (test && p c) (test && p d) ≡ (if test then count_by p (a ∷ b ∷ c ∷ d ∷ []) else 0)
    cases true = refl
    cases false = refl

pub four_items : (xs : List ℕ) → length xs ≡ 4 → xs ≡ get_or xs 0 0 ∷ get_or xs 1 0 ∷ get_or xs 2 0 ∷ get_or xs 3 0 ∷ []
four_items [] e = absurd (omega (arith, e))
four_items (a ∷ []) e = absurd (omega (arith, e))
four_items (a ∷ b ∷ []) e = absurd (omega (arith, e))
four_items (a ∷ b ∷ c ∷ []) e = absurd (omega (arith, e))
four_items (a ∷ b ∷ c ∷ d ∷ []) e = refl
four_items (a ∷ b ∷ c ∷ d ∷ x ∷ xs) e = absurd (omega (arith, e))

bit_few : (a : Bool) → cond a 1 0 ≤ 1
bit_few true = omega arith
bit_few false = omega arith

pub four_few : (a b c d : Bool) → tally a b c d ≤ 4
four_few a b c d = omega (arith, bit_few a, bit_few b, bit_few c, bit_few d)
