-- The counts and the numbers of a row at a truncation.
use Rattle.std.proofs.Common.{◌≡◌, ℕ, zero, suc, ℤ, ◌+◌, ◌-◌, ◌*◌, ◌/◌, ◌^◌, ◌<◌, ◌≤◌, List, [], ◌∷◌, length, map, get_or, set, refl, sym, ap, subst, ◌∙◌, arith}
use Rattle.std.specs.Prelude.{Bool, true, false, nat_lt, max, if◌then◌else◌, pos, negsuc, unsigned_abs}
use Rattle.std.specs.List.{range_with_len, AllByRecursion}
use Rattle.std.proofs.lemmas.Bool.{ltb-true, ltb-false}
use Rattle.std.proofs.lemmas.List.FromFn.{get_or-map-range_with_len, length-map-range_with_len}
use Rattle.std.proofs.Math.Facts.{to_z_pos, to_z-neg}
use Rattle.std.proofs.Math.Pow.{pow_mono}
use Rattle.xs_layout.specs.declared.Quant.{Quant}
use Rattle.xs_signal.specs.Quantiser.{quantised, with_sign_of, sent}
use Rattle.xs_signal.proofs.Laws.{quantised_fits}
use Rattle.xs_signal.proofs.Magnitudes.{size_signed}
use Rattle.xs_spelling.specs.Data.{columns_of}
use Rattle.xs_planes.specs.Numbers.{AreNumbers, put_four}
use Rattle.xs_rate.specs.Content.{planes_of}
use Rattle.xs_rate.specs.Laws.{IsSmallRow}
use Rattle.xs_rate.proofs.Planes.{planes-room}
use Rattle.xs_groups.proofs.Planes.{planes_most}
use Rattle.xs_precinct_write.specs.Outgoing.{counts_cut, values_sent}
use mir.Syntax.{w32}
use mir.Val.{of_z, to_z}

-- Signs

pub zero_signed : (z : ℤ) → with_sign_of z 0 ≡ pos 0
zero_signed (pos n) = refl
zero_signed (negsuc n) = refl

-- Numbers

pub sent_at : (kind : Quant) (p t : ℕ) (z : ℤ) → unsigned_abs z < 2 ^ p → with_sign_of z (quantised kind (max p t) t (unsigned_abs z)) ≡ sent kind p t z
sent_at kind p t z small = cases (nat_lt t p) refl
  where
    cases : (some : Bool) → nat_lt t p ≡ some → with_sign_of z (quantised kind (max p t) t (unsigned_abs z)) ≡ (if some then with_sign_of z (quantised kind p t (unsigned_abs z)) else pos 0)
    cases true e = let same : max p t ≡ p = omega (arith, ltb-true t p e) in ap (λ c. with_sign_of z (quantised kind c t (unsigned_abs z))) same
    cases false e =
        let same : max p t ≡ t = omega (arith, ltb-false t p e) in
        let up : 2 ^ p ≤ 2 ^ t = pow_mono {i = p} {j = t} (omega (arith, ltb-false t p e)) in
        let room : quantised kind t t (unsigned_abs z) < 2 ^ (t - t) = quantised_fits kind t t (unsigned_abs z) (omega arith) (omega (arith, small, up)) in
        let one : t - t ≡ 0 = omega arith in
        let below : quantised kind t t (unsigned_abs z) < 2 ^ 0 = subst (λ k. quantised kind t t (unsigned_abs z) < 2 ^ k) one room in
        let none : quantised kind t t (unsigned_abs z) ≡ 0 = omega (arith, below) in
        ap (λ c. with_sign_of z (quantised kind c t (unsigned_abs z))) same ∙ ap (with_sign_of z) none ∙ zero_signed z

pub sent_room : (kind : Quant) (p t : ℕ) (z : ℤ) → unsigned_abs z < 2 ^ p → unsigned_abs (sent kind p t z) < 2 ^ (max p t - t)
sent_room kind p t z small = cases (nat_lt t p) refl
  where
    cases : (some : Bool) → nat_lt t p ≡ some → unsigned_abs (if some then with_sign_of z (quantised kind p t (unsigned_abs z)) else pos 0) < 2 ^ (max p t - t)
    cases true e =
        let same : p - t ≡ max p t - t = omega (arith, ltb-true t p e) in
        let fits = quantised_fits kind p t (unsigned_abs z) (omega (arith, ltb-true t p e)) small in
        subst (λ k. unsigned_abs (with_sign_of z (quantised kind p t (unsigned_abs z))) < 2 ^ k) same (omega (arith, size_signed z (quantised kind p t (unsigned_abs z)), fits))
    cases false e = let some : 2 ^ 0 ≤ 2 ^ (max p t - t) = pow_mono {i = 0} {j = max p t - t} (omega arith) in omega (arith, some)

none_sent : (kind : Quant) (p t : ℕ) (z : ℤ) → p ≤ t → sent kind p t z ≡ pos 0
none_sent kind p t z none = cases (nat_lt t p) refl
  where
    cases : (some : Bool) → nat_lt t p ≡ some → (if some then with_sign_of z (quantised kind p t (unsigned_abs z)) else pos 0) ≡ pos 0
    cases true e = absurd (omega (arith, ltb-true t p e, none))
    cases false e = refl

pub quantised_small : (kind : Quant) (p t x : ℕ) → p ≤ 15 → t ≤ 15 → x < 2 ^ p → quantised kind (max p t) t x < 2 ^ 15
quantised_small kind p t x most cut small =
    let up : 2 ^ p ≤ 2 ^ max p t = pow_mono {i = p} {j = max p t} (omega arith) in
    let fits = quantised_fits kind (max p t) t x (omega arith) (omega (arith, small, up)) in
    let top : 2 ^ (max p t - t) ≤ 2 ^ 15 = pow_mono {i = max p t - t} {j = 15} (omega (arith, most, cut)) in
    omega (arith, fits, top)

pub column_sent : (kind : Quant) (row : ℕ → ℤ) (t group : ℕ) → IsSmallRow row → (i : ℕ) → i < 4
    → with_sign_of (row (4 * group + i)) (quantised kind (max (planes_of row group) t) t (unsigned_abs (row (4 * group + i)))) ≡ sent kind (planes_of row group) t (row (4 * group + i))
column_sent kind row t group small i few =
    let here : (4 * group + i) / 4 ≡ group = omega (arith, few) in
    sent_at kind (planes_of row group) t (row (4 * group + i)) (subst (λ g. unsigned_abs (row (4 * group + i)) < 2 ^ planes_of row g) here (planes-room row small (4 * group + i)))

pub column_small : (row : ℕ → ℤ) (t group column : ℕ) → IsSmallRow row → column / 4 ≡ group → unsigned_abs (row column) < 2 ^ max (planes_of row group) t
column_small row t group column small here =
    let low : unsigned_abs (row column) < 2 ^ planes_of row group = subst (λ g. unsigned_abs (row column) < 2 ^ planes_of row g) here (planes-room row small column) in
    let up : 2 ^ planes_of row group ≤ 2 ^ max (planes_of row group) t = pow_mono {i = planes_of row group} {j = max (planes_of row group) t} (omega arith) in
    omega (arith, low, up)

pub group_room : (row : ℕ → ℤ) (t group : ℕ) → IsSmallRow row → AllByRecursion (λ x. x < 2 ^ max (planes_of row group) t) (map (λ column. unsigned_abs (row column)) (columns_of group))
group_room row t group small = (
  column_small row t group (4 * group) small (omega arith),
  (
    column_small row t group (4 * group + 1) small (omega arith),
    (
      column_small row t group (4 * group + 1 + 1) small (omega arith),
      (column_small row t group (4 * group + 1 + 1 + 1) small (omega arith), tt),
    ),
  ),
)

-- a small number is what its 32 bits are read as
pub read_back : (z : ℤ) → unsigned_abs z < 2 ^ 15 → to_z w32 (of_z w32 z) ≡ z
read_back (pos n) small = to_z_pos w32 (omega (arith, small))
read_back (negsuc n) small = to_z-neg w32 n (omega (arith, small))

-- the magnitudes of coefficients that were read
pub sizes_of : (row : ℕ → ℤ) (group : ℕ) (read : List ℤ) → read ≡ map row (columns_of group)
    → unsigned_abs (get_or read 0 (pos 0)) ∷ unsigned_abs (get_or read 1 (pos 0)) ∷ unsigned_abs (get_or read 2 (pos 0)) ∷ unsigned_abs (get_or read 3 (pos 0)) ∷ [] ≡ map (λ column. unsigned_abs (row column)) (columns_of group)
sizes_of row group read is = ap (λ l. unsigned_abs (get_or l 0 (pos 0)) ∷ unsigned_abs (get_or l 1 (pos 0)) ∷ unsigned_abs (get_or l 2 (pos 0)) ∷ unsigned_abs (get_or l 3 (pos 0)) ∷ []) is

pub number_small : (kind : Quant) (row : ℕ → ℤ) (t count group column : ℕ) → t ≤ 15 → IsSmallRow row → count ≡ max (planes_of row group) t → column / 4 ≡ group → quantised kind count t (unsigned_abs (row column)) < 2 ^ 15
number_small kind row t count group column cut small is here =
    subst (λ c. quantised kind c t (unsigned_abs (row column)) < 2 ^ 15) (sym is)
    (quantised_small kind (planes_of row group) t (unsigned_abs (row column)) (planes_most row group) cut (subst (λ g. unsigned_abs (row column) < 2 ^ planes_of row g) here (planes-room row small column)))

pub number_at : (kind : Quant) (row : ℕ → ℤ) (t count group i column place n : ℕ) → IsSmallRow row → count ≡ max (planes_of row group) t → i < 4 → column ≡ 4 * group + i → place ≡ 4 * group + i
    → n ≡ quantised kind count t (unsigned_abs (row column)) → with_sign_of (row place) n ≡ sent kind (planes_of row group) t (row (4 * group + i))
number_at kind row t count group i column place n small is few at there e =
    ap (with_sign_of (row place)) (e ∙ ap (λ c. quantised kind c t (unsigned_abs (row column))) is ∙ ap (λ k. quantised kind (max (planes_of row group) t) t (unsigned_abs (row k))) at)
    ∙ ap (λ k. with_sign_of (row k) (quantised kind (max (planes_of row group) t) t (unsigned_abs (row (4 * group + i))))) there
    ∙ column_sent kind row t group small i few

pub four_put : (old a b c d : List ℤ) (first : ℕ) (number : ℕ → ℤ) (w x y z : ℤ) → a ≡ set old first w → b ≡ set a (first + 1) x → c ≡ set b (first + 2) y → d ≡ set c (first + 3) z
    → w ≡ number 0 → x ≡ number 1 → y ≡ number 2 → z ≡ number 3 → d ≡ put_four old first number
four_put old a b c d first number w x y z p q r s e f g h =
    s ∙ ap (λ l. set l (first + 3) z) (r ∙ ap (λ l. set l (first + 2) y) (q ∙ ap (λ l. set l (first + 1) x) p))
    ∙ ap (λ v. set (set (set (set old first v) (first + 1) x) (first + 2) y) (first + 3) z) e
    ∙ ap (λ v. set (set (set (set old first (number 0)) (first + 1) v) (first + 2) y) (first + 3) z) f
    ∙ ap (λ v. set (set (set (set old first (number 0)) (first + 1) (number 1)) (first + 2) v) (first + 3) z) g
    ∙ ap (λ v. set (set (set (set old first (number 0)) (first + 1) (number 1)) (first + 2) (number 2)) (first + 3) v) h

-- nothing is sent of a code group that has no more planes than are cut off
pub none_put : (kind : Quant) (row : ℕ → ℤ) (t group : ℕ) (old new : List ℤ) → planes_of row group ≤ t → new ≡ put_four old (4 * group) (λ i. pos 0) → new ≡ put_four old (4 * group) (λ i. sent kind (planes_of row group) t (row (4 * group + i)))
none_put kind row t group old new none put =
    put ∙ four_put old _ _ _ _ (4 * group) (λ i. sent kind (planes_of row group) t (row (4 * group + i))) (pos 0) (pos 0) (pos 0) (pos 0) refl refl refl refl (nothing 0) (nothing 1) (nothing 2) (nothing 3)
  where
    nothing : (i : ℕ) → pos 0 ≡ sent kind (planes_of row group) t (row (4 * group + i))
    nothing i = sym (none_sent kind (planes_of row group) t (row (4 * group + i)) none)

pub column_is : (kind : Quant) (row : ℕ → ℤ) (t group i column : ℕ) → i < 4 → column ≡ 4 * group + i → sent kind (planes_of row group) t (row (4 * group + i)) ≡ sent kind (planes_of row (column / 4)) t (row column)
column_is kind row t group i column few at =
    let here : group ≡ column / 4 = omega (arith, few, at) in
    ap (λ g. sent kind (planes_of row g) t (row (4 * group + i))) here ∙ ap (λ k. sent kind (planes_of row (column / 4)) t (row k)) (sym at)

-- Lists

pub count_at : (row : ℕ → ℤ) (t n group : ℕ) → group < n → get_or (counts_cut t row n) group 0 ≡ max (planes_of row group) t
count_at row t n group inside = get_or-map-range_with_len (λ g. max (planes_of row g) t) 0 n group group 0 inside (omega arith)

pub value_at : (kind : Quant) (row : ℕ → ℤ) (t n column : ℕ) → column < n → get_or (values_sent kind t row n) column (pos 0) ≡ sent kind (planes_of row (column / 4)) t (row column)
value_at kind row t n column inside = get_or-map-range_with_len (λ k. sent kind (planes_of row (k / 4)) t (row k)) 0 n column column (pos 0) inside (omega arith)

pub length_cut : (row : ℕ → ℤ) (t n : ℕ) → length (counts_cut t row n) ≡ n
length_cut row t n = length-map-range_with_len (λ g. max (planes_of row g) t) 0 n

pub length_sent : (kind : Quant) (row : ℕ → ℤ) (t n : ℕ) → length (values_sent kind t row n) ≡ n
length_sent kind row t n = length-map-range_with_len (λ k. sent kind (planes_of row (k / 4)) t (row k)) 0 n

pub row_numbers : (kind : Quant) (row : ℕ → ℤ) (t n : ℕ) → t ≤ 15 → IsSmallRow row → AreNumbers t (counts_cut t row n) (values_sent kind t row (4 * n))
row_numbers kind row t n cut small = record {
  most = cut;
  size = omega (arith, length_cut row t n, length_sent kind row t (4 * n));
  small = λ column inside.
      let within : column < 4 * n = omega (arith, inside, length_sent kind row t (4 * n)) in
      subst (λ z. unsigned_abs z < 2 ^ (get_or (counts_cut t row n) (column / 4) 0 - t)) (sym (value_at kind row t (4 * n) column within))
      (subst (λ c. unsigned_abs (sent kind (planes_of row (column / 4)) t (row column)) < 2 ^ (c - t)) (sym (count_at row t n (column / 4) (omega (arith, within))))
      (sent_room kind (planes_of row (column / 4)) t (row column) (planes-room row small column)));
}

pub all_few : (row : ℕ → ℤ) (t first n : ℕ) → t ≤ 15 → AllByRecursion (λ count. count ≤ 15) (map (λ g. max (planes_of row g) t) (range_with_len first n))
all_few row t first zero cut = tt
all_few row t first (suc n) cut = (omega (arith, planes_most row first, cut), all_few row t (first + 1) n cut)

pub all_least : (row : ℕ → ℤ) (t first n : ℕ) → AllByRecursion (λ count. t ≤ count) (map (λ g. max (planes_of row g) t) (range_with_len first n))
all_least row t first zero = tt
all_least row t first (suc n) = (omega arith, all_least row t (first + 1) n)
