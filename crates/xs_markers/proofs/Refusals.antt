-- Refusals in an order, of which none holds.
use Rattle.std.proofs.Common.{◌≡◌, ℕ, ◌≤◌, ◌⊎◌, Bool, true, false, not, ◌&&◌, ◌||◌, nat_eq, nat_le, if◌then◌else◌, List, [], ◌∷◌, ◌++◌, Option, Some, None, is_some, Result, Ok, Err, IfOk, refl, sym, ap, ◌∙◌, arith, inl, inr}
use Rattle.std.specs.List.{AllByRecursion}
use Rattle.std.specs.Result.{result_err}
use Rattle.std.proofs.lemmas.Bool.{and_parts, and_from, or_cases, or_left, or_right, leb-true, le-leb, eqb-true, eq-eqb, not_from_true, true_from_ne_false, true≢false}
use Rattle.xs_lists.specs.First.{first_some}
use Rattle.xs_faults.specs.declared.HeadFault.{HeadFault}
use Rattle.xs_faults.specs.declared.HeadFault.TheVariants.{Unsupported}
use Rattle.xs_markers.specs.declared.rules.FieldRule.{FieldRule}
use Rattle.xs_markers.specs.Values.{fields_fault}

pub some_none : {A : Type 0} (x : A) → Some x ≡ None → ⊥
some_none x e = let one : ◌≡◌ {A = ℕ} 1 0 = ap (λ o. if is_some o then 1 else 0) e in absurd (omega (arith, one))

-- answers in an order

pub passed : {A : Type 0} (first : Option A) (rest : List (Option A)) → None ≡ first → first_some (first ∷ rest) ≡ first_some rest
passed first rest e = ap (λ o. first_some (o ∷ rest)) (sym e)

pub stopped : {A : Type 0} (first : Option A) (x : A) (rest : List (Option A)) → Some x ≡ first → first_some (first ∷ rest) ≡ Some x
stopped first x rest e = ap (λ o. first_some (o ∷ rest)) (sym e)

pub none_first : {A : Type 0} (first : Option A) (rest : List (Option A)) → first_some (first ∷ rest) ≡ None → (first ≡ None) × (first_some rest ≡ None)
none_first None rest e = (refl, e)
none_first (Some x) rest e = absurd (some_none x e)

-- rows of tests and answers

pub no_row : {A : Type 0} (test : Bool) (answer : A) (rest : Option A) → (if test then Some answer else rest) ≡ None → (test ≡ false) × (rest ≡ None)
no_row true answer rest e = absurd (some_none answer e)
no_row false answer rest e = (refl, e)

pub skipped : {A : Type 0} (test : Bool) (answer : A) (rest : Option A) → test ≡ false → rest ≡ None → (if test then Some answer else rest) ≡ None
skipped test answer rest e f = ap (λ t. if t then Some answer else rest) e ∙ f

-- tests of numbers

pub is_passed : (test : Bool) → not test ≡ false → test ≡ true
is_passed test e = true_from_ne_false test (λ d. true≢false (sym (ap not d) ∙ e))

pub is_equal : (a b : ℕ) → not (nat_eq a b) ≡ false → a ≡ b
is_equal a b e = eqb-true a b (is_passed (nat_eq a b) e)

pub equal_is : (a b : ℕ) → a ≡ b → not (nat_eq a b) ≡ false
equal_is a b e = not_from_true (nat_eq a b) (eq-eqb a b e)

pub is_within : (low high value : ℕ) → not (nat_le low value && nat_le value high) ≡ false → (low ≤ value) × (value ≤ high)
is_within low high value e =
    let both = and_parts (nat_le low value) (nat_le value high) (is_passed (nat_le low value && nat_le value high) e) in
    (leb-true low value both.0, leb-true value high both.1)

pub within_is : (low high value : ℕ) → low ≤ value → value ≤ high → not (nat_le low value && nat_le value high) ≡ false
within_is low high value above below =
    not_from_true (nat_le low value && nat_le value high) (and_from (nat_le low value) (nat_le value high) (le-leb low value above) (le-leb value high below))

pub is_either : (n a b : ℕ) → not (nat_eq n a || nat_eq n b) ≡ false → (n ≡ a) ⊎ (n ≡ b)
is_either n a b e = elim (or_cases (nat_eq n a) (nat_eq n b) (is_passed (nat_eq n a || nat_eq n b) e)) [ inl first ↦ inl (eqb-true n a first) | inr second ↦ inr (eqb-true n b second) ]

pub either_is : (n a b : ℕ) → (n ≡ a) ⊎ (n ≡ b) → not (nat_eq n a || nat_eq n b) ≡ false
either_is n a b (inl first) = not_from_true (nat_eq n a || nat_eq n b) (or_left (nat_eq n a) (nat_eq n b) (eq-eqb n a first))
either_is n a b (inr second) = not_from_true (nat_eq n a || nat_eq n b) (or_right (nat_eq n a) (nat_eq n b) (eq-eqb n b second))

-- fields

pub none_refused : (rows : List FieldRule) → fields_fault rows ≡ None → AllByRecursion (λ (rule : FieldRule). rule.refused ≡ false) rows
unfolding fields_fault
none_refused [] e = tt
none_refused (row ∷ rows) e =
    let both : (row.refused ≡ false) × (fields_fault rows ≡ None) = no_row row.refused (Unsupported row.field row.value) (fields_fault rows) e in
    (both.0, none_refused rows both.1)

pub refused_none : (rows : List FieldRule) → AllByRecursion (λ (rule : FieldRule). rule.refused ≡ false) rows → fields_fault rows ≡ None
unfolding fields_fault
refused_none [] h = refl
refused_none (row ∷ rows) h = skipped row.refused (Unsupported row.field row.value) (fields_fault rows) h.0 (refused_none rows h.1)

-- rows before others

pub fault_past : (rows others : List FieldRule) → fields_fault rows ≡ None → fields_fault (rows ++ others) ≡ fields_fault others
unfolding fields_fault
fault_past [] others e = refl
fault_past (row ∷ rows) others e =
    let both : (row.refused ≡ false) × (fields_fault rows ≡ None) = no_row row.refused (Unsupported row.field row.value) (fields_fault rows) e in
    ap (λ t. if t then Some (Unsupported row.field row.value) else fields_fault (rows ++ others)) both.0 ∙ fault_past rows others both.1

pub fault_in : (rows others : List FieldRule) (fault : HeadFault) → fields_fault rows ≡ Some fault → fields_fault (rows ++ others) ≡ Some fault
unfolding fields_fault
fault_in [] others fault e = absurd (some_none fault (sym e))
fault_in (row ∷ rows) others fault e = go row.refused (fault_in rows others fault) e
  where
    go : (t : Bool) → (fields_fault rows ≡ Some fault → fields_fault (rows ++ others) ≡ Some fault)
        → (if t then Some (Unsupported row.field row.value) else fields_fault rows) ≡ Some fault → (if t then Some (Unsupported row.field row.value) else fields_fault (rows ++ others)) ≡ Some fault
    go true later e = e
    go false later e = later e

pub no_rules : None ≡ fields_fault []
unfolding fields_fault
no_rules = refl

-- what an error is
pub err_told : {T : Type 0} (r : Result T HeadFault) (fault : HeadFault) → result_err r ≡ Some fault → r ≡ Err fault
err_told (Ok x) fault e = absurd (some_none fault (sym e))
err_told (Err other) fault e = let same : other ≡ fault = cc e in ap Err same

-- what a result is, in other words
pub if_ok : {T E : Type 0} (r : Result T E) (x y : T) → IfOk r (λ z. z ≡ x) → x ≡ y → IfOk r (λ z. z ≡ y)
if_ok (Ok z) x y e same = e ∙ same
if_ok (Err fault) x y e same = tt
