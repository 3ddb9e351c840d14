-- Codes, and what they stand for.
use Rattle.std.proofs.Common.{◌≡◌, ℕ, ◌⊎◌, Bool, true, false, nat_eq, ◌||◌, if◌then◌else◌, refl, ap, inl, inr}
use Rattle.std.specs.Prelude.{⊤}
use Rattle.std.proofs.lemmas.Bool.{eqb-true, or_cases}
use Rattle.xs_grammar.specs.Header.{Segment, is_stepped_over, cap_code, com_code, crg_code, pih_code, cdt_code, wgt_code}
use Rattle.xs_markers.specs.declared.kinds.Kind.{Kind}
use Rattle.xs_markers.specs.declared.kinds.Kind.TheVariants as kind
use Rattle.xs_markers.specs.Segments.{kind_of, nlt_code, cwd_code, cts_code}

-- a code is of a kind
abbrev pub IsOfKind : ℕ → Kind → Type 0
IsOfKind code kind.Picture = code ≡ pih_code
IsOfKind code kind.Components = code ≡ cdt_code
IsOfKind code kind.Weights = code ≡ wgt_code
IsOfKind code kind.SteppedOver = (nat_eq code cap_code || nat_eq code com_code || nat_eq code crg_code) ≡ true
IsOfKind code kind.Unsupported = ⊤
IsOfKind code kind.Unknown = ⊤

pub kind_told : (code : ℕ) → IsOfKind code (kind_of code)
unfolding kind_of
kind_told code = first (nat_eq code pih_code) refl
  where
    stepped : Bool
    stepped = nat_eq code cap_code || nat_eq code com_code || nat_eq code crg_code

    unsupported : Bool
    unsupported = nat_eq code nlt_code || nat_eq code cwd_code || nat_eq code cts_code

    fifth : (t : Bool) → IsOfKind code (if t then kind.Unsupported else kind.Unknown)
    fifth true = tt
    fifth false = tt

    fourth : (t : Bool) → stepped ≡ t → IsOfKind code (if t then kind.SteppedOver else (if unsupported then kind.Unsupported else kind.Unknown))
    fourth true e = e
    fourth false e = fifth unsupported

    third : (t : Bool) → nat_eq code wgt_code ≡ t → IsOfKind code (if t then kind.Weights else (if stepped then kind.SteppedOver else (if unsupported then kind.Unsupported else kind.Unknown)))
    third true e = eqb-true code wgt_code e
    third false e = fourth stepped refl

    second : (t : Bool) → nat_eq code cdt_code ≡ t
        → IsOfKind code (if t then kind.Components else (if nat_eq code wgt_code then kind.Weights else (if stepped then kind.SteppedOver else (if unsupported then kind.Unsupported else kind.Unknown))))
    second true e = eqb-true code cdt_code e
    second false e = third (nat_eq code wgt_code) refl

    first : (t : Bool) → nat_eq code pih_code ≡ t
        → IsOfKind code (if t then kind.Picture else (if nat_eq code cdt_code then kind.Components else (if nat_eq code wgt_code then kind.Weights else (if stepped then kind.SteppedOver else (if unsupported then kind.Unsupported else kind.Unknown)))))
    first true e = eqb-true code pih_code e
    first false e = second (nat_eq code cdt_code) refl

-- the kinds of codes

pub kind_pih : (code : ℕ) → code ≡ pih_code → kind_of code ≡ kind.Picture
unfolding kind_of
kind_pih code e = ap kind_of e

pub kind_cdt : (code : ℕ) → code ≡ cdt_code → kind_of code ≡ kind.Components
unfolding kind_of
kind_cdt code e = ap kind_of e

pub kind_wgt : (code : ℕ) → code ≡ wgt_code → kind_of code ≡ kind.Weights
unfolding kind_of
kind_wgt code e = ap kind_of e

pub stepped_is : (s : Segment) → is_stepped_over s ≡ true → (s.code ≡ cap_code) ⊎ (s.code ≡ com_code) ⊎ (s.code ≡ crg_code)
stepped_is s e = elim (or_cases (nat_eq s.code cap_code || nat_eq s.code com_code) (nat_eq s.code crg_code) e) [
  | inl few ↦ elim (or_cases (nat_eq s.code cap_code) (nat_eq s.code com_code) few) [ inl p ↦ inl (eqb-true s.code cap_code p) | inr p ↦ inr (inl (eqb-true s.code com_code p)) ]
  | inr p ↦ inr (inr (eqb-true s.code crg_code p))
]

pub kind_stepped : (s : Segment) → is_stepped_over s ≡ true → kind_of s.code ≡ kind.SteppedOver
unfolding kind_of
kind_stepped s e = elim (stepped_is s e) [ inl p ↦ ap kind_of p | inr (inl p) ↦ ap kind_of p | inr (inr p) ↦ ap kind_of p ]

-- tables are not stepped over
abbrev is_stepped_code : ℕ → Bool
is_stepped_code code = nat_eq code cap_code || nat_eq code com_code || nat_eq code crg_code

pub table_kept : (s : Segment) → (s.code ≡ pih_code) ⊎ (s.code ≡ cdt_code) ⊎ (s.code ≡ wgt_code) → is_stepped_over s ≡ false
table_kept s (inl e) = ap is_stepped_code e
table_kept s (inr (inl e)) = ap is_stepped_code e
table_kept s (inr (inr e)) = ap is_stepped_code e
