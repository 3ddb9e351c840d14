-- A segment at a place without a fault.
use Rattle.std.proofs.Common.{◌≡◌, ℕ, ◌+◌, ◌*◌, ◌≤◌, Bool, true, false, not, nat_eq, nat_lt, List, [], ◌∷◌, length, Option, Some, None, refl, sym, ap, ◌∙◌, arith}
use Rattle.std.proofs.lemmas.Bool.{ltb-false, le-ltb, leb-true, eqb-true, not-false, not_from_true, false≢true}
use Rattle.xs_lists.specs.First.{first_of, first_some, when}
use Rattle.xs_faults.specs.declared.HeadFault.{HeadFault}
use Rattle.xs_faults.specs.declared.HeadFault.TheVariants.{Truncated, Length}
use Rattle.xs_markers.specs.declared.kinds.Kind.{Kind}
use Rattle.xs_markers.specs.declared.kinds.Kind.TheVariants as kind
use Rattle.xs_markers.specs.declared.picture.PictureFields.{PictureFields}
use Rattle.xs_markers.specs.declared.seen.Seen.{Seen}
use Rattle.xs_markers.specs.Segments.{segment_code, segment_kind, segment_size, segment_body, segment_end, bands_of_fields, kind_fault, is_size, rules_of, code_fault, size_fault, segment_fault}
use Rattle.xs_markers.specs.Values.{fields_fault}
use Rattle.xs_markers.proofs.Refusals.{none_first, no_row, skipped, some_none, passed}

pub record IsFine (bytes : List ℕ) (place : ℕ) (seen : Seen) : Type 0 where
  pub least : 2 ≤ segment_size bytes place
  pub whole : segment_end bytes place ≤ length bytes
  pub kind : kind_fault seen (segment_kind bytes place) (segment_code bytes place) place ≡ None
  pub size : is_size seen (segment_kind bytes place) (segment_size bytes place) ≡ true
  pub fields : fields_fault (rules_of seen (segment_kind bytes place) (segment_body bytes place)) ≡ None

-- the length that a segment may have is at least that of its own field
table_least : (picture : Option PictureFields) (count : PictureFields → ℕ) (size : ℕ) → (elim picture [ None ↦ false | Some p ↦ nat_eq size (2 + 2 * count p) ]) ≡ true → 2 ≤ size
table_least None count size e = absurd (false≢true e)
table_least (Some p) count size e = let same = eqb-true size (2 + 2 * count p) e in omega (arith, same)

size_least : (seen : Seen) (k : Kind) (size : ℕ) → is_size seen k size ≡ true → 2 ≤ size
size_least seen kind.Picture size e = let same = eqb-true size 26 e in omega (arith, same)
size_least seen kind.Components size e = table_least seen.picture (λ p. p.nc) size e
size_least seen kind.Weights size e = table_least seen.picture bands_of_fields size e
size_least seen kind.SteppedOver size e = leb-true 2 size e
size_least seen kind.Unsupported size e = absurd (false≢true e)
size_least seen kind.Unknown size e = absurd (false≢true e)

pub no_when : (test : Bool) (answer : HeadFault) → when test answer ≡ None → test ≡ false
no_when true answer e = absurd (some_none answer e)
no_when false answer e = refl

record IsCodeFine (bytes : List ℕ) (place : ℕ) (seen : Seen) : Type 0 where
  there : place + 2 ≤ length bytes
  kind : kind_fault seen (segment_kind bytes place) (segment_code bytes place) place ≡ None

code_fine : (bytes : List ℕ) (place : ℕ) (seen : Seen) → code_fault bytes place seen ≡ None → IsCodeFine bytes place seen
unfolding code_fault
code_fine bytes place seen e =
    let parts = none_first (when (nat_lt (length bytes) (place + 2)) (Truncated (length bytes))) _ e in
    let last = none_first (kind_fault seen (segment_kind bytes place) (segment_code bytes place) place) [] parts.1 in
    record { there = ltb-false (length bytes) (place + 2) (no_when _ _ parts.0); kind = last.0 }

fine_code : (bytes : List ℕ) (place : ℕ) (seen : Seen) → IsCodeFine bytes place seen → code_fault bytes place seen ≡ None
unfolding code_fault
fine_code bytes place seen f =
    ap (λ t. first_some (when t (Truncated (length bytes)) ∷ kind_fault seen (segment_kind bytes place) (segment_code bytes place) place ∷ [])) (le-ltb (length bytes) (place + 2) f.there)
    ∙ ap (λ o. first_some (o ∷ [])) f.kind

record IsSizeFine (bytes : List ℕ) (place : ℕ) (seen : Seen) : Type 0 where
  there : place + 4 ≤ length bytes
  size : is_size seen (segment_kind bytes place) (segment_size bytes place) ≡ true
  whole : segment_end bytes place ≤ length bytes

size_fine : (bytes : List ℕ) (place : ℕ) (seen : Seen) → size_fault bytes place seen ≡ None → IsSizeFine bytes place seen
unfolding size_fault
size_fine bytes place seen e =
    let parts = go (is_size seen (segment_kind bytes place) (segment_size bytes place)) (segment_end bytes place) e in
    record { there = parts.0; size = parts.1; whole = parts.2 }
  where
    go : (fits : Bool) (next : ℕ)
        → first_of ((nat_lt (length bytes) (place + 4), Truncated (length bytes)) ∷ (not fits, Length (segment_code bytes place) (segment_size bytes place)) ∷ (nat_lt (length bytes) next, Truncated (length bytes)) ∷ []) ≡ None
        → (place + 4 ≤ length bytes) × (fits ≡ true) × (next ≤ length bytes)
    go fits next e =
        let first : (nat_lt (length bytes) (place + 4) ≡ false) × (first_of ((not fits, Length (segment_code bytes place) (segment_size bytes place)) ∷ (nat_lt (length bytes) next, Truncated (length bytes)) ∷ []) ≡ None) = no_row _ _ _ e in
        let second : (not fits ≡ false) × (first_of ((nat_lt (length bytes) next, Truncated (length bytes)) ∷ []) ≡ None) = no_row _ _ _ first.1 in
        let third : (nat_lt (length bytes) next ≡ false) × (None ≡ None) = no_row _ _ _ second.1 in
        (ltb-false (length bytes) (place + 4) first.0, not-false fits second.0, ltb-false (length bytes) next third.0)

fine_size : (bytes : List ℕ) (place : ℕ) (seen : Seen) → IsSizeFine bytes place seen → size_fault bytes place seen ≡ None
unfolding size_fault
fine_size bytes place seen f =
    skipped (nat_lt (length bytes) (place + 4)) (Truncated (length bytes)) _ (le-ltb (length bytes) (place + 4) f.there)
    (skipped (not (is_size seen (segment_kind bytes place) (segment_size bytes place))) (Length (segment_code bytes place) (segment_size bytes place)) _ (not_from_true _ f.size)
    (skipped (nat_lt (length bytes) (segment_end bytes place)) (Truncated (length bytes)) None (le-ltb (length bytes) (segment_end bytes place) f.whole) refl))

pub segment_fine : (bytes : List ℕ) (place : ℕ) (seen : Seen) → segment_fault bytes place seen ≡ None → IsFine bytes place seen
unfolding segment_fault
segment_fine bytes place seen e =
    let code = none_first (code_fault bytes place seen) _ e in
    let size = none_first (size_fault bytes place seen) _ code.1 in
    let fields = none_first (fields_fault (rules_of seen (segment_kind bytes place) (segment_body bytes place))) [] size.1 in
    let code_is = code_fine bytes place seen code.0 in
    let size_is = size_fine bytes place seen size.0 in
    record {
      least = size_least seen (segment_kind bytes place) (segment_size bytes place) size_is.size;
      whole = size_is.whole;
      kind = code_is.kind;
      size = size_is.size;
      fields = fields.0;
    }

-- a segment of at least two bytes has room for its code and its length
room : (place size length : ℕ) → 2 ≤ size → place + 2 + size ≤ length → (place + 2 ≤ length) × (place + 4 ≤ length)
room place size length least whole = (omega (arith, least, whole), omega (arith, least, whole))

pub fine_segment : (bytes : List ℕ) (place : ℕ) (seen : Seen) → IsFine bytes place seen → segment_fault bytes place seen ≡ None
unfolding segment_fault
fine_segment bytes place seen f =
    let rooms = room place (segment_size bytes place) (length bytes) f.least f.whole in
    passed (code_fault bytes place seen) _ (sym (fine_code bytes place seen (record { there = rooms.0; kind = f.kind })))
    ∙ passed (size_fault bytes place seen) _ (sym (fine_size bytes place seen (record { there = rooms.1; size = f.size; whole = f.whole })))
    ∙ ap (λ o. first_some (o ∷ [])) f.fields
