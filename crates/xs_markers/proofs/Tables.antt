-- The tables among the segments of a header, and what was seen of them.
use Rattle.std.specs.Prelude.{◌⊎◌}
use Rattle.std.proofs.Common.{◌≡◌, ℕ, ◌+◌, ◌-◌, ◌*◌, ◌≤◌, Bool, true, false, not, nat_eq, if◌then◌else◌, List, [], ◌∷◌, ◌++◌, length, take, drop, Option, Some, None, refl, sym, ap, subst, ◌∙◌, arith, append-nil, inl, inr}
use Rattle.std.specs.Prelude.{is_some, is_none}
use Rattle.std.specs.Option.{option_map}
use Rattle.std.specs.List.{filter}
use Rattle.std.proofs.lemmas.Bool.{eqb-true, false≢true}
use Rattle.xs_lists.specs.First.{first_of, when}
use Rattle.xs_layout.specs.declared.Shape.{Shape}
use Rattle.xs_faults.specs.declared.HeadFault.{HeadFault}
use Rattle.xs_faults.specs.declared.HeadFault.TheVariants.{Twice, Absent}
use Rattle.xs_grammar.specs.Header.{Segment, is_stepped_over, pih_code, cdt_code, wgt_code}
use Rattle.xs_markers.specs.declared.kinds.Kind.{Kind}
use Rattle.xs_markers.specs.declared.kinds.Kind.TheVariants as kind
use Rattle.xs_markers.specs.declared.picture.PictureFields.{PictureFields}
use Rattle.xs_markers.specs.declared.rules.FieldRule.{FieldRule}
use Rattle.xs_markers.specs.declared.seen.Seen.{Seen}
use Rattle.xs_markers.specs.Segments.{segment_code, segment_kind, segment_size, segment_body, picture_fields_of, bands_of_fields, shape_of, with_segment, kind_fault, is_size, rules_of}
use Rattle.xs_markers.specs.Values.{fields_fault, picture_rules, table_rules}
use Rattle.xs_markers.proofs.Cut.{IsBytes, piece_size, piece_bytes}
use Rattle.xs_markers.proofs.Fine.{IsFine}
use Rattle.xs_markers.proofs.KindsTold.{IsOfKind, kind_told, table_kept}
use Rattle.xs_markers.proofs.Refusals.{some_none, no_row}

-- those that are not stepped over
abbrev pub kept : List Segment → List Segment
kept segments = filter (λ s. not (is_stepped_over s)) segments

-- a picture header without a fault
pub record IsPicture (p : PictureFields) (s : Segment) : Type 0 where
  pub coded : s.code ≡ pih_code
  pub small : IsBytes s.body
  pub size : length s.body ≡ 24
  pub said : picture_fields_of s.body ≡ p
  pub taken : fields_fault (picture_rules p) ≡ None

-- a table of components
pub record IsTable (p : PictureFields) (shape : Shape) (s : Segment) : Type 0 where
  pub coded : s.code ≡ cdt_code
  pub small : IsBytes s.body
  pub size : length s.body ≡ 2 * p.nc
  pub said : shape_of p s.body ≡ shape
  pub taken : fields_fault (table_rules p s.body) ≡ None

-- a table of weights, whose body stands at a place
pub record IsWeights (bytes : List ℕ) (p : PictureFields) (at : ℕ) (s : Segment) : Type 0 where
  pub coded : s.code ≡ wgt_code
  pub small : IsBytes s.body
  pub size : length s.body ≡ 2 * bands_of_fields p
  pub within : at + 2 * bands_of_fields p ≤ length bytes
  pub said : take (2 * bands_of_fields p) (drop at bytes) ≡ s.body

-- all three of them, in either order
pub record AreAll (bytes : List ℕ) (p : PictureFields) (shape : Shape) (at : ℕ) (tables : List Segment) : Type 0 where
  pub x : Segment
  pub y : Segment
  pub z : Segment
  pub order : (tables ≡ x ∷ y ∷ z ∷ []) ⊎ (tables ≡ x ∷ z ∷ y ∷ [])
  pub picture : IsPicture p x
  pub table : IsTable p shape y
  pub weights : IsWeights bytes p at z

-- the tables that were seen
abbrev pub AreTables : List ℕ → Option PictureFields → Option Shape → Option ℕ → List Segment → Type 0
AreTables bytes None None None tables = tables ≡ []
AreTables bytes None None (Some at) tables = ⊥
AreTables bytes None (Some shape) weights tables = ⊥
AreTables bytes (Some p) None None tables = (x : Segment) × (tables ≡ x ∷ []) × IsPicture p x
AreTables bytes (Some p) None (Some at) tables = (x : Segment) × (z : Segment) × (tables ≡ x ∷ z ∷ []) × IsPicture p x × IsWeights bytes p at z
AreTables bytes (Some p) (Some shape) None tables = (x : Segment) × (y : Segment) × (tables ≡ x ∷ y ∷ []) × IsPicture p x × IsTable p shape y
AreTables bytes (Some p) (Some shape) (Some at) tables = AreAll bytes p shape at tables

abbrev pub AreTablesSeen : List ℕ → Seen → List Segment → Type 0
AreTablesSeen bytes seen tables = AreTables bytes seen.picture seen.shape seen.weights tables

-- One table more

with_picture : (bytes : List ℕ) (picture : Option PictureFields) (shape : Option Shape) (weights : Option ℕ) (tables : List Segment) (p : PictureFields) (s : Segment) (fault : HeadFault)
    → when (is_some picture) fault ≡ None → IsPicture p s → AreTables bytes picture shape weights tables → AreTables bytes (Some p) shape weights (tables ++ s ∷ [])
with_picture bytes None None None tables p s fault e is before = (s, ap (λ l. l ++ s ∷ []) before, is)
with_picture bytes None None (Some at) tables p s fault e is before = absurd before
with_picture bytes None (Some shape) weights tables p s fault e is before = absurd before
with_picture bytes (Some q) shape weights tables p s fault e is before = absurd (some_none fault e)

-- both tests of a table
told_once : (again early : Bool) (twice absent : HeadFault) → first_of ((again, twice) ∷ (early, absent) ∷ []) ≡ None → (again ≡ false) × (early ≡ false)
told_once again early twice absent e =
    let first : (again ≡ false) × (first_of ((early, absent) ∷ []) ≡ None) = no_row _ _ _ e in
    let second : (early ≡ false) × (None ≡ None) = no_row _ _ _ first.1 in
    (first.0, second.0)

abbrev Sized : Option PictureFields → (PictureFields → ℕ) → ℕ → Type 0
Sized picture count size = (elim picture [ None ↦ false | Some p ↦ nat_eq size (2 + 2 * count p) ]) ≡ true

abbrev table_rules_of : Option PictureFields → List ℕ → List FieldRule
table_rules_of picture body = elim picture [ None ↦ [] | Some p ↦ table_rules p body ]

body_size : (size count body : ℕ) → 2 ≤ size → nat_eq size (2 + 2 * count) ≡ true → body ≡ size - 2 → body ≡ 2 * count
body_size size count body least e is = let same = eqb-true size (2 + 2 * count) e in omega (arith, same, is)

with_table : (bytes : List ℕ) (picture : Option PictureFields) (shape : Option Shape) (weights : Option ℕ) (tables : List Segment) (s : Segment) (size : ℕ)
    → (is_some shape ≡ false) × (is_none picture ≡ false) → Sized picture (λ p. p.nc) size → fields_fault (table_rules_of picture s.body) ≡ None
    → s.code ≡ cdt_code → IsBytes s.body → 2 ≤ size → length s.body ≡ size - 2
    → AreTables bytes picture shape weights tables → AreTables bytes picture (option_map (λ p. shape_of p s.body) picture) weights (tables ++ s ∷ [])
with_table bytes None shape weights tables s size e sized fields coded small least long before = absurd (false≢true (sym e.1))
with_table bytes (Some p) (Some shape) weights tables s size e sized fields coded small least long before = absurd (false≢true (sym e.0))
with_table bytes (Some p) None None tables s size e sized fields coded small least long before =
    (before.0, s, ap (λ l. l ++ s ∷ []) before.1, before.2, record { coded = coded; small = small; size = body_size size p.nc (length s.body) least sized long; said = refl; taken = fields })
with_table bytes (Some p) None (Some at) tables s size e sized fields coded small least long before = record {
  x = before.0;
  y = s;
  z = before.1;
  order = inr (ap (λ l. l ++ s ∷ []) before.2);
  picture = before.3;
  table = record { coded = coded; small = small; size = body_size size p.nc (length s.body) least sized long; said = refl; taken = fields };
  weights = before.4;
}

with_weights : (bytes : List ℕ) (picture : Option PictureFields) (shape : Option Shape) (weights : Option ℕ) (tables : List Segment) (s : Segment) (size at : ℕ)
    → (is_some weights ≡ false) × (is_none picture ≡ false) → Sized picture bands_of_fields size → s.code ≡ wgt_code → IsBytes s.body → 2 ≤ size → length s.body ≡ size - 2
    → at + (size - 2) ≤ length bytes → s.body ≡ take (size - 2) (drop at bytes)
    → AreTables bytes picture shape weights tables → AreTables bytes picture shape (Some at) (tables ++ s ∷ [])
with_weights bytes None shape weights tables s size at e sized coded small least long within said before = absurd (false≢true (sym e.1))
with_weights bytes (Some p) shape (Some other) tables s size at e sized coded small least long within said before = absurd (false≢true (sym e.0))
with_weights bytes (Some p) shape None tables s size at e sized coded small least long within said before = go shape before
  where
    count : length s.body ≡ 2 * bands_of_fields p
    count = body_size size (bands_of_fields p) (length s.body) least sized long

    same : size - 2 ≡ 2 * bands_of_fields p
    same = sym long ∙ count

    is : IsWeights bytes p at s
    is = record {
      coded = coded;
      small = small;
      size = count;
      within = subst (λ n. at + n ≤ length bytes) same within;
      said = ap (λ n. take n (drop at bytes)) (sym same) ∙ sym said;
    }

    go : (shape : Option Shape) → AreTables bytes (Some p) shape None tables → AreTables bytes (Some p) shape (Some at) (tables ++ s ∷ [])
    go None before = (before.0, s, ap (λ l. l ++ s ∷ []) before.1, before.2, is)
    go (Some shape) before = record {
      x = before.0;
      y = before.1;
      z = s;
      order = inl (ap (λ l. l ++ s ∷ []) before.2);
      picture = before.3;
      table = before.4;
      weights = is;
    }

-- The segment at a place

abbrev pub segment_at : List ℕ → ℕ → Segment
segment_at bytes place = record { code = segment_code bytes place; body = segment_body bytes place }

pub kept_one : (s : Segment) → is_stepped_over s ≡ false → kept (s ∷ []) ≡ s ∷ []
kept_one s e = ap (λ t. if not t then s ∷ [] else []) e

pub kept_none : (s : Segment) → is_stepped_over s ≡ true → kept (s ∷ []) ≡ []
kept_none s e = ap (λ t. if not t then s ∷ [] else []) e

pub with_one : (bytes : List ℕ) (place : ℕ) (seen : Seen) (tables : List Segment) → IsBytes bytes → IsFine bytes place seen → AreTablesSeen bytes seen tables
    → AreTablesSeen bytes (with_segment seen (segment_kind bytes place) (segment_body bytes place) (place + 4)) (tables ++ kept (segment_at bytes place ∷ []))
with_one bytes place seen tables bytes_small fine before = go (segment_kind bytes place) (kind_told (segment_code bytes place)) fine.kind fine.size fine.fields
  where
    s : Segment
    s = segment_at bytes place

    size : ℕ
    size = segment_size bytes place

    room : (size : ℕ) → 2 ≤ size → place + 2 + size ≤ length bytes → place + 4 + (size - 2) ≤ length bytes
    room size least whole = omega (arith, least, whole)

    inside : place + 4 + (size - 2) ≤ length bytes
    inside = room size fine.least fine.whole

    long : length s.body ≡ size - 2
    long = piece_size (size - 2) (place + 4) bytes inside

    small : IsBytes s.body
    small = piece_bytes (size - 2) (place + 4) bytes bytes_small inside

    one : (shape_seen : Seen) → is_stepped_over s ≡ false → AreTablesSeen bytes shape_seen (tables ++ s ∷ []) → AreTablesSeen bytes shape_seen (tables ++ kept (s ∷ []))
    one after e are = subst (λ l. AreTablesSeen bytes after (tables ++ l)) (sym (kept_one s e)) are

    picture_long : (size : ℕ) → nat_eq size 26 ≡ true → length s.body ≡ size - 2 → length s.body ≡ 24
    picture_long size e long = let same = eqb-true size 26 e in omega (arith, same, long)

    go : (k : Kind) → IsOfKind (segment_code bytes place) k → kind_fault seen k (segment_code bytes place) place ≡ None → is_size seen k size ≡ true → fields_fault (rules_of seen k s.body) ≡ None
        → AreTablesSeen bytes (with_segment seen k s.body (place + 4)) (tables ++ kept (s ∷ []))
    go kind.Picture coded fault sized fields =
        one (with_segment seen kind.Picture s.body (place + 4)) (table_kept s (inl coded))
        (with_picture bytes seen.picture seen.shape seen.weights tables (picture_fields_of s.body) s (Twice (segment_code bytes place)) fault
        (record { coded = coded; small = small; size = picture_long size sized long; said = refl; taken = fields }) before)
    go kind.Components coded fault sized fields =
        one (with_segment seen kind.Components s.body (place + 4)) (table_kept s (inr (inl coded)))
        (with_table bytes seen.picture seen.shape seen.weights tables s size
        (told_once (is_some seen.shape) (is_none seen.picture) (Twice (segment_code bytes place)) (Absent pih_code) fault) sized fields coded small fine.least long before)
    go kind.Weights coded fault sized fields =
        one (with_segment seen kind.Weights s.body (place + 4)) (table_kept s (inr (inr coded)))
        (with_weights bytes seen.picture seen.shape seen.weights tables s size (place + 4)
        (told_once (is_some seen.weights) (is_none seen.picture) (Twice (segment_code bytes place)) (Absent pih_code) fault) sized coded small fine.least long inside refl before)
    go kind.SteppedOver coded fault sized fields =
        subst (λ l. AreTablesSeen bytes seen (tables ++ l)) (sym (kept_none s coded)) (subst (AreTablesSeen bytes seen) (sym (append-nil tables)) before)
    go kind.Unsupported coded fault sized fields = absurd (false≢true sized)
    go kind.Unknown coded fault sized fields = absurd (false≢true sized)
