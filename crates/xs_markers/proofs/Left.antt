-- What is left of the tables of a header, while its segments are read.
use Rattle.std.specs.Prelude.{◌⊎◌}
use Rattle.std.proofs.Common.{◌≡◌, ℕ, ◌+◌, ◌*◌, true, nat_eq, List, [], ◌∷◌, length, Option, Some, None, refl, sym, ap, subst, arith, inl, inr}
use Rattle.std.proofs.lemmas.Bool.{eq-eqb, le-leb}
use Rattle.xs_layout.specs.declared.Shape.{Shape}
use Rattle.xs_params.specs.declared.header.Header.{Header}
use Rattle.xs_params.specs.Accepted.{IsAccepted}
use Rattle.xs_grammar.specs.Header.{Segment, is_stepped_over, pih_code, cdt_code, wgt_code, picture_fields, component_fields, weight_fields, IsSegment}
use Rattle.xs_markers.specs.declared.kinds.Kind.{Kind}
use Rattle.xs_markers.specs.declared.kinds.Kind.TheVariants as kind
use Rattle.xs_markers.specs.declared.picture.PictureFields.{PictureFields}
use Rattle.xs_markers.specs.declared.seen.Seen.{Seen}
use Rattle.xs_markers.specs.Segments.{kind_of, kind_fault, is_size, rules_of, with_segment, picture_fields_of, bands_of_fields, shape_of}
use Rattle.xs_markers.specs.Values.{fields_fault}
use Rattle.xs_markers.proofs.Accepted.{fields_taken}
use Rattle.xs_markers.proofs.TakenTable.{table_taken}
use Rattle.xs_markers.proofs.Cut.{IsBytes}
use Rattle.xs_markers.proofs.KindsTold.{kind_pih, kind_cdt, kind_wgt, kind_stepped}
use Rattle.xs_markers.proofs.Refusals.{no_rules}
use Rattle.xs_markers.proofs.SaidOf.{IsOf, picture_size, picture_said, table_said, weights_said}

-- the tables of a header
pub record AreGiven (h : Header) (x y z : Segment) : Type 0 where
  pub accepted : IsAccepted h
  pub profile : ℕ
  pub level : ℕ
  pub raw_line : ℕ
  pub picture : IsSegment pih_code (picture_fields h profile level raw_line) x
  pub component : IsSegment cdt_code (component_fields h) y
  pub weight : IsSegment wgt_code (weight_fields h) z

-- those that are left
abbrev pub AreLeft : Header → Segment → Segment → Segment → Option PictureFields → Option Shape → Option ℕ → List Segment → Type 0
AreLeft h x y z None None None tables = (tables ≡ x ∷ y ∷ z ∷ []) ⊎ (tables ≡ x ∷ z ∷ y ∷ [])
AreLeft h x y z None None (Some at) tables = ⊥
AreLeft h x y z None (Some shape) weights tables = ⊥
AreLeft h x y z (Some p) None None tables = IsOf h p × ((tables ≡ y ∷ z ∷ []) ⊎ (tables ≡ z ∷ y ∷ []))
AreLeft h x y z (Some p) None (Some at) tables = IsOf h p × (tables ≡ y ∷ [])
AreLeft h x y z (Some p) (Some shape) None tables = IsOf h p × (tables ≡ z ∷ [])
AreLeft h x y z (Some p) (Some shape) (Some at) tables = tables ≡ []

abbrev pub AreLeftOf : Header → Segment → Segment → Segment → Seen → List Segment → Type 0
AreLeftOf h x y z seen tables = AreLeft h x y z seen.picture seen.shape seen.weights tables

-- a segment may come next, and so many tables are left after it
pub record MayCome (h : Header) (x y z : Segment) (seen : Seen) (s : Segment) (place : ℕ) (tables : List Segment) : Type 0 where
  pub kind : Kind
  pub told : kind_of s.code ≡ kind
  pub fault : kind_fault seen kind s.code place ≡ None
  pub size : is_size seen kind (length s.body + 2) ≡ true
  pub fields : fields_fault (rules_of seen kind s.body) ≡ None
  pub left : AreLeftOf h x y z (with_segment seen kind s.body (place + 4)) tables

-- A segment that is stepped over

pub stepped_comes : (h : Header) (x y z : Segment) (seen : Seen) (s : Segment) (place : ℕ) (tables : List Segment) → is_stepped_over s ≡ true → AreLeftOf h x y z seen tables → MayCome h x y z seen s place tables
stepped_comes h x y z seen s place tables stepped left = record {
  kind = kind.SteppedOver;
  told = kind_stepped s stepped;
  fault = refl;
  size = le-leb 2 (length s.body + 2) (omega arith);
  fields = sym no_rules;
  left = left;
}

-- Tables

abbrev seen_of : Option PictureFields → Option Shape → Option ℕ → Seen
seen_of picture shape weights = record { picture = picture; shape = shape; weights = weights }

sized : (size wanted : ℕ) → size ≡ wanted → nat_eq (size + 2) (2 + wanted) ≡ true
sized size wanted e = eq-eqb (size + 2) (2 + wanted) (omega (arith, e))

picture_comes : (h : Header) (x y z : Segment) (s : Segment) (place : ℕ) (tables : List Segment) → AreGiven h x y z → s ≡ x → IsBytes s.body → (tables ≡ y ∷ z ∷ []) ⊎ (tables ≡ z ∷ y ∷ [])
    → MayCome h x y z (seen_of None None None) s place tables
picture_comes h x y z s place tables g same small order =
    let is = subst (IsSegment pih_code (picture_fields h g.profile g.level g.raw_line)) (sym same) g.picture in
    let size = picture_size (picture_fields h g.profile g.level g.raw_line) s.body is.spelled h g.profile g.level g.raw_line refl in
    let said = picture_said h g.profile g.level g.raw_line s.body small size g.accepted is.room is.spelled in
    record {
      kind = kind.Picture;
      told = kind_pih s.code is.coded;
      fault = refl;
      size = sized (length s.body) 24 size;
      fields = fields_taken (picture_fields_of s.body) said.taken;
      left = (said.of, order);
    }

table_comes : (h : Header) (x y z : Segment) (p : PictureFields) (weights : Option ℕ) (s : Segment) (place : ℕ) (tables : List Segment) → AreGiven h x y z → IsOf h p → s ≡ y → IsBytes s.body
    → AreLeft h x y z (Some p) (Some (shape_of p s.body)) weights tables → MayCome h x y z (seen_of (Some p) None weights) s place tables
table_comes h x y z p weights s place tables g of same small left =
    let is = subst (IsSegment cdt_code (component_fields h)) (sym same) g.component in
    let said = table_said h p s.body small g.accepted of is.room is.spelled in
    record {
      kind = kind.Components;
      told = kind_cdt s.code is.coded;
      fault = refl;
      size = sized (length s.body) (2 * p.nc) said.size;
      fields = table_taken p s.body said.taken;
      left = left;
    }

weights_come : (h : Header) (x y z : Segment) (p : PictureFields) (shape : Option Shape) (s : Segment) (place : ℕ) (tables : List Segment) → AreGiven h x y z → IsOf h p → s ≡ z
    → AreLeft h x y z (Some p) shape (Some (place + 4)) tables → MayCome h x y z (seen_of (Some p) shape None) s place tables
weights_come h x y z p shape s place tables g of same left =
    let is = subst (IsSegment wgt_code (weight_fields h)) (sym same) g.weight in
    record {
      kind = kind.Weights;
      told = kind_wgt s.code is.coded;
      fault = refl;
      size = sized (length s.body) (2 * bands_of_fields p) (weights_said h p s.body g.accepted of is.spelled);
      fields = sym no_rules;
      left = left;
    }

none_empty : (s : Segment) (tables : List Segment) → s ∷ tables ≡ [] → ⊥
none_empty s tables e = absurd (omega (arith, ap length e))

comes : (h : Header) (x y z : Segment) (picture : Option PictureFields) (shape : Option Shape) (weights : Option ℕ) (s : Segment) (place : ℕ) (tables : List Segment) → AreGiven h x y z → IsBytes s.body
    → AreLeft h x y z picture shape weights (s ∷ tables) → MayCome h x y z (seen_of picture shape weights) s place tables
comes h x y z None None None s place tables g small (inl e) = picture_comes h x y z s place tables g (cc e) small (inl (cc e))
comes h x y z None None None s place tables g small (inr e) = picture_comes h x y z s place tables g (cc e) small (inr (cc e))
comes h x y z None None (Some at) s place tables g small left = absurd left
comes h x y z None (Some shape) weights s place tables g small left = absurd left
comes h x y z (Some p) None None s place tables g small (of, inl e) = table_comes h x y z p None s place tables g of (cc e) small (of, cc e)
comes h x y z (Some p) None None s place tables g small (of, inr e) = weights_come h x y z p None s place tables g of (cc e) (of, cc e)
comes h x y z (Some p) None (Some at) s place tables g small left = table_comes h x y z p (Some at) s place tables g left.0 (cc left.1) small (cc left.1)
comes h x y z (Some p) (Some shape) None s place tables g small left = weights_come h x y z p (Some shape) s place tables g left.0 (cc left.1) (cc left.1)
comes h x y z (Some p) (Some shape) (Some at) s place tables g small left = absurd (none_empty s tables left)

pub table_comes_of : (h : Header) (x y z : Segment) (seen : Seen) (s : Segment) (place : ℕ) (tables : List Segment) → AreGiven h x y z → IsBytes s.body → AreLeftOf h x y z seen (s ∷ tables)
    → MayCome h x y z seen s place tables
table_comes_of h x y z seen s place tables g small left = comes h x y z seen.picture seen.shape seen.weights s place tables g small left

-- Where none is left, all were seen

pub record NoneLeft (seen : Seen) : Type 0 where
  pub p : PictureFields
  pub shape : Shape
  pub at : ℕ
  pub all : seen ≡ record { picture = Some p; shape = Some shape; weights = Some at }

none : (h : Header) (x y z : Segment) (picture : Option PictureFields) (shape : Option Shape) (weights : Option ℕ) → AreLeft h x y z picture shape weights [] → NoneLeft (seen_of picture shape weights)
none h x y z None None None (inl e) = absurd (none_empty x (y ∷ z ∷ []) (sym e))
none h x y z None None None (inr e) = absurd (none_empty x (z ∷ y ∷ []) (sym e))
none h x y z None None (Some at) left = absurd left
none h x y z None (Some shape) weights left = absurd left
none h x y z (Some p) None None (of, inl e) = absurd (none_empty y (z ∷ []) (sym e))
none h x y z (Some p) None None (of, inr e) = absurd (none_empty z (y ∷ []) (sym e))
none h x y z (Some p) None (Some at) left = absurd (none_empty y [] (sym left.1))
none h x y z (Some p) (Some shape) None left = absurd (none_empty z [] (sym left.1))
none h x y z (Some p) (Some shape) (Some at) left = record { p = p; shape = shape; at = at; all = refl }

pub none_left : (h : Header) (x y z : Segment) (seen : Seen) → AreLeftOf h x y z seen [] → NoneLeft seen
none_left h x y z seen left = none h x y z seen.picture seen.shape seen.weights left
