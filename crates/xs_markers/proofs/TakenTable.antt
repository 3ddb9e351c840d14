-- The values of a table of components that are accepted.
use Rattle.std.proofs.Common.{◌≡◌, ℕ, suc, ◌+◌, ◌-◌, ◌^◌, ◌<◌, ◌≤◌, ◌⊎◌, true, false, not, ◌&&◌, ◌||◌, nat_eq, nat_le, if◌then◌else◌, List, [], ◌∷◌, ◌++◌, Some, None, map, refl, sym, ap, subst, ◌∙◌, arith, inl, inr}
use Rattle.std.specs.List.{flat_map, range_with_len}
use Rattle.std.proofs.lemmas.Bool.{leb-true, le-leb, eqb-true, eq-eqb, not_from_true, or_cases, or_left, or_right, and_parts, and_from}
use Rattle.xs_lists.specs.Spelling.{upto}
use Rattle.xs_layout.specs.Geometry.{components_of, narrowest_width}
use Rattle.xs_layout.specs.Limits.{is_depth, IsDepth}
use Rattle.xs_layout.specs.declared.Format.{Format}
use Rattle.xs_layout.specs.declared.Format.TheVariants.{Mono, C422, C444}
use Rattle.xs_faults.specs.declared.HeadFault.{HeadFault}
use Rattle.xs_markers.specs.declared.picture.PictureFields.{PictureFields}
use Rattle.xs_markers.specs.declared.rules.FieldRule.{FieldRule}
use Rattle.xs_markers.specs.Values.{fields_fault, component_rules, narrow_rule, table_rules, depth_at, across_at, down_at, format_of}
use Rattle.xs_markers.proofs.Bodies.{fields_of}
use Rattle.xs_markers.proofs.FieldsRead.{components_from}
use Rattle.xs_markers.proofs.Refusals.{none_refused, refused_none, is_passed, is_equal, equal_is, fault_past, fault_in}

-- Tests

is_deep : (depth first : ℕ) → not (is_depth depth && nat_eq depth first) ≡ false → IsDepth depth × (depth ≡ first)
is_deep depth first e =
    let parts = and_parts (is_depth depth) (nat_eq depth first) (is_passed (is_depth depth && nat_eq depth first) e) in (
      elim (or_cases (nat_eq depth 8 || nat_eq depth 10) (nat_eq depth 12) parts.0) [
        | inl few ↦ elim (or_cases (nat_eq depth 8) (nat_eq depth 10) few) [ inl p ↦ inl (eqb-true depth 8 p) | inr p ↦ inr (inl (eqb-true depth 10 p)) ]
        | inr p ↦ inr (inr (eqb-true depth 12 p))
      ],
      eqb-true depth first parts.1,
    )

depth_is : (depth : ℕ) → IsDepth depth → is_depth depth ≡ true
depth_is depth (inl e) = ap is_depth e
depth_is depth (inr (inl e)) = ap is_depth e
depth_is depth (inr (inr e)) = ap is_depth e

deep_is : (depth first : ℕ) → IsDepth depth → depth ≡ first → not (is_depth depth && nat_eq depth first) ≡ false
deep_is depth first p e = not_from_true (is_depth depth && nat_eq depth first) (and_from (is_depth depth) (nat_eq depth first) (depth_is depth p) (eq-eqb depth first e))

-- the sampling of the second component
abbrev pub IsSampling : ℕ → ℕ → Type 0
IsSampling across cpih = (across ≡ 1) ⊎ ((across ≡ 2) × (cpih ≡ 0))

is_sampled : (across cpih : ℕ) → not (nat_eq across 1 || (nat_eq across 2 && nat_eq cpih 0)) ≡ false → IsSampling across cpih
is_sampled across cpih e = elim (or_cases (nat_eq across 1) (nat_eq across 2 && nat_eq cpih 0) (is_passed _ e)) [
  | inl one ↦ inl (eqb-true across 1 one)
  | inr both ↦ let parts = and_parts (nat_eq across 2) (nat_eq cpih 0) both in inr (eqb-true across 2 parts.0, eqb-true cpih 0 parts.1)
]

sampled_is : (across cpih : ℕ) → IsSampling across cpih → not (nat_eq across 1 || (nat_eq across 2 && nat_eq cpih 0)) ≡ false
sampled_is across cpih (inl one) = not_from_true _ (or_left (nat_eq across 1) (nat_eq across 2 && nat_eq cpih 0) (eq-eqb across 1 one))
sampled_is across cpih (inr both) =
    not_from_true _ (or_right (nat_eq across 1) (nat_eq across 2 && nat_eq cpih 0) (and_from (nat_eq across 2) (nat_eq cpih 0) (eq-eqb across 2 both.0) (eq-eqb cpih 0 both.1)))

-- the columns of the narrowest component

is_wide : (least columns : ℕ) → not (nat_le least columns) ≡ false → least ≤ columns
is_wide least columns e = leb-true least columns (is_passed (nat_le least columns) e)

wide_is : (least columns : ℕ) → least ≤ columns → not (nat_le least columns) ≡ false
wide_is least columns h = not_from_true (nat_le least columns) (le-leb least columns h)

-- Components

-- the fields of a component are taken, whose sampling across is such
pub record TakenComponent (body : List ℕ) (component : ℕ) (sampled : Type 0) : Type 0 where
  pub depth : IsDepth (depth_at body component)
  pub same : depth_at body component ≡ depth_at body 0
  pub across : sampled
  pub down : down_at body component ≡ 1

-- of a grey picture, and of one of three components
abbrev pub TakenOne : PictureFields → List ℕ → Type 0
TakenOne p body = (p.nc ≡ 1) × TakenComponent body 0 (across_at body 0 ≡ 1)

pub record TakenThree (p : PictureFields) (body : List ℕ) : Type 0 where
  pub three : p.nc ≡ 3
  pub first : TakenComponent body 0 (across_at body 0 ≡ 1)
  pub second : TakenComponent body 1 (IsSampling (across_at body 1) p.cpih)
  pub third : TakenComponent body 2 (across_at body 2 ≡ across_at body 1)

pub record TakenTable (p : PictureFields) (body : List ℕ) : Type 0 where
  pub components : TakenOne p body ⊎ TakenThree p body
  pub narrow : 2 ^ p.nlx ≤ narrowest_width (format_of p body) p.wf

-- the rules of so many components
abbrev rules_by : PictureFields → List ℕ → ℕ → List FieldRule
rules_by p body count = flat_map (component_rules p body) (upto count) ++ narrow_rule p body ∷ []

pub taken_table : (p : PictureFields) (body : List ℕ) → (p.nc ≡ 1) ⊎ (p.nc ≡ 3) → fields_fault (table_rules p body) ≡ None → TakenTable p body
taken_table p body (inl one) e =
    let all = none_refused (rules_by p body 1) (subst (λ n. fields_fault (rules_by p body n) ≡ None) one e) in
    let deep = is_deep (depth_at body 0) (depth_at body 0) all.0 in
    record {
      components = inl (one, record { depth = deep.0; same = refl; across = is_equal _ _ all.1.0; down = is_equal _ _ all.1.1.0 });
      narrow = is_wide _ _ all.1.1.1.0;
    }
taken_table p body (inr three) e =
    let all = none_refused (rules_by p body 3) (subst (λ n. fields_fault (rules_by p body n) ≡ None) three e) in
    let second = all.1.1.1 in
    let third = second.1.1.1 in
    let deep = is_deep (depth_at body 0) (depth_at body 0) all.0 in
    let deep_second = is_deep (depth_at body 1) (depth_at body 0) second.0 in
    let deep_third = is_deep (depth_at body 2) (depth_at body 0) third.0 in
    record {
      components = inr (record {
        three = three;
        first = record { depth = deep.0; same = refl; across = is_equal _ _ all.1.0; down = is_equal _ _ all.1.1.0 };
        second = record { depth = deep_second.0; same = deep_second.1; across = is_sampled (across_at body 1) p.cpih second.1.0; down = is_equal _ _ second.1.1.0 };
        third = record { depth = deep_third.0; same = deep_third.1; across = is_equal _ _ third.1.0; down = is_equal _ _ third.1.1.0 };
      });
      narrow = is_wide _ _ third.1.1.1.0;
    }

pub table_taken : (p : PictureFields) (body : List ℕ) → TakenTable p body → fields_fault (table_rules p body) ≡ None
table_taken p body t = go t.components
  where
    narrow : not (nat_le (2 ^ p.nlx) (narrowest_width (format_of p body) p.wf)) ≡ false
    narrow = wide_is _ _ t.narrow

    go : TakenOne p body ⊎ TakenThree p body → fields_fault (table_rules p body) ≡ None
    go (inl one) =
        subst (λ n. fields_fault (rules_by p body n) ≡ None) (sym one.0)
        (refused_none (rules_by p body 1) (
          deep_is (depth_at body 0) (depth_at body 0) one.1.depth refl,
          (equal_is (across_at body 0) 1 one.1.across, (equal_is (down_at body 0) 1 one.1.down, (narrow, tt))),
        ))
    go (inr all) =
        subst (λ n. fields_fault (rules_by p body n) ≡ None) (sym all.three)
        (refused_none (rules_by p body 3) (
          deep_is (depth_at body 0) (depth_at body 0) all.first.depth refl,
          (
            equal_is (across_at body 0) 1 all.first.across,
            (
              equal_is (down_at body 0) 1 all.first.down,
              (
                deep_is (depth_at body 1) (depth_at body 0) all.second.depth all.second.same,
                (
                  sampled_is (across_at body 1) p.cpih all.second.across,
                  (
                    equal_is (down_at body 1) 1 all.second.down,
                    (
                      deep_is (depth_at body 2) (depth_at body 0) all.third.depth all.third.same,
                      (
                        equal_is (across_at body 2) (across_at body 1) all.third.across,
                        (equal_is (down_at body 2) 1 all.third.down, (narrow, tt)),
                      ),
                    ),
                  ),
                ),
              ),
            ),
          ),
        ))

-- The format

-- by the number of components and the sampling of the second
abbrev format_by : ℕ → ℕ → Format
format_by count across = if nat_eq count 3 then (if nat_eq across 2 then C422 else C444) else Mono

pub format_one : (p : PictureFields) (body : List ℕ) → p.nc ≡ 1 → format_of p body ≡ Mono
format_one p body one = ap (λ n. format_by n (across_at body 1)) one

pub format_three : (p : PictureFields) (body : List ℕ) (across : ℕ) → p.nc ≡ 3 → across_at body 1 ≡ across → format_of p body ≡ format_by 3 across
format_three p body across three second = ap (λ n. format_by n (across_at body 1)) three ∙ ap (format_by 3) second

pub format_counts : (p : PictureFields) (body : List ℕ) → TakenTable p body → components_of (format_of p body) ≡ p.nc
format_counts p body t = go t.components
  where
    go : TakenOne p body ⊎ TakenThree p body → components_of (format_of p body) ≡ p.nc
    go (inl one) = ap components_of (format_one p body one.0) ∙ sym one.0
    go (inr all) = elim all.second.across [
      | inl one ↦ ap components_of (format_three p body 1 all.three one) ∙ sym all.three
      | inr two ↦ ap components_of (format_three p body 2 all.three two.0) ∙ sym all.three
    ]

-- the colour transform wants three components of one size
pub colour_format : (p : PictureFields) (body : List ℕ) → TakenTable p body → (p.cpih ≡ 0) ⊎ ((p.cpih ≡ 1) × (p.nc ≡ 3)) → nat_eq p.cpih 1 ≡ true → format_of p body ≡ C444
colour_format p body t colour is = go t.components
  where
    one : p.cpih ≡ 1
    one = eqb-true p.cpih 1 is

    go : TakenOne p body ⊎ TakenThree p body → format_of p body ≡ C444
    go (inl grey) = elim colour [ inl none ↦ absurd (omega (arith, one, none)) | inr both ↦ let three = both.1 in let single = grey.0 in absurd (omega (arith, three, single)) ]
    go (inr all) = elim all.second.across [
      | inl same ↦ format_three p body 1 all.three same
      | inr half ↦ let none = half.1 in absurd (omega (arith, one, none))
    ]

-- its fields are those that are read
pub fields_same : (p : PictureFields) (body : List ℕ) → TakenTable p body → fields_of (format_of p body) (depth_at body 0) ≡ components_from body 0 p.nc
fields_same p body t = go t.components
  where
    go : TakenOne p body ⊎ TakenThree p body → fields_of (format_of p body) (depth_at body 0) ≡ components_from body 0 p.nc
    go (inl one) = ap (λ f. fields_of f (depth_at body 0)) (format_one p body one.0) ∙ grey one.1.across one.1.down ∙ ap (components_from body 0) (sym one.0)
      where
        grey : across_at body 0 ≡ 1 → down_at body 0 ≡ 1 → fields_of Mono (depth_at body 0) ≡ components_from body 0 1
        grey a b = cc (a, b)
    go (inr all) = elim all.second.across [
      | inl same ↦
          ap (λ f. fields_of f (depth_at body 0)) (format_three p body 1 all.three same)
          ∙ full all.first.across all.first.down all.second.same same all.second.down all.third.same (all.third.across ∙ same) all.third.down
          ∙ ap (components_from body 0) (sym all.three)
      | inr half ↦
          ap (λ f. fields_of f (depth_at body 0)) (format_three p body 2 all.three half.0)
          ∙ halved all.first.across all.first.down all.second.same half.0 all.second.down all.third.same (all.third.across ∙ half.0) all.third.down
          ∙ ap (components_from body 0) (sym all.three)
    ]
      where
        full : across_at body 0 ≡ 1 → down_at body 0 ≡ 1 → depth_at body 1 ≡ depth_at body 0 → across_at body 1 ≡ 1 → down_at body 1 ≡ 1 → depth_at body 2 ≡ depth_at body 0 → across_at body 2 ≡ 1 → down_at body 2 ≡ 1
            → fields_of C444 (depth_at body 0) ≡ components_from body 0 3
        full a b c d e f g h = cc (a, b, c, d, e, f, g, h)

        halved : across_at body 0 ≡ 1 → down_at body 0 ≡ 1 → depth_at body 1 ≡ depth_at body 0 → across_at body 1 ≡ 2 → down_at body 1 ≡ 1 → depth_at body 2 ≡ depth_at body 0 → across_at body 2 ≡ 2 → down_at body 2 ≡ 1
            → fields_of C422 (depth_at body 0) ≡ components_from body 0 3
        halved a b c d e f g h = cc (a, b, c, d, e, f, g, h)

-- and such fields are taken
pub fields_seen : (p : PictureFields) (body : List ℕ) (format : Format) (depth : ℕ) → p.nc ≡ components_of format → IsDepth depth → (format ≡ C422 → p.cpih ≡ 0) → 2 ^ p.nlx ≤ narrowest_width format p.wf
    → map (λ (f : ℕ × ℕ). f.1) (fields_of format depth) ≡ map (λ (f : ℕ × ℕ). f.1) (components_from body 0 (components_of format)) → TakenTable p body × (format_of p body ≡ format) × (depth_at body 0 ≡ depth)
fields_seen p body Mono depth count deep plain narrow same =
    let first : depth ≡ depth_at body 0 = cc same in
    let across : across_at body 0 ≡ 1 = cc (sym same) in
    let down : down_at body 0 ≡ 1 = cc (sym same) in
    let format = format_one p body count in (
      record {
        components = inl (count, record { depth = subst IsDepth first deep; same = refl; across = across; down = down });
        narrow = subst (λ f. 2 ^ p.nlx ≤ narrowest_width f p.wf) (sym format) narrow;
      },
      format,
      sym first,
    )
fields_seen p body C422 depth count deep plain narrow same =
    let first : depth ≡ depth_at body 0 = cc same in
    let across : across_at body 0 ≡ 1 = cc (sym same) in
    let down : down_at body 0 ≡ 1 = cc (sym same) in
    let depth_second : depth ≡ depth_at body 1 = cc same in
    let across_second : across_at body 1 ≡ 2 = cc (sym same) in
    let down_second : down_at body 1 ≡ 1 = cc (sym same) in
    let depth_third : depth ≡ depth_at body 2 = cc same in
    let across_third : across_at body 2 ≡ 2 = cc (sym same) in
    let down_third : down_at body 2 ≡ 1 = cc (sym same) in
    let format = format_three p body 2 count across_second in (
      record {
        components = inr (record {
          three = count;
          first = record { depth = subst IsDepth first deep; same = refl; across = across; down = down };
          second = record { depth = subst IsDepth depth_second deep; same = sym depth_second ∙ first; across = inr (across_second, plain refl); down = down_second };
          third = record { depth = subst IsDepth depth_third deep; same = sym depth_third ∙ first; across = across_third ∙ sym across_second; down = down_third };
        });
        narrow = subst (λ f. 2 ^ p.nlx ≤ narrowest_width f p.wf) (sym format) narrow;
      },
      format,
      sym first,
    )
fields_seen p body C444 depth count deep plain narrow same =
    let first : depth ≡ depth_at body 0 = cc same in
    let across : across_at body 0 ≡ 1 = cc (sym same) in
    let down : down_at body 0 ≡ 1 = cc (sym same) in
    let depth_second : depth ≡ depth_at body 1 = cc same in
    let across_second : across_at body 1 ≡ 1 = cc (sym same) in
    let down_second : down_at body 1 ≡ 1 = cc (sym same) in
    let depth_third : depth ≡ depth_at body 2 = cc same in
    let across_third : across_at body 2 ≡ 1 = cc (sym same) in
    let down_third : down_at body 2 ≡ 1 = cc (sym same) in
    let format = format_three p body 1 count across_second in (
      record {
        components = inr (record {
          three = count;
          first = record { depth = subst IsDepth first deep; same = refl; across = across; down = down };
          second = record { depth = subst IsDepth depth_second deep; same = sym depth_second ∙ first; across = inl across_second; down = down_second };
          third = record { depth = subst IsDepth depth_third deep; same = sym depth_third ∙ first; across = across_third ∙ sym across_second; down = down_third };
        });
        narrow = subst (λ f. 2 ^ p.nlx ≤ narrowest_width f p.wf) (sym format) narrow;
      },
      format,
      sym first,
    )

-- One component after the other

-- the rules from one component on, of so many
abbrev pub rules_from : PictureFields → List ℕ → ℕ → ℕ → List FieldRule
rules_from p body first count = flat_map (component_rules p body) (range_with_len first (count - first)) ++ narrow_rule p body ∷ []

next_rules : (p : PictureFields) (body : List ℕ) (first count : ℕ) → first < count → rules_from p body first count ≡ component_rules p body first ++ rules_from p body (first + 1) count
next_rules p body first count some =
    let one : count - first ≡ suc (count - (first + 1)) = omega (arith, some) in
    ap (λ n. flat_map (component_rules p body) (range_with_len first n) ++ narrow_rule p body ∷ []) one

pub component_past : (p : PictureFields) (body : List ℕ) (first count : ℕ) → first < count → fields_fault (component_rules p body first) ≡ None
    → fields_fault (rules_from p body first count) ≡ fields_fault (rules_from p body (first + 1) count)
component_past p body first count some e =
    ap fields_fault (next_rules p body first count some) ∙ fault_past (component_rules p body first) (rules_from p body (first + 1) count) e

pub component_in : (p : PictureFields) (body : List ℕ) (first count : ℕ) (fault : HeadFault) → first < count → fields_fault (component_rules p body first) ≡ Some fault
    → fields_fault (rules_from p body first count) ≡ Some fault
component_in p body first count fault some e =
    ap fields_fault (next_rules p body first count some) ∙ fault_in (component_rules p body first) (rules_from p body (first + 1) count) fault e

-- past the last of them
pub narrow_left : (p : PictureFields) (body : List ℕ) (first count : ℕ) → count ≤ first → rules_from p body first count ≡ narrow_rule p body ∷ []
narrow_left p body first count past =
    let none : count - first ≡ 0 = omega (arith, past) in
    ap (λ n. flat_map (component_rules p body) (range_with_len first n) ++ narrow_rule p body ∷ []) none
