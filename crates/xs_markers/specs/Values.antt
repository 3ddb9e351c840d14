-- The values that the fields of a header may have, a row for each field in the order in which they are asked: 'Picture header'.
use Rattle.std.specs.Prelude.{ℕ, ◌+◌, ◌*◌, ◌^◌, min, max, Bool, not, ◌&&◌, ◌||◌, nat_eq, nat_lt, nat_le, if◌then◌else◌, Option, List, [], ◌∷◌, ◌++◌, map, slice_index_or}
use Rattle.std.specs.List.{flat_map}
use Rattle.xs_lists.specs.Fields.{field}
use Rattle.xs_lists.specs.First.{first_of}
use Rattle.xs_lists.specs.Spelling.{upto}
use Rattle.xs_layout.specs.Geometry.{narrowest_width, slice_count_of}
use Rattle.xs_layout.specs.Limits.{least_width, most_width, least_height, most_height, most_area, is_depth, is_precision, fq_of, most_across, most_down, most_slices, most_run_mode}
use Rattle.xs_layout.specs.declared.Format.{Format}
use Rattle.xs_layout.specs.declared.Format.TheVariants.{Mono, C422, C444}
use Rattle.xs_faults.specs.declared.HeadField.{HeadField}
use Rattle.xs_faults.specs.declared.HeadField.TheVariants as named
use Rattle.xs_faults.specs.declared.HeadFault.{HeadFault}
use Rattle.xs_faults.specs.declared.HeadFault.TheVariants.{Unsupported}
use Rattle.xs_markers.specs.declared.picture.PictureFields.{PictureFields}
use Rattle.xs_markers.specs.declared.rules.FieldRule.{FieldRule}

-- a field whose value has to pass a test; must be one of low to high; must be one value
abbrev pub tested : HeadField → Bool → ℕ → FieldRule
tested field passed value = record { refused = not passed; field = field; value = value }

abbrev pub within : HeadField → ℕ → ℕ → ℕ → FieldRule
within field low high value = tested field (nat_le low value && nat_le value high) value

abbrev pub exactly : HeadField → ℕ → ℕ → FieldRule
exactly field wanted value = tested field (nat_eq value wanted) value

-- the first of the fields whose value is refused
unfoldable pub fields_fault : List FieldRule → Option HeadFault
fields_fault rules = first_of (map (λ (rule : FieldRule). (rule.refused, Unsupported rule.field rule.value)) rules)

-- The picture header

-- its fields, and what they give together
abbrev pub picture_rules : PictureFields → List FieldRule
picture_rules p =
    within named.Wf least_width most_width p.wf
    ∷ within named.Hf least_height most_height p.hf
    ∷ within named.Area 0 most_area (p.wf * p.hf)
    ∷ exactly named.Cw 0 p.cw
    ∷ tested named.Hsl (nat_lt 0 p.hsl) p.hsl
    ∷ tested named.Nc (nat_eq p.nc 1 || nat_eq p.nc 3) p.nc
    ∷ exactly named.Ng 4 p.ng
    ∷ exactly named.Ss 8 p.ss
    ∷ tested named.Bw (is_precision p.bw) p.bw
    ∷ exactly named.Fq (fq_of p.bw) p.fq
    ∷ exactly named.Br 4 p.br
    ∷ exactly named.Fslc 0 p.fslc
    ∷ exactly named.Ppoc 0 p.ppoc
    ∷ tested named.Cpih (nat_eq p.cpih 0 || (nat_eq p.cpih 1 && nat_eq p.nc 3)) p.cpih
    ∷ within named.Nlx 1 most_across p.nlx
    ∷ within named.Nly 0 (min most_down p.nlx) p.nly
    ∷ within named.Slices 0 most_slices (slice_count_of p.hf p.nly (max 1 p.hsl))
    ∷ within named.Qpih 0 1 p.qpih
    ∷ within named.Fs 0 1 p.fs
    ∷ within named.Rm 0 most_run_mode p.rm
    ∷ []

-- The table of components

abbrev pub byte_at : List ℕ → ℕ → ℕ
byte_at bytes at = slice_index_or bytes at 0

-- of a component in the body of the table: the bits of a sample, and the sampling across and down
abbrev pub depth_at : List ℕ → ℕ → ℕ
depth_at body component = byte_at body (2 * component)

abbrev pub across_at : List ℕ → ℕ → ℕ
across_at body component = field 4 4 (byte_at body (2 * component + 1))

abbrev pub down_at : List ℕ → ℕ → ℕ
down_at body component = field 4 0 (byte_at body (2 * component + 1))

-- the sampling across that a component may have: 1; of the second also 2, where there is no colour transform; of the third that of the second
abbrev pub is_across : PictureFields → List ℕ → ℕ → Bool
is_across p body component =
    if nat_eq component 0 then nat_eq (across_at body component) 1
    else if nat_eq component 1 then nat_eq (across_at body component) 1 || (nat_eq (across_at body component) 2 && nat_eq p.cpih 0)
    else nat_eq (across_at body component) (across_at body 1)

-- how the components are sampled
abbrev pub format_of : PictureFields → List ℕ → Format
format_of p body = if nat_eq p.nc 3 then (if nat_eq (across_at body 1) 2 then C422 else C444) else Mono

-- the fields of a component
abbrev pub component_rules : PictureFields → List ℕ → ℕ → List FieldRule
component_rules p body component =
    tested named.Bc (is_depth (depth_at body component) && nat_eq (depth_at body component) (depth_at body 0)) (depth_at body component)
    ∷ tested named.Sx (is_across p body component) (across_at body component)
    ∷ exactly named.Sy 1 (down_at body component)
    ∷ []

-- the columns of the narrowest component
abbrev pub narrow_rule : PictureFields → List ℕ → FieldRule
narrow_rule p body = tested named.Narrow (nat_le (2 ^ p.nlx) (narrowest_width (format_of p body) p.wf)) (narrowest_width (format_of p body) p.wf)

-- the fields of all components, and what they give together
abbrev pub table_rules : PictureFields → List ℕ → List FieldRule
table_rules p body = flat_map (component_rules p body) (upto p.nc) ++ narrow_rule p body ∷ []
