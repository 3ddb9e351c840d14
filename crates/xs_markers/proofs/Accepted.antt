-- The values of a picture header that are accepted.
use Rattle.std.proofs.Common.{◌≡◌, ℕ, ◌*◌, ◌≤◌, ◌⊎◌, min, max, false, not, ◌&&◌, ◌||◌, nat_eq, nat_lt, None, ap, ◌∙◌, arith, inl, inr}
use Rattle.std.proofs.lemmas.Bool.{ltb-true, lt-ltb, eqb-true, not_from_true, or_cases, and_parts}
use Rattle.xs_layout.specs.Geometry.{slice_count_of}
use Rattle.xs_layout.specs.Limits.{least_width, most_width, least_height, most_height, most_area, IsPrecision, fq_of, most_across, most_down, most_slices, most_run_mode}
use Rattle.xs_markers.specs.declared.picture.PictureFields.{PictureFields}
use Rattle.xs_markers.specs.Seen.{IsLimited}
use Rattle.xs_markers.specs.Values.{fields_fault, picture_rules}
use Rattle.xs_markers.proofs.Refusals.{none_refused, refused_none, is_passed, is_equal, equal_is, is_within, within_is, is_either, either_is}

-- the colour transform, which wants three components
abbrev pub IsColour : ℕ → ℕ → Type 0
IsColour cpih nc = (cpih ≡ 0) ⊎ ((cpih ≡ 1) × (nc ≡ 3))

is_colour : (cpih nc : ℕ) → not (nat_eq cpih 0 || (nat_eq cpih 1 && nat_eq nc 3)) ≡ false → IsColour cpih nc
is_colour cpih nc e = elim (or_cases (nat_eq cpih 0) (nat_eq cpih 1 && nat_eq nc 3) (is_passed _ e)) [
  | inl none ↦ inl (eqb-true cpih 0 none)
  | inr both ↦ let parts = and_parts (nat_eq cpih 1) (nat_eq nc 3) both in inr (eqb-true cpih 1 parts.0, eqb-true nc 3 parts.1)
]

colour_is : (cpih nc : ℕ) → IsColour cpih nc → not (nat_eq cpih 0 || (nat_eq cpih 1 && nat_eq nc 3)) ≡ false
colour_is cpih nc (inl none) = ap (λ n. not (nat_eq n 0 || (nat_eq n 1 && nat_eq nc 3))) none
colour_is cpih nc (inr both) =
    ap (λ n. not (nat_eq n 0 || (nat_eq n 1 && nat_eq nc 3))) both.0 ∙ ap (λ n. not (nat_eq n 3)) both.1

-- each field of the picture header has a value that is taken
pub record Taken (p : PictureFields) : Type 0 where
  pub wf : (least_width ≤ p.wf) × (p.wf ≤ most_width)
  pub hf : (least_height ≤ p.hf) × (p.hf ≤ most_height)
  pub area : p.wf * p.hf ≤ most_area
  pub cw : p.cw ≡ 0
  pub hsl : 1 ≤ p.hsl
  pub nc : (p.nc ≡ 1) ⊎ (p.nc ≡ 3)
  pub ng : p.ng ≡ 4
  pub ss : p.ss ≡ 8
  pub bw : IsPrecision p.bw
  pub fq : p.fq ≡ fq_of p.bw
  pub br : p.br ≡ 4
  pub fslc : p.fslc ≡ 0
  pub ppoc : p.ppoc ≡ 0
  pub cpih : IsColour p.cpih p.nc
  pub nlx : (1 ≤ p.nlx) × (p.nlx ≤ most_across)
  pub nly : p.nly ≤ min most_down p.nlx
  pub slices : slice_count_of p.hf p.nly (max 1 p.hsl) ≤ most_slices
  pub qpih : p.qpih ≤ 1
  pub fs : p.fs ≤ 1
  pub rm : p.rm ≤ most_run_mode

pub taken_fields : (p : PictureFields) → fields_fault (picture_rules p) ≡ None → Taken p
taken_fields p e =
    let all = none_refused (picture_rules p) e in
    let second = all.1.1.1.1.1 in
    let third = second.1.1.1.1.1 in
    let fourth = third.1.1.1.1.1 in
    record {
      wf = is_within _ _ _ all.0;
      hf = is_within _ _ _ all.1.0;
      area = (is_within _ _ _ all.1.1.0).1;
      cw = is_equal _ _ all.1.1.1.0;
      hsl = ltb-true 0 p.hsl (is_passed _ all.1.1.1.1.0);
      nc = is_either p.nc 1 3 second.0;
      ng = is_equal _ _ second.1.0;
      ss = is_equal _ _ second.1.1.0;
      bw = is_either p.bw 18 20 second.1.1.1.0;
      fq = is_equal _ _ second.1.1.1.1.0;
      br = is_equal _ _ third.0;
      fslc = is_equal _ _ third.1.0;
      ppoc = is_equal _ _ third.1.1.0;
      cpih = is_colour p.cpih p.nc third.1.1.1.0;
      nlx = is_within _ _ _ third.1.1.1.1.0;
      nly = (is_within _ _ _ fourth.0).1;
      slices = (is_within _ _ _ fourth.1.0).1;
      qpih = (is_within _ _ _ fourth.1.1.0).1;
      fs = (is_within _ _ _ fourth.1.1.1.0).1;
      rm = (is_within _ _ _ fourth.1.1.1.1.0).1;
    }

pub fields_taken : (p : PictureFields) → Taken p → fields_fault (picture_rules p) ≡ None
fields_taken p t =
    refused_none (picture_rules p) (
      within_is least_width most_width p.wf t.wf.0 t.wf.1,
      (
        within_is least_height most_height p.hf t.hf.0 t.hf.1,
        (
          within_is 0 most_area (p.wf * p.hf) (omega arith) t.area,
          (
            equal_is p.cw 0 t.cw,
            (
              not_from_true (nat_lt 0 p.hsl) (lt-ltb 0 p.hsl t.hsl),
              (
                either_is p.nc 1 3 t.nc,
                (
                  equal_is p.ng 4 t.ng,
                  (
                    equal_is p.ss 8 t.ss,
                    (
                      either_is p.bw 18 20 t.bw,
                      (
                        equal_is p.fq (fq_of p.bw) t.fq,
                        (
                          equal_is p.br 4 t.br,
                          (
                            equal_is p.fslc 0 t.fslc,
                            (
                              equal_is p.ppoc 0 t.ppoc,
                              (
                                colour_is p.cpih p.nc t.cpih,
                                (
                                  within_is 1 most_across p.nlx t.nlx.0 t.nlx.1,
                                  (
                                    within_is 0 (min most_down p.nlx) p.nly (omega arith) t.nly,
                                    (
                                      within_is 0 most_slices (slice_count_of p.hf p.nly (max 1 p.hsl)) (omega arith) t.slices,
                                      (
                                        within_is 0 1 p.qpih (omega arith) t.qpih,
                                        (
                                          within_is 0 1 p.fs (omega arith) t.fs,
                                          (
                                            within_is 0 most_run_mode p.rm (omega arith) t.rm,
                                            tt,
                                          ),
                                        ),
                                      ),
                                    ),
                                  ),
                                ),
                              ),
                            ),
                          ),
                        ),
                      ),
                    ),
                  ),
                ),
              ),
            ),
          ),
        ),
      ),
    )

-- there are few levels and components
pub limited_fields : (p : PictureFields) → fields_fault (picture_rules p) ≡ None → IsLimited p
limited_fields p e =
    let t = taken_fields p e in
    record {
      across = t.nlx.1;
      down = omega (arith, t.nly);
      components = elim t.nc [ inl one ↦ omega (arith, one) | inr three ↦ omega (arith, three) ];
    }

-- the number of slices of such a height
pub slices_same : (height nly hsl : ℕ) → 1 ≤ hsl → slice_count_of height nly hsl ≡ slice_count_of height nly (max 1 hsl)
slices_same height nly hsl some = let same : hsl ≡ max 1 hsl = omega (arith, some) in ap (slice_count_of height nly) same
