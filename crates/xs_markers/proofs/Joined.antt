-- The segments of a header, one after the other.
use Rattle.std.proofs.Common.{◌≡◌, ℕ, List, [], ◌++◌, ap, sym, ◌∙◌, append_assoc}
use Rattle.std.proofs.lemmas.List.{append-nil}
use Rattle.xs_params.specs.declared.header.Header.{Header}
use Rattle.xs_grammar.specs.Header.{segment_bytes, cap_code, pih_code, cdt_code, wgt_code, picture_fields, component_fields, weight_fields}
use Rattle.xs_params.specs.Markers.{soc}
use Rattle.xs_grammar.specs.Coded.{field_bytes, header_bytes}

five : (a s t u v : List ℕ) → (((a ++ s) ++ t) ++ u) ++ v ≡ a ++ (s ++ (t ++ (u ++ (v ++ []))))
five a s t u v =
    append_assoc ((a ++ s) ++ t) u v ∙ append_assoc (a ++ s) t (u ++ v) ∙ append_assoc a s (t ++ (u ++ v)) ∙ ap (λ l. a ++ (s ++ (t ++ (u ++ l)))) (sym (append-nil v))

-- the bytes of a segment of fields
abbrev pub segment_of : ℕ → List (ℕ × ℕ) → List ℕ
segment_of code fields = segment_bytes (record { code = code; body = field_bytes fields })

pub joined_header : (h : Header) (started capable pictured timed weighted : List ℕ) (picture components weights : List (ℕ × ℕ)) → started ≡ soc → capable ≡ started ++ segment_of cap_code []
    → picture ≡ picture_fields h 0 0 0 → pictured ≡ capable ++ segment_of pih_code picture → components ≡ component_fields h → timed ≡ pictured ++ segment_of cdt_code components
    → weights ≡ weight_fields h → weighted ≡ timed ++ segment_of wgt_code weights → weighted ≡ header_bytes h
joined_header h started capable pictured timed weighted picture components weights start cap picture_is pih components_are cdt weights_are wgt =
    let first : capable ≡ soc ++ segment_of cap_code [] = cap ∙ ap (λ l. l ++ segment_of cap_code []) start in
    let second : pictured ≡ (soc ++ segment_of cap_code []) ++ segment_of pih_code (picture_fields h 0 0 0) =
    pih ∙ ap (λ l. l ++ segment_of pih_code picture) first ∙ ap (λ f. (soc ++ segment_of cap_code []) ++ segment_of pih_code f) picture_is in
    let third : timed ≡ ((soc ++ segment_of cap_code []) ++ segment_of pih_code (picture_fields h 0 0 0)) ++ segment_of cdt_code (component_fields h) =
    cdt ∙ ap (λ l. l ++ segment_of cdt_code components) second
    ∙ ap (λ f. ((soc ++ segment_of cap_code []) ++ segment_of pih_code (picture_fields h 0 0 0)) ++ segment_of cdt_code f) components_are in
    wgt ∙ ap (λ l. l ++ segment_of wgt_code weights) third
    ∙ ap (λ f. (((soc ++ segment_of cap_code []) ++ segment_of pih_code (picture_fields h 0 0 0)) ++ segment_of cdt_code (component_fields h)) ++ segment_of wgt_code f) weights_are
    ∙ five soc (segment_of cap_code []) (segment_of pih_code (picture_fields h 0 0 0)) (segment_of cdt_code (component_fields h)) (segment_of wgt_code (weight_fields h))
