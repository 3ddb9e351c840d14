-- What is written is in the grammar: headers and codestreams.
use Rattle.std.proofs.Common.{◌≡◌, ℕ, ◌+◌, ◌*◌, ◌/◌, ◌^◌, ◌<◌, ◌≤◌, List, [], ◌∷◌, length, refl, sym, ap, subst, ◌∙◌, arith, inl}
use Rattle.std.specs.Prelude.{Bool, true, false, ◌⊎◌}
use Rattle.std.specs.List.{flat_map, AllByRecursion}
use Rattle.xs_params.specs.declared.header.Header.{Header}
use Rattle.xs_layout.specs.declared.Format.{Format}
use Rattle.xs_layout.specs.declared.Format.TheVariants.{Mono, C422, C444}
use Rattle.xs_layout.specs.declared.Quant.{Quant}
use Rattle.xs_layout.specs.declared.Quant.TheVariants.{DeadZone, Uniform}
use Rattle.xs_layout.specs.declared.Weight.{Weight}
use Rattle.xs_layout.specs.Geometry.{components_of, sampling_of}
use Rattle.xs_lists.specs.Bits.{bit_of, bits_of_fields, bytes_for, FieldsFit}
use Rattle.xs_lists.specs.Packing.{missing_bits}
use Rattle.xs_lists.specs.Spelling.{upto}
use Rattle.xs_lists.proofs.Each.{each-made, range-all}
use Rattle.xs_lists.proofs.Packing.{length-packed}
use Rattle.xs_params.specs.Geometry.{slice_count}
use Rattle.xs_grammar.specs.Slice.{IsSlice}
use Rattle.xs_grammar.specs.Header.{pih_code, cdt_code, wgt_code, quant_code, picture_fields, component_fields, weight_fields}
use Rattle.xs_params.specs.Accepted.{IsAccepted}
use Rattle.xs_params.proofs.Accepted.{bits_most}
use Rattle.xs_grammar.specs.Coded.{field_bytes, slice_bytes, written_segments, header_bytes, HasRoom}
use Rattle.xs_grammar.specs.Laws.{WrittenHeader, WrittenCodestream}
use Rattle.xs_grammar.proofs.Coded.{widths, length-widths, fields_whole, written_slice}

-- how many bytes fields have
pub length-field_bytes : (fields : List (ℕ × ℕ)) → length (field_bytes fields) ≡ bytes_for (widths fields)
length-field_bytes fields = length-packed (bits_of_fields fields) ∙ ap bytes_for (length-widths fields)

-- The picture header

bit_room : (test : Bool) (bound : ℕ) → 2 ≤ bound → bit_of test < bound
bit_room true bound h = omega (arith, h)
bit_room false bound h = omega (arith, h)

quant_room : (quant : Quant) → quant_code quant < 2 ^ 2
quant_room DeadZone = omega arith
quant_room Uniform = omega arith

format_room : (format : Format) → components_of format < 2 ^ 8
format_room Mono = omega arith
format_room C422 = omega arith
format_room C444 = omega arith

picture_room : (h : Header) → IsAccepted h → HasRoom h → FieldsFit (picture_fields h 0 0 0)
picture_room h p q =
    omega (
      arith,
      q.lcod,
      p.geometry.shape.width,
      p.geometry.shape.height,
      q.hsl,
      format_room h.shape.format,
      bits_most h p,
      bit_room h.colour (2 ^ 4) (omega arith),
      p.geometry.nlx,
      p.geometry.nly,
      bit_room h.long_heads (2 ^ 1) (omega arith),
      quant_room h.quant,
      bit_room h.signs_apart (2 ^ 2) (omega arith),
      p.run_mode,
    )

-- The components

abbrev fields_of : Format → ℕ → List (ℕ × ℕ)
fields_of format depth = flat_map (λ component. (8, depth) ∷ (4, sampling_of format component) ∷ (4, 1) ∷ []) (upto (components_of format))

component_room : (format : Format) (depth : ℕ) → depth < 2 ^ 8 → FieldsFit (fields_of format depth)
component_room Mono depth h = (h, (omega arith, (omega arith, tt)))
component_room C422 depth h = (h, (omega arith, (omega arith, (h, (omega arith, (omega arith, (h, (omega arith, (omega arith, tt)))))))))
component_room C444 depth h = (h, (omega arith, (omega arith, (h, (omega arith, (omega arith, (h, (omega arith, (omega arith, tt)))))))))

component_widths : (format : Format) (depth : ℕ) → widths (fields_of format depth) ≡ 16 * components_of format
component_widths Mono depth = refl
component_widths C422 depth = refl
component_widths C444 depth = refl

most_components : (format : Format) → components_of format ≤ 3
most_components Mono = omega arith
most_components C422 = omega arith
most_components C444 = omega arith

depth_room : (depth : ℕ) → (depth ≡ 8) ⊎ (depth ≡ 10) ⊎ (depth ≡ 12) → depth < 2 ^ 8
depth_room depth h = omega (arith, h)

-- The weights

abbrev pairs_of : List Weight → List (ℕ × ℕ)
pairs_of weights = flat_map (λ (weight : Weight). (8, weight.gain) ∷ (8, weight.priority) ∷ []) weights

weights_room : (weights : List Weight) → AllByRecursion (λ (weight : Weight). weight.gain < 2 ^ 8) weights → AllByRecursion (λ (weight : Weight). weight.priority < 2 ^ 8) weights → FieldsFit (pairs_of weights)
weights_room [] p q = tt
weights_room (weight ∷ weights) p q = (p.0, (q.0, weights_room weights p.1 q.1))

weights_widths : (weights : List Weight) → widths (pairs_of weights) ≡ 16 * length weights
weights_widths [] = refl
weights_widths (weight ∷ weights) = omega (arith, weights_widths weights)

most_bands : (format : Format) (nlx nly : ℕ) → nlx ≤ 5 → nly ≤ 2 → (2 * nly + nlx + 1) * components_of format ≤ 30
most_bands Mono nlx nly p q = omega (arith, p, q)
most_bands C422 nlx nly p q = omega (arith, p, q)
most_bands C444 nlx nly p q = omega (arith, p, q)

-- Whole bytes

whole_pairs : (n bits : ℕ) → bits ≡ 16 * n → missing_bits bits ≡ 0
whole_pairs n bits e = omega (arith, e)

pub written_header : WrittenHeader
written_header h p q = record {
  accepted = p;
  segments = written_segments h;
  joined = refl;
  short = (omega arith, (omega (arith, picture_size), (omega (arith, component_size, most_components h.shape.format), (omega (arith, weight_size, bands), tt))));
  said = record {
    profile = 0;
    level = 0;
    raw_line = 0;
    picture = record { code = pih_code; body = field_bytes (picture_fields h 0 0 0) };
    component = record { code = cdt_code; body = field_bytes (component_fields h) };
    weight = record { code = wgt_code; body = field_bytes (weight_fields h) };
    order = inl refl;
    picture_is = record { coded = refl; room = picture_room h p q; spelled = fields_whole (picture_fields h 0 0 0) refl };
    component_is = record {
      coded = refl;
      room = component_room h.shape.format h.shape.depth (depth_room h.shape.depth p.geometry.shape.depth);
      spelled = fields_whole (component_fields h) (whole_pairs (components_of h.shape.format) (widths (component_fields h)) (component_widths h.shape.format h.shape.depth));
    };
    weight_is = record {
      coded = refl;
      room = weights_room h.weights q.gains q.priorities;
      spelled = fields_whole (weight_fields h) (whole_pairs (length h.weights) (widths (weight_fields h)) (weights_widths h.weights));
    };
  };
}
  where
    picture_size : length (field_bytes (picture_fields h 0 0 0)) ≡ 24
    picture_size = length-field_bytes (picture_fields h 0 0 0)

    component_size : length (field_bytes (component_fields h)) ≡ (16 * components_of h.shape.format + 7) / 8
    component_size = length-field_bytes (component_fields h) ∙ ap bytes_for (component_widths h.shape.format h.shape.depth)

    weight_size : length (field_bytes (weight_fields h)) ≡ (16 * length h.weights + 7) / 8
    weight_size = length-field_bytes (weight_fields h) ∙ ap bytes_for (weights_widths h.weights)

    bands : length h.weights ≤ 30
    bands = subst (λ n. n ≤ 30) (sym p.weights) (most_bands h.shape.format h.nlx h.nly (omega (arith, p.geometry.nlx)) (omega (arith, p.geometry.nly)))

pub written_codestream : WrittenCodestream
written_codestream h content mode filler p q can stated = record {
  header = header_bytes h;
  slices = flat_map (slice_bytes h content mode filler) (upto (slice_count h));
  joined = refl;
  headed = written_header h p q;
  spelled = each-made (IsSlice h content) (slice_bytes h content mode filler) (upto (slice_count h))
      (range-all (λ slice. IsSlice h content slice (slice_bytes h content mode filler slice)) 0 (slice_count h)
      (λ slice low high. written_slice h content mode filler slice can.plain (index slice (omega (arith, high))) (can.slices slice (omega (arith, high))) (can.fits slice (omega (arith, high)))));
  stated = stated;
}
  where
    index : (slice : ℕ) → slice < slice_count h → slice < 2 ^ 16
    index slice inside = let most = p.geometry.slices in omega (arith, most, inside)
