-- The fields of the segments can be written.
use Rattle.std.proofs.Common.{◌≡◌, ℕ, ◌+◌, ◌*◌, ◌/◌, ◌^◌, ◌<◌, ◌≤◌, List, [], ◌∷◌, length, refl, sym, ap, subst, ◌∙◌, arith}
use Rattle.std.specs.Prelude.{Bool, true, false, nat_eq, if◌then◌else◌}
use Rattle.xs_layout.specs.Limits.{IsDepth, fq_of}
use Rattle.std.specs.List.{flat_map}
use Rattle.xs_layout.specs.declared.Weight.{Weight}
use Rattle.xs_layout.specs.declared.Format.{Format}
use Rattle.xs_layout.specs.declared.Format.TheVariants.{Mono, C422, C444}
use Rattle.xs_layout.specs.declared.Quant.{Quant}
use Rattle.xs_layout.specs.declared.Quant.TheVariants.{DeadZone, Uniform}
use Rattle.xs_layout.specs.Geometry.{components_of, sampling_of}
use Rattle.xs_lists.specs.Bits.{bit_of, bytes_for}
use Rattle.xs_lists.specs.Spelling.{upto}
use Rattle.xs_params.specs.declared.header.Header.{Header}
use Rattle.xs_grammar.specs.Header.{quant_code, picture_fields, component_fields, weight_fields}
use Rattle.xs_params.specs.Accepted.{IsAccepted}
use Rattle.xs_grammar.specs.Coded.{field_bytes}
use Rattle.xs_grammar.proofs.Coded.{widths}
use Rattle.xs_grammar.proofs.CodedStream.{length-field_bytes}
use Rattle.xs_markers.specs.Fields.{AreFields, IsBody}

-- The picture header

bit_room : (test : Bool) (bound : ℕ) → 2 ≤ bound → bit_of test < bound
bit_room true bound h = omega (arith, h)
bit_room false bound h = omega (arith, h)

quant_room : (quant : Quant) → quant_code quant < 2 ^ 2
quant_room DeadZone = omega arith
quant_room Uniform = omega arith

format_room : (format : Format) → components_of format < 2 ^ 8
format_room Mono = omega arith
format_room C422 = omega arith
format_room C444 = omega arith

fq_room : (bw : ℕ) → fq_of bw < 2 ^ 4
fq_room bw = go (nat_eq bw 18)
  where
    go : (t : Bool) → (if t then 6 else 8) < 2 ^ 4
    go true = omega arith
    go false = omega arith

pub picture_body : (h : Header) → IsAccepted h → h.lcod < 2 ^ 32 → h.hsl < 2 ^ 16 → IsBody (picture_fields h 0 0 0)
picture_body h p lcod hsl =
    let size : length (field_bytes (picture_fields h 0 0 0)) ≡ 24 = length-field_bytes (picture_fields h 0 0 0) in
    record {
      room =
          omega (
            arith,
            lcod,
            p.geometry.shape.width,
            p.geometry.shape.height,
            hsl,
            format_room h.shape.format,
            p.bits,
            fq_room h.bw,
            bit_room h.colour (2 ^ 4) (omega arith),
            p.geometry.nlx,
            p.geometry.nly,
            bit_room h.long_heads (2 ^ 1) (omega arith),
            quant_room h.quant,
            bit_room h.signs_apart (2 ^ 2) (omega arith),
            p.run_mode,
          );
      short = omega (arith, size);
    }

-- The components

abbrev pub fields_of : Format → ℕ → List (ℕ × ℕ)
fields_of format depth = flat_map (λ component. (8, depth) ∷ (4, sampling_of format component) ∷ (4, 1) ∷ []) (upto (components_of format))

components_room : (format : Format) (depth : ℕ) → depth < 2 ^ 8 → AreFields (fields_of format depth)
components_room Mono depth h = omega (arith, h)
components_room C422 depth h = omega (arith, h)
components_room C444 depth h = omega (arith, h)

components_size : (format : Format) (depth : ℕ) → widths (fields_of format depth) ≤ 48
components_size Mono depth = omega arith
components_size C422 depth = omega arith
components_size C444 depth = omega arith

depth_room : (depth : ℕ) → IsDepth depth → depth < 2 ^ 8
depth_room depth h = omega (arith, h)

pub component_body : (h : Header) → IsAccepted h → IsBody (component_fields h)
component_body h p =
    let size : length (field_bytes (component_fields h)) ≡ (widths (component_fields h) + 7) / 8 = length-field_bytes (component_fields h) in
    record {
      room = components_room h.shape.format h.shape.depth (depth_room h.shape.depth p.geometry.shape.depth);
      short = omega (arith, size, components_size h.shape.format h.shape.depth);
    }

-- The weights

abbrev pub pairs_of : List Weight → List (ℕ × ℕ)
pairs_of weights = flat_map (λ (weight : Weight). (8, weight.gain) ∷ (8, weight.priority) ∷ []) weights

pub weights_widths : (weights : List Weight) → widths (pairs_of weights) ≡ 16 * length weights
weights_widths [] = refl
weights_widths (weight ∷ weights) = omega (arith, weights_widths weights)

most_bands : (format : Format) (nlx nly : ℕ) → nlx ≤ 5 → nly ≤ 2 → (2 * nly + nlx + 1) * components_of format ≤ 30
most_bands Mono nlx nly p q = omega (arith, p, q)
most_bands C422 nlx nly p q = omega (arith, p, q)
most_bands C444 nlx nly p q = omega (arith, p, q)

pub weight_body : (h : Header) → IsAccepted h → AreFields (weight_fields h) → IsBody (weight_fields h)
weight_body h p room =
    let size : length (field_bytes (weight_fields h)) ≡ (16 * length h.weights + 7) / 8 = length-field_bytes (weight_fields h) ∙ ap bytes_for (weights_widths h.weights) in
    let bands : length h.weights ≤ 30 = subst (λ n. n ≤ 30) (sym p.weights) (most_bands h.shape.format h.nlx h.nly (omega (arith, p.geometry.nlx)) (omega (arith, p.geometry.nly))) in
    record { room = room; short = omega (arith, size, bands) }
