use Rattle.std.proofs.Common.{◌≡◌, ◌∷◌, []}
use Rattle.std.specs.List.{flat_map}
use Rattle.xs_lists.specs.Spelling.{upto}
use Rattle.xs_layout.specs.Geometry.{sampling_of}
use Rattle.xs_markers.proofs.write.component_fields.Given as goal

abbrev pub invariant-components : goal.invariant-components
invariant-components l = l.fields.items ≡ flat_map (λ component. (8, l.header.shape.depth) ∷ (4, sampling_of l.header.shape.format component) ∷ (4, 1) ∷ []) (upto l.component)
