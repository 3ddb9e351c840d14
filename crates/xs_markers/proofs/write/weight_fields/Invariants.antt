use Rattle.std.proofs.Common.{◌≡◌, ◌∷◌, [], take}
use Rattle.std.specs.List.{flat_map}
use Rattle.xs_layout.specs.declared.Weight.{Weight}
use Rattle.xs_markers.specs.Fields.{AreFields}
use Rattle.xs_markers.proofs.write.weight_fields.Given as goal

abbrev pub invariant-weights : goal.invariant-weights
invariant-weights l = record {
  items : l.fields.items ≡ flat_map (λ (weight : Weight). (8, weight.gain) ∷ (8, weight.priority) ∷ []) (take l.at l.weights);
  room : AreFields l.fields.items;
}
