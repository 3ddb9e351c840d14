use Rattle.std.proofs.Common.{◌≡◌, ℕ, ◌<◌, ◌≤◌, ◌^◌, List, [], ◌∷◌, ◌++◌, ◌∙◌, ap, sym, subst, take, arith}
use Rattle.std.specs.List.{flat_map}
use Rattle.std.proofs.lemmas.List.{take_all}
use Rattle.xs_layout.specs.declared.Weight.{Weight}
use Rattle.xs_lists.proofs.Walk.{all-append}
use Rattle.xs_grammar.specs.Header.{weight_fields}
use Rattle.xs_markers.specs.Fields.{AreFields, IsBody}
use Rattle.xs_markers.proofs.Bodies.{weight_body}
use Rattle.xs_markers.proofs.Steps.{flat_take}
use Rattle.xs_markers.proofs.write.weight_fields.Goals as goal

pub weights-preserved : goal.weights-preserved
weights-preserved c =
    let weights = c.as_slice-weights.result.now in
    let at = c.weights.at in
    let f : Weight → List (ℕ × ℕ) = λ weight. (8, weight.gain) ∷ (8, weight.priority) ∷ [] in
    let none : Weight = record { gain = 0; priority = 0 } in
    record {
      items =
          c.in_ok-push_all.ensures ∙ ap (λ l. l ++ c.pair_of.result) c.weights.invariant.items ∙ ap (λ l. flat_map f (take at weights) ++ l) c.pair_of.ensures.fields
          ∙ sym (flat_take f weights at none (omega arith));
      room =
          subst AreFields (sym c.in_ok-push_all.ensures)
          (all-append (λ (field : ℕ × ℕ). (field.0 ≤ 32) × (field.1 < 2 ^ field.0)) c.weights.fields.items c.pair_of.result c.weights.invariant.room c.pair_of.ensures.room);
    }

pub returns : goal.returns
returns c =
    let f : Weight → List (ℕ × ℕ) = λ weight. (8, weight.gain) ∷ (8, weight.priority) ∷ [] in
    let fields : c.weights.fields.items ≡ weight_fields c.args.header.now =
    c.weights.invariant.items ∙ ap (flat_map f) (take_all c.weights.at c.as_slice-weights.result.now c.weights-test.false ∙ c.as_slice-weights.ensures.items) in
    record { fields = fields; body = subst IsBody (sym fields) (weight_body c.args.header.now c.requires.accepted (subst AreFields fields c.weights.invariant.room)) }
