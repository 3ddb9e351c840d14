use Rattle.std.proofs.Common.{◌≡◌, ℕ, List, [], ◌∷◌, ◌++◌, ◌∙◌, ap, sym, subst, arith}
use Rattle.std.specs.List.{flat_map}
use Rattle.xs_lists.specs.Spelling.{upto}
use Rattle.xs_layout.specs.Geometry.{components_of, sampling_of}
use Rattle.xs_grammar.specs.Header.{component_fields}
use Rattle.xs_markers.specs.Fields.{IsBody}
use Rattle.xs_markers.proofs.Bodies.{component_body}
use Rattle.xs_markers.proofs.Steps.{flat_upto}
use Rattle.xs_markers.proofs.write.component_fields.Goals as goal

pub components-preserved : goal.components-preserved
components-preserved c =
    let depth = c.args.header.now.shape.depth in
    let format = c.args.header.now.shape.format in
    let k = c.components.component in
    let f : ℕ → List (ℕ × ℕ) = λ component. (8, depth) ∷ (4, sampling_of format component) ∷ (4, 1) ∷ [] in
    c.in_ok-push_all.ensures ∙ ap (λ l. l ++ ((8, c.from.result) ∷ (4, c.sampling_of-sampling.result) ∷ (4, 1) ∷ [])) c.components.invariant
    ∙ ap (λ d. flat_map f (upto k) ++ ((8, d) ∷ (4, c.sampling_of-sampling.result) ∷ (4, 1) ∷ [])) c.from.ensures
    ∙ ap (λ s. flat_map f (upto k) ++ ((8, depth) ∷ (4, s) ∷ (4, 1) ∷ [])) c.sampling_of-sampling.ensures
    ∙ sym (flat_upto f k)

pub returns : goal.returns
returns c =
    let depth = c.args.header.now.shape.depth in
    let format = c.args.header.now.shape.format in
    let f : ℕ → List (ℕ × ℕ) = λ component. (8, depth) ∷ (4, sampling_of format component) ∷ (4, 1) ∷ [] in
    let all : c.components.component ≡ components_of format = omega (arith, c.components-test.false, c.components.auto.component-end, c.components-component-end.ensures.count) in
    let fields : c.components.fields.items ≡ component_fields c.args.header.now = c.components.invariant ∙ ap (λ n. flat_map f (upto n)) all in
    record { fields = fields; body = subst IsBody (sym fields) (component_body c.args.header.now c.requires.accepted) }
