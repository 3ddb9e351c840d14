use Rattle.std.proofs.Common.{◌≡◌, ◌<◌, ap, sym, subst, ◌∙◌, arith, inl, inr}
use Rattle.std.proofs.lemmas.Bool.{cases_eq}
use Rattle.xs_layout.specs.declared.Shape.{Shape}
use Rattle.xs_layout.specs.Geometry.{components_of}
use Rattle.xs_params.specs.Picture.{IsPlace, sample_at, width_of}
use Rattle.xs_decoding.specs.Decoded.{decoded_sample}
use Rattle.xs_picture.proofs.decode.decoder.put_line.Goals as goal

pub components-preserved : goal.components-preserved
components-preserved c =
    let i = c.components.invariant in
    let line = c.args.line in
    let shape = c.args.picture.now.shape in
    record {
      shape = c.put_row.ensures.shape ∙ i.shape;
      written = λ coefficients holds k column less place.
          elim (cases_eq k c.components.component) [
            | inl same ↦ subst (λ j. sample_at c.put_row.new.picture j line column ≡ decoded_sample c.args.lines.now.header.now coefficients j line column) (sym same)
                (c.put_row.ensures.written coefficients holds column
                (subst (λ (s : Shape). column < width_of s c.components.component) (sym i.shape) (subst (λ j. column < width_of shape j) same place.column_there)))
            | inr other ↦ c.put_row.ensures.others k line column (subst (λ (s : Shape). IsPlace s k line column) (sym i.shape) place) (inl other) ∙ i.written coefficients holds k column (omega (arith, less, other)) place
          ];
      others = λ k row column place apart.
          c.put_row.ensures.others k row column (subst (λ (s : Shape). IsPlace s k row column) (sym i.shape) place) (inr apart) ∙ i.others k row column place apart;
    }

pub returns-clause-written : goal.returns-clause-written
returns-clause-written c coefficients holds component column place =
    let count = c.components-component-end.ensures.count ∙ ap (λ (s : Shape). components_of s.format) c.shape.ensures.shape in
    c.components.invariant.written coefficients holds component column (omega (arith, place.row_there.component_there, c.components-test.false, count)) place
