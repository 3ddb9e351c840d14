use Rattle.std.proofs.Common.{◌≡◌, ◌<◌, ◌+◌, ◌++◌, Bor, length, drop, sym, ap, subst, ◌∙◌, arith, inl, inr, length-append, length-drop}
use Rattle.std.proofs.lemmas.Bool.{cases_eq}
use Rattle.std.proofs.lemmas.List.{length-take}
use Rattle.xs_layout.specs.declared.Shape.{Shape}
use Rattle.xs_params.specs.declared.header.Header.{Header}
use Rattle.xs_params.specs.Geometry.{bands_of, band_height_of, band_width_of}
use Rattle.xs_params.specs.Picture.{IsPlace, sample_at}
use Rattle.xs_signal.specs.Lines.{entries_of}
use Rattle.xs_rate.specs.Coefficients.{Rows}
use Rattle.xs_decoding.specs.Decoded.{decoded_sample}
use Rattle.xs_stripe.specs.Source.{IsBandRow}
use Rattle.xs_picture.specs.Coefs.{Coefs, row_of_slices, rows_of_slices}
use Rattle.xs_picture.proofs.Coverage.{row_of_band}
use Rattle.xs_picture.proofs.decode.decoder.decode_coefs.Goals as goal

pub lines-init : goal.lines-init
lines-init c =
    let coefs = c.args.coefs.now in
    let made = c.in_ok-lines.ensures in
    record {
      state = made.state;
      header = made.start.0 ∙ c.header-header.ensures;
      first = made.start.1;
      given = made.start.2;
      holds = made.holds (rows_of_slices coefs.header coefs.slices);
      shape = c.in_ok-picture.ensures.shape ∙ ap (λ (h : Header). h.shape) c.header-header.ensures;
      width = c.in_ok-samples.ensures ∙ ap (λ (h : Header). h.shape.width) c.header-header.ensures;
      written = λ component row column less place. absurd (omega (arith, less));
    }

pub step-requires-clause-near : goal.step-requires-clause-near
step-requires-clause-near c band line inside less above below =
    let coefs = c.args.coefs.now in
    let same = c.lines.invariant.header in
    let row = row_of_band coefs band line c.requires.coefs (subst (λ (h : Header). band < bands_of h) same inside) (subst (λ (h : Header). line < band_height_of h band) same less) in
    subst (λ (h : Header). IsBandRow (band_width_of h band) (row_of_slices c.of-rows.result.header c.of-rows.result.slices band line)) (sym same)
    (subst (λ (r : Coefs). IsBandRow (band_width_of coefs.header band) (row_of_slices r.header r.slices band line)) (sym c.of-rows.ensures) row)

pub lines-preserved : goal.lines-preserved
lines-preserved c =
    let coefs = c.args.coefs.now in
    let rows : Rows = rows_of_slices coefs.header coefs.slices in
    let i = c.lines.invariant in
    let line = c.lines.line in
    let new = c.put_line.new.samples in
    let old = c.lines.samples.items in
    let header : c.step.new.self.header.now ≡ coefs.header = ap (λ (b : Bor Header). b.now) c.step.ensures.header ∙ i.header in
    let holds = c.step.ensures.holds rows i.holds (λ band row k inside. ap (λ (r : Coefs). entries_of (row_of_slices r.header r.slices band row) k) c.of-rows.ensures) in
    let whole : length new ≡ length old = c.put_line.auto.samples ∙ ap length c.as_mut_slice.ensures.value in
    record {
      state = c.step.ensures.state;
      header = header;
      first = c.step.ensures.first ∙ i.first;
      given = c.step.ensures.given ∙ ap (λ n. n + 1) i.given;
      holds = holds;
      shape = c.put_line.ensures.shape ∙ i.shape;
      width = omega (arith, length-take c.lines.samples.len (new ++ drop (length new) old), length-append new (drop (length new) old), length-drop (length new) old, whole, c.lines.samples.ok.0, i.width);
      written = λ component row column less place.
          elim (cases_eq row line) [
            | inl same ↦ subst (λ k. sample_at c.put_line.new.picture component k column ≡ decoded_sample coefs.header rows component k column) (sym same)
                (c.put_line.ensures.written rows holds component column
                (subst (λ (s : Shape). IsPlace s component line column) (sym i.shape) (subst (λ k. IsPlace coefs.header.shape component k column) same place))
                ∙ ap (λ (h : Header). decoded_sample h rows component line column) header)
            | inr other ↦ c.put_line.ensures.others component row column (subst (λ (s : Shape). IsPlace s component row column) (sym i.shape) place) other
                ∙ i.written component row column (omega (arith, less, other)) place
          ];
    }

pub returns : goal.returns
returns c =
    let i = c.lines.invariant in
    let height = ap (λ (h : Header). h.shape.height) c.header-header.ensures in
    record {
      decoded = record {
        whole = c.known_picture.ensures;
        shape = i.shape;
        samples = λ component row column place. i.written component row column (omega (arith, place.row_there.row_there, c.lines-test.false, height)) place;
      };
    }
