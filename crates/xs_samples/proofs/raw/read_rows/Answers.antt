use Rattle.std.proofs.Common.{◌≡◌, ◌+◌, ◌-◌, ◌*◌, ◌<◌, ◌≤◌, ◌∙◌, ap, sym, subst, arith, length, take, drop}
use Rattle.std.specs.Prelude.{Some}
use Rattle.std.specs.Result.{result_err}
use Rattle.xs_layout.specs.Geometry.{components_of}
use Rattle.xs_layout.specs.Limits.{IsDepth}
use Rattle.xs_layout.specs.declared.Shape.{Shape}
use Rattle.xs_params.specs.Picture.{IsShape, first_deeper, over_sample, picture_of_raw, row_first, sample_size, samples_of, width_of}
use Rattle.xs_samples.specs.Raw.{HasRead}
use Rattle.xs_samples.specs.Rows.{AreRows, AreRowsOf, rows_size}
use Rattle.xs_samples.proofs.RawPictures.{row_read, row_refused, where_ok}
use Rattle.xs_samples.proofs.RowRanges.{column_few, part_of_rows, row_of}
use Rattle.xs_samples.proofs.raw.read_rows.Goals as goal

pub overflow_mul-place : goal.overflow_mul-place
overflow_mul-place c =
    let shape = c.shape.result.now in
    let rows = c.args.rows in
    let row = c.rows.row in
    let each = c.component_width.result * c.sample_size-sample.result in
    let start = c.row_start-start.result in
    let same = c.shape.ensures.shape in
    let are : AreRows shape rows = subst (λ (s : Shape). AreRows s rows) (sym same) c.requires.rows in
    let inside : rows.component < components_of shape.format = omega (arith, c.requires.component, ap (λ (s : Shape). components_of s.format) same) in
    let below : row < rows.end = omega (arith, c.rows-test.true) in
    let from : rows.first ≤ row = omega (arith, c.rows.auto.row) in
    let is : each ≡ width_of shape rows.component * sample_size shape.depth =
    ap (λ n. n * c.sample_size-sample.result) c.component_width.ensures.width ∙ ap (λ n. width_of shape rows.component * n) c.sample_size-sample.ensures in
    let size : length c.args.bytes.now ≡ rows_size shape rows = c.requires.size ∙ ap (λ (s : Shape). rows_size s rows) (sym same) in
    let shaped : IsShape shape = subst IsShape (sym same) c.shape.ensures.picture.shaped in
    let part = take (start + each - start) (drop start c.args.bytes.now) in
    let found : first_deeper shape.depth (samples_of shape.depth part) ≡ Some c.in-Err.column =
    subst (λ (s : Shape). first_deeper s.depth (samples_of s.depth part) ≡ Some c.in-Err.column) c.rows.invariant.shape (sym c.set_raw_row.ensures.first ∙ ap result_err c.in-Err.is) in
    let few = column_few shape rows row each start c.in-Err.column c.args.bytes.now shaped are inside from below is c.row_start-start.ensures.start size found in
    let column : c.in-Err.column * c.sample_size-sample.result ≡ c.in-Err.column * sample_size shape.depth = ap (λ n. c.in-Err.column * n) c.sample_size-sample.ensures in
    omega (arith, few, column, c.row_place.ensures.place)

pub overflow_add-place : goal.overflow_add-place
overflow_add-place c =
    let shape = c.shape.result.now in
    let rows = c.args.rows in
    let row = c.rows.row in
    let each = c.component_width.result * c.sample_size-sample.result in
    let start = c.row_start-start.result in
    let same = c.shape.ensures.shape in
    let are : AreRows shape rows = subst (λ (s : Shape). AreRows s rows) (sym same) c.requires.rows in
    let inside : rows.component < components_of shape.format = omega (arith, c.requires.component, ap (λ (s : Shape). components_of s.format) same) in
    let below : row < rows.end = omega (arith, c.rows-test.true) in
    let from : rows.first ≤ row = omega (arith, c.rows.auto.row) in
    let is : each ≡ width_of shape rows.component * sample_size shape.depth =
    ap (λ n. n * c.sample_size-sample.result) c.component_width.ensures.width ∙ ap (λ n. width_of shape rows.component * n) c.sample_size-sample.ensures in
    let size : length c.args.bytes.now ≡ rows_size shape rows = c.requires.size ∙ ap (λ (s : Shape). rows_size s rows) (sym same) in
    let shaped : IsShape shape = subst IsShape (sym same) c.shape.ensures.picture.shaped in
    let part = take (start + each - start) (drop start c.args.bytes.now) in
    let found : first_deeper shape.depth (samples_of shape.depth part) ≡ Some c.in-Err.column =
    subst (λ (s : Shape). first_deeper s.depth (samples_of s.depth part) ≡ Some c.in-Err.column) c.rows.invariant.shape (sym c.set_raw_row.ensures.first ∙ ap result_err c.in-Err.is) in
    let few = column_few shape rows row each start c.in-Err.column c.args.bytes.now shaped are inside from below is c.row_start-start.ensures.start size found in
    let column : c.in-Err.column * c.sample_size-sample.result ≡ c.in-Err.column * sample_size shape.depth = ap (λ n. c.in-Err.column * n) c.sample_size-sample.ensures in
    omega (arith, few, column, c.row_place.ensures.place)

pub overflow_cast-result : goal.overflow_cast-result
overflow_cast-result c =
    let shape = c.shape.result.now in
    let rows = c.args.rows in
    let row = c.rows.row in
    let each = c.component_width.result * c.sample_size-sample.result in
    let start = c.row_start-start.result in
    let same = c.shape.ensures.shape in
    let are : AreRows shape rows = subst (λ (s : Shape). AreRows s rows) (sym same) c.requires.rows in
    let inside : rows.component < components_of shape.format = omega (arith, c.requires.component, ap (λ (s : Shape). components_of s.format) same) in
    let below : row < rows.end = omega (arith, c.rows-test.true) in
    let from : rows.first ≤ row = omega (arith, c.rows.auto.row) in
    let is : each ≡ width_of shape rows.component * sample_size shape.depth =
    ap (λ n. n * c.sample_size-sample.result) c.component_width.ensures.width ∙ ap (λ n. width_of shape rows.component * n) c.sample_size-sample.ensures in
    let size : length c.args.bytes.now ≡ rows_size shape rows = c.requires.size ∙ ap (λ (s : Shape). rows_size s rows) (sym same) in
    let shaped : IsShape shape = subst IsShape (sym same) c.shape.ensures.picture.shaped in
    let part = take (start + each - start) (drop start c.args.bytes.now) in
    let found : first_deeper shape.depth (samples_of shape.depth part) ≡ Some c.in-Err.column =
    subst (λ (s : Shape). first_deeper s.depth (samples_of s.depth part) ≡ Some c.in-Err.column) c.rows.invariant.shape (sym c.set_raw_row.ensures.first ∙ ap result_err c.in-Err.is) in
    let few = column_few shape rows row each start c.in-Err.column c.args.bytes.now shaped are inside from below is c.row_start-start.ensures.start size found in
    let column : c.in-Err.column * c.sample_size-sample.result ≡ c.in-Err.column * sample_size shape.depth = ap (λ n. c.in-Err.column * n) c.sample_size-sample.ensures in
    omega (arith, few, column, c.row_place.ensures.place)

pub returns-in-Err-clause-read : goal.returns-in-Err-clause-read
returns-in-Err-clause-read c = λ whole of read.
    let shape = c.shape.result.now in
    let rows = c.args.rows in
    let row = c.rows.row in
    let each = c.component_width.result * c.sample_size-sample.result in
    let start = c.row_start-start.result in
    let same = c.shape.ensures.shape in
    let are : AreRows shape rows = subst (λ (s : Shape). AreRows s rows) (sym same) c.requires.rows in
    let inside : rows.component < components_of shape.format = omega (arith, c.requires.component, ap (λ (s : Shape). components_of s.format) same) in
    let below : row < rows.end = omega (arith, c.rows-test.true) in
    let from : rows.first ≤ row = omega (arith, c.rows.auto.row) in
    let is : each ≡ width_of shape rows.component * sample_size shape.depth =
    ap (λ n. n * c.sample_size-sample.result) c.component_width.ensures.width ∙ ap (λ n. width_of shape rows.component * n) c.sample_size-sample.ensures in
    let of' : AreRowsOf shape rows c.args.bytes.now whole = subst (λ (s : Shape). AreRowsOf s rows c.args.bytes.now whole) (sym same) of in
    let before = c.rows.invariant.read whole of' (subst (λ (s : Shape). HasRead c.args.planes.now (row_first s rows.component rows.first) whole) (sym same) read) in
    let part_is = part_of_rows shape rows row each start c.args.bytes.now whole (subst (λ (s : Shape). IsDepth s.depth) (sym same) c.shape.ensures.picture.shaped.depth) of' from below is c.row_start-start.ensures.start in
    let found = sym c.set_raw_row.ensures.first ∙ ap result_err c.in-Err.is in
    let refused = row_refused c.rows.planes shape rows.component row c.in-Err.column whole _ c.rows.invariant.shape c.known_picture.ensures (row_of shape rows row are inside below) of'.size part_is before found in
    let place : row_first shape rows.component row * sample_size shape.depth + c.in-Err.column * sample_size shape.depth ≡ c.row_place.result + c.in-Err.column * c.sample_size-sample.result =
    ap (λ n. row_first shape rows.component row * sample_size shape.depth + c.in-Err.column * n) (sym c.sample_size-sample.ensures) ∙ ap (λ n. n + c.in-Err.column * c.sample_size-sample.result) (sym c.row_place.ensures.place) in
    ap (λ (s : Shape). over_sample (picture_of_raw s whole)) (c.set_raw_row.ensures.shape ∙ c.rows.invariant.shape) ∙ refused.0 ∙ ap Some place

pub rows-preserved : goal.rows-preserved
rows-preserved c =
    let shape = c.shape.result.now in
    let rows = c.args.rows in
    let row = c.rows.row in
    let each = c.component_width.result * c.sample_size-sample.result in
    let start = c.row_start-start.result in
    let same = c.shape.ensures.shape in
    let are : AreRows shape rows = subst (λ (s : Shape). AreRows s rows) (sym same) c.requires.rows in
    let inside : rows.component < components_of shape.format = omega (arith, c.requires.component, ap (λ (s : Shape). components_of s.format) same) in
    let below : row < rows.end = omega (arith, c.rows-test.true) in
    let from : rows.first ≤ row = omega (arith, c.rows.auto.row) in
    let is : each ≡ width_of shape rows.component * sample_size shape.depth =
    ap (λ n. n * c.sample_size-sample.result) c.component_width.ensures.width ∙ ap (λ n. width_of shape rows.component * n) c.sample_size-sample.ensures in
    let row_there = row_of shape rows row are inside below in
    let put = c.set_raw_row.ensures.set ∙ where_ok c.set_raw_row.result c.in_default.field-0 _ _ c.in_default.is in
    record {
      shape = c.set_raw_row.ensures.shape ∙ c.rows.invariant.shape;
      read = λ whole of read.
          let part_is = part_of_rows shape rows row each start c.args.bytes.now whole (subst (λ (s : Shape). IsDepth s.depth) (sym same) c.shape.ensures.picture.shaped.depth) of from below is c.row_start-start.ensures.start in
          (row_read c.rows.planes c.set_raw_row.new.self shape rows.component row whole _ c.rows.invariant.shape c.known_picture.ensures row_there of.size part_is (c.rows.invariant.read whole of read) put).1;
    }

pub returns-clause-read : goal.returns-clause-read
returns-clause-read c = λ whole of read.
    let rows = c.args.rows in
    let same = c.shape.ensures.shape in
    let last : c.rows.row ≡ rows.end = omega (arith, c.rows-test.false, c.rows.auto.row-end, c.requires.rows.some) in
    let of' = subst (λ (s : Shape). AreRowsOf s rows c.args.bytes.now whole) (sym same) of in
    let done = c.rows.invariant.read whole of' (subst (λ (s : Shape). HasRead c.args.planes.now (row_first s rows.component rows.first) whole) (sym same) read) in
    let end = ap (row_first c.shape.result.now rows.component) last ∙ ap (λ (s : Shape). row_first s rows.component rows.end) same in
    subst (λ n. HasRead c.rows.planes n whole) end done
