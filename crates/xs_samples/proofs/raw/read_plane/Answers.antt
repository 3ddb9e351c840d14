use Rattle.std.proofs.Common.{◌≡◌, ◌+◌, ◌*◌, ◌∙◌, ap, sym, subst, arith, length}
use Rattle.std.specs.Prelude.{Some}
use Rattle.std.specs.Option.{option_map}
use Rattle.std.specs.Result.{result_err}
use Rattle.xs_layout.specs.Geometry.{components_of}
use Rattle.xs_layout.specs.Limits.{IsDepth}
use Rattle.xs_layout.specs.declared.Shape.{Shape}
use Rattle.xs_params.specs.Picture.{IsRow, over_sample, picture_of_raw, plane_first, raw_size, row_first, sample_size}
use Rattle.xs_samples.specs.Raw.{HasRead}
use Rattle.xs_samples.specs.declared.raw.SampleFault.TheVariants as fault
use Rattle.xs_samples.proofs.RawPictures.{last_row, part_read, row_read, row_refused, where_ok}
use Rattle.xs_samples.proofs.raw.read_plane.Goals as goal

pub overflow_mul-result : goal.overflow_mul-result
overflow_mul-result c =
    let shape = c.shape.result.now in
    let bytes = c.args.bytes.now in
    let there : IsRow shape c.args.component c.rows.row = record {
      component_there = omega (arith, c.requires.component, ap (λ (s : Shape). components_of s.format) c.shape.ensures.shape);
      row_there = omega (arith, c.rows-test.true);
    } in
    let size : length bytes ≡ raw_size shape = c.requires.size ∙ ap raw_size (sym c.shape.ensures.shape) in
    let depth : IsDepth shape.depth = subst (λ (s : Shape). IsDepth s.depth) (sym c.shape.ensures.shape) c.shape.ensures.picture.shaped.depth in
    let part = part_read shape c.args.component c.rows.row c.row_place-start.result c.component_width.result c.sample_size-sample.result bytes depth c.row_place-start.ensures.place c.component_width.ensures.width c.sample_size-sample.ensures in
    let found = sym c.set_raw_row.ensures.first ∙ ap result_err c.in-Err.is in
    let refused = row_refused c.rows.planes shape c.args.component c.rows.row c.in-Err.column bytes _ c.rows.invariant.shape c.known_picture.ensures there size part c.rows.invariant.read found in
    let place : c.row_place-start.result + c.in-Err.column * c.sample_size-sample.result ≡ row_first shape c.args.component c.rows.row * sample_size shape.depth + c.in-Err.column * sample_size shape.depth =
    ap (λ n. n + c.in-Err.column * c.sample_size-sample.result) c.row_place-start.ensures.place ∙ ap (λ n. row_first shape c.args.component c.rows.row * sample_size shape.depth + c.in-Err.column * n) c.sample_size-sample.ensures in
    omega (arith, refused.1, place)

pub overflow_add-result : goal.overflow_add-result
overflow_add-result c =
    let shape = c.shape.result.now in
    let bytes = c.args.bytes.now in
    let there : IsRow shape c.args.component c.rows.row = record {
      component_there = omega (arith, c.requires.component, ap (λ (s : Shape). components_of s.format) c.shape.ensures.shape);
      row_there = omega (arith, c.rows-test.true);
    } in
    let size : length bytes ≡ raw_size shape = c.requires.size ∙ ap raw_size (sym c.shape.ensures.shape) in
    let depth : IsDepth shape.depth = subst (λ (s : Shape). IsDepth s.depth) (sym c.shape.ensures.shape) c.shape.ensures.picture.shaped.depth in
    let part = part_read shape c.args.component c.rows.row c.row_place-start.result c.component_width.result c.sample_size-sample.result bytes depth c.row_place-start.ensures.place c.component_width.ensures.width c.sample_size-sample.ensures in
    let found = sym c.set_raw_row.ensures.first ∙ ap result_err c.in-Err.is in
    let refused = row_refused c.rows.planes shape c.args.component c.rows.row c.in-Err.column bytes _ c.rows.invariant.shape c.known_picture.ensures there size part c.rows.invariant.read found in
    let place : c.row_place-start.result + c.in-Err.column * c.sample_size-sample.result ≡ row_first shape c.args.component c.rows.row * sample_size shape.depth + c.in-Err.column * sample_size shape.depth =
    ap (λ n. n + c.in-Err.column * c.sample_size-sample.result) c.row_place-start.ensures.place ∙ ap (λ n. row_first shape c.args.component c.rows.row * sample_size shape.depth + c.in-Err.column * n) c.sample_size-sample.ensures in
    omega (arith, refused.1, place)

pub overflow_cast-result : goal.overflow_cast-result
overflow_cast-result c =
    let shape = c.shape.result.now in
    let bytes = c.args.bytes.now in
    let there : IsRow shape c.args.component c.rows.row = record {
      component_there = omega (arith, c.requires.component, ap (λ (s : Shape). components_of s.format) c.shape.ensures.shape);
      row_there = omega (arith, c.rows-test.true);
    } in
    let size : length bytes ≡ raw_size shape = c.requires.size ∙ ap raw_size (sym c.shape.ensures.shape) in
    let depth : IsDepth shape.depth = subst (λ (s : Shape). IsDepth s.depth) (sym c.shape.ensures.shape) c.shape.ensures.picture.shaped.depth in
    let part = part_read shape c.args.component c.rows.row c.row_place-start.result c.component_width.result c.sample_size-sample.result bytes depth c.row_place-start.ensures.place c.component_width.ensures.width c.sample_size-sample.ensures in
    let found = sym c.set_raw_row.ensures.first ∙ ap result_err c.in-Err.is in
    let refused = row_refused c.rows.planes shape c.args.component c.rows.row c.in-Err.column bytes _ c.rows.invariant.shape c.known_picture.ensures there size part c.rows.invariant.read found in
    let place : c.row_place-start.result + c.in-Err.column * c.sample_size-sample.result ≡ row_first shape c.args.component c.rows.row * sample_size shape.depth + c.in-Err.column * sample_size shape.depth =
    ap (λ n. n + c.in-Err.column * c.sample_size-sample.result) c.row_place-start.ensures.place ∙ ap (λ n. row_first shape c.args.component c.rows.row * sample_size shape.depth + c.in-Err.column * n) c.sample_size-sample.ensures in
    omega (arith, refused.1, place)

pub returns-in-Err-clause-refused : goal.returns-in-Err-clause-refused
returns-in-Err-clause-refused c =
    let shape = c.shape.result.now in
    let bytes = c.args.bytes.now in
    let there : IsRow shape c.args.component c.rows.row = record {
      component_there = omega (arith, c.requires.component, ap (λ (s : Shape). components_of s.format) c.shape.ensures.shape);
      row_there = omega (arith, c.rows-test.true);
    } in
    let size : length bytes ≡ raw_size shape = c.requires.size ∙ ap raw_size (sym c.shape.ensures.shape) in
    let depth : IsDepth shape.depth = subst (λ (s : Shape). IsDepth s.depth) (sym c.shape.ensures.shape) c.shape.ensures.picture.shaped.depth in
    let part = part_read shape c.args.component c.rows.row c.row_place-start.result c.component_width.result c.sample_size-sample.result bytes depth c.row_place-start.ensures.place c.component_width.ensures.width c.sample_size-sample.ensures in
    let found = sym c.set_raw_row.ensures.first ∙ ap result_err c.in-Err.is in
    let refused = row_refused c.rows.planes shape c.args.component c.rows.row c.in-Err.column bytes _ c.rows.invariant.shape c.known_picture.ensures there size part c.rows.invariant.read found in
    let place : c.row_place-start.result + c.in-Err.column * c.sample_size-sample.result ≡ row_first shape c.args.component c.rows.row * sample_size shape.depth + c.in-Err.column * sample_size shape.depth =
    ap (λ n. n + c.in-Err.column * c.sample_size-sample.result) c.row_place-start.ensures.place ∙ ap (λ n. row_first shape c.args.component c.rows.row * sample_size shape.depth + c.in-Err.column * n) c.sample_size-sample.ensures in
    ap (λ (s : Shape). option_map fault.Sample (over_sample (picture_of_raw s bytes))) (sym c.shape.ensures.shape) ∙ ap (option_map fault.Sample) refused.0 ∙ ap (λ n. Some (fault.Sample n)) (sym place)

pub rows-preserved : goal.rows-preserved
rows-preserved c =
    let shape = c.shape.result.now in
    let bytes = c.args.bytes.now in
    let there : IsRow shape c.args.component c.rows.row = record {
      component_there = omega (arith, c.requires.component, ap (λ (s : Shape). components_of s.format) c.shape.ensures.shape);
      row_there = omega (arith, c.rows-test.true);
    } in
    let size : length bytes ≡ raw_size shape = c.requires.size ∙ ap raw_size (sym c.shape.ensures.shape) in
    let depth : IsDepth shape.depth = subst (λ (s : Shape). IsDepth s.depth) (sym c.shape.ensures.shape) c.shape.ensures.picture.shaped.depth in
    let part = part_read shape c.args.component c.rows.row c.row_place-start.result c.component_width.result c.sample_size-sample.result bytes depth c.row_place-start.ensures.place c.component_width.ensures.width c.sample_size-sample.ensures in
    let read = row_read c.rows.planes c.set_raw_row.new.self shape c.args.component c.rows.row bytes _ c.rows.invariant.shape c.known_picture.ensures there size part c.rows.invariant.read
    (c.set_raw_row.ensures.set ∙ where_ok c.set_raw_row.result c.in_default.field-0 _ _ c.in_default.is) in
    record { shape = read.0; read = read.1 }

pub returns-clause-read : goal.returns-clause-read
returns-clause-read c =
    let shape = c.shape.result.now in
    let last : c.rows.row ≡ shape.height = omega (arith, c.rows-test.false, c.rows.auto.row-end) in
    let end = ap (row_first shape c.args.component) last ∙ last_row shape c.args.component ∙ ap (λ (s : Shape). plane_first s (c.args.component + 1)) c.shape.ensures.shape in
    subst (λ n. HasRead c.rows.planes n c.args.bytes.now) end c.rows.invariant.read
