use Rattle.std.proofs.Common.{◌≡◌, ℕ, ◌+◌, ◌*◌, ◌<◌, ◌≤◌, ◌++◌, List, length, Ok, Err, sym, ap, subst, ◌∙◌, arith, rules}
use Rattle.std.proofs.lemmas.Grind.{common_steps}
use Rattle.std.proofs.lemmas.Bool.Decides.{nat_tests}
use Rattle.xs_io.specs.Bytes.{AreByteItems}
use Rattle.xs_layout.specs.declared.Shape.{Shape}
use Rattle.xs_params.specs.Picture.{raw_size, row_first, sample_count, sample_size}
use Rattle.xs_samples.specs.Rows.{AreRowsOf, IsReadOf, rows_size}
use Rattle.xs_endings.specs.Ends.{change_of}
use Rattle.xs_cli.specs.Steps.{IsRead}
use Rattle.xs_cli.specs.RawRead.{IsRawOf}
use Rattle.xs_cli.proofs.RawTaken.{bytes_taken, cut_taken, first_taken, next_taken, next_untaken, some_components, whole_taken}
use Rattle.xs_cli.proofs.raw_input.read_raw.Goals as goal

pub chunks-init : goal.chunks-init
chunks-init g c =
    let shape = c.args.shape.now in
    let rows = c.front-rows.result in
    let bytes = c.in_ok-bytes.bytes in
    let a = g.R.Source.left c.args.input.now in
    let b = g.R.Source.left c.read.new.input in
    let f = g.R.Source.faults c.args.input.now in
    let u = g.R.Source.faults c.read.new.input in
    let some : 1 ≤ length bytes = grind (arith, common_steps, nat_tests, c.is_empty.ensures, c.if-is_empty.false, c.as_slice.ensures.items) in
    let read = subst (λ (n : ℕ). IsRead n (change_of a b f u) (Ok bytes)) c.size.ensures.size c.in_ok-bytes.ensures.read in
    let components = some_components c.components-components.result c.components-components.ensures.some in
    record {
      shape = c.in_ok-planes.ensures.shape;
      rows = c.front-rows.ensures.rows;
      there = omega (arith, c.front-rows.ensures.component, components, c.components-components.ensures.count);
      taken = first_taken shape c.in_ok-planes.planes rows a b f u bytes c.front-rows.ensures.place some read;
      later = c.read.ensures.later;
    }

pub returns-then-rows-components-clause-read : goal.returns-then-rows-components-clause-read
returns-then-rows-components-clause-read g c =
    let shape = c.args.shape.now in
    let rows = c.chunks.rows in
    let bytes = c.chunks.bytes in
    let a = g.R.Source.left c.args.input.now in
    let b = g.R.Source.left c.chunks.input in
    let f = g.R.Source.faults c.args.input.now in
    let u = g.R.Source.faults c.chunks.input in
    let before = c.chunks.invariant.taken in
    let old = c.chunks.planes in
    let new = c.read_on-done.new.planes in
    let said = c.read_on-done.result in
    let full : length bytes ≡ rows_size shape rows = sym (ap length c.as_slice-in-chunks.ensures.items) ∙ omega (arith, c.chunks-test.true) ∙ c.size-in-chunks.ensures.size in
    let on : row_first shape rows.component rows.first * sample_size shape.depth + rows_size shape rows ≡ row_first shape rows.component rows.end * sample_size shape.depth =
    omega (arith, c.size-in-chunks.ensures.end, c.size-in-chunks.ensures.size) in
    let step : (whole : List ℕ) → AreRowsOf shape rows bytes whole → IsReadOf old (row_first shape rows.component rows.first) c.chunks.done whole → IsReadOf new (row_first shape rows.component rows.end) said whole =
    subst (λ (s : Shape). (whole : List ℕ) → AreRowsOf s rows bytes whole → IsReadOf old (row_first s rows.component rows.first) c.chunks.done whole → IsReadOf new (row_first s rows.component rows.end) said whole) c.chunks.invariant.shape
    (subst (λ (l : List ℕ). (whole : List ℕ) → AreRowsOf old.shape rows l whole → IsReadOf old (row_first old.shape rows.component rows.first) c.chunks.done whole → IsReadOf new (row_first old.shape rows.component rows.end) said whole) c.as_slice-in-chunks-2.ensures.items c.read_on-done.ensures.read) in
    let are : AreByteItems bytes = c.as_slice-in-chunks.ensures.bytes in
    let last = c.next-rows.ensures.last (omega (arith, c.if-rows-components.true, c.components-components.ensures.count)) in
    let whole = whole_taken shape rows a b f u old new c.chunks.done said bytes before full on last step in
    let kept = c.read_on-done.ensures.shape ∙ c.chunks.invariant.shape in
    let found = subst (λ (s : Shape). (l : List ℕ) → 1 ≤ length l → length l ≡ raw_size s → IsReadOf new (sample_count s) said l → IsRawOf s l c.picture_of.result) kept c.picture_of.ensures in
    (before.taken ++ bytes, bytes_taken shape rows a b old c.chunks.done bytes before are, whole.1, found (before.taken ++ bytes) before.some whole.0 whole.2)

pub returns-in_err-bytes-2-clause-read : goal.returns-in_err-bytes-2-clause-read
returns-in_err-bytes-2-clause-read g c =
    let shape = c.args.shape.now in
    let rows = c.chunks.rows in
    let bytes = c.chunks.bytes in
    let a = g.R.Source.left c.args.input.now in
    let b = g.R.Source.left c.chunks.input in
    let f = g.R.Source.faults c.args.input.now in
    let u = g.R.Source.faults c.chunks.input in
    let before = c.chunks.invariant.taken in
    let old = c.chunks.planes in
    let new = c.read_on-done.new.planes in
    let said = c.read_on-done.result in
    let full : length bytes ≡ rows_size shape rows = sym (ap length c.as_slice-in-chunks.ensures.items) ∙ omega (arith, c.chunks-test.true) ∙ c.size-in-chunks.ensures.size in
    let on : row_first shape rows.component rows.first * sample_size shape.depth + rows_size shape rows ≡ row_first shape rows.component rows.end * sample_size shape.depth =
    omega (arith, c.size-in-chunks.ensures.end, c.size-in-chunks.ensures.size) in
    let step : (whole : List ℕ) → AreRowsOf shape rows bytes whole → IsReadOf old (row_first shape rows.component rows.first) c.chunks.done whole → IsReadOf new (row_first shape rows.component rows.end) said whole =
    subst (λ (s : Shape). (whole : List ℕ) → AreRowsOf s rows bytes whole → IsReadOf old (row_first s rows.component rows.first) c.chunks.done whole → IsReadOf new (row_first s rows.component rows.end) said whole) c.chunks.invariant.shape
    (subst (λ (l : List ℕ). (whole : List ℕ) → AreRowsOf old.shape rows l whole → IsReadOf old (row_first old.shape rows.component rows.first) c.chunks.done whole → IsReadOf new (row_first old.shape rows.component rows.end) said whole) c.as_slice-in-chunks-2.ensures.items c.read_on-done.ensures.read) in
    let are : AreByteItems bytes = c.as_slice-in-chunks.ensures.bytes in
    let next = c.next-rows.result in
    let size = c.size-in-chunks-2.ensures.size in
    let d = g.R.Source.left c.read-in-chunks.new.input in
    let v = g.R.Source.faults c.read-in-chunks.new.input in
    let source = change_of b d u v in
    let e : c.from_residual-in_err-bytes-2.result ≡ Err c.in_err-bytes-2.field-0.0 = search rules in
    let read = subst (λ (n : ℕ). IsRead n source (Err c.in_err-bytes-2.field-0.0)) size c.in_err-bytes-2.ensures.read in
    let within : row_first shape next.component next.first * sample_size shape.depth + rows_size shape next ≤ raw_size shape = omega (arith, c.size-in-chunks-2.ensures.end, c.size-in-chunks-2.ensures.within, size) in
    rw e (next_untaken shape rows a b d f u v old c.chunks.done bytes before c.chunks.invariant.later are full next on c.next-rows.ensures.place c.in_err-bytes-2.field-0.0 within read)

pub chunks-preserved : goal.chunks-preserved
chunks-preserved g c =
    let shape = c.args.shape.now in
    let rows = c.chunks.rows in
    let bytes = c.chunks.bytes in
    let a = g.R.Source.left c.args.input.now in
    let b = g.R.Source.left c.chunks.input in
    let f = g.R.Source.faults c.args.input.now in
    let u = g.R.Source.faults c.chunks.input in
    let before = c.chunks.invariant.taken in
    let old = c.chunks.planes in
    let new = c.read_on-done.new.planes in
    let said = c.read_on-done.result in
    let full : length bytes ≡ rows_size shape rows = sym (ap length c.as_slice-in-chunks.ensures.items) ∙ omega (arith, c.chunks-test.true) ∙ c.size-in-chunks.ensures.size in
    let on : row_first shape rows.component rows.first * sample_size shape.depth + rows_size shape rows ≡ row_first shape rows.component rows.end * sample_size shape.depth =
    omega (arith, c.size-in-chunks.ensures.end, c.size-in-chunks.ensures.size) in
    let step : (whole : List ℕ) → AreRowsOf shape rows bytes whole → IsReadOf old (row_first shape rows.component rows.first) c.chunks.done whole → IsReadOf new (row_first shape rows.component rows.end) said whole =
    subst (λ (s : Shape). (whole : List ℕ) → AreRowsOf s rows bytes whole → IsReadOf old (row_first s rows.component rows.first) c.chunks.done whole → IsReadOf new (row_first s rows.component rows.end) said whole) c.chunks.invariant.shape
    (subst (λ (l : List ℕ). (whole : List ℕ) → AreRowsOf old.shape rows l whole → IsReadOf old (row_first old.shape rows.component rows.first) c.chunks.done whole → IsReadOf new (row_first old.shape rows.component rows.end) said whole) c.as_slice-in-chunks-2.ensures.items c.read_on-done.ensures.read) in
    let are : AreByteItems bytes = c.as_slice-in-chunks.ensures.bytes in
    let next = c.next-rows.result in
    let size = c.size-in-chunks-2.ensures.size in
    let d = g.R.Source.left c.read-in-chunks.new.input in
    let v = g.R.Source.faults c.read-in-chunks.new.input in
    let source = change_of b d u v in
    let read = subst (λ (n : ℕ). IsRead n source (Ok c.in_ok-bytes-2.bytes)) size c.in_ok-bytes-2.ensures.read in
    record {
      shape = c.read_on-done.ensures.shape ∙ c.chunks.invariant.shape;
      rows = c.next-rows.ensures.rows;
      there = omega (arith, c.next-rows.ensures.rows.component_there, c.if-rows-components.false, c.components-components.ensures.count);
      taken = next_taken shape rows a b d f u v old c.chunks.done bytes before c.chunks.invariant.later are full next on c.next-rows.ensures.place new said c.in_ok-bytes-2.bytes step read;
      later = omega (arith, c.chunks.invariant.later, c.read-in-chunks.ensures.later);
    }

pub returns-clause-read : goal.returns-clause-read
returns-clause-read g c =
    let shape = c.args.shape.now in
    let rows = c.chunks.rows in
    let bytes = c.chunks.bytes in
    let a = g.R.Source.left c.args.input.now in
    let b = g.R.Source.left c.chunks.input in
    let before = c.chunks.invariant.taken in
    let long : length c.as_slice-in-chunks.result.now ≡ length bytes = ap length c.as_slice-in-chunks.ensures.items in
    let more : length c.as_slice-2.result.now ≡ length bytes = ap length c.as_slice-2.ensures.items in
    let short : length bytes < rows_size shape rows = omega (arith, before.most, c.chunks-test.false, long, c.size-in-chunks.ensures.size) in
    let within : row_first shape rows.component rows.first * sample_size shape.depth + rows_size shape rows ≤ raw_size shape = omega (arith, c.size-in-chunks.ensures.end, c.size-in-chunks.ensures.within, c.size-in-chunks.ensures.size) in
    let cut = cut_taken shape rows a b (g.R.Source.faults c.args.input.now) (g.R.Source.faults c.chunks.input) c.chunks.planes c.chunks.done bytes before short within in
    let are : AreByteItems bytes = c.as_slice-in-chunks.ensures.bytes in
    (before.taken ++ bytes, bytes_taken shape rows a b c.chunks.planes c.chunks.done bytes before are, cut.0, (before.some, omega (arith, cut.1, more, c.place.ensures.place), omega (arith, cut.2, more, c.place.ensures.place)))
