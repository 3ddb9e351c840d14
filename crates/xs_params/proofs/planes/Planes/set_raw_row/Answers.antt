use Rattle.std.proofs.Common.{◌≡◌, ◌+◌, ◌*◌, ◌≤◌, ◌∙◌, List, ℕ, length, sym, ap, arith}
use Rattle.std.specs.Prelude.{if◌then◌else◌, is_ok}
use Rattle.xs_layout.specs.declared.Shape.{Shape}
use Rattle.xs_params.specs.Picture.{Picture, put_at, sample_size, samples_of, width_of}
use Rattle.xs_params.proofs.Rows.{length-samples, raw_kept}
use Rattle.xs_params.proofs.planes.Planes.set_raw_row.Goals as goal

pub put_raw-requires-clause-room : goal.put_raw-requires-clause-room
put_raw-requires-clause-room c =
    let shape = c.self.inside.shape in
    let bytes = c.args.bytes.now in
    let same : c.args.self.now.shape ≡ shape = sym (ap (λ (p : Picture). p.shape) c.self.view_is) in
    let size : length bytes ≡ width_of shape c.args.component * sample_size shape.depth = c.requires.size ∙ ap (λ (s : Shape). width_of s c.args.component * sample_size s.depth) same in
    let count = length-samples shape.depth bytes (width_of shape c.args.component) c.self.invariant.shaped.depth size in
    omega (arith, count, c.row_start-start.ensures.end, c.self.invariant.size, ap length c.as_mut_slice.ensures.value)

pub invariant_of-self : goal.invariant_of-self
invariant_of-self c =
    let shape = c.self.inside.shape in
    let old = c.self.inside.samples.items in
    let row = samples_of shape.depth c.args.bytes.now in
    let first = c.row_start-start.result in
    let same : c.args.self.now.shape ≡ shape = sym (ap (λ (p : Picture). p.shape) c.self.view_is) in
    let size : length c.args.bytes.now ≡ width_of shape c.args.component * sample_size shape.depth = c.requires.size ∙ ap (λ (s : Shape). width_of s c.args.component * sample_size s.depth) same in
    let count = length-samples shape.depth c.args.bytes.now (width_of shape c.args.component) c.self.invariant.shaped.depth size in
    let inside : first + length row ≤ length old = omega (arith, count, c.row_start-start.ensures.end, c.self.invariant.size) in
    let after = c.put_raw.ensures.put ∙ ap (λ (l : List ℕ). if is_ok c.put_raw.result then put_at l first row else l) c.as_mut_slice.ensures.value in
    raw_kept shape old row c.put_raw.new.samples first c.self.inside.samples.len c.put_raw.result c.self.invariant inside (sym c.self.inside.samples.ok.0) c.put_raw.ensures.first after
