-- Rows of a component in a raw picture, and where they lie.
use Rattle.std.proofs.Common.{◌≡◌, ℕ, zero, suc, ◌+◌, ◌-◌, ◌*◌, ◌^◌, ◌<◌, ◌≤◌, List, [], ◌∷◌, length, take, drop, Some, refl, sym, ap, subst, ◌∙◌, arith}
use Rattle.std.specs.List.{flat_map}
use Rattle.std.proofs.Math.Seq.{take-nil}
use Rattle.std.proofs.lemmas.List.{drop-drop, drop-take, length-drop, length-take-le, take_all}
use Rattle.std.proofs.lemmas.Nat.{mul-le}
use Rattle.xs_layout.specs.Geometry.{components_of}
use Rattle.xs_layout.specs.Limits.{IsDepth}
use Rattle.xs_layout.specs.declared.Shape.{Shape}
use Rattle.xs_params.specs.Picture.{IsPicture, IsRow, IsShape, Picture, first_deeper, put_at, raw_size, row_first, sample_bytes, sample_count, sample_size, samples_of, samples_of_row, width_of}
use Rattle.xs_params.proofs.Areas.{row_end}
use Rattle.xs_samples.specs.declared.rows.RowRange.{RowRange}
use Rattle.xs_samples.specs.Rows.{AreRows, AreRowsOf, rows_bytes, rows_size}
use Rattle.xs_samples.proofs.RawPictures.{bytes_of_row, column_there, length-put, length-samples, raw_few, row_after, samples_part, write_more}

pub row_of : (shape : Shape) (rows : RowRange) (row : ℕ) → AreRows shape rows → rows.component < components_of shape.format → row < rows.end → IsRow shape rows.component row
row_of shape rows row are inside below = record { component_there = inside; row_there = omega (arith, below, are.there) }

-- the rows up to one have the samples before it
pub spread : (first row width : ℕ) → first ≤ row → first * width + (row - first) * width ≡ row * width
spread first row width from =
    let back : first + (row - first) ≡ row = omega (arith, from) in
    let both : (first + (row - first)) * width ≡ first * width + (row - first) * width = grind arith in
    sym both ∙ ap (λ n. n * width) back

pub row_on : (shape : Shape) (component first row : ℕ) → first ≤ row → row_first shape component first + (row - first) * width_of shape component ≡ row_first shape component row
row_on shape component first row from = omega (arith, spread first row (width_of shape component) from)

pub rows_end : (shape : Shape) (rows : RowRange) → AreRows shape rows → rows.component < components_of shape.format → row_first shape rows.component rows.end ≤ sample_count shape
rows_end shape rows are inside =
    let back : rows.end - 1 + 1 ≡ rows.end = omega (arith, are.some) in
    omega (arith, row_end shape rows.component (rows.end - 1) (row_of shape rows (rows.end - 1) are inside (omega (arith, are.some))), row_after shape rows.component (rows.end - 1), ap (row_first shape rows.component) back)

pub rows_within : (shape : Shape) (rows : RowRange) → AreRows shape rows → rows.component < components_of shape.format → row_first shape rows.component rows.end * sample_size shape.depth ≤ raw_size shape
rows_within shape rows are inside = mul-le (row_first shape rows.component rows.end) (sample_size shape.depth) (sample_count shape) (sample_size shape.depth) (rows_end shape rows are inside) (omega arith)

pub rows_beyond : (shape : Shape) (component first row width size : ℕ) → width ≡ width_of shape component → size ≡ sample_size shape.depth → first ≤ row
    → row_first shape component first * sample_size shape.depth + (row - first) * width * size ≡ row_first shape component row * sample_size shape.depth
rows_beyond shape component first row width size wide one from =
    let both : (row_first shape component first + (row - first) * width_of shape component) * sample_size shape.depth ≡ row_first shape component first * sample_size shape.depth + (row - first) * width_of shape component * sample_size shape.depth = grind arith in
    ap (λ n. row_first shape component first * sample_size shape.depth + (row - first) * n * size) wide
    ∙ ap (λ n. row_first shape component first * sample_size shape.depth + (row - first) * width_of shape component * n) one
    ∙ sym both ∙ ap (λ n. n * sample_size shape.depth) (row_on shape component first row from)

-- a row lies among the bytes of the rows
pub row_among : (shape : Shape) (rows : RowRange) (row each start : ℕ) → rows.first ≤ row → row < rows.end → each ≡ width_of shape rows.component * sample_size shape.depth → start ≡ (row - rows.first) * width_of shape rows.component * sample_size shape.depth → start + each ≤ rows_size shape rows
row_among shape rows row each start from below is place =
    let w = width_of shape rows.component in
    let s = sample_size shape.depth in
    let most = mul-le (row - rows.first + 1) (w * s) (rows.end - rows.first) (w * s) (omega (arith, from, below)) (omega arith) in
    let one : (row - rows.first + 1) * (w * s) ≡ (row - rows.first) * (w * s) + w * s = grind arith in
    let all : (rows.end - rows.first) * w * s ≡ (rows.end - rows.first) * (w * s) = grind arith in
    let here : (row - rows.first) * w * s ≡ (row - rows.first) * (w * s) = grind arith in
    omega (arith, most, one, all, here, is, place)

-- Reading

take_front : (a b : ℕ) (l : List ℕ) → take a (take (a + b) l) ≡ take a l
take_front zero b l = refl
take_front (suc a) b [] = ap (take (suc a)) (take-nil (suc a + b))
take_front (suc a) b (x ∷ l) = let e : suc a + b ≡ suc (a + b) = omega arith in ap (λ n. take (suc a) (take n (x ∷ l))) e ∙ ap (λ l. x ∷ l) (take_front a b l)

take_inside : (a b c d : ℕ) (l : List ℕ) → b + a ≤ c → take a (drop b (take c (drop d l))) ≡ take a (drop (d + b) l)
take_inside a b c d l within =
    let back : b + (a + (c - b - a)) ≡ c = omega (arith, within) in
    ap (λ n. take a (drop b (take n (drop d l)))) (sym back) ∙ ap (take a) (drop-take b (a + (c - b - a)) (drop d l)) ∙ take_front a (c - b - a) (drop b (drop d l)) ∙ ap (take a) (drop-drop b d l)

pub part_of_rows : (shape : Shape) (rows : RowRange) (row each start : ℕ) (bytes whole : List ℕ) → IsDepth shape.depth → AreRowsOf shape rows bytes whole → rows.first ≤ row → row < rows.end
    → each ≡ width_of shape rows.component * sample_size shape.depth → start ≡ (row - rows.first) * width_of shape rows.component * sample_size shape.depth
    → samples_of shape.depth (take (start + each - start) (drop start bytes)) ≡ take (width_of shape rows.component) (drop (row_first shape rows.component row) (samples_of shape.depth whole))
part_of_rows shape rows row each start bytes whole known are from below is place =
    let w = width_of shape rows.component in
    let s = sample_size shape.depth in
    let k = row_first shape rows.component rows.first in
    let back : start + each - start ≡ each = omega arith in
    let at : k * s + start ≡ row_first shape rows.component row * s =
    ap (λ n. k * s + n) place ∙ rows_beyond shape rows.component rows.first row w s refl refl from in
    ap (λ n. samples_of shape.depth (take n (drop start bytes))) back ∙ ap (λ l. samples_of shape.depth (take each (drop start l))) are.part
    ∙ ap (samples_of shape.depth) (take_inside each start (rows_size shape rows) (k * s) whole (row_among shape rows row each start from below is place))
    ∙ ap (λ n. samples_of shape.depth (take n (drop (k * s + start) whole))) is ∙ ap (λ n. samples_of shape.depth (take (w * s) (drop n whole))) at
    ∙ samples_part shape.depth (row_first shape rows.component row) w whole known

-- a sample of a row lies among the first of them
pub column_few : (shape : Shape) (rows : RowRange) (row each start column : ℕ) (bytes : List ℕ) → IsShape shape → AreRows shape rows → rows.component < components_of shape.format → rows.first ≤ row → row < rows.end
    → each ≡ width_of shape rows.component * sample_size shape.depth → start ≡ (row - rows.first) * width_of shape rows.component * sample_size shape.depth → length bytes ≡ rows_size shape rows
    → first_deeper shape.depth (samples_of shape.depth (take (start + each - start) (drop start bytes))) ≡ Some column → row_first shape rows.component row * sample_size shape.depth + column * sample_size shape.depth < 2 ^ 28
column_few shape rows row each start column bytes shaped are inside from below is place size found =
    let w = width_of shape rows.component in
    let s = sample_size shape.depth in
    let k = row_first shape rows.component row in
    let part = take (start + each - start) (drop start bytes) in
    let long : length part ≡ w * s =
    length-take-le (start + each - start) (drop start bytes) (omega (arith, length-drop start bytes, size, row_among shape rows row each start from below is place)) ∙ omega (arith, is) in
    let inside_row : column < w = omega (arith, column_there shape.depth (samples_of shape.depth part) column found, length-samples shape.depth w part shaped.depth long) in
    let both : (k + column) * s ≡ k * s + column * s = grind arith in
    let most : k + column ≤ sample_count shape = omega (arith, inside_row, row_end shape rows.component row (row_of shape rows row are inside below)) in
    omega (arith, both, mul-le (k + column) s (sample_count shape) s most (omega arith), raw_few shape shaped)

-- Writing

pub record RowsDone (picture : Picture) (rows : RowRange) (row : ℕ) (bytes : List ℕ) : Type 0 where
  pub size : length bytes ≡ rows_size picture.shape rows
  pub written : take ((row - rows.first) * width_of picture.shape rows.component * sample_size picture.shape.depth) bytes
      ≡ flat_map (sample_bytes picture.shape.depth) (take ((row - rows.first) * width_of picture.shape rows.component) (drop (row_first picture.shape rows.component rows.first) picture.samples))

pub none_done : (picture : Picture) (rows : RowRange) (bytes : List ℕ) → length bytes ≡ rows_size picture.shape rows → RowsDone picture rows rows.first bytes
none_done picture rows bytes size =
    let w = width_of picture.shape rows.component in
    let s = sample_size picture.shape.depth in
    let f = sample_bytes picture.shape.depth in
    let from : rows.first - rows.first ≡ 0 = omega arith in
    let no_samples : 0 * w ≡ 0 = omega arith in
    let no_bytes : 0 * s ≡ 0 = omega arith in
    let none : (rows.first - rows.first) * w ≡ 0 = ap (λ n. n * w) from ∙ no_samples in
    record {
      size = size;
      written = ap (λ n. take (n * s) bytes) none ∙ ap (λ n. take n bytes) no_bytes ∙ sym (ap (λ n. flat_map f (take n (drop (row_first picture.shape rows.component rows.first) picture.samples))) none);
    }

pub one_done : (picture : Picture) (rows : RowRange) (row each start depth : ℕ) (old new samples : List ℕ) → IsPicture picture → AreRows picture.shape rows → rows.component < components_of picture.shape.format → rows.first ≤ row → row < rows.end
    → each ≡ width_of picture.shape rows.component * sample_size picture.shape.depth → depth ≡ picture.shape.depth → start ≡ (row - rows.first) * width_of picture.shape rows.component * sample_size picture.shape.depth → samples ≡ samples_of_row picture rows.component row
    → length samples ≡ width_of picture.shape rows.component → new ≡ put_at old start (flat_map (sample_bytes depth) samples) → RowsDone picture rows row old → RowsDone picture rows (row + 1) new
one_done picture rows row each start depth old new samples is are inside from below each_is deep place row_is wide put before =
    let shape = picture.shape in
    let f = sample_bytes shape.depth in
    let w = width_of shape rows.component in
    let s = sample_size shape.depth in
    let first = row_first shape rows.component rows.first in
    let k = (row - rows.first) * w in
    let at : start ≡ k * s = place in
    let inserted : new ≡ put_at old (k * s) (flat_map f samples) = put ∙ ap (λ n. put_at old n (flat_map (sample_bytes depth) samples)) at ∙ ap (λ d. put_at old (k * s) (flat_map (sample_bytes d) samples)) deep in
    let here : samples ≡ take w (drop k (drop first picture.samples)) =
    row_is ∙ ap (λ n. take w (drop n picture.samples)) (sym (row_on shape rows.component rows.first row from)) ∙ ap (take w) (sym (drop-drop k first picture.samples)) in
    let bytes = bytes_of_row shape.depth samples w is.shaped.depth wide in
    let end : k * s + w * s ≤ length old = omega (arith, row_among shape rows row each start from below each_is place, at, each_is, before.size) in
    let next : (row + 1 - rows.first) * w ≡ k + w = one (row + 1 - rows.first) (row - rows.first) w (omega (arith, from)) in
    record {
      size = length-put old new (flat_map f samples) (k * s) inserted (omega (arith, bytes, end)) ∙ before.size;
      written =
          ap (λ n. take (n * s) new) next ∙ write_more f old new (drop first picture.samples) samples k w s inserted here bytes (omega (arith, end)) before.written
          ∙ ap (λ n. flat_map f (take n (drop first picture.samples))) (sym next);
    }
  where
    one : (n m w : ℕ) → n ≡ m + 1 → n * w ≡ m * w + w
    one n m w e = let both : (m + 1) * w ≡ m * w + w = grind arith in ap (λ n. n * w) e ∙ both

pub all_done : (picture : Picture) (rows : RowRange) (row : ℕ) (bytes : List ℕ) → row ≡ rows.end → RowsDone picture rows row bytes → bytes ≡ rows_bytes picture rows
all_done picture rows row bytes last done =
    let all = subst (λ n. RowsDone picture rows n bytes) last done in
    sym (take_all (rows_size picture.shape rows) bytes (omega (arith, all.size))) ∙ all.written
