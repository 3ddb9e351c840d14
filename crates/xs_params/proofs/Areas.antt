-- Where the rows and the places of a picture lie.
use Rattle.std.proofs.Common.{◌≡◌, ℕ, zero, suc, ◌+◌, ◌-◌, ◌*◌, ◌^◌, ◌<◌, ◌≤◌, List, [], ◌∷◌, ◌++◌, map, length, get_or, take, drop, sym, ap, ◌∙◌, arith, length-append, inl, inr}
use Rattle.std.specs.Prelude.{sum_by}
use Rattle.std.proofs.Math.Nat.{mul_comm}
use Rattle.std.proofs.lemmas.Nat.{mul-le}
use Rattle.std.proofs.lemmas.List.{map-id, length-take, length-drop, take_at, get_or-take, get_or-drop}
use Rattle.std.proofs.lemmas.List.Elements.{All-same, All-append, All-take, All-drop}
use Rattle.std.proofs.lemmas.List.Sums.{sum_by_push}
use Rattle.std.proofs.lemmas.List.FromFn.{map-range_with_len_more}
use Rattle.xs_lists.specs.Spelling.{upto}
use Rattle.xs_layout.specs.declared.Format.{Format}
use Rattle.xs_layout.specs.declared.Format.TheVariants.{Mono, C422, C444}
use Rattle.xs_layout.specs.declared.Shape.{Shape}
use Rattle.xs_layout.specs.Geometry.{ceil_div, components_of, component_width_of}
use Rattle.xs_params.specs.Picture.{RowsApart, IsShape, IsRow, IsPlace, IsPicture, AreSamples, Picture, sample_at, samples_of_row, width_of, plane_size, plane_first, row_first, sample_count}

upto_more : (n : ℕ) → upto (suc n) ≡ upto n ++ n ∷ []
upto_more n =
    let one : n + 1 ≡ suc n = omega arith in
    sym (map-id (upto (suc n))) ∙ ap (λ k. map (λ (x : ℕ). x) (upto k)) (sym one) ∙ map-range_with_len_more (λ (x : ℕ). x) 0 n n (omega arith)
    ∙ ap (λ l. l ++ n ∷ []) (map-id (upto n))

-- a component's samples lie before those of the next one
pub next_first : (shape : Shape) (component : ℕ) → plane_first shape (suc component) ≡ plane_first shape component + plane_size shape component
next_first shape component = ap (λ l. sum_by (plane_size shape) l) (upto_more component) ∙ sum_by_push (plane_size shape) (upto component) component

pub first_grows : (shape : Shape) (component more : ℕ) → plane_first shape component ≤ plane_first shape (component + more)
first_grows shape component zero = let e : component + zero ≡ component = omega arith in omega (arith, ap (plane_first shape) e)
first_grows shape component (suc more) =
    let e : component + suc more ≡ suc (component + more) = omega arith in
    omega (arith, ap (plane_first shape) e, next_first shape (component + more), first_grows shape component more)

pub first_below : (shape : Shape) (component other : ℕ) → component < other → plane_first shape component + plane_size shape component ≤ plane_first shape other
first_below shape component other p =
    let e : suc component + (other - suc component) ≡ other = omega (arith, p) in
    omega (arith, next_first shape component, first_grows shape (suc component) (other - suc component), ap (plane_first shape) e)

-- a row ends where the next one begins
row_more : (shape : Shape) (component row : ℕ) → row_first shape component (suc row) ≡ row_first shape component row + width_of shape component
row_more shape component row = let one : suc row * width_of shape component ≡ row * width_of shape component + width_of shape component = grind arith in omega (arith, one)

-- each row lies in its component
row_in_plane : (shape : Shape) (component row : ℕ) → row < shape.height → row_first shape component row + width_of shape component ≤ plane_first shape component + plane_size shape component
row_in_plane shape component row there =
    let rows : suc row * width_of shape component ≤ shape.height * width_of shape component = mul-le (suc row) (width_of shape component) shape.height (width_of shape component) there (omega arith) in
    omega (arith, row_more shape component row, rows, mul_comm shape.height (width_of shape component))

-- and among the samples
pub row_end : (shape : Shape) (component row : ℕ) → IsRow shape component row → row_first shape component row + width_of shape component ≤ sample_count shape
row_end shape component row there =
    omega (arith, first_below shape component (components_of shape.format) there.component_there, row_in_plane shape component row there.row_there)

pub rows_apart : RowsApart
rows_apart shape component row other later there beyond (inl before) =
    omega (arith, first_below shape component other before, row_in_plane shape component row there.row_there)
rows_apart shape component row other later there beyond (inr (same, before)) =
    let rows : suc row * width_of shape component ≤ later * width_of shape component = mul-le (suc row) (width_of shape component) later (width_of shape component) before (omega arith) in
    let here : row_first shape component later ≡ row_first shape other later = ap (λ c. row_first shape c later) same in
    omega (arith, row_more shape component row, rows, here)

-- Widths

luma : (w : ℕ) → ceil_div w 1 ≡ w
luma w = omega arith

chroma : (w : ℕ) → ceil_div w 2 ≤ w
chroma w = omega arith

-- where the components begin, as a product
pub first_is : (f : Format) (width height component : ℕ) → 0 < component → component ≤ components_of f
    → sum_by (λ k. component_width_of f width k * height) (upto component) ≡ (width + (component - 1) * component_width_of f width 1) * height
first_is f width height zero p q = absurd (omega (arith, p))
first_is Mono width height (suc zero) p q = grind (arith, luma width)
first_is Mono width height (suc (suc component)) p q = absurd (omega (arith, q))
first_is C422 width height (suc zero) p q = grind (arith, luma width)
first_is C422 width height (suc (suc zero)) p q = grind (arith, luma width)
first_is C422 width height (suc (suc (suc zero))) p q = grind (arith, luma width)
first_is C422 width height (suc (suc (suc (suc component)))) p q = absurd (omega (arith, q))
first_is C444 width height (suc zero) p q = grind (arith, luma width)
first_is C444 width height (suc (suc zero)) p q = grind (arith, luma width)
first_is C444 width height (suc (suc (suc zero))) p q = grind (arith, luma width)
first_is C444 width height (suc (suc (suc (suc component)))) p q = absurd (omega (arith, q))

-- there are at most three times as many samples as the area
pub count_most : (shape : Shape) → IsShape shape → sample_count shape ≤ 3 * 2 ^ 24
count_most shape accepted = most shape.format shape.width shape.height accepted.area
  where
    most : (f : Format) (w h : ℕ) → w * h ≤ 2 ^ 24 → sum_by (λ k. component_width_of f w k * h) (upto (components_of f)) ≤ 3 * 2 ^ 24
    most Mono w h area = let e : ceil_div w 1 * h ≡ w * h = ap (λ x. x * h) (luma w) in omega (arith, e, area)
    most C422 w h area =
        let e : ceil_div w 1 * h ≡ w * h = ap (λ x. x * h) (luma w) in
        let half : ceil_div w 2 * h ≤ w * h = mul-le (ceil_div w 2) h w h (chroma w) (omega arith) in
        omega (arith, e, half, area)
    most C444 w h area = let e : ceil_div w 1 * h ≡ w * h = ap (λ x. x * h) (luma w) in omega (arith, e, area)

-- and so does each place
pub place_in : (shape : Shape) (component row column : ℕ) → IsPlace shape component row column → row_first shape component row + column < sample_count shape
place_in shape component row column there = omega (arith, row_end shape component row there.row_there, there.column_there)

-- a picture stays one where a part of its samples is replaced
pub picture_kept : (shape : Shape) (old part new : List ℕ) (first len : ℕ) → IsPicture (record { shape = shape; samples = old }) → AreSamples shape.depth part
    → first + length part ≤ length old → length old ≡ len → new ≡ take first old ++ part ++ drop (first + length part) old
    → IsPicture (record { shape = shape; samples = take len (new ++ drop (length new) old) })
picture_kept shape old part new first len before small inside size after =
    let head = length-take first old in
    let tail = length-drop (first + length part) old in
    let whole : length new ≡ length old =
    ap length after ∙ length-append (take first old ++ part) (drop (first + length part) old) ∙ ap (λ n. n + length (drop (first + length part) old)) (length-append (take first old) part)
    ∙ omega (arith, head, tail, inside) in
    let same : take len (new ++ drop (length new) old) ≡ new = take_at new (drop (length new) old) len (whole ∙ size) in
    record {
      shaped = before.shaped;
      size = ap length same ∙ whole ∙ before.size;
      small =
          All-same (λ x. x < 2 ^ shape.depth) (take len (new ++ drop (length new) old)) (take first old ++ part ++ drop (first + length part) old) (same ∙ after)
          (All-append (λ x. x < 2 ^ shape.depth) (take first old ++ part) (drop (first + length part) old)
          (All-append (λ x. x < 2 ^ shape.depth) (take first old) part (All-take (λ x. x < 2 ^ shape.depth) first old before.small) small)
          (All-drop (λ x. x < 2 ^ shape.depth) (first + length part) old before.small));
    }

-- a sample by its place in the row
pub row_sample : (picture : Picture) (component row column : ℕ) → column < width_of picture.shape component
    → get_or (samples_of_row picture component row) column 0 ≡ sample_at picture component row column
row_sample picture component row column inside =
    get_or-take (width_of picture.shape component) (drop (row_first picture.shape component row) picture.samples) column 0 inside
    ∙ get_or-drop (row_first picture.shape component row) picture.samples column 0
