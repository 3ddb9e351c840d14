-- Samples that are drawn one after the other.
use Rattle.std.proofs.Common.{◌≡◌, ℕ, zero, suc, ◌+◌, ◌*◌, ◌<◌, ◌≤◌, List, [], ◌∷◌, ◌++◌, append-nil, append_assoc, length, length-append, take, drop, get_or, set, refl, sym, ap, ◌∙◌, arith}
use Rattle.std.specs.List.{flat_map}
use Rattle.std.proofs.Math.Nat.{mul_comm}
use Rattle.std.proofs.Math.Seq.{drop-cons, set-append_seam}
use Rattle.std.proofs.lemmas.List.{drop-drop, drop_all, drop_at, flat_map_more, length-take-le, take_at}
use Rattle.std.proofs.lemmas.List.FromFn.{length-map-range_with_len, map-range_with_len_more}
use Rattle.std.proofs.lemmas.List.Sums.{fold-append}
use Rattle.xs_lists.specs.Spelling.{upto}
use Rattle.xs_layout.specs.Geometry.{components_of}
use Rattle.xs_layout.specs.declared.Shape.{Shape}
use Rattle.xs_params.specs.Picture.{Picture, plane_first, plane_size, put_at, row_first, sample_count, width_of, with_sample}
use Rattle.xs_lists.proofs.Ranges.{range_cut}
use Rattle.xs_params.proofs.Areas.{next_first}
use Rattle.xs_trial.specs.Generator.{next_state, plane_places, row_places, sample_of, sample_places, samples_at, state_past, trial_picture}
use Rattle.xs_trial.specs.Steps.{planes_places, rows_places, with_drawn}

-- Parts of a list

front_size : (old xs : List ℕ) (first : ℕ) → first ≤ length old → length (take first old ++ xs) ≡ first + length xs
front_size old xs first inside = let size = length-take-le first old inside in length-append (take first old) xs ∙ omega (arith, size)

joined : (front xs ys back : List ℕ) → (front ++ xs) ++ ys ++ back ≡ (front ++ (xs ++ ys)) ++ back
joined front xs ys back = ap (λ l. l ++ back) (append_assoc front xs ys)

-- one more after a part
pub put_one : (old xs : List ℕ) (first x : ℕ) → first + length xs < length old → set (put_at old first xs) (first + length xs) x ≡ put_at old first (xs ++ x ∷ [])
put_one old xs first x inside =
    let n = first + length xs in
    let front = take first old ++ xs in
    let cut : drop n old ≡ get_or old n 0 ∷ drop (suc n) old = drop-cons old n 0 inside in
    let size : length front ≡ n = front_size old xs first (omega (arith, inside)) in
    let more : first + length (xs ++ x ∷ []) ≡ suc n = omega (arith, length-append xs (x ∷ [])) in
    ap (λ l. set (front ++ l) n x) cut ∙ ap (λ k. set (front ++ get_or old n 0 ∷ drop (suc n) old) k x) (sym size) ∙ set-append_seam front (get_or old n 0) (drop (suc n) old) x
    ∙ sym (append_assoc front (x ∷ []) (drop (suc n) old)) ∙ joined (take first old) xs (x ∷ []) (drop (suc n) old)
    ∙ ap (λ k. take first old ++ (xs ++ x ∷ []) ++ drop k old) (sym more)

-- a part after a part
pub put_more : (old xs ys : List ℕ) (first : ℕ) → first + length xs ≤ length old → put_at (put_at old first xs) (first + length xs) ys ≡ put_at old first (xs ++ ys)
put_more old xs ys first inside =
    let n = first + length xs in
    let front = take first old ++ xs in
    let rest = drop n old in
    let size : length front ≡ n = front_size old xs first (omega (arith, inside)) in
    let more : n + length ys ≡ first + length (xs ++ ys) = omega (arith, length-append xs ys) in
    let begun : take n (front ++ rest) ≡ front = take_at front rest n size in
    let left : drop (n + length ys) (front ++ rest) ≡ drop (n + length ys) old =
    sym (drop-drop (length ys) n (front ++ rest)) ∙ ap (drop (length ys)) (drop_at front rest n size) ∙ drop-drop (length ys) n old in
    ap (λ l. l ++ ys ++ drop (n + length ys) (front ++ rest)) begun ∙ ap (λ l. front ++ ys ++ l) left ∙ joined (take first old) xs ys (drop (n + length ys) old)
    ∙ ap (λ k. take first old ++ (xs ++ ys) ++ drop k old) more

-- all of a list
pub put_all : (old xs : List ℕ) → length xs ≡ length old → put_at old 0 xs ≡ xs
put_all old xs same = ap (λ l. xs ++ l) (drop_all (0 + length xs) old (omega (arith, same))) ∙ append-nil xs

-- Samples

pub samples_more : (depth : ℕ) (places more : List (ℕ × ℕ)) (state : ℕ) → samples_at depth (places ++ more) state ≡ samples_at depth places state ++ samples_at depth more (state_past places state)
samples_more depth [] more state = refl
samples_more depth (place ∷ places) more state = ap (λ l. sample_of depth place (next_state state) ∷ l) (samples_more depth places more (next_state state))

pub length-samples : (depth : ℕ) (places : List (ℕ × ℕ)) (state : ℕ) → length (samples_at depth places state) ≡ length places
length-samples depth [] state = refl
length-samples depth (place ∷ places) state = ap suc (length-samples depth places (next_state state))

pub state_more : (places more : List (ℕ × ℕ)) (state : ℕ) → state_past (places ++ more) state ≡ state_past more (state_past places state)
state_more places more state = fold-append (λ state place. next_state state) state places more

-- Pictures

-- more places are drawn after others
pub drawn_more : (picture : Picture) (first next : ℕ) (places more : List (ℕ × ℕ)) (state : ℕ) → next ≡ first + length places → next ≤ length picture.samples
    → with_drawn (with_drawn picture first places state) next more (state_past places state) ≡ with_drawn picture first (places ++ more) state
drawn_more picture first next places more state at inside =
    let depth = picture.shape.depth in
    let drawn = samples_at depth places state in
    let others = samples_at depth more (state_past places state) in
    let begin : next ≡ first + length drawn = omega (arith, at, length-samples depth places state) in
    ap (λ l. record { shape = picture.shape; samples = l })
    (ap (λ n. put_at (put_at picture.samples first drawn) n others) begin ∙ put_more picture.samples drawn others first (omega (arith, begin, inside))
    ∙ ap (put_at picture.samples first) (sym (samples_more depth places more state)))

-- one more sample is set
pub drawn_one : (picture : Picture) (component row column : ℕ) (places : List (ℕ × ℕ)) (state : ℕ) → length places ≡ column → row_first picture.shape component row + column < length picture.samples
    → with_sample (with_drawn picture (row_first picture.shape component row) places state) component row column (sample_of picture.shape.depth (row, column) (next_state (state_past places state)))
    ≡ with_drawn picture (row_first picture.shape component row) (places ++ (row, column) ∷ []) state
drawn_one picture component row column places state size inside =
    let depth = picture.shape.depth in
    let first = row_first picture.shape component row in
    let drawn = samples_at depth places state in
    let sample = sample_of depth (row, column) (next_state (state_past places state)) in
    let begin : first + column ≡ first + length drawn = omega (arith, size, length-samples depth places state) in
    ap (λ l. record { shape = picture.shape; samples = l })
    (ap (λ n. set (put_at picture.samples first drawn) n sample) begin ∙ put_one picture.samples drawn first sample (omega (arith, begin, inside))
    ∙ ap (put_at picture.samples first) (sym (samples_more depth places ((row, column) ∷ []) state)))

-- Places

pub row_more : (width row : ℕ) → row_places (width + 1) row ≡ row_places width row ++ (row, width) ∷ []
row_more width row = map-range_with_len_more (λ column. (row, column)) 0 width width (omega arith)

pub length-row : (width row : ℕ) → length (row_places width row) ≡ width
length-row width row = length-map-range_with_len (λ column. (row, column)) 0 width

pub upto_more : (n : ℕ) → upto (n + 1) ≡ upto n ++ n ∷ []
upto_more n = let e : 0 + n ≡ n = omega arith in range_cut 0 n 1 ∙ ap (λ k. upto n ++ k ∷ []) e

more_of : (f : ℕ → List (ℕ × ℕ)) (n : ℕ) → flat_map f (upto (n + 1)) ≡ flat_map f (upto n) ++ f n
more_of f n = ap (flat_map f) (upto_more n) ∙ sym (flat_map_more f [] (upto n) n)

pub rows_more : (width rows : ℕ) → rows_places width (rows + 1) ≡ rows_places width rows ++ row_places width rows
rows_more width rows = more_of (row_places width) rows

pub length-rows : (width rows : ℕ) → length (rows_places width rows) ≡ rows * width
length-rows width zero = omega arith
length-rows width (suc rows) =
    let one : suc rows ≡ rows + 1 = omega arith in
    let before = length-rows width rows in
    let row = length-row width rows in
    let area : suc rows * width ≡ rows * width + width = grind arith in
    ap (λ n. length (rows_places width n)) one ∙ ap length (rows_more width rows) ∙ length-append (rows_places width rows) (row_places width rows) ∙ omega (arith, before, row, area)

pub planes_more : (shape : Shape) (components : ℕ) → planes_places shape (components + 1) ≡ planes_places shape components ++ plane_places shape components
planes_more shape components = more_of (plane_places shape) components

pub length-planes : (shape : Shape) (components : ℕ) → length (planes_places shape components) ≡ plane_first shape components
length-planes shape zero = refl
length-planes shape (suc components) =
    let one : suc components ≡ components + 1 = omega arith in
    let before = length-planes shape components in
    let plane = length-rows (width_of shape components) shape.height in
    let area : shape.height * width_of shape components ≡ plane_size shape components = mul_comm shape.height (width_of shape components) in
    let next = next_first shape components in
    ap (λ n. length (planes_places shape n)) one ∙ ap length (planes_more shape components) ∙ length-append (planes_places shape components) (plane_places shape components)
    ∙ omega (arith, before, plane, area, next)

-- all is drawn
pub drawn_all : (picture : Picture) (shape : Shape) (seed : ℕ) → picture.shape ≡ shape → length picture.samples ≡ sample_count shape
    → with_drawn picture 0 (sample_places shape) seed ≡ trial_picture shape seed
drawn_all picture shape seed same size =
    let samples = samples_at picture.shape.depth (sample_places shape) seed in
    let count = length-samples picture.shape.depth (sample_places shape) seed in
    let places = length-planes shape (components_of shape.format) in
    ap (λ l. record { shape = picture.shape; samples = l }) (put_all picture.samples samples (count ∙ places ∙ sym size))
    ∙ ap (λ (s : Shape). record { shape = s; samples = samples_at s.depth (sample_places shape) seed }) same
