-- The raw bytes of a picture are given to a sink, from the front on.
use Rattle.std.proofs.Common.{◌≡◌, ℕ, ◌+◌, ◌-◌, ◌*◌, ◌<◌, ◌≤◌, ◌++◌, List, take, drop, Option, Err, sym, ap, subst, ◌∙◌, arith}
use Rattle.std.specs.List.{flat_map}
use Rattle.std.specs.Io.KnownBytes.{Appends}
use Rattle.std.proofs.KnownBytes.{Appends-trans}
use Rattle.std.proofs.Math.Seq.{take-add}
use Rattle.std.proofs.lemmas.Grind.{flat_map-append}
use Rattle.std.proofs.lemmas.List.{take-append-drop, take_all}
use Rattle.std.proofs.lemmas.Nat.{mul-le}
use Rattle.xs_params.specs.Picture.{IsPicture, Picture, raw_bytes, row_first, sample_bytes, sample_count, width_of}
use Rattle.xs_samples.specs.declared.rows.RowRange.{RowRange}
use Rattle.xs_samples.specs.Rows.{rows_bytes}
use Rattle.xs_samples.proofs.RowRanges.{row_on}
use Rattle.xs_endings.specs.declared.stop.Stop.{Stop}
use Rattle.xs_endings.specs.declared.stop.Stop.TheVariants as stop
use Rattle.xs_endings.specs.Ends.{GotFront, change_of}
use Rattle.xs_endings.specs.Steps.{IsGiven}
use Rattle.xs_endings.proofs.Changes.{front_of_all, front_of_more, got_then_front, rose_after}

-- the raw bytes of so many first samples
abbrev pub raw_front : Picture → ℕ → List ℕ
raw_front picture count = flat_map (sample_bytes picture.shape.depth) (take count picture.samples)

front_and_rest : (picture : Picture) (count : ℕ) → raw_front picture count ++ flat_map (sample_bytes picture.shape.depth) (drop count picture.samples) ≡ raw_bytes picture
front_and_rest picture count =
    let f = sample_bytes picture.shape.depth in
    sym (flat_map-append f (take count picture.samples) (drop count picture.samples)) ∙ ap (flat_map f) (take-append-drop count picture.samples)

front_more : (picture : Picture) (rows : RowRange) → rows.first ≤ rows.end
    → raw_front picture (row_first picture.shape rows.component rows.first) ++ rows_bytes picture rows ≡ raw_front picture (row_first picture.shape rows.component rows.end)
front_more picture rows from =
    let f = sample_bytes picture.shape.depth in
    let k = row_first picture.shape rows.component rows.first in
    let n = (rows.end - rows.first) * width_of picture.shape rows.component in
    sym (flat_map-append f (take k picture.samples) (take n (drop k picture.samples))) ∙ ap (flat_map f) (sym (take-add k n picture.samples)) ∙ ap (raw_front picture) (row_on picture.shape rows.component rows.first rows.end from)

pub given_more : (picture : Picture) (rows : RowRange) (next : ℕ) (a b c : Option (List ℕ)) → rows.first < rows.end → next ≡ row_first picture.shape rows.component rows.end
    → Appends a b (raw_front picture (row_first picture.shape rows.component rows.first)) → Appends b c (rows_bytes picture rows) → Appends a c (raw_front picture next)
given_more picture rows next a b c some place before more =
    subst (Appends a c) (front_more picture rows (omega (arith, some)) ∙ ap (raw_front picture) (sym place)) (Appends-trans a b c _ _ before more)

pub given_all : (picture : Picture) (count : ℕ) (a b : Option (List ℕ)) → IsPicture picture → count ≡ sample_count picture.shape → Appends a b (raw_front picture count) → Appends a b (raw_bytes picture)
given_all picture count a b is all given = subst (Appends a b) (ap (flat_map (sample_bytes picture.shape.depth)) (take_all count picture.samples (omega (arith, is.size, all)))) given

-- memory was wanting for the rows
pub given_short : {T : Type 0} (picture : Picture) (count : ℕ) (a b : Option (List ℕ)) (f g : ℕ) → Appends a b (raw_front picture count) → f ≤ g → IsGiven {T = T} (change_of a b f g) (raw_bytes picture) (Err stop.Memory)
given_short picture count a b f g given later =
    record {
      whole = tt;
      front = subst (GotFront (change_of a b f g)) (front_and_rest picture count) (front_of_more (change_of a b f g) (raw_front picture count) _ (front_of_all (change_of a b f g) (raw_front picture count) given));
      why = tt;
      failed = λ e. absurd (cc);
      later = later;
    }

-- the rows were not given whole
pub given_cut : {T : Type 0} (picture : Picture) (rows : RowRange) (a b c : Option (List ℕ)) (f g h : ℕ) (why : Stop) → rows.first < rows.end → Appends a b (raw_front picture (row_first picture.shape rows.component rows.first)) → f ≤ g
    → IsGiven {T = T} (change_of b c g h) (rows_bytes picture rows) (Err why) → IsGiven {T = T} (change_of a c f h) (raw_bytes picture) (Err why)
given_cut picture rows a b c f g h why some given later cut =
    let front = got_then_front a b c f g h _ _ given cut.front in
    let sink = change_of a c f h in
    let next = row_first picture.shape rows.component rows.end in
    let front' = subst (GotFront sink) (front_more picture rows (omega (arith, some))) front in
    record {
      whole = tt;
      front = subst (GotFront sink) (front_and_rest picture next) (front_of_more sink (raw_front picture next) _ front');
      why = cut.why;
      failed = λ e. rose_after f g h later (cut.failed e);
      later = omega (arith, later, cut.later);
    }

-- Lines: the rows of all components, one after the other

pub line_below : (components component first height : ℕ) → component < components → first < height → component * height + first < components * height
line_below components component first height inside there =
    let most = mul-le (component + 1) height components height (omega (arith, inside)) (omega arith) in
    let one : (component + 1) * height ≡ component * height + height = grind arith in
    omega (arith, most, one, there)
