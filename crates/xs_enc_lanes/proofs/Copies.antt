-- Numbers that are put one after the other in the place of others.
use Rattle.std.proofs.Common.{◌≡◌, ℕ, ◌+◌, ◌<◌, List, length, map, get_or, set, ℤ, pos, refl, ◌∙◌, arith}
use Rattle.std.proofs.lemmas.List.{ext_get_or}
use Rattle.std.proofs.lemmas.List.FromFn.{length-map-range_with_len, get_or-map-range_with_len}
use Rattle.xs_lists.specs.Spelling.{upto}
use Rattle.xs_lists.proofs.Puts.{put_end, put_more, put_to}

-- the first k are these, the others as they were
abbrev pub copied_to : List ℤ → List ℤ → ℕ → List ℤ
copied_to numbers old k = put_to (λ column. get_or numbers column (pos 0)) old k

pub copy_more : (numbers old into : List ℤ) (k : ℕ) → k < length numbers → length old ≡ length numbers → into ≡ copied_to numbers old k → set into k (get_or numbers k (pos 0)) ≡ copied_to numbers old (k + 1)
copy_more numbers old into k inside same before = put_more (λ column. get_or numbers column (pos 0)) old into k (get_or numbers k (pos 0)) (omega (arith, inside, same)) before refl

pub copy_all : (numbers old into : List ℤ) (k : ℕ) → k ≡ length numbers → length old ≡ length numbers → into ≡ copied_to numbers old k → into ≡ numbers
copy_all numbers old into k all same before = put_end f old into k n same all before ∙ ext_get_or (pos 0) (map f (upto n)) numbers (length-map-range_with_len f 0 n) each
  where
    n : ℕ
    n = length numbers

    f : ℕ → ℤ
    f column = get_or numbers column (pos 0)

    each : (k : ℕ) → k < length (map f (upto n)) → get_or (map f (upto n)) k (pos 0) ≡ get_or numbers k (pos 0)
    each k inside =
        let count = length-map-range_with_len f 0 n in
        get_or-map-range_with_len f 0 n k k (pos 0) (omega (arith, inside, count)) (omega arith)
