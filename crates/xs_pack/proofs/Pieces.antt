-- The pieces of a unit join to it, and how many they are.
use Rattle.std.proofs.Common.{◌≡◌, ℕ, zero, suc, ◌+◌, ◌-◌, ◌*◌, ◌/◌, ◌<◌, ◌≤◌, List, [], ◌∷◌, ◌++◌, length, take, drop, refl, sym, ap, ◌∙◌, arith}
use Rattle.std.specs.List.{flat_map, range_with_len}
use Rattle.std.proofs.Math.Nat.{suc-mul, lt-div-mul-add, div-lt_iff_lt-mul}
use Rattle.std.proofs.Math.Seq.{take-add}
use Rattle.std.proofs.lemmas.List.{take_all}
use Rattle.xs_pack.specs.Datagrams.{piece_of, piece_count}
use Rattle.xs_pack.specs.Laws.{PiecesJoin}

drop_more : (m n : ℕ) (l : List ℕ) → drop n (drop m l) ≡ drop (m + n) l
drop_more zero n l = let e : 0 + n ≡ n = omega arith in ap (λ k. drop k l) (sym e)
drop_more (suc m) n [] = no_more n (suc m + n)
  where
    no_more : (a b : ℕ) → drop {A = ℕ} a [] ≡ drop {A = ℕ} b []
    no_more zero zero = refl
    no_more zero (suc b) = refl
    no_more (suc a) zero = refl
    no_more (suc a) (suc b) = refl
drop_more (suc m) n (x ∷ l) = let e : suc m + n ≡ suc (m + n) = omega arith in drop_more m n l ∙ ap (λ k. drop k (x ∷ l)) (sym e)

joined : (chunk : ℕ) (bytes : List ℕ) (n a : ℕ) → flat_map (piece_of chunk bytes) (range_with_len a n) ≡ take (n * chunk) (drop (a * chunk) bytes)
joined chunk bytes zero a = let e : 0 * chunk ≡ 0 = omega arith in ap (λ k. take k (drop (a * chunk) bytes)) (sym e)
joined chunk bytes (suc n) a =
    let one : a + 1 ≡ suc a = omega arith in
    let next : (a + 1) * chunk ≡ a * chunk + chunk = ap (λ k. k * chunk) one ∙ suc-mul a chunk in
    let count : chunk + n * chunk ≡ suc n * chunk = omega (arith, suc-mul n chunk) in
    ap (λ l. piece_of chunk bytes a ++ l) (joined chunk bytes n (a + 1))
    ∙ ap (λ k. piece_of chunk bytes a ++ take (n * chunk) (drop k bytes)) next
    ∙ ap (λ l. piece_of chunk bytes a ++ take (n * chunk) l) (sym (drop_more (a * chunk) chunk bytes))
    ∙ sym (take-add chunk (n * chunk) (drop (a * chunk) bytes))
    ∙ ap (λ k. take k (drop (a * chunk) bytes)) count

pub pieces_join : PiecesJoin
pieces_join chunk bytes some =
    let n = piece_count chunk bytes in
    let more : length bytes + chunk - 1 < n * chunk + chunk = lt-div-mul-add {a = length bytes + chunk - 1} {b = chunk} some in
    let none : 0 * chunk ≡ 0 = omega arith in
    joined chunk bytes (piece_count chunk bytes) 0 ∙ ap (λ k. take (piece_count chunk bytes * chunk) (drop k bytes)) none ∙ take_all (piece_count chunk bytes * chunk) bytes (omega (arith, more, some))

-- bytes have pieces, and no more than there are places
pub some_pieces : (chunk : ℕ) (bytes : List ℕ) → 1 ≤ chunk → 1 ≤ length bytes → 1 ≤ piece_count chunk bytes
some_pieces chunk bytes some bytes_there = at (piece_count chunk bytes) refl
  where
    at : (n : ℕ) → piece_count chunk bytes ≡ n → 1 ≤ piece_count chunk bytes
    at (suc n) e = omega (arith, e)
    at zero e =
        let few : (length bytes + chunk - 1) / chunk < 1 = omega (arith, e) in
        let less : length bytes + chunk - 1 < 1 * chunk = (div-lt_iff_lt-mul {k = chunk} {x = length bytes + chunk - 1} {y = 1} some).0 few in
        absurd (omega (arith, less, bytes_there))

pub few_pieces : (chunk : ℕ) (bytes : List ℕ) → 1 ≤ chunk → length bytes ≤ 512 * chunk → piece_count chunk bytes ≤ 512
few_pieces chunk bytes some short =
    let less : length bytes + chunk - 1 < 513 * chunk = omega (arith, some, short) in
    let below : (length bytes + chunk - 1) / chunk < 513 = (div-lt_iff_lt-mul {k = chunk} {x = length bytes + chunk - 1} {y = 513} some).1 less in
    omega (arith, below)
