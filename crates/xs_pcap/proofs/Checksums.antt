-- The checksum of a header.
use Rattle.std.proofs.Common.{◌≡◌, ℕ, ◌+◌, ◌-◌, ◌*◌, ◌/◌, ◌^◌, ◌<◌, ◌≤◌, List, [], ◌∷◌, map, sym, ap, ◌∙◌, arith}
use Rattle.std.specs.List.{AllByRecursion, fold}
use Rattle.std.specs.Int.{to_be_bytes, from_be_bytes, w16}
use Rattle.std.proofs.lemmas.List.FromFn.{map-range_with_len_more}
use Rattle.std.proofs.lemmas.List.Sums.{fold-append}
use Rattle.std.proofs.lemmas.Nat.{from_be_bytes-to_be_bytes_2}
use Rattle.xs_lists.specs.Fields.{half_word_at}
use Rattle.xs_lists.specs.Spelling.{upto}
use Rattle.xs_pcap.specs.Numbers.{ones_add, ones_sum}
use Rattle.xs_pcap.specs.Wrapped.{ipv4_checksum, ipv4_with}
use Rattle.xs_pcap.specs.Laws.{ChecksumIsGood}

-- the sum of one half word more
sum_more : (bytes : List ℕ) (n : ℕ) → fold ones_add 0 (map (λ k. half_word_at bytes (2 * k)) (upto (n + 1))) ≡ ones_add (fold ones_add 0 (map (λ k. half_word_at bytes (2 * k)) (upto n))) (half_word_at bytes (2 * n))
sum_more bytes n =
    ap (fold ones_add 0) (map-range_with_len_more (λ k. half_word_at bytes (2 * k)) 0 n n (omega arith))
    ∙ fold-append ones_add 0 (map (λ k. half_word_at bytes (2 * k)) (upto n)) (half_word_at bytes (2 * n) ∷ [])

-- the sum after one half word more
pub sum_step : (bytes : List ℕ) (n sum word now : ℕ) → sum ≡ fold ones_add 0 (map (λ k. half_word_at bytes (2 * k)) (upto n)) → word ≡ half_word_at bytes (2 * n) → now ≡ ones_add sum word
    → now ≡ fold ones_add 0 (map (λ k. half_word_at bytes (2 * k)) (upto (n + 1)))
sum_step bytes n sum word now was is step = step ∙ ap (λ s. ones_add s word) was ∙ ap (ones_add (fold ones_add 0 (map (λ k. half_word_at bytes (2 * k)) (upto n)))) is ∙ sym (sum_more bytes n)

-- A sum that is not 0 is what is added modulo 65535, from 1 on.

record IsSum (plain whole : ℕ) : Type 0 where
  pub turns : ℕ
  pub same : whole + 65535 * turns ≡ plain
  pub least : 1 ≤ whole
  pub most : whole ≤ 65535

one_added : (a b plain : ℕ) → IsSum plain a → b ≤ 65535 → IsSum (plain + b) (ones_add a b)
one_added a b plain s small =
    let least = s.least in
    let most = s.most in
    record {
      turns = s.turns + (a + b) / 2 ^ 16;
      same = omega (arith, s.same);
      least = omega (arith, least);
      most = omega (arith, most, small);
    }

abbrev plain_sum : ℕ → List ℕ → ℕ
plain_sum start [] = start
plain_sum start (x ∷ xs) = plain_sum (start + x) xs

all_added : (a plain : ℕ) (xs : List ℕ) → IsSum plain a → AllByRecursion (λ x. x ≤ 65535) xs → IsSum (plain_sum plain xs) (fold ones_add a xs)
all_added a plain [] s small = s
all_added a plain (x ∷ xs) s small = all_added (ones_add a x) (plain + x) xs (one_added a x plain s small.0) small.1

-- the half words of a header
abbrev later_words : ℕ → ℕ → List ℕ
later_words total checksum = total ∷ 0 ∷ 16384 ∷ 16401 ∷ checksum ∷ 49152 ∷ 513 ∷ 49152 ∷ 514 ∷ []

abbrev header_words : ℕ → ℕ → List ℕ
header_words total checksum = 17664 ∷ later_words total checksum

sum_of_words : (total checksum : ℕ) → total < 2 ^ 16 → checksum < 2 ^ 16 → ones_sum (ipv4_with total checksum) ≡ fold ones_add 0 (header_words total checksum)
sum_of_words total checksum t c =
    ap (λ n. fold ones_add 0 (17664 ∷ n ∷ 0 ∷ 16384 ∷ 16401 ∷ from_be_bytes w16 (to_be_bytes w16 checksum) ∷ 49152 ∷ 513 ∷ 49152 ∷ 514 ∷ [])) (from_be_bytes-to_be_bytes_2 total t)
    ∙ ap (λ n. fold ones_add 0 (header_words total n)) (from_be_bytes-to_be_bytes_2 checksum c)

header_sum : (total checksum : ℕ) → total < 2 ^ 16 → checksum < 2 ^ 16 → IsSum (plain_sum 17664 (later_words total checksum)) (fold ones_add 0 (header_words total checksum))
header_sum total checksum t c =
    all_added 17664 17664 (later_words total checksum) (record { turns = 0; same = omega arith; least = omega arith; most = omega arith })
    (omega (arith, t), (omega arith, (omega arith, (omega arith, (omega (arith, c), (omega arith, (omega arith, (omega arith, (omega arith, tt)))))))))

plain_more : (total checksum : ℕ) → plain_sum 17664 (later_words total checksum) ≡ plain_sum 17664 (later_words total 0) + checksum
plain_more total checksum = omega arith

below : (n : ℕ) → 2 ^ 16 - 1 - n < 2 ^ 16
below n = omega arith

-- what is added to a sum to make it a multiple of 65535
completed : (p q whole other checksum : ℕ) → IsSum p whole → IsSum q other → q ≡ p + checksum → checksum ≡ 2 ^ 16 - 1 - whole → other ≡ 2 ^ 16 - 1
completed p q whole other checksum a b more is = omega (arith, a.same, a.least, a.most, b.same, b.least, b.most, more, is)

zero_below : 0 < 2 ^ 16
zero_below = omega arith

checksum_below : (total : ℕ) → ipv4_checksum total < 2 ^ 16
unfolding ipv4_checksum
checksum_below total = below (ones_sum (ipv4_with total 0))

checksum_is : (total : ℕ) → total < 2 ^ 16 → ipv4_checksum total ≡ 2 ^ 16 - 1 - fold ones_add 0 (header_words total 0)
unfolding ipv4_checksum
checksum_is total small = ap (λ n. 2 ^ 16 - 1 - n) (sum_of_words total 0 small zero_below)

pub checksum_is_good : ChecksumIsGood
checksum_is_good total small =
    let fits = checksum_below total in
    sum_of_words total (ipv4_checksum total) small fits
    ∙ completed (plain_sum 17664 (later_words total 0)) (plain_sum 17664 (later_words total (ipv4_checksum total))) (fold ones_add 0 (header_words total 0)) (fold ones_add 0 (header_words total (ipv4_checksum total))) (ipv4_checksum total)
    (header_sum total 0 small zero_below) (header_sum total (ipv4_checksum total) small fits) (plain_more total (ipv4_checksum total)) (checksum_is total small)
