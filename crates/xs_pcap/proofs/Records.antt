-- Records at the front of bytes.
use Rattle.std.proofs.Common.{◌≡◌, ℕ, zero, suc, ◌+◌, ◌*◌, ◌^◌, ◌<◌, ◌≤◌, List, [], ◌∷◌, ◌++◌, length, take, drop, Bool, true, false, refl, sym, ap, subst, ◌∙◌, arith, append_assoc, length-append}
use Rattle.std.specs.Prelude.{nat_lt, not, ◌&&◌, if◌then◌else◌}
use Rattle.std.proofs.Math.Seq.{take-add}
use Rattle.std.proofs.lemmas.Bool.{le-ltb, lt-ltb}
use Rattle.std.proofs.lemmas.List.{drop_at, drop-drop, length-take-le, take-append-drop}
use Rattle.xs_lists.specs.Packing.{AreBytes}
use Rattle.xs_lists.specs.Spelling.{SpellsEach}
use Rattle.xs_lists.proofs.Cut.{append_cut}
use Rattle.xs_lists.proofs.Each.{each-cons}
use Rattle.xs_pcap.specs.declared.numbers.Order.{Order}
use Rattle.xs_pcap.specs.Numbers.{word_bytes, word_of, ordered_word_at}
use Rattle.xs_pcap.specs.File.{after_records, has_record, IsRecord, record_size}
use Rattle.xs_pcap.proofs.Parts.{after_part, and_false, assoc_4, assoc_5, length_4, at_least, both_hold, drop_are, part_at, part_size, word_again, word_back, word_size, word_small}

-- the captured length that the record at the front states, and the captured bytes
abbrev pub stated : Order → List ℕ → ℕ
stated order bytes = ordered_word_at order bytes 8

abbrev pub captured_in : Order → List ℕ → List ℕ
captured_in order bytes = take (stated order bytes) (drop 16 bytes)

pub record_holds : (order : Order) (bytes : List ℕ) → 16 ≤ length bytes → record_size order bytes ≤ length bytes → has_record order bytes ≡ true
record_holds order bytes front whole =
    ap (λ t. not t && not (nat_lt (length bytes) (record_size order bytes))) (le-ltb (length bytes) 16 front) ∙ ap not (le-ltb (length bytes) (record_size order bytes) whole)

pub record_short : (order : Order) (bytes : List ℕ) → length bytes < 16 → has_record order bytes ≡ false
record_short order bytes short = ap (λ t. not t && not (nat_lt (length bytes) (record_size order bytes))) (lt-ltb (length bytes) 16 short)

pub record_long : (order : Order) (bytes : List ℕ) → length bytes < record_size order bytes → has_record order bytes ≡ false
record_long order bytes long = ap (λ t. not (nat_lt (length bytes) 16) && not t) (lt-ltb (length bytes) (record_size order bytes) long) ∙ and_false (not (nat_lt (length bytes) 16))

pub record_room : (order : Order) (bytes : List ℕ) → has_record order bytes ≡ true → (16 ≤ length bytes) × (record_size order bytes ≤ length bytes)
record_room order bytes has =
    let p = both_hold (not (nat_lt (length bytes) 16)) (not (nat_lt (length bytes) (record_size order bytes))) has in
    (at_least (length bytes) 16 p.0, at_least (length bytes) (record_size order bytes) p.1)

-- what stands at the front is a record
pub record_is : (order : Order) (bytes : List ℕ) → AreBytes bytes → has_record order bytes ≡ true → IsRecord order (captured_in order bytes) (take (record_size order bytes) bytes)
record_is order bytes all has =
    let room = record_room order bytes has in
    let size : length (captured_in order bytes) ≡ stated order bytes = part_size (stated order bytes) 16 bytes (omega (arith, room.1)) in
    let number : word_bytes order (length (captured_in order bytes)) ≡ take 4 (drop 8 bytes) = ap (word_bytes order) size ∙ word_back order bytes 8 all (omega (arith, room.0)) in
    let sum : record_size order bytes ≡ 8 + (4 + (4 + stated order bytes)) = omega arith in
    record {
      time = take 8 bytes;
      original = take 4 (drop 12 bytes);
      joined =
          ap (λ n. take n bytes) sum ∙ take-add 8 (4 + (4 + stated order bytes)) bytes
          ∙ ap (λ l. take 8 bytes ++ l) (take-add 4 (4 + stated order bytes) (drop 8 bytes)
          ∙ ap (λ l. take 4 (drop 8 bytes) ++ l) (ap (take (4 + stated order bytes)) (drop-drop 4 8 bytes) ∙ take-add 4 (stated order bytes) (drop 12 bytes)
          ∙ ap (λ l. take 4 (drop 12 bytes) ++ take (stated order bytes) l) (drop-drop 4 12 bytes)))
          ∙ ap (λ l. take 8 bytes ++ (l ++ (take 4 (drop 12 bytes) ++ captured_in order bytes))) (sym number)
          ∙ sym (assoc_4 (take 8 bytes) (word_bytes order (length (captured_in order bytes))) (take 4 (drop 12 bytes)) (captured_in order bytes));
      sizes = (length-take-le 8 bytes (omega (arith, room.0)), part_size 4 12 bytes (omega (arith, room.0)), subst (λ n. n < 2 ^ 32) (sym size) (word_small order bytes 8 all));
    }

-- a record that stands at the front is read
pub record record_as_read (order : Order) (captured bytes front : List ℕ) : Type 0 where
  pub has : has_record order bytes ≡ true
  pub size : record_size order bytes ≡ length front
  pub captured_is : captured_in order bytes ≡ captured

pub record_is_read : (order : Order) (captured front rest : List ℕ) → IsRecord order captured front → record_as_read order captured (front ++ rest) front
record_is_read order captured front rest r =
    let split : front ++ rest ≡ r.time ++ (word_bytes order (length captured) ++ (r.original ++ (captured ++ rest))) =
    ap (λ l. l ++ rest) r.joined ∙ assoc_5 r.time (word_bytes order (length captured)) r.original captured rest in
    let at_8 : drop 8 (front ++ rest) ≡ word_bytes order (length captured) ++ (r.original ++ (captured ++ rest)) = after_part 0 8 (front ++ rest) r.time _ split r.sizes.0 in
    let at_12 : drop 12 (front ++ rest) ≡ r.original ++ (captured ++ rest) = after_part 8 4 (front ++ rest) (word_bytes order (length captured)) _ at_8 (word_size order (length captured)) in
    let at_16 : drop 16 (front ++ rest) ≡ captured ++ rest = after_part 12 4 (front ++ rest) r.original _ at_12 r.sizes.1 in
    let states : stated order (front ++ rest) ≡ length captured =
    ap (word_of order) (part_at 8 4 (front ++ rest) (word_bytes order (length captured)) _ at_8 (word_size order (length captured))) ∙ word_again order (length captured) r.sizes.2 in
    let length_is : length front ≡ 16 + length captured =
    ap length r.joined ∙ length_4 r.time (word_bytes order (length captured)) r.original captured ∙ omega (arith, r.sizes.0, r.sizes.1, word_size order (length captured)) in
    let total : length (front ++ rest) ≡ length front + length rest = length-append front rest in
    record {
      has = record_holds order (front ++ rest) (omega (arith, total, length_is)) (omega (arith, total, length_is, states));
      size = omega (arith, states, length_is);
      captured_is = ap (λ n. take n (drop 16 (front ++ rest))) states ∙ part_at 16 (length captured) (front ++ rest) captured rest at_16 refl;
    }

pub record_length : (order : Order) (captured front : List ℕ) → IsRecord order captured front → 16 ≤ length front
record_length order captured front r =
    let size : length front ≡ length r.time + length (word_bytes order (length captured)) + length r.original + length captured = ap length r.joined ∙ length_4 r.time (word_bytes order (length captured)) r.original captured in
    omega (arith, size, r.sizes.0, r.sizes.1, word_size order (length captured))

-- Rows of records

pub few_records : (order : Order) (records : List (List ℕ)) (front : List ℕ) → SpellsEach (IsRecord order) records front → 16 * length records ≤ length front
few_records order [] front p = omega arith
few_records order (r ∷ rs) front p =
    omega (arith, ap length p.2, length-append p.0 p.1, record_length order r p.0 p.3, few_records order rs p.1 p.4)

none_left : (order : Order) (rest : List ℕ) (n : ℕ) → has_record order rest ≡ false → after_records n order rest ≡ rest
none_left order rest zero none = refl
none_left order rest (suc n) none = ap (λ (b : Bool). if b then after_records n order (drop (record_size order rest) rest) else rest) none

-- what is left after records where no whole one follows
pub after_all : (order : Order) (records : List (List ℕ)) (front rest : List ℕ) (n : ℕ) → SpellsEach (IsRecord order) records front → has_record order rest ≡ false → length records ≤ n
    → after_records n order (front ++ rest) ≡ rest
after_all order [] front rest n p none few = ap (λ l. after_records n order (l ++ rest)) p ∙ none_left order rest n none
after_all order (r ∷ rs) front rest zero p none few = absurd (omega (arith, few))
after_all order (r ∷ rs) front rest (suc n) p none few =
    let split : front ++ rest ≡ p.0 ++ (p.1 ++ rest) = ap (λ l. l ++ rest) p.2 ∙ append_assoc p.0 p.1 rest in
    let q = record_is_read order r p.0 (p.1 ++ rest) p.3 in
    ap (after_records (suc n) order) split
    ∙ ap (λ (b : Bool). if b then after_records n order (drop (record_size order (p.0 ++ (p.1 ++ rest))) (p.0 ++ (p.1 ++ rest))) else p.0 ++ (p.1 ++ rest)) q.has
    ∙ ap (after_records n order) (ap (λ k. drop k (p.0 ++ (p.1 ++ rest))) q.size ∙ drop_at p.0 (p.1 ++ rest) (length p.0) refl)
    ∙ after_all order rs p.1 rest n p.4 none (omega (arith, few))

-- what stands before it is records
abbrev pub HasRecords : Order → List ℕ → List ℕ → Type 0
HasRecords order bytes rest = (records : List (List ℕ)) × (front : List ℕ) × (bytes ≡ front ++ rest) × SpellsEach (IsRecord order) records front

one_more : (order : Order) (bytes rest : List ℕ) → AreBytes bytes → has_record order bytes ≡ true → HasRecords order (drop (record_size order bytes) bytes) rest → HasRecords order bytes rest
one_more order bytes rest all has more = (
  captured_in order bytes ∷ more.0,
  take (record_size order bytes) bytes ++ more.1,
  sym (take-append-drop (record_size order bytes) bytes) ∙ ap (λ l. take (record_size order bytes) bytes ++ l) more.2 ∙ sym (append_assoc (take (record_size order bytes) bytes) more.1 rest),
  each-cons (IsRecord order) (captured_in order bytes) more.0 (take (record_size order bytes) bytes) more.1 (record_is order bytes all has) more.3,
)

pub records_before : (n : ℕ) (order : Order) (bytes : List ℕ) → AreBytes bytes → HasRecords order bytes (after_records n order bytes)
records_before zero order bytes all = ([], [], refl, refl)
records_before (suc n) order bytes all = go (has_record order bytes) refl (records_before n order (drop (record_size order bytes) bytes) (drop_are (record_size order bytes) bytes all))
  where
    go : (b : Bool) → has_record order bytes ≡ b → HasRecords order (drop (record_size order bytes) bytes) (after_records n order (drop (record_size order bytes) bytes))
        → HasRecords order bytes (if b then after_records n order (drop (record_size order bytes) bytes) else bytes)
    go true has more = one_more order bytes (after_records n order (drop (record_size order bytes) bytes)) all has more
    go false has more = ([], [], refl, refl)

-- bytes have one row of records
pub same_records : (order : Order) (records others : List (List ℕ)) (bytes : List ℕ) → SpellsEach (IsRecord order) records bytes → SpellsEach (IsRecord order) others bytes → records ≡ others
same_records order [] [] bytes p q = refl
same_records order [] (o ∷ os) bytes p q = absurd (omega (arith, ap length p, few_records order (o ∷ os) bytes q))
same_records order (r ∷ rs) [] bytes p q = absurd (omega (arith, ap length q, few_records order (r ∷ rs) bytes p))
same_records order (r ∷ rs) (o ∷ os) bytes p q =
    let a = record_is_read order r p.0 p.1 p.3 in
    let b = record_is_read order o q.0 q.1 q.3 in
    let same : p.0 ++ p.1 ≡ q.0 ++ q.1 = sym p.2 ∙ q.2 in
    let head : r ≡ o = sym a.captured_is ∙ ap (captured_in order) same ∙ b.captured_is in
    let sizes : length p.0 ≡ length q.0 = sym a.size ∙ ap (record_size order) same ∙ b.size in
    let cut = append_cut p.0 q.0 p.1 q.1 sizes same in
    ap (λ x. x ∷ rs) head ∙ ap (λ l. o ∷ l) (same_records order rs os p.1 p.4 (subst (SpellsEach (IsRecord order) os) (sym cut.1) q.4))
