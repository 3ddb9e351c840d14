-- The numbers and the signs of lines, one line after the other.
use Rattle.std.proofs.Common.{◌≡◌, ℕ, zero, suc, ◌+◌, ◌*◌, ◌<◌, ◌≤◌, List, [], ◌∷◌, ◌++◌, length, take, drop, get_or, set, sum_by, refl, sym, ap, subst, ◌∙◌, arith, append_assoc, append-nil}
use Rattle.std.specs.Prelude.{Bool, true, nat_lt, nat_eq, if◌then◌else◌, ℤ, pos, unsigned_abs}
use Rattle.std.specs.List.{filter, range_with_len}
use Rattle.std.proofs.lemmas.List.{drop_all, drop_more, length-drop, take_all}
use Rattle.std.proofs.lemmas.List.FromFn.{get_or-map-range_with_len}
use Rattle.std.proofs.lemmas.List.Sums.{sum_by-drop_more}
use Rattle.xs_spelling.specs.Counts.{Line}
use Rattle.xs_spelling.specs.Sizes.{data_size, numbered, signs_size}
use Rattle.xs_spelling.specs.Reading.{bit_at, sign_place, signed, value_in, with_data, with_signs}
use Rattle.xs_spelling.proofs.Redata.{data_by_numbers}
use Rattle.xs_planes.specs.Numbers.{numbers_in, signed_in}
use Rattle.xs_reading.specs.Packet.{lines_with_data, lines_with_signs}
use Rattle.xs_precinct.specs.Bands.{Band, CountsOf, EachOf, NumbersOf, SameCoded, no_band}
use Rattle.xs_precinct.proofs.Coded.{no_line}
use Rattle.xs_precinct.proofs.Pairs.{pairs_at, pairs_done, pairs_length}

-- One line

-- a line of which nothing counts but its truncation and its counts
counts_alone : ℕ → ℕ → (ℕ → ℕ) → Line
counts_alone n cut count = record { groups = n; mode = 0; truncation = cut; prediction = λ group. 0; count = count; value = λ column. pos 0 }

same_value : (apart : Bool) (band : Band) (line : Line) (bits : List ℕ) (column : ℕ) → CountsOf band line → value_in apart (numbered band.cut band.counts []) bits column ≡ value_in apart line bits column
unfolding counts_alone
same_value apart band line bits column same =
    ap (λ t. value_in apart (counts_alone 0 t (λ group. get_or band.counts group 0)) bits column) (sym same.truncation)
    ∙ ap (λ f. value_in apart (counts_alone 0 line.truncation f) bits column) (sym (λ i group. same.count group i))

pub same_size : (apart : Bool) (band : Band) (line : Line) → CountsOf band line → data_size apart line ≡ data_size apart (numbered band.cut band.counts [])
unfolding counts_alone
same_size apart band line same =
    ap (λ n. data_size apart (counts_alone n line.truncation line.count)) same.groups
    ∙ ap (λ t. data_size apart (counts_alone (length band.counts) t line.count)) same.truncation
    ∙ ap (λ f. data_size apart (counts_alone (length band.counts) band.cut f)) (λ i group. same.count group i)

-- the numbers in the bits are those of the line
data_held : (apart : Bool) (band : Band) (line : Line) (bits : List ℕ) → CountsOf band line → NumbersOf (record band { values = numbers_in apart band.cut band.counts bits }) (with_data apart line bits)
data_held apart band line bits same = record {
  groups = sym same.groups;
  truncation = sym same.truncation;
  count = λ group inside. sym (same.count group);
  value = λ column inside. get_or-map-range_with_len (value_in apart (numbered band.cut band.counts []) bits) 0 (4 * length band.counts) column column (pos 0) inside (omega arith) ∙ same_value apart band line bits column same;
}

pub same_signs : (band : Band) (line : Line) → NumbersOf band line → signs_size line ≡ signs_size (numbered band.cut band.counts band.values)
same_signs band line same = ap length (sym (data_by_numbers true (numbered band.cut band.counts band.values) line same).1)

filter_same : (f g : ℕ → Bool) (first n : ℕ) → ((i : ℕ) → first ≤ i → i < first + n → f i ≡ g i) → filter f (range_with_len first n) ≡ filter g (range_with_len first n)
filter_same f g first zero same = refl
filter_same f g first (suc n) same =
    ap (λ (t : Bool). if t then first ∷ filter f (range_with_len (first + 1) n) else filter f (range_with_len (first + 1) n)) (same first (omega arith) (omega arith))
    ∙ ap (λ l. if g first then first ∷ l else l) (filter_same f g (first + 1) n (λ i low high. same i (omega (arith, low)) (omega (arith, high))))

signs_held : (band : Band) (line : Line) (bits : List ℕ) → NumbersOf band line → NumbersOf (record band { values = signed_in band.cut band.counts band.values bits }) (with_signs line bits)
signs_held band line bits same = record {
  groups = same.groups;
  truncation = same.truncation;
  count = same.count;
  value = λ column inside.
      get_or-map-range_with_len (with_signs (numbered band.cut band.counts band.values) bits).value 0 (4 * length band.counts) column column (pos 0) inside (omega arith)
      ∙ ap (λ n. signed (nat_eq (bit_at bits n) 1) (unsigned_abs (get_or band.values column (pos 0)))) (place column inside) ∙ ap (λ z. signed (nat_eq (bit_at bits (sign_place line column)) 1) (unsigned_abs z)) (same.value column inside);
}
  where
    place : (column : ℕ) → column < 4 * length band.counts → sign_place (numbered band.cut band.counts band.values) column ≡ sign_place line column
    place column inside = ap length (filter_same (λ before. nat_lt 0 (unsigned_abs (get_or band.values before (pos 0)))) (λ before. nat_lt 0 (unsigned_abs (line.value before))) 0 column
        (λ i low high. ap (λ z. nat_lt 0 (unsigned_abs z)) (same.value i (omega (arith, high, inside)))))

-- numbers alone were changed
pub same_coded : (old new : Band) (values : List ℤ) → new ≡ record old { values = values } → SameCoded old new
same_coded old new values e = e ∙ ap (λ (b : Band). record old { values = b.values }) (sym e)

-- Lines

-- the numbers of the first lines were read, and those of the others are left
pub record DataSoFar (apart : Bool) (lines : List Line) (bands : List Band) (all bits : List ℕ) (k : ℕ) : Type 0 where
  pub done : List Line
  pub held : EachOf NumbersOf (take k bands) done
  pub whole : lines_with_data apart lines all ≡ done ++ lines_with_data apart (drop k lines) bits
  pub room : sum_by (data_size apart) lines + length bits ≡ sum_by (data_size apart) (drop k lines) + length all

pub no_data : (apart : Bool) (lines : List Line) (bands : List Band) (all : List ℕ) → DataSoFar apart lines bands all all 0
no_data apart lines bands all = record { done = []; held = tt; whole = refl; room = refl }

pub data_more : (apart : Bool) (init bands : List Band) (k : ℕ) (band b : Band) (lines : List Line) (all bits bits' : List ℕ) → k < length init → k < length bands → band ≡ get_or init k no_band → EachOf CountsOf init lines
    → b ≡ record band { values = numbers_in apart band.cut band.counts bits }
    → data_size apart (numbered band.cut band.counts []) ≤ length bits → bits' ≡ drop (data_size apart (numbered band.cut band.counts [])) bits
    → DataSoFar apart lines bands all bits k → DataSoFar apart lines (set bands k b) all bits' (k + 1)
data_more apart init bands k band b lines all bits bits' here there is counted read enough left so = record {
  done = so.done ++ with_data apart line bits ∷ [];
  held = pairs_done NumbersOf bands so.done k b (with_data apart line bits) there so.held (subst (λ (v : Band). NumbersOf v (with_data apart line bits)) (sym read) (data_held apart band line bits same));
  whole = so.whole ∙ ap (λ l. so.done ++ lines_with_data apart l bits) (drop_more lines k no_line inside) ∙ ap (λ l. so.done ++ with_data apart line bits ∷ lines_with_data apart (drop (k + 1) lines) l) (ap (λ n. drop n bits) (same_size apart band line same) ∙ sym left)
      ∙ sym (append_assoc so.done (with_data apart line bits ∷ []) (lines_with_data apart (drop (k + 1) lines) bits'));
  room = omega (arith, so.room, sum_by-drop_more (data_size apart) lines k no_line inside, same_size apart band line same, enough, ap length left, length-drop (data_size apart (numbered band.cut band.counts [])) bits);
}
  where
    line : Line
    line = get_or lines k no_line

    inside : k < length lines
    inside = omega (arith, here, pairs_length CountsOf init lines counted)

    same : CountsOf band line
    same = subst (λ (b : Band). CountsOf b line) (sym is) (pairs_at CountsOf init lines no_band no_line k here counted)

pub data_ended : (apart : Bool) (init bands : List Band) (k : ℕ) (band : Band) (lines : List Line) (all bits : List ℕ) → k < length init → band ≡ get_or init k no_band → EachOf CountsOf init lines
    → length bits < data_size apart (numbered band.cut band.counts []) → DataSoFar apart lines bands all bits k → length all < sum_by (data_size apart) lines
data_ended apart init bands k band lines all bits here is counted short so =
    let inside : k < length lines = omega (arith, here, pairs_length CountsOf init lines counted) in
    let same : CountsOf band (get_or lines k no_line) = subst (λ (b : Band). CountsOf b (get_or lines k no_line)) (sym is) (pairs_at CountsOf init lines no_band no_line k here counted) in
    omega (arith, so.room, sum_by-drop_more (data_size apart) lines k no_line inside, same_size apart band (get_or lines k no_line) same, short)

pub data_end : (apart : Bool) (init bands : List Band) (k : ℕ) (lines : List Line) (all bits : List ℕ) → length init ≤ k → length bands ≤ k → EachOf CountsOf init lines → DataSoFar apart lines bands all bits k
    → (sum_by (data_size apart) lines ≤ length all) × EachOf NumbersOf bands (lines_with_data apart lines all)
data_end apart init bands k lines all bits past whole counted so =
    let none = drop_all k lines (omega (arith, past, pairs_length CountsOf init lines counted)) in (
      omega (arith, so.room, ap (sum_by (data_size apart)) none),
      subst (EachOf NumbersOf bands) (sym (so.whole ∙ ap (λ l. so.done ++ lines_with_data apart l bits) none ∙ append-nil so.done)) (subst (λ l. EachOf NumbersOf l so.done) (take_all k bands whole) so.held),
    )

-- the same of signs
pub record SignsSoFar (lines : List Line) (bands : List Band) (all bits : List ℕ) (k : ℕ) : Type 0 where
  pub done : List Line
  pub held : EachOf NumbersOf (take k bands) done
  pub whole : lines_with_signs lines all ≡ done ++ lines_with_signs (drop k lines) bits
  pub room : sum_by signs_size lines + length bits ≡ sum_by signs_size (drop k lines) + length all

pub no_signs : (lines : List Line) (bands : List Band) (all : List ℕ) → SignsSoFar lines bands all all 0
no_signs lines bands all = record { done = []; held = tt; whole = refl; room = refl }

pub signs_more : (init bands : List Band) (k : ℕ) (band b : Band) (lines : List Line) (all bits bits' : List ℕ) → k < length init → k < length bands → band ≡ get_or init k no_band → EachOf NumbersOf init lines
    → b ≡ record band { values = signed_in band.cut band.counts band.values bits }
    → signs_size (numbered band.cut band.counts band.values) ≤ length bits → bits' ≡ drop (signs_size (numbered band.cut band.counts band.values)) bits
    → SignsSoFar lines bands all bits k → SignsSoFar lines (set bands k b) all bits' (k + 1)
signs_more init bands k band b lines all bits bits' here there is held read enough left so = record {
  done = so.done ++ with_signs line bits ∷ [];
  held = pairs_done NumbersOf bands so.done k b (with_signs line bits) there so.held (subst (λ (v : Band). NumbersOf v (with_signs line bits)) (sym read) (signs_held band line bits same));
  whole = so.whole ∙ ap (λ l. so.done ++ lines_with_signs l bits) (drop_more lines k no_line inside) ∙ ap (λ l. so.done ++ with_signs line bits ∷ lines_with_signs (drop (k + 1) lines) l) (ap (λ n. drop n bits) (same_signs band line same) ∙ sym left)
      ∙ sym (append_assoc so.done (with_signs line bits ∷ []) (lines_with_signs (drop (k + 1) lines) bits'));
  room = omega (arith, so.room, sum_by-drop_more signs_size lines k no_line inside, same_signs band line same, enough, ap length left, length-drop (signs_size (numbered band.cut band.counts band.values)) bits);
}
  where
    line : Line
    line = get_or lines k no_line

    inside : k < length lines
    inside = omega (arith, here, pairs_length NumbersOf init lines held)

    same : NumbersOf band line
    same = subst (λ (b : Band). NumbersOf b line) (sym is) (pairs_at NumbersOf init lines no_band no_line k here held)

pub signs_ended : (init bands : List Band) (k : ℕ) (band : Band) (lines : List Line) (all bits : List ℕ) → k < length init → band ≡ get_or init k no_band → EachOf NumbersOf init lines
    → length bits < signs_size (numbered band.cut band.counts band.values) → SignsSoFar lines bands all bits k → length all < sum_by signs_size lines
signs_ended init bands k band lines all bits here is held short so =
    let inside : k < length lines = omega (arith, here, pairs_length NumbersOf init lines held) in
    let same : NumbersOf band (get_or lines k no_line) = subst (λ (b : Band). NumbersOf b (get_or lines k no_line)) (sym is) (pairs_at NumbersOf init lines no_band no_line k here held) in
    omega (arith, so.room, sum_by-drop_more signs_size lines k no_line inside, same_signs band (get_or lines k no_line) same, short)

pub signs_end : (init bands : List Band) (k : ℕ) (lines : List Line) (all bits : List ℕ) → length init ≤ k → length bands ≤ k → EachOf NumbersOf init lines → SignsSoFar lines bands all bits k
    → (sum_by signs_size lines ≤ length all) × EachOf NumbersOf bands (lines_with_signs lines all)
signs_end init bands k lines all bits past whole held so =
    let none = drop_all k lines (omega (arith, past, pairs_length NumbersOf init lines held)) in (
      omega (arith, so.room, ap (sum_by signs_size) none),
      subst (EachOf NumbersOf bands) (sym (so.whole ∙ ap (λ l. so.done ++ lines_with_signs l bits) none ∙ append-nil so.done)) (subst (λ l. EachOf NumbersOf l so.done) (take_all k bands whole) so.held),
    )
