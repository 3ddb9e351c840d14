-- The counts of lines, one line after the other.
use Rattle.std.proofs.Common.{◌≡◌, ℕ, ◌+◌, ◌/◌, ◌<◌, ◌≤◌, List, [], ◌∷◌, ◌++◌, map, length, take, drop, get_or, set, refl, sym, ap, subst, ◌∙◌, arith, append_assoc, append-nil}
use Rattle.std.specs.Prelude.{Bool, true, false, ◌&&◌, nat_eq, if◌then◌else◌, Result, Ok, Err, pos}
use Rattle.std.proofs.lemmas.List.{drop_all, drop_more, get_or_append_left, get_or-map, length-map, take_all}
use Rattle.xs_lists.specs.Bits.{bit_of}
use Rattle.xs_lists.specs.Spelling.{upto}
use Rattle.xs_lists.proofs.Each.{range-all}
use Rattle.xs_layout.specs.Geometry.{significance_groups_of}
use Rattle.xs_faults.specs.declared.CountFault.{CountFault}
use Rattle.xs_spelling.specs.Counts.{Line, has_flags, predicted, predicts_above, unspelled_count}
use Rattle.xs_spelling.specs.Sizes.{flag_count}
use Rattle.xs_spelling.specs.Reading.{bit_at, read_coded, read_count, read_each, read_line_counts, read_raw, with_counts}
use Rattle.xs_spelling.proofs.Alike.{each_alike, read_alike}
use Rattle.xs_counts.specs.declared.predictor.Predictor.{Predictor}
use Rattle.xs_counts.specs.Known.{flag_of, known_line}
use Rattle.xs_reading.specs.Packet.{flagged, read_counted}
use Rattle.xs_precinct.specs.Bands.{Band, CountsOf, EachOf, Follows, Knows, flags_of, no_band}
use Rattle.xs_precinct.proofs.Pairs.{pairs_at, pairs_done, pairs_length}

-- One line

-- the flags that a line asks for are the same
flags_alike : (run_mode : ℕ) (line : Line) (flag other : ℕ → ℕ) (bits : List ℕ) → (has_flags line.mode ≡ true → (group : ℕ) → group < line.groups → flag (group / 8) ≡ other (group / 8))
    → read_line_counts false run_mode line flag bits ≡ read_line_counts false run_mode line other bits
flags_alike run_mode line flag other bits same =
    each_alike (read_count false run_mode line flag) (read_count false run_mode line other) (upto line.groups) bits (range-all _ 0 line.groups (λ group low high bits. one group bits (λ e. same e group (omega (arith, high)))))
  where
    by : Bool → ℕ → ℕ → List ℕ → Result (ℕ × List ℕ) CountFault
    by has flag group bits = if has && nat_eq flag 1 then Ok (unspelled_count run_mode line group, bits) else read_coded line group bits

    one : (group : ℕ) (bits : List ℕ) → (has_flags line.mode ≡ true → flag (group / 8) ≡ other (group / 8)) → by (has_flags line.mode) (flag (group / 8)) group bits ≡ by (has_flags line.mode) (other (group / 8)) group bits
    one group bits e = cases (has_flags line.mode) e
      where
        cases : (has : Bool) → (has ≡ true → flag (group / 8) ≡ other (group / 8)) → by has (flag (group / 8)) group bits ≡ by has (other (group / 8)) group bits
        cases true e = ap (λ f. by true f group bits) (e refl)
        cases false e = refl

-- a line is read by what its band knows of it
pub line_known : (raw : Bool) (run_mode mode : ℕ) (band : Band) (p : Predictor) (flags : List Bool) (significance rest bits : List ℕ) (line : Line) → Knows band line → mode ≡ (if raw then 0 else band.mode)
    → ((m group : ℕ) → (known_line (length band.counts) p m).prediction group ≡ (if predicts_above m && band.there then predicted (get_or band.counts group 0) band.above_cut band.cut else band.cut))
    → p.t ≡ band.cut → length flags ≡ significance_groups_of (length band.counts) → (has_flags mode ≡ true → significance ≡ map bit_of flags ++ rest)
    → read_line_counts raw run_mode (known_line (length band.counts) p mode) (flag_of flags) bits ≡ read_line_counts raw run_mode line (bit_at significance) bits
line_known true run_mode mode band p flags significance rest bits line known e prediction cut size there = ap (λ n. read_each (λ group. read_raw) (upto n) bits) (sym known.groups)
line_known false run_mode mode band p flags significance rest bits line known e prediction cut size there =
    flags_alike run_mode (known_line (length band.counts) p mode) (flag_of flags) (bit_at significance) bits (λ has group inside. flag has (group / 8) (omega (arith, size, inside)))
    ∙ read_alike false run_mode (known_line (length band.counts) p mode) line (bit_at significance) bits (record {
      groups = sym known.groups;
      mode = e ∙ sym known.mode;
      truncation = cut ∙ sym known.truncation;
      prediction = λ group inside. prediction mode group ∙ ap (λ m. if predicts_above m && band.there then predicted (get_or band.counts group 0) band.above_cut band.cut else band.cut) e ∙ sym (known.prediction group (omega (arith, known.groups, inside)));
    })
  where
    flag : has_flags mode ≡ true → (k : ℕ) → k < length flags → flag_of flags k ≡ bit_at significance k
    flag has k inside =
        let more : k < length (map bit_of flags) = omega (arith, length-map flags bit_of, inside) in
        sym (ap (λ l. get_or l k 0) (there has) ∙ get_or_append_left (map bit_of flags) rest 0 k more ∙ get_or-map bit_of flags k false 0 inside)

-- Lines

-- what was read before stands before the rest
abbrev pub prepend : {B E : Type 0} → List B → Result (List B × List ℕ) E → Result (List B × List ℕ) E
prepend done r = elim r [ Ok others ↦ Ok (done ++ others.0, others.1) | Err fault ↦ Err fault ]

after_one : Line → Result (List Line × List ℕ) CountFault → Result (List Line × List ℕ) CountFault
after_one line r = elim r [ Ok others ↦ Ok (line ∷ others.0, others.1) | Err fault ↦ Err fault ]

joined : (done : List Line) (line : Line) (r : Result (List Line × List ℕ) CountFault) → prepend done (after_one line r) ≡ prepend (done ++ line ∷ []) r
unfolding after_one
joined done line (Ok others) = ap (λ l. Ok (l, others.1)) (sym (append_assoc done (line ∷ []) others.0))
joined done line (Err fault) = refl

-- the lines of the first bands were read, and the counts of the others are left
pub record CountsSoFar (raw : Bool) (run_mode : ℕ) (lines : List Line) (bands : List Band) (flags0 bits0 flags bits : List ℕ) (k : ℕ) : Type 0 where
  pub done : List Line
  pub counted : EachOf CountsOf (take k bands) done
  pub whole : read_each (read_counted raw run_mode) (flagged lines flags0) bits0 ≡ prepend done (read_each (read_counted raw run_mode) (flagged (drop k lines) flags) bits)

pub no_line : Line
no_line = record { groups = 0; mode = 0; truncation = 0; prediction = λ group. 0; count = λ group. 0; value = λ column. pos 0 }

pub no_counts : (raw : Bool) (run_mode : ℕ) (lines : List Line) (bands : List Band) (flags bits : List ℕ) → CountsSoFar raw run_mode lines bands flags bits flags bits 0
no_counts raw run_mode lines bands flags bits = record { done = []; counted = tt; whole = cases (read_each (read_counted raw run_mode) (flagged lines flags) bits) }
  where
    cases : (r : Result (List Line × List ℕ) CountFault) → r ≡ prepend [] r
    cases (Ok read) = refl
    cases (Err fault) = refl

-- the next line, in parts
item_of : Line → Result (List ℕ × List ℕ) CountFault → Result (Line × List ℕ) CountFault
item_of line r = elim r [ Ok read ↦ Ok (with_counts line read.0, read.1) | Err fault ↦ Err fault ]

next_of : (List ℕ → Result (List Line × List ℕ) CountFault) → Result (Line × List ℕ) CountFault → Result (List Line × List ℕ) CountFault
next_of others r = elim r [ Ok first ↦ after_one first.0 (others first.1) | Err fault ↦ Err fault ]

at_line : (raw : Bool) (run_mode k : ℕ) (lines : List Line) (flags bits : List ℕ) → k < length lines
    → read_each (read_counted raw run_mode) (flagged (drop k lines) flags) bits
    ≡ next_of (read_each (read_counted raw run_mode) (flagged (drop (k + 1) lines) (drop (flag_count (get_or lines k no_line)) flags))) (item_of (get_or lines k no_line) (read_line_counts raw run_mode (get_or lines k no_line) (bit_at flags) bits))
unfolding next_of item_of after_one
at_line raw run_mode k lines flags bits inside = ap (λ l. read_each (read_counted raw run_mode) (flagged l flags) bits) (drop_more lines k no_line inside)

pub counts_more : (raw : Bool) (run_mode : ℕ) (init bands : List Band) (k : ℕ) (old b : Band) (lines : List Line) (flags0 bits0 flags bits flags' bits' : List ℕ) → k < length init → k < length bands → old ≡ get_or init k no_band
    → EachOf Knows init lines → ((line : Line) → Knows old line → read_line_counts raw run_mode line (bit_at flags) bits ≡ Ok (b.counts, bits')) → flags' ≡ drop (flags_of old) flags → Follows old b
    → CountsSoFar raw run_mode lines bands flags0 bits0 flags bits k → CountsSoFar raw run_mode lines (set bands k b) flags0 bits0 flags' bits' (k + 1)
unfolding next_of item_of
counts_more raw run_mode init bands k old b lines flags0 bits0 flags bits flags' bits' here there is known read left follows so = record {
  done = so.done ++ with_counts line b.counts ∷ [];
  counted = pairs_done CountsOf bands so.done k b (with_counts line b.counts) there so.counted (record { groups = knows.groups ∙ sym follows.groups; truncation = knows.truncation ∙ sym follows.cut; count = λ group. refl });
  whole = so.whole ∙ ap (prepend so.done) (at_line raw run_mode k lines flags bits inside ∙ ap (λ r. next_of others (item_of line r)) (read line knows) ∙ ap (λ l. after_one (with_counts line b.counts) (read_each (read_counted raw run_mode) (flagged (drop (k + 1) lines) l) bits')) flags_left)
      ∙ joined so.done (with_counts line b.counts) (read_each (read_counted raw run_mode) (flagged (drop (k + 1) lines) flags') bits');
}
  where
    line : Line
    line = get_or lines k no_line

    inside : k < length lines
    inside = omega (arith, here, pairs_length Knows init lines known)

    knows : Knows old line
    knows = subst (λ (b : Band). Knows b line) (sym is) (pairs_at Knows init lines no_band no_line k here known)

    others : List ℕ → Result (List Line × List ℕ) CountFault
    others = read_each (read_counted raw run_mode) (flagged (drop (k + 1) lines) (drop (flag_count line) flags))

    flags_left : drop (flag_count line) flags ≡ flags'
    flags_left = ap (λ n. drop n flags) (ap (λ m. if has_flags m then significance_groups_of line.groups else 0) knows.mode ∙ ap (λ n. if has_flags old.mode then significance_groups_of n else 0) knows.groups) ∙ sym left

pub counts_stop : (raw : Bool) (run_mode : ℕ) (init bands : List Band) (k : ℕ) (old : Band) (fault : CountFault) (lines : List Line) (flags0 bits0 flags bits : List ℕ) → k < length init → old ≡ get_or init k no_band → EachOf Knows init lines
    → ((line : Line) → Knows old line → read_line_counts raw run_mode line (bit_at flags) bits ≡ Err fault)
    → CountsSoFar raw run_mode lines bands flags0 bits0 flags bits k → read_each (read_counted raw run_mode) (flagged lines flags0) bits0 ≡ Err fault
unfolding next_of item_of
counts_stop raw run_mode init bands k old fault lines flags0 bits0 flags bits here is known read so =
    so.whole ∙ ap (prepend so.done) (at_line raw run_mode k lines flags bits (omega (arith, here, pairs_length Knows init lines known))
    ∙ ap (λ r. next_of (read_each (read_counted raw run_mode) (flagged (drop (k + 1) lines) (drop (flag_count (get_or lines k no_line)) flags))) (item_of (get_or lines k no_line) r)) (read (get_or lines k no_line) (subst (λ (b : Band). Knows b (get_or lines k no_line)) (sym is) (pairs_at Knows init lines no_band no_line k here known))))

pub counts_end : (raw : Bool) (run_mode : ℕ) (init bands : List Band) (k : ℕ) (lines : List Line) (flags0 bits0 flags bits : List ℕ) → length init ≤ k → length bands ≤ k → EachOf Knows init lines
    → CountsSoFar raw run_mode lines bands flags0 bits0 flags bits k
    → (counted : List Line) × (rest : List ℕ) × EachOf CountsOf bands counted × (read_each (read_counted raw run_mode) (flagged lines flags0) bits0 ≡ Ok (counted, rest))
counts_end raw run_mode init bands k lines flags0 bits0 flags bits all whole known so = (
  so.done,
  bits,
  subst (λ l. EachOf CountsOf l so.done) (take_all k bands whole) so.counted,
  so.whole ∙ ap (λ l. prepend so.done (read_each (read_counted raw run_mode) (flagged l flags) bits)) (drop_all k lines (omega (arith, all, pairs_length Knows init lines known))) ∙ ap (λ l. Ok (l, bits)) (append-nil so.done),
)
