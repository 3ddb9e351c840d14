-- A precinct whose header was read: its bands hold the lines above, and have its settings.
use Rattle.std.proofs.Common.{◌≡◌, ℕ, zero, suc, ◌+◌, ◌-◌, ◌*◌, ◌<◌, ◌≤◌, List, [], ◌∷◌, map, take, length, get_or, refl, sym, ap, ◌∙◌, arith}
use Rattle.std.specs.Prelude.{Bool, true, false, nat_eq, nat_lt, ◌||◌, if◌then◌else◌, Option, None, Some}
use Rattle.std.proofs.lemmas.Bool.{eq-eqb, eqb-true, le-ltb, lt-ltb}
use Rattle.std.proofs.lemmas.List.{ext_get_or, length-map}
use Rattle.std.proofs.lemmas.List.FromFn.{get_or-map-range_with_len, length-map-range_with_len}
use Rattle.xs_lists.specs.First.{when, first_some}
use Rattle.xs_lists.specs.Spelling.{upto}
use Rattle.xs_layout.specs.Geometry.{groups_of}
use Rattle.xs_layout.specs.Weighting.{truncation_of}
use Rattle.xs_params.specs.declared.header.Header.{Header}
use Rattle.xs_params.specs.Geometry.{band_width_of, bands_of, packets_of, precinct_lines}
use Rattle.xs_faults.specs.declared.PrecinctFault.TheVariants as fault
use Rattle.xs_grammar.specs.Precinct.{Content, is_first_line, precinct_of, weight_of}
use Rattle.xs_grammar.proofs.OneSlice.{truncation_at}
use Rattle.xs_reading.specs.Precinct.{begun, body_at, mode_at, packets_fault, precinct_end, precinct_fault, precinct_head_size, q_at, r_at, stated_size}
use Rattle.xs_precinct.specs.Held.{Last, above_of, last_before, line_held}
use Rattle.xs_precinct.specs.Bands.{Band, last_of, no_band}
use Rattle.xs_precinct.specs.Read.{ArePrepared, AreReady, HaveRooms}
use Rattle.xs_precinct.proofs.Fields.{field_front}
use Rattle.xs_precinct.proofs.First.{line_before}
use Rattle.xs_precinct.proofs.Next.{one_left}

-- The lines above

some_one : {A : Type 0} (x y : A) → Some x ≡ Some y → x ≡ y
some_one x y e = cc e

pub above_size : (h : Header) (content : Content) (precinct : ℕ) (bands : List Band) → map last_of bands ≡ above_of h content precinct → length bands ≡ bands_of h
above_size h content precinct bands e = sym (length-map bands last_of) ∙ ap length e ∙ length-map-range_with_len (λ band. last_before h content band (precinct * precinct_lines h band)) 0 (bands_of h)

at_map : (bands : List Band) (k : ℕ) → k < length bands → get_or (map last_of bands) k None ≡ last_of (get_or bands k no_band)
at_map [] k inside = absurd (omega (arith, inside))
at_map (band ∷ bands) zero inside = refl
at_map (band ∷ bands) (suc k) inside = at_map bands k (omega (arith, inside))

pub above_at : (h : Header) (content : Content) (precinct : ℕ) (bands : List Band) (band : ℕ) → map last_of bands ≡ above_of h content precinct → band < bands_of h → last_of (get_or bands band no_band) ≡ last_before h content band (precinct * precinct_lines h band)
above_at h content precinct bands band e there =
    sym (at_map bands band (omega (arith, there, above_size h content precinct bands e))) ∙ ap (λ l. get_or l band None) e
    ∙ get_or-map-range_with_len (λ band. last_before h content band (precinct * precinct_lines h band)) 0 (bands_of h) band band None there (omega arith)

-- a line above has the groups of its band
pub above_room : (h : Header) (content : Content) (precinct : ℕ) (bands : List Band) (band : ℕ) → map last_of bands ≡ above_of h content precinct → band < bands_of h → (get_or bands band no_band).there ≡ true
    → length (get_or bands band no_band).counts ≡ groups_of (band_width_of h band)
above_room h content precinct bands band e inside there = cases (get_or bands band no_band).there (is_first_line h band line) there (above_at h content precinct bands band e inside)
  where
    line : ℕ
    line = precinct * precinct_lines h band

    cases : (t first : Bool) → t ≡ true → ◌≡◌ {A = Option Last} (if t then Some (record { counts = (get_or bands band no_band).counts; truncation = (get_or bands band no_band).above_cut }) else None) (if first then None else Some (line_held h content band (line - 1)))
        → length (get_or bands band no_band).counts ≡ groups_of (band_width_of h band)
    cases false first f same = absurd (cc f)
    cases true true f same = absurd (cc same)
    cases true false f same =
        ap (λ (l : Last). length l.counts) (some_one (record { counts = (get_or bands band no_band).counts; truncation = (get_or bands band no_band).above_cut }) (line_held h content band (line - 1)) same)
        ∙ length-map-range_with_len (content.count band (line - 1)) 0 (groups_of (band_width_of h band))

pub above_after : (h : Header) (content : Content) (precinct : ℕ) (bands : List Band) → length bands ≡ bands_of h → ((band : ℕ) → band < bands_of h → last_of (get_or bands band no_band) ≡ last_before h content band (precinct * precinct_lines h band))
    → map last_of bands ≡ above_of h content precinct
above_after h content precinct bands size each =
    let room = length-map bands last_of in
    ext_get_or None (map last_of bands) (above_of h content precinct) (room ∙ size ∙ sym (length-map-range_with_len (λ band. last_before h content band (precinct * precinct_lines h band)) 0 (bands_of h))) (λ band inside.
    let there : band < bands_of h = omega (arith, inside, room, size) in
    at_map bands band (omega (arith, inside, room)) ∙ each band there
    ∙ sym (get_or-map-range_with_len (λ band. last_before h content band (precinct * precinct_lines h band)) 0 (bands_of h) band band None there (omega arith)))

-- The header

-- the settings of the header alone are those of the precinct
pub size_front : (n : ℕ) (bytes : List ℕ) → 5 ≤ n → n ≤ length bytes → stated_size (take n bytes) ≡ stated_size bytes
size_front n bytes some enough = field_front n bytes 0 24 enough (omega (arith, some))

pub mode_front : (h : Header) (bytes : List ℕ) (band : ℕ) → precinct_head_size h ≤ length bytes → band < bands_of h → mode_at (take (precinct_head_size h) bytes) band ≡ mode_at bytes band
mode_front h bytes band enough there = field_front (precinct_head_size h) bytes (40 + 2 * band) 2 enough (omega (arith, there))

pub rooms_begun : (h : Header) (head : List ℕ) (old new : List Band) → length old ≡ bands_of h → ArePrepared h head old new → HaveRooms h new
rooms_begun h head old new size prepared band there = (prepared.begun band (omega (arith, there, size))).groups

-- the settings of a precinct are not those of the line above
above_begun : (h : Header) (precinct : ℕ) (content : Content) (bytes : List ℕ) (band : ℕ) → last_before h content band (precinct * precinct_lines h band) ≡ last_before h (begun content precinct bytes) band (precinct * precinct_lines h band)
above_begun h precinct content bytes band = cases (is_first_line h band line) refl
  where
    line : ℕ
    line = precinct * precinct_lines h band

    kept : (p x y : ℕ) → (p ≡ precinct → ⊥) → y ≡ (if nat_eq p precinct then x else y)
    kept p x y other = test (nat_eq p precinct) refl
      where
        test : (t : Bool) → nat_eq p precinct ≡ t → y ≡ (if t then x else y)
        test true e = absurd (other (eqb-true p precinct e))
        test false e = refl

    held : ℕ → Last
    held t = record { counts = map (content.count band (line - 1)) (upto (groups_of (band_width_of h band))); truncation = t }

    cases : (t : Bool) → is_first_line h band line ≡ t → (if t then None else Some (line_held h content band (line - 1))) ≡ (if t then None else Some (line_held h (begun content precinct bytes) band (line - 1)))
    cases true e = refl
    cases false e =
        let other = line_before h precinct band e in
        let p = precinct_of h band (line - 1) in
        let cut = truncation_at h content (begun content precinct bytes) band (line - 1) p refl (kept p (q_at bytes) (content.q p) other) (kept p (r_at bytes) (content.r p) other) in
        ap (λ t. Some (held t)) cut

pub ready_begun : (h : Header) (precinct : ℕ) (content : Content) (bytes : List ℕ) (old new : List Band) → precinct_head_size h ≤ length bytes → map last_of old ≡ above_of h content precinct
    → ArePrepared h (take (precinct_head_size h) bytes) old new → AreReady h precinct (begun content precinct bytes) (mode_at bytes) new
ready_begun h precinct content bytes old new enough above prepared band there =
    let head = take (precinct_head_size h) bytes in
    let weight = weight_of h band in
    let b = prepared.begun band (omega (arith, there, above_size h content precinct old above)) in
    let q : q_at head ≡ q_at bytes = field_front (precinct_head_size h) bytes 24 8 enough (omega arith) in
    let r : r_at head ≡ r_at bytes = field_front (precinct_head_size h) bytes 32 8 enough (omega arith) in
    let own = ap (λ t. truncation_of (if t then q_at bytes else content.q precinct) (if t then r_at bytes else content.r precinct) weight) (sym (eq-eqb precinct precinct refl)) in
    record {
      mode = b.mode ∙ mode_front h bytes band enough there;
      cut = b.cut ∙ ap (λ n. truncation_of n (r_at head) weight) q ∙ ap (λ n. truncation_of (q_at bytes) n weight) r ∙ own;
      above = b.last ∙ above_at h content precinct old band above there ∙ above_begun h precinct content bytes band;
    }

-- Faults

or_true : (s t : Bool) → t ≡ true → (s || t) ≡ true
or_true true t e = refl
or_true false t e = e

or_none : (s t : Bool) → s ≡ false → t ≡ false → (s || t) ≡ false
or_none false t e f = f
or_none true t e f = absurd (cc e)

pub fault_of_head : (h : Header) (precinct : ℕ) (content : Content) (bytes : List ℕ) → length bytes < precinct_head_size h → precinct_fault h precinct content bytes ≡ Some fault.Truncated
fault_of_head h precinct content bytes less =
    ap (λ t. first_some (when (t || nat_lt (length bytes) (precinct_end h bytes)) fault.Truncated ∷ packets_fault h (mode_at bytes) 0 (packets_of h precinct) (begun content precinct bytes) (body_at h bytes) ∷ []))
    (lt-ltb (length bytes) (precinct_head_size h) less)

pub fault_of_size : (h : Header) (precinct : ℕ) (content : Content) (bytes : List ℕ) → length bytes < precinct_end h bytes → precinct_fault h precinct content bytes ≡ Some fault.Truncated
fault_of_size h precinct content bytes less =
    ap (λ t. first_some (when t fault.Truncated ∷ packets_fault h (mode_at bytes) 0 (packets_of h precinct) (begun content precinct bytes) (body_at h bytes) ∷ []))
    (or_true (nat_lt (length bytes) (precinct_head_size h)) (nat_lt (length bytes) (precinct_end h bytes)) (lt-ltb (length bytes) (precinct_end h bytes) less))

pub fault_of_packets : (h : Header) (precinct : ℕ) (content : Content) (bytes : List ℕ) → precinct_end h bytes ≤ length bytes
    → precinct_fault h precinct content bytes ≡ packets_fault h (mode_at bytes) 0 (packets_of h precinct) (begun content precinct bytes) (body_at h bytes)
fault_of_packets h precinct content bytes whole =
    let rest = packets_fault h (mode_at bytes) 0 (packets_of h precinct) (begun content precinct bytes) (body_at h bytes) in
    let head = le-ltb (length bytes) (precinct_head_size h) (omega (arith, whole)) in
    ap (λ t. first_some (when t fault.Truncated ∷ rest ∷ [])) (or_none (nat_lt (length bytes) (precinct_head_size h)) (nat_lt (length bytes) (precinct_end h bytes)) head (le-ltb (length bytes) (precinct_end h bytes) whole)) ∙ one_left rest
