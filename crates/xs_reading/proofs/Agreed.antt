-- A precinct of a content has no fault where what was read before is of the content, and is read as the content has it.
use Rattle.std.proofs.Common.{◌≡◌, ℕ, ◌+◌, ◌-◌, ◌*◌, ◌/◌, ◌<◌, ◌≤◌, List, [], ◌∷◌, ◌++◌, map, length, take, drop, refl, sym, ap, subst, ◌∙◌, arith, append_assoc, length-append, inl, inr}
use Rattle.std.specs.Prelude.{Bool, true, false, ◌||◌, nat_eq, nat_lt, if◌then◌else◌, ◌⊎◌, None}
use Rattle.std.specs.List.{AllByRecursion}
use Rattle.std.proofs.Math.Pow.{shr_mono}
use Rattle.std.proofs.lemmas.Bool.{cases_lt, le-ltb, eq-eqb, eqb-true}
use Rattle.std.proofs.lemmas.List.{take_at, drop_at, take-append-drop}
use Rattle.std.proofs.lemmas.List.Concat.{flat_map-append}
use Rattle.std.proofs.lemmas.List.FromFn.{length-range_with_len}
use Rattle.std.proofs.lemmas.Nat.{pow_pos}
use Rattle.xs_lists.specs.Bits.{bits_of, bits_of_bytes, bits_of_fields, bytes_for, FieldsFit}
use Rattle.xs_lists.specs.First.{when}
use Rattle.xs_lists.specs.Spelling.{upto}
use Rattle.xs_lists.proofs.Bits.{length-bits_of, length-bits_of_bytes}
use Rattle.xs_lists.proofs.Cut.{all-each, fields_agree}
use Rattle.xs_lists.proofs.Each.{all-range}
use Rattle.xs_faults.specs.declared.PrecinctFault.TheVariants as fault
use Rattle.xs_layout.specs.Geometry.{components_of}
use Rattle.xs_params.specs.Geometry.{bands_of, band_type_of, packet_bands, packets_of, precinct_lines}
use Rattle.xs_grammar.specs.Laws.{SameBandLine}
use Rattle.xs_grammar.specs.Precinct.{Content, precinct_of, is_first_line, line_truncation, precinct_fields}
use Rattle.xs_grammar.proofs.Local.{above_in}
use Rattle.xs_grammar.proofs.OneSlice.{truncation_at, mode_values, mode_widths}
use Rattle.xs_reading.specs.Precinct.{precinct_head_size, stated_size, q_at, r_at, mode_at, precinct_end, body_at, begun, packets_fault, with_precinct}
use Rattle.xs_reading.specs.Laws.{PrecinctKnown}
use Rattle.xs_reading.proofs.Parts.{bytes-are}
use Rattle.xs_reading.proofs.Places.{IsBandOf, packets_ordered, packets_own}
use Rattle.xs_reading.proofs.Precincts.{head_read_fields, head_read}
use Rattle.xs_reading.proofs.Contents.{packets_settings}
use Rattle.xs_reading.proofs.Ready.{HasPacket, HasBefore, product, packets_ready, packets_bands}
use Rattle.xs_reading.proofs.Walk.{AreSet, ArePacketsKnown, walk, two_back}

modes-long : (mode : ℕ → ℕ) (bands : List ℕ) → length (bits_of_fields (map (λ band. (2, mode band)) bands)) ≡ 2 * length bands
modes-long mode [] = refl
modes-long mode (band ∷ bands) = omega (arith, length-append (bits_of 2 (mode band)) (bits_of_fields (map (λ band. (2, mode band)) bands)), length-bits_of 2 (mode band), modes-long mode bands)

fields-long : (size q r : ℕ) (mode : ℕ → ℕ) (n : ℕ) → length (bits_of_fields ((24, size) ∷ (8, q) ∷ (8, r) ∷ map (λ band. (2, mode band)) (upto n))) ≡ 40 + 2 * n
fields-long size q r mode n =
    let rest : List ℕ = bits_of_fields (map (λ band. (2, mode band)) (upto n)) in
    omega (
      arith,
      length-append (bits_of 24 size) (bits_of 8 q ++ (bits_of 8 r ++ rest)),
      length-append (bits_of 8 q) (bits_of 8 r ++ rest),
      length-append (bits_of 8 r) rest,
      length-bits_of 24 size,
      length-bits_of 8 q,
      length-bits_of 8 r,
      modes-long mode (upto n),
      length-range_with_len 0 n,
    )

no_when : (test : Bool) → test ≡ false → when test fault.Truncated ≡ None
no_when test e = ap (λ t. when t fault.Truncated) e

pub precinct_known : PrecinctKnown
precinct_known h precinct content before part rest accepted range agree p = record {
  no_fault = two_back (when (nat_lt (length bytes) (precinct_head_size h) || nat_lt (length bytes) (precinct_end h bytes)) fault.Truncated) (packets_fault h (mode_at bytes) 0 (packets_of h precinct) start (body_at h bytes))
      (no_when (nat_lt (length bytes) (precinct_head_size h) || nat_lt (length bytes) (precinct_end h bytes)) (ap (λ t. t || nat_lt (length bytes) (precinct_end h bytes)) (le-ltb (length bytes) (precinct_head_size h) (omega (arith, long, head-long)))
      ∙ le-ltb (length bytes) (precinct_end h bytes) (omega (arith, long, ends, part-long)))) walked.no_fault;
  ends = ends;
  same = record {
    q = q-is ∙ sym (here (q_at bytes) (before.q precinct)) ∙ ap (λ f. f precinct) (sym settings.0);
    r = r-is ∙ sym (here (r_at bytes) (before.r precinct)) ∙ ap (λ f. f precinct) (sym settings.1);
    lines = walked.lines;
  };
}
  where
    bytes : List ℕ
    bytes = part ++ rest

    bits : List ℕ
    bits = bits_of_bytes bytes

    n : ℕ
    n = bands_of h

    spelled : List ℕ
    spelled = bits_of_fields (precinct_fields h content precinct (length p.body) p.mode)

    whole : bytes ≡ p.head ++ (p.body ++ rest)
    whole = ap (λ l. l ++ rest) p.joined ∙ append_assoc p.head p.body rest

    part-long : length part ≡ length p.head + length p.body
    part-long = ap length p.joined ∙ length-append p.head p.body

    long : length bytes ≡ length p.head + length p.body + length rest
    long = omega (arith, length-append part rest, part-long)

    spelled-long : length spelled ≡ 40 + 2 * n
    spelled-long = fields-long (length p.body) (content.q precinct) (content.r precinct) p.mode n

    head-long : precinct_head_size h ≡ length p.head
    head-long = ap bytes_for (sym spelled-long) ∙ sym p.headed.size

    bits-long : length bits ≡ 8 * length bytes
    bits-long = length-bits_of_bytes bytes

    read : FieldsFit (head_read_fields bits n) × (take (40 + 2 * n) bits ≡ bits_of_fields (head_read_fields bits n))
    read = head_read bits n (bytes-are bytes) (omega (arith, bits-long, long, head-long))

    front : bits ≡ spelled ++ (p.headed.begin.0 ++ bits_of_bytes (p.body ++ rest))
    front = ap bits_of_bytes whole ∙ flat_map-append (bits_of 8) p.head (p.body ++ rest) ∙ ap (λ l. l ++ bits_of_bytes (p.body ++ rest)) p.headed.begin.1 ∙ append_assoc spelled p.headed.begin.0 (bits_of_bytes (p.body ++ rest))

    values : (ℕ → ℕ) → List ℕ
    values mode = map (λ (f : ℕ × ℕ). f.1) (map (λ band. (2, mode band)) (upto n))

    stated : length p.body ∷ content.q precinct ∷ content.r precinct ∷ values p.mode ≡ stated_size bytes ∷ q_at bytes ∷ r_at bytes ∷ values (mode_at bytes)
    stated = (fields_agree (precinct_fields h content precinct (length p.body) p.mode) (head_read_fields bits n) (p.headed.begin.0 ++ bits_of_bytes (p.body ++ rest)) (drop (40 + 2 * n) bits)
        (ap (λ l. 24 ∷ 8 ∷ 8 ∷ l) (mode_widths p.mode (mode_at bytes) (upto n))) p.room read.0
        (sym front ∙ sym (take-append-drop (40 + 2 * n) bits) ∙ ap (λ l. l ++ drop (40 + 2 * n) bits) read.1)).0

    size-is : length p.body ≡ stated_size bytes
    size-is = cc stated

    q-is : content.q precinct ≡ q_at bytes
    q-is = cc stated

    r-is : content.r precinct ≡ r_at bytes
    r-is = cc stated

    modes-are : values p.mode ≡ values (mode_at bytes)
    modes-are = cc stated

    modes : (band : ℕ) → band < bands_of h → p.mode band ≡ mode_at bytes band
    modes band inside = all-range (λ band. p.mode band ≡ mode_at bytes band) 0 n (mode_values p.mode (mode_at bytes) (upto n) modes-are) band (omega arith) (omega (arith, inside))

    ends : precinct_end h bytes ≡ length part
    ends = omega (arith, head-long, size-is, part-long)

    body-is : body_at h bytes ≡ p.filled.0 ++ p.filled.1
    body-is = ap (λ l. take (stated_size bytes) (drop (precinct_head_size h) l)) whole ∙ ap (take (stated_size bytes)) (drop_at p.head (p.body ++ rest) (precinct_head_size h) (sym head-long)) ∙ take_at p.body rest (stated_size bytes) size-is ∙ p.filled.2

    start : Content
    start = begun before precinct bytes

    here : (a b : ℕ) → (if nat_eq precinct precinct then a else b) ≡ a
    here a b = ap (λ t. if t then a else b) (eq-eqb precinct precinct refl)

    there : (other a b : ℕ) → other < precinct → (if nat_eq other precinct then a else b) ≡ b
    there other a b less = cases (nat_eq other precinct) refl
      where
        cases : (t : Bool) → nat_eq other precinct ≡ t → (if t then a else b) ≡ b
        cases false e = refl
        cases true e = let same = eqb-true other precinct e in absurd (omega (arith, same, less))

    settings : ((with_precinct h precinct before bytes).q ≡ start.q) × ((with_precinct h precinct before bytes).r ≡ start.r)
    settings = packets_settings h (mode_at bytes) (packets_of h precinct) start (body_at h bytes)

    has_before : HasBefore h content start precinct
    has_before earlier e less = all-each (λ place. AllByRecursion (λ band. SameBandLine h content before band place.line) (packet_bands h place)) (HasPacket h content start) (packets_of h earlier)
        (λ place all band of. (all-range (λ band. SameBandLine h content before band place.line) (place.first_type * components_of h.shape.format) (place.types * components_of h.shape.format) all band of.low of.high).counts)
        (agree earlier e less).lines

    set : AreSet h content start precinct
    set = record {
      q = q-is ∙ sym (here (q_at bytes) (before.q precinct));
      r = r-is ∙ sym (here (r_at bytes) (before.r precinct));
      above = λ band line own f. above band line own f (cases_lt (precinct_of h band (line - 1)) precinct);
    }
      where
        above : (band line : ℕ) → precinct_of h band line ≡ precinct → is_first_line h band line ≡ false → (precinct_of h band (line - 1) < precinct) ⊎ (precinct ≤ precinct_of h band (line - 1))
            → line_truncation h content band (line - 1) ≡ line_truncation h start band (line - 1)
        above band line own f (inl earlier) =
            let positive : 0 < h.hsl * precinct_lines h band = product h.hsl (precinct_lines h band) accepted.geometry.hsl (pow_pos _) in
            let same = agree (precinct_of h band (line - 1)) (above_in line (precinct_lines h band) h.hsl positive f ∙ ap (λ k. k / h.hsl) own) earlier in
            truncation_at h content start band (line - 1) (precinct_of h band (line - 1)) refl (same.q ∙ sym (there (precinct_of h band (line - 1)) (q_at bytes) (before.q (precinct_of h band (line - 1))) earlier))
            (same.r ∙ sym (there (precinct_of h band (line - 1)) (r_at bytes) (before.r (precinct_of h band (line - 1))) earlier))
        above band line own f (inr late) =
            let less : (line - 1) / precinct_lines h band ≤ line / precinct_lines h band = shr_mono {a = line - 1} {b = line} (h.nly - (band_type_of h band).down) (omega arith) in
            let same : precinct_of h band (line - 1) ≡ precinct = omega (arith, late, less, own) in
            truncation_at h content start band (line - 1) precinct same (q-is ∙ sym (here (q_at bytes) (before.q precinct))) (r-is ∙ sym (here (r_at bytes) (before.r precinct)))

    below : h.nly ≤ h.nlx
    below = omega (arith, accepted.geometry.nly)

    walked : ArePacketsKnown h (mode_at bytes) 0 (packets_of h precinct) content start (body_at h bytes)
    walked = subst (ArePacketsKnown h (mode_at bytes) 0 (packets_of h precinct) content start) (sym body-is)
        (walk h precinct p.mode (mode_at bytes) 0 (packets_of h precinct) content start p.filled.0 p.filled.1 (packets_ordered h precinct) (packets_own h precinct below)
        (all-each (λ place. (band : ℕ) → IsBandOf h place band → band < bands_of h) (λ place. (band : ℕ) → IsBandOf h place band → p.mode band ≡ mode_at bytes band) (packets_of h precinct) (λ place inside band of. modes band (inside band of)) (packets_bands h precinct below))
        (packets_ready h content start precinct accepted.geometry.hsl below has_before) set range p.filled.3)
