-- One packet more of a precinct.
use Rattle.std.proofs.Common.{◌≡◌, ℕ, ◌+◌, ◌*◌, ◌<◌, ◌≤◌, inl, inr, List, [], ◌∷◌, map, drop, length, get_or, refl, sym, ap, subst, ◌∙◌, arith}
use Rattle.std.specs.Prelude.{ℤ, Option, None, Some}
use Rattle.std.specs.List.{Contains}
use Rattle.std.proofs.lemmas.Bool.{cases_lt}
use Rattle.std.proofs.lemmas.List.{drop_more}
use Rattle.xs_lists.specs.First.{first_some}
use Rattle.xs_lists.specs.Spelling.{upto}
use Rattle.xs_layout.specs.Geometry.{PacketPlace, components_of}
use Rattle.xs_layout.specs.Weighting.{truncation_of}
use Rattle.xs_params.specs.declared.header.Header.{Header}
use Rattle.xs_params.specs.Geometry.{band_width_of, bands_of, packet_bands, packets_of, precinct_lines, precincts_of}
use Rattle.xs_params.specs.Accepted.{IsGeometry}
use Rattle.xs_faults.specs.declared.PrecinctFault.{PrecinctFault}
use Rattle.xs_spelling.specs.Counts.{Line}
use Rattle.xs_spelling.proofs.Redata.{drop-drop}
use Rattle.xs_geometry.specs.Places.{no_place, packet_at}
use Rattle.xs_geometry.specs.SliceLines.{AreLinesOf, BandLines, HasLine, row_at}
use Rattle.xs_geometry.proofs.PacketLines.{slice_has_packets}
use Rattle.xs_grammar.specs.Precinct.{Content, coded_line, line_truncation, precinct_of, weight_of}
use Rattle.xs_reading.specs.Packet.{packet_end, packet_fault, packet_lines}
use Rattle.xs_reading.specs.Precinct.{packets_fault, place_lines, with_packet, with_packets}
use Rattle.xs_reading.specs.Rows.{dequantised_rows}
use Rattle.xs_reading.proofs.Contents.{Same, lines_given, lines_settings, packet_leaves}
use Rattle.xs_reading.proofs.Lines.{AreReadOf}
use Rattle.xs_reading.proofs.Places.{IsBandOf}
use Rattle.xs_reading.proofs.Spelled.{packet_shaped}
use Rattle.xs_precinct.specs.Held.{line_held}
use Rattle.xs_precinct.specs.Bands.{Band, EachOf, Follows, Knows, NumbersOf, last_of, no_band, row_of}
use Rattle.xs_precinct.specs.Read.{AreAfterPacket, ArePut, HaveRooms, bands_at}
use Rattle.xs_precinct.proofs.Coded.{no_line}
use Rattle.xs_precinct.proofs.Known.{holds_line, knows_line, predicted_lines, row_is}
use Rattle.xs_precinct.proofs.Packets.{HoldsLast, PacketsSoFar, among, held_above, held_same, rows_same, truncation_same}
use Rattle.xs_precinct.proofs.Placed.{IsInPrecinct, IsWindow, contains, of_precinct, packet_line, packet_order, window_of}
use Rattle.xs_precinct.proofs.Windows.{pairs_window, window_both, window_pairs}

-- where a precinct is read
pub record IsPlaced (h : Header) (precinct number : ℕ) (bands : List Band) (rows : List BandLines) : Type 0 where
  pub ranges : IsGeometry h
  pub inside : number < length (packets_of h precinct)
  pub count : length bands ≡ bands_of h
  pub room : HaveRooms h bands
  pub lines : (slice : ℕ) × AreLinesOf h slice rows × Contains (precincts_of h slice) precinct

-- a packet was read at the front of the bytes
pub record IsPlaceRead (h : Header) (precinct number : ℕ) (bytes : List ℕ) (bands new : List Band) (rows into : List BandLines) (size : ℕ) : Type 0 where
  pub fault : (lines : List Line) → EachOf Knows (bands_at h (packet_at h precinct number) bands) lines → None ≡ packet_fault h number lines bytes
  pub ends : (lines : List Line) → EachOf Knows (bands_at h (packet_at h precinct number) bands) lines → size ≡ packet_end h lines bytes
  pub read : (lines : List Line) → EachOf Knows (bands_at h (packet_at h precinct number) bands) lines → EachOf NumbersOf (bands_at h (packet_at h precinct number) new) (packet_lines h lines bytes)
  pub after : AreAfterPacket h (packet_at h precinct number) bands new
  pub put : ArePut h (packet_at h precinct number) new rows into

-- the truncation of a precinct is that of its lines
cut_here : (h : Header) (precinct : ℕ) (old now : Content) (band line cut : ℕ) → (now.q ≡ old.q) × (now.r ≡ old.r) → precinct * precinct_lines h band ≤ line → line < precinct * precinct_lines h band + precinct_lines h band
    → cut ≡ truncation_of (old.q precinct) (old.r precinct) (weight_of h band) → cut ≡ line_truncation h now band line
cut_here h precinct old now band line cut settings low high e =
    e ∙ ap (λ (f : ℕ → ℕ). truncation_of (f precinct) (old.r precinct) (weight_of h band)) (sym settings.0) ∙ ap (λ (f : ℕ → ℕ). truncation_of (now.q precinct) (f precinct) (weight_of h band)) (sym settings.1)
    ∙ ap (λ k. truncation_of (now.q k) (now.r k) (weight_of h band)) (sym (of_precinct h precinct band line low high))

-- what the bands of the packet know of their lines
pub places_known : (h : Header) (precinct : ℕ) (content : Content) (modes : ℕ → ℕ) (body : List ℕ) (rows : List BandLines) (bands : List Band) (at number : ℕ) → IsPlaced h precinct number bands rows
    → (so : PacketsSoFar h precinct content modes body rows bands at number) → EachOf Knows (bands_at h (packet_at h precinct number) bands) (place_lines h modes so.now (packet_at h precinct number))
places_known h precinct content modes body rows bands at number placed so =
    pairs_window Knows bands (λ band. coded_line h so.now (modes band) band place.line) (place.first_type * components_of h.shape.format) (place.types * components_of h.shape.format) no_band no_line (omega (arith, window.inside, placed.count))
    (λ band low high. one band (record { low = low; high = high }))
  where
    place : PacketPlace
    place = packet_at h precinct number

    window : IsWindow h place
    window = window_of h precinct number placed.ranges placed.inside

    one : (band : ℕ) → IsBandOf h place band → Knows (get_or bands band no_band) (coded_line h so.now (modes band) band place.line)
    one band of =
        let own = packet_line h precinct number band placed.ranges placed.inside of in
        let holds = so.holds band own.band_there in
        knows_line h so.now modes band place.line (get_or bands band no_band) (placed.room band own.band_there) holds.mode (cut_here h precinct content so.now band place.line (get_or bands band no_band).cut so.settings own.from own.to holds.cut)
        (held_above h precinct content so.now modes number band (get_or bands band no_band) placed.ranges placed.inside of so.settings so.before holds)

-- what is left of the faults after a packet
faults_on : (h : Header) (modes : ℕ → ℕ) (packets : List PacketPlace) (number : ℕ) (now : Content) (bytes : List ℕ) → number < length packets
    → packets_fault h modes number (drop number packets) now bytes
    ≡ first_some (packet_fault h number (place_lines h modes now (get_or packets number no_place)) bytes ∷ packets_fault h modes (number + 1) (drop (number + 1) packets) (with_packet h modes (get_or packets number no_place) now bytes) (drop (packet_end h (place_lines h modes now (get_or packets number no_place)) bytes) bytes) ∷ [])
faults_on h modes packets number now bytes inside = ap (λ l. packets_fault h modes number l now bytes) (drop_more packets number no_place inside)

pub one_left : {A : Type 0} (x : Option A) → first_some (None ∷ x ∷ []) ≡ x
one_left None = refl
one_left (Some x) = refl

-- the bands have room after a packet too
pub rooms_kept : (h : Header) (precinct number : ℕ) (bands new : List Band) (rows : List BandLines) → IsPlaced h precinct number bands rows → AreAfterPacket h (packet_at h precinct number) bands new → HaveRooms h new
rooms_kept h precinct number bands new rows placed after band there = elim (among h place band) [
  | inl of ↦
      let window = window_of h precinct number placed.ranges placed.inside in
      let follows = window_both Follows bands new (place.first_type * components_of h.shape.format) (place.types * components_of h.shape.format) no_band (omega (arith, window.inside, placed.count)) after.follow band of.low of.high in
      follows.groups ∙ placed.room band there
  | inr out ↦ ap (λ (b : Band). length b.counts) (after.others band (λ among. out (record { low = among.0; high = among.1 }))) ∙ placed.room band there
]
  where
    place : PacketPlace
    place = packet_at h precinct number

-- the next packet has a fault, which is that of them all
pub packets_refused : (h : Header) (precinct : ℕ) (content : Content) (modes : ℕ → ℕ) (body : List ℕ) (rows : List BandLines) (bands : List Band) (at number : ℕ) (fault : PrecinctFault) → IsPlaced h precinct number bands rows
    → PacketsSoFar h precinct content modes body rows bands at number
    → ((lines : List Line) → EachOf Knows (bands_at h (packet_at h precinct number) bands) lines → Some fault ≡ packet_fault h number lines (drop at body))
    → Some fault ≡ packets_fault h modes 0 (packets_of h precinct) content body
packets_refused h precinct content modes body rows bands at number fault placed so refused =
    let place = packet_at h precinct number in
    let lines = place_lines h modes so.now place in
    let rest = packets_fault h modes (number + 1) (drop (number + 1) (packets_of h precinct)) (with_packet h modes place so.now (drop at body)) (drop (packet_end h lines (drop at body)) (drop at body)) in
    ap (λ f. first_some (f ∷ rest ∷ [])) (refused lines (places_known h precinct content modes body rows bands at number placed so)) ∙ sym (faults_on h modes (packets_of h precinct) number so.now (drop at body) placed.inside) ∙ sym so.fault

-- the next packet was read
pub packets_more : (h : Header) (precinct : ℕ) (content : Content) (modes : ℕ → ℕ) (body : List ℕ) (rows into : List BandLines) (bands new : List Band) (at number size : ℕ) → IsPlaced h precinct number bands rows
    → PacketsSoFar h precinct content modes body rows bands at number → IsPlaceRead h precinct number (drop at body) bands new rows into size → PacketsSoFar h precinct content modes body into new (at + size) (number + 1)
packets_more h precinct content modes body rows into bands new at number size placed so r = record {
  now = next;
  fault = so.fault ∙ faults_on h modes (packets_of h precinct) number now bytes placed.inside ∙ ap (λ f. first_some (f ∷ packets_fault h modes (number + 1) later next (drop (packet_end h lines bytes) bytes) ∷ [])) (sym (r.fault lines knows))
      ∙ one_left (packets_fault h modes (number + 1) later next (drop (packet_end h lines bytes) bytes)) ∙ ap (packets_fault h modes (number + 1) later next) left;
  after = so.after ∙ ap (λ l. with_packets h modes l now bytes) (drop_more (packets_of h precinct) number no_place placed.inside) ∙ ap (with_packets h modes later next) left;
  settings = (settings.0 ∙ so.settings.0, settings.1 ∙ so.settings.1);
  before = λ band line other. (leaves band line (λ of e. other (ap (precinct_of h band) e ∙ own_precinct band of))).0 ∙ so.before band line other;
  holds = λ band there. elim (among h place band) [ inl of ↦ holds_own band of | inr out ↦ holds_other band there out ];
  shown = λ n band less of. elim (cases_lt n number) [ inl earlier ↦ shown_other n band earlier of | inr most ↦ shown_own n band (omega (arith, less, most)) of ];
}
  where
    place : PacketPlace
    place = packet_at h precinct number

    now : Content
    now = so.now

    bytes : List ℕ
    bytes = drop at body

    lines : List Line
    lines = place_lines h modes now place

    first : ℕ
    first = place.first_type * components_of h.shape.format

    count : ℕ
    count = place.types * components_of h.shape.format

    next : Content
    next = with_packet h modes place now bytes

    later : List PacketPlace
    later = drop (number + 1) (packets_of h precinct)

    window : IsWindow h place
    window = window_of h precinct number placed.ranges placed.inside

    knows : EachOf Knows (bands_at h place bands) lines
    knows = places_known h precinct content modes body rows bands at number placed so

    left : drop (packet_end h lines bytes) bytes ≡ drop (at + size) body
    left = ap (λ n. drop n bytes) (sym (r.ends lines knows)) ∙ sym (drop-drop at size body)

    settings : (next.q ≡ now.q) × (next.r ≡ now.r)
    settings = lines_settings now place.line (packet_bands h place) (packet_lines h lines bytes)

    leaves : (band line : ℕ) → (IsBandOf h place band → line ≡ place.line → ⊥) → Same next now band line
    leaves band line apart = packet_leaves h modes place now bytes band line apart

    own : (band : ℕ) → IsBandOf h place band → IsInPrecinct h precinct band place.line
    own band of = packet_line h precinct number band placed.ranges placed.inside of

    own_precinct : (band : ℕ) → IsBandOf h place band → precinct_of h band place.line ≡ precinct
    own_precinct band of = of_precinct h precinct band place.line (own band of).from (own band of).to

    -- the line of a band, with what was read
    coded : ℕ → Line
    coded band = record (coded_line h now (modes band) band place.line) { count = next.count band place.line; value = next.value band place.line }

    numbers : (band : ℕ) → IsBandOf h place band → NumbersOf (get_or new band no_band) (coded band)
    numbers band of =
        let shaped : AreReadOf lines (packet_lines h lines bytes) = packet_shaped h number lines bytes (predicted_lines (bands_at h place bands) lines r.after.ranges knows) (sym (r.fault lines knows)) in
        let given = lines_given (λ band. coded_line h now (modes band) band place.line) now place.line first count (packet_lines h lines bytes) shaped in
        window_pairs NumbersOf new coded first count no_band no_line (omega (arith, window.inside, placed.count, r.after.count)) (subst (EachOf NumbersOf (bands_at h place new)) (sym given) (r.read lines knows)) band of.low of.high

    follows : (band : ℕ) → IsBandOf h place band → Follows (get_or bands band no_band) (get_or new band no_band)
    follows band of = window_both Follows bands new first count no_band (omega (arith, window.inside, placed.count)) r.after.follow band of.low of.high

    holds_own : (band : ℕ) → IsBandOf h place band → HoldsLast h precinct content next modes (number + 1) band (get_or new band no_band)
    holds_own band of =
        let old = so.holds band (own band of).band_there in
        let f = follows band of in
        let cut = cut_here h precinct content next band place.line (get_or bands band no_band).cut (settings.0 ∙ so.settings.0, settings.1 ∙ so.settings.1) (own band of).from (own band of).to old.cut in
        let it = holds_line h next band place.line (get_or bands band no_band) (get_or new band no_band) (coded band) f (numbers band of) (placed.room band (own band of).band_there) cut refl in
        record {
          mode = f.mode ∙ old.mode;
          cut = f.cut ∙ old.cut;
          none = λ no. absurd (no number (omega arith) of);
          some = λ n less has last. elim (cases_lt n number) [
            | inl earlier ↦ absurd (last number earlier (omega arith) of)
            | inr most ↦
                let same : number ≡ n = omega (arith, less, most) in
                it ∙ ap (λ k. Some (line_held h next band (packet_at h precinct k).line)) same
          ];
        }

    holds_other : (band : ℕ) → band < bands_of h → (IsBandOf h place band → ⊥) → HoldsLast h precinct content next modes (number + 1) band (get_or new band no_band)
    holds_other band there out =
        let old = so.holds band there in
        let same = r.after.others band (λ among. out (record { low = among.0; high = among.1 })) in
        record {
          mode = ap (λ (b : Band). b.mode) same ∙ old.mode;
          cut = ap (λ (b : Band). b.cut) same ∙ old.cut;
          none = λ no. ap last_of same ∙ old.none (λ n less has. no n (omega (arith, less)) has);
          some = λ n less has last. elim (cases_lt n number) [
            | inl earlier ↦
                ap last_of same ∙ old.some n earlier has (λ m after below had. last m after (omega (arith, below)) had)
                ∙ ap Some (held_same h now next band (packet_at h precinct n).line (sym settings.0, sym settings.1) (sym (leaves band (packet_at h precinct n).line (λ of _. out of)).0))
            | inr most ↦
                let here : n ≡ number = omega (arith, less, most) in
                absurd (out (subst (λ k. IsBandOf h (packet_at h precinct k) band) here has))
          ];
        }

    lines_there : (n band : ℕ) → n < length (packets_of h precinct) → IsBandOf h (packet_at h precinct n) band → HasLine rows band (packet_at h precinct n).line
    lines_there n band inside of = slice_has_packets h placed.lines.0 rows precinct n band placed.ranges placed.lines.1 placed.lines.2 inside (contains h (packet_at h precinct n) band of)

    shown_other : (n band : ℕ) → n < number → IsBandOf h (packet_at h precinct n) band
        → row_at into band (packet_at h precinct n).line ≡ map (dequantised_rows h next band (packet_at h precinct n).line) (upto (band_width_of h band))
    shown_other n band earlier of =
        let line = (packet_at h precinct n).line in
        let apart : IsBandOf h place band → line ≡ place.line → ⊥ = λ now_of e. (let less = packet_order h precinct n number band earlier placed.inside of now_of in absurd (omega (arith, less, e))) in
        r.put.elsewhere band line (lines_there n band (omega (arith, earlier, placed.inside)) of) (λ among. apart (record { low = among.0; high = among.1 }))
        ∙ so.shown n band earlier of ∙ ap (λ (f : ℕ → ℤ). map f (upto (band_width_of h band))) (sym (rows_same h next now band line settings (leaves band line apart)))

    shown_own : (n band : ℕ) → n ≡ number → IsBandOf h (packet_at h precinct n) band
        → row_at into band (packet_at h precinct n).line ≡ map (dequantised_rows h next band (packet_at h precinct n).line) (upto (band_width_of h band))
    shown_own n band same has =
        let of : IsBandOf h place band = subst (λ k. IsBandOf h (packet_at h precinct k) band) same has in
        let width = placed.lines.1.width band place.line (lines_there number band placed.inside of) in
        let room = (follows band of).groups ∙ placed.room band (own band of).band_there in
        let row = row_is h next band place.line (get_or new band no_band) (coded band) (numbers band of) room refl refl (sym (truncation_same h next now band place.line settings)) in
        subst (λ k. row_at into band (packet_at h precinct k).line ≡ map (dequantised_rows h next band (packet_at h precinct k).line) (upto (band_width_of h band))) (sym same)
        (r.put.here band (of.low, of.high) ∙ ap (row_of h.quant (get_or new band no_band)) width ∙ row)
