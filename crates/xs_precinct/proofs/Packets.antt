-- Packets of a precinct that were read one after the other.
use Rattle.std.proofs.Common.{◌≡◌, ℕ, ◌+◌, ◌-◌, ◌*◌, ◌/◌, ◌<◌, ◌≤◌, ◌⊎◌, inl, inr, List, map, drop, length, get_or, refl, sym, ap, ◌∙◌, arith}
use Rattle.std.specs.Prelude.{Bool, true, false, nat_lt, if◌then◌else◌, ℤ, pos, None, Some}
use Rattle.std.proofs.lemmas.Bool.{cases_eq, cases_lt}
use Rattle.xs_lists.specs.Spelling.{upto}
use Rattle.xs_layout.specs.Geometry.{PacketPlace, components_of, groups_of}
use Rattle.xs_layout.specs.Weighting.{truncation_of}
use Rattle.xs_params.specs.declared.header.Header.{Header}
use Rattle.xs_params.specs.Geometry.{band_width_of, bands_of, packets_of, precinct_lines}
use Rattle.xs_params.specs.Accepted.{IsGeometry}
use Rattle.xs_signal.specs.Quantiser.{dequantised}
use Rattle.xs_geometry.specs.Places.{packet_at}
use Rattle.xs_geometry.specs.SliceLines.{BandLines, row_at}
use Rattle.xs_grammar.specs.Precinct.{Content, is_first_line, line_truncation, precinct_of, weight_of}
use Rattle.xs_grammar.proofs.OneSlice.{truncation_at}
use Rattle.xs_reading.specs.Precinct.{packets_fault, with_packets}
use Rattle.xs_reading.specs.Rows.{dequantised_rows}
use Rattle.xs_reading.proofs.Contents.{Same}
use Rattle.xs_reading.proofs.Places.{IsBandOf}
use Rattle.xs_precinct.specs.Held.{Last, last_before, line_held}
use Rattle.xs_precinct.specs.Bands.{Band, last_of, no_band}
use Rattle.xs_precinct.specs.Read.{AreReady}
use Rattle.xs_precinct.proofs.First.{later_line, line_before}
use Rattle.xs_precinct.proofs.Placed.{HasItsLine, IsInPrecinct, packet_line, packet_order, packet_with}

-- a band is one of a packet, or none
pub among : (h : Header) (place : PacketPlace) (band : ℕ) → IsBandOf h place band ⊎ (IsBandOf h place band → ⊥)
among h place band = elim (cases_lt band (place.first_type * components_of h.shape.format)) [
  | inl below ↦ inr (λ of. absurd (omega (arith, below, of.low)))
  | inr low ↦ elim (cases_lt band (place.first_type * components_of h.shape.format + place.types * components_of h.shape.format)) [
    | inl high ↦ inl (record { low = low; high = high })
    | inr above ↦ inr (λ of. absurd (omega (arith, above, of.high)))
  ]
]

-- the last of the first packets that has a band
abbrev pub IsLatest : Header → ℕ → ℕ → ℕ → ℕ → Type 0
IsLatest h precinct number n band = (m : ℕ) → n < m → m < number → IsBandOf h (packet_at h precinct m) band → ⊥

-- What a band holds after so many packets: the line of the last one that has it, and before them what it held
pub record HoldsLast (h : Header) (precinct : ℕ) (content now : Content) (modes : ℕ → ℕ) (number band : ℕ) (state : Band) : Type 0 where
  pub mode : state.mode ≡ modes band
  pub cut : state.cut ≡ truncation_of (content.q precinct) (content.r precinct) (weight_of h band)
  pub none : ((n : ℕ) → n < number → IsBandOf h (packet_at h precinct n) band → ⊥) → last_of state ≡ last_before h content band (precinct * precinct_lines h band)
  pub some : (n : ℕ) → n < number → IsBandOf h (packet_at h precinct n) band → IsLatest h precinct number n band → last_of state ≡ Some (line_held h now band (packet_at h precinct n).line)

-- the first packets were read
pub record PacketsSoFar (h : Header) (precinct : ℕ) (content : Content) (modes : ℕ → ℕ) (body : List ℕ) (rows : List BandLines) (bands : List Band) (at number : ℕ) : Type 0 where
  pub now : Content
  pub fault : packets_fault h modes 0 (packets_of h precinct) content body ≡ packets_fault h modes number (drop number (packets_of h precinct)) now (drop at body)
  pub after : with_packets h modes (packets_of h precinct) content body ≡ with_packets h modes (drop number (packets_of h precinct)) now (drop at body)
  pub settings : (now.q ≡ content.q) × (now.r ≡ content.r)
  pub before : (band line : ℕ) → (precinct_of h band line ≡ precinct → ⊥) → now.count band line ≡ content.count band line
  pub holds : (band : ℕ) → band < bands_of h → HoldsLast h precinct content now modes number band (get_or bands band no_band)
  pub shown : (n band : ℕ) → n < number → IsBandOf h (packet_at h precinct n) band
      → row_at rows band (packet_at h precinct n).line ≡ map (dequantised_rows h now band (packet_at h precinct n).line) (upto (band_width_of h band))

pub no_packets : (h : Header) (precinct : ℕ) (content : Content) (modes : ℕ → ℕ) (body : List ℕ) (rows : List BandLines) (bands : List Band) → AreReady h precinct content modes bands → PacketsSoFar h precinct content modes body rows bands 0 0
no_packets h precinct content modes body rows bands ready = record {
  now = content;
  fault = refl;
  after = refl;
  settings = (refl, refl);
  before = λ band line other. refl;
  holds = λ band there.
      let r = ready band there in
      record { mode = r.mode; cut = r.cut; none = λ _. r.above; some = λ n inside of last. absurd (omega (arith, inside)) };
  shown = λ n band inside of. absurd (omega (arith, inside));
}

-- Contents of which a line is the same

pub truncation_same : (h : Header) (content other : Content) (band line : ℕ) → (content.q ≡ other.q) × (content.r ≡ other.r) → line_truncation h content band line ≡ line_truncation h other band line
truncation_same h content other band line settings = truncation_at h content other band line (precinct_of h band line) refl (ap (λ f. f (precinct_of h band line)) settings.0) (ap (λ f. f (precinct_of h band line)) settings.1)

pub held_same : (h : Header) (content other : Content) (band line : ℕ) → (content.q ≡ other.q) × (content.r ≡ other.r) → content.count band line ≡ other.count band line → line_held h content band line ≡ line_held h other band line
held_same h content other band line settings same =
    ap (λ (f : ℕ → ℕ). held f (line_truncation h content band line)) same ∙ ap (held (other.count band line)) (truncation_same h content other band line settings)
  where
    held : (ℕ → ℕ) → ℕ → Last
    held f t = record { counts = map f (upto (groups_of (band_width_of h band))); truncation = t }

pub rows_same : (h : Header) (content other : Content) (band line : ℕ) → (content.q ≡ other.q) × (content.r ≡ other.r) → Same content other band line → dequantised_rows h content band line ≡ dequantised_rows h other band line
rows_same h content other band line settings same =
    ap (λ (f : ℕ → ℕ). row f (line_truncation h content band line) (content.value band line)) same.0 ∙ ap (λ t. row (other.count band line) t (content.value band line)) (truncation_same h content other band line settings)
    ∙ ap (λ (f : ℕ → ℤ). row (other.count band line) (line_truncation h other band line) f) same.1
  where
    row : (ℕ → ℕ) → ℕ → (ℕ → ℤ) → ℕ → ℤ
    row counts t values column = if nat_lt column (band_width_of h band) then dequantised h.quant (counts (column / 4)) t (values column) else pos 0

-- The packet in hand

-- what its bands hold is the line above, as the content has it
pub held_above : (h : Header) (precinct : ℕ) (content now : Content) (modes : ℕ → ℕ) (number band : ℕ) (state : Band) → IsGeometry h → number < length (packets_of h precinct) → IsBandOf h (packet_at h precinct number) band
    → (now.q ≡ content.q) × (now.r ≡ content.r) → ((b l : ℕ) → (precinct_of h b l ≡ precinct → ⊥) → now.count b l ≡ content.count b l)
    → HoldsLast h precinct content now modes number band state → last_of state ≡ last_before h now band (packet_at h precinct number).line
held_above h precinct content now modes number band state ranges inside of settings before holds = elim (cases_lt first line) [
  | inr most ↦
      let same : first ≡ line = omega (arith, most, own.from) in
      holds.none (λ n less has.
      let earlier = packet_order h precinct n number band less inside has of in
      let from = (packet_line h precinct n band ranges (omega (arith, less, inside)) has).from in
      absurd (omega (arith, earlier, from, most)))
      ∙ above_first (is_first_line h band first) refl ∙ ap (last_before h now band) same
  | inl more ↦
      let one = packet_with h precinct band (line - 1) ranges (record { band_there = own.band_there; there = omega (arith, own.there); from = omega (arith, more); to = omega (arith, own.to) }) in
      let it : HasItsLine h precinct band (line - 1) one.0 = one.1 in
      let less : one.0 < number = elim (cases_lt one.0 number) [
        | inl less ↦ less
        | inr past ↦ absurd (not_later one.0 past it more)
      ] in
      holds.some one.0 less it.band_in (λ m later below has.
      let above = packet_order h precinct one.0 m band later (omega (arith, below, inside)) it.band_in has in
      let under = packet_order h precinct m number band below inside has of in
      omega (arith, above, under, it.line_is, more))
      ∙ ap (λ l. Some (line_held h now band l)) it.line_is ∙ sym (ap (λ (t : Bool). if t then None else Some (line_held h now band (line - 1))) (not_first more))
]
  where
    line : ℕ
    line = (packet_at h precinct number).line

    first : ℕ
    first = precinct * precinct_lines h band

    own : IsInPrecinct h precinct band line
    own = packet_line h precinct number band ranges inside of

    not_later : (n : ℕ) → number ≤ n → HasItsLine h precinct band (line - 1) n → first < line → ⊥
    not_later n past it more = elim (cases_eq n number) [
      | inl same ↦
          let e : (packet_at h precinct n).line ≡ line = ap (λ k. (packet_at h precinct k).line) same in
          omega (arith, e, it.line_is, more)
      | inr other ↦
          let later = packet_order h precinct number n band (omega (arith, past, other)) it.inside of it.band_in in
          omega (arith, later, it.line_is, more)
    ]

    above_first : (t : Bool) → is_first_line h band first ≡ t → last_before h content band first ≡ last_before h now band first
    above_first true e = ap (λ (t : Bool). if t then None else Some (line_held h content band (first - 1))) e ∙ sym (ap (λ (t : Bool). if t then None else Some (line_held h now band (first - 1))) e)
    above_first false e =
        let same = before band (first - 1) (line_before h precinct band e) in
        ap (λ (t : Bool). if t then None else Some (line_held h content band (first - 1))) e ∙ ap Some (held_same h content now band (first - 1) (sym settings.0, sym settings.1) (sym same))
        ∙ sym (ap (λ (t : Bool). if t then None else Some (line_held h now band (first - 1))) e)

    not_first : first < line → is_first_line h band line ≡ false
    not_first more = later_line h precinct band line more own.to
