-- The bytes of a packet's lines are those of the packet in the grammar.
use Rattle.std.proofs.Common.{◌≡◌, ℕ, ◌+◌, ◌-◌, ◌^◌, ◌<◌, ◌≤◌, List, [], ◌∷◌, ◌++◌, length, get_or, sum_by, refl, sym, ap, subst, ◌∙◌, arith}
use Rattle.std.specs.Prelude.{Bool, true, false, if◌then◌else◌}
use Rattle.std.specs.List.{flat_map, range_with_len}
use Rattle.xs_lists.specs.Bits.{bytes_for}
use Rattle.xs_lists.specs.Packing.{packed}
use Rattle.xs_layout.specs.Geometry.{PacketPlace}
use Rattle.xs_params.specs.declared.header.Header.{Header}
use Rattle.xs_params.specs.Geometry.{bands_of, packet_bands}
use Rattle.xs_geometry.specs.Places.{place_of}
use Rattle.xs_geometry.specs.declared.packets.PacketPlace.{PacketPlace as Place}
use Rattle.xs_spelling.specs.Counts.{Line, flag_bits}
use Rattle.xs_spelling.specs.Data.{sign_bits}
use Rattle.xs_spelling.specs.Written.{line_count_bits, line_data_bits, written_flag}
use Rattle.xs_spelling.proofs.Redata.{flat-range}
use Rattle.xs_grammar.specs.Coded.{counts_part, data_part, field_bytes, fields_fit, flags_part, lines_fields, packet_bytes, packet_fits, packet_line, signs_part}
use Rattle.xs_grammar.specs.Packet.{packet_fields}
use Rattle.xs_grammar.specs.Precinct.{Content, coded_line}
use Rattle.xs_grammar.specs.Sizes.{head_size, packet_size}
use Rattle.xs_rate.proofs.Packets.{part-size}
use Rattle.xs_precinct_write.specs.Outgoing.{Outgoing, HaveModes, IsSentAs, no_outgoing, own_signs}
use Rattle.xs_precinct_write.specs.Parts.{ArePacketLines, band_part, head_fields, packet_out, part_bytes}
use Rattle.xs_precinct_write.specs.declared.write.line.LinePart.{LinePart}
use Rattle.xs_precinct_write.specs.declared.write.line.LinePart.TheVariants.{Flags, Counts, Data, Signs}
use Rattle.xs_precinct_write.specs.declared.write.packet.PacketLines.{PacketLines}

-- the lines are those of a packet
pub record AreSent (h : Header) (content : Content) (mode : ℕ → ℕ) (place : PacketPlace) (p : PacketLines) : Type 0 where
  pub heads : h.long_heads ≡ false
  pub apart : p.apart ≡ h.signs_apart
  pub bands : packet_bands h place ≡ range_with_len p.first (p.end - p.first)
  pub lines : (band : ℕ) → p.first ≤ band → band < p.end → IsSentAs (coded_line h content (mode band) band place.line) (get_or p.lines.now band no_outgoing)

-- Parts

part_same : (f g : ℕ → List ℕ) (first end : ℕ) (bands : List ℕ) → bands ≡ range_with_len first (end - first) → ((band : ℕ) → first ≤ band → band < end → f band ≡ g band) → flat_map f (range_with_len first (end - first)) ≡ flat_map g bands
part_same f g first end bands listed same = flat-range f g first (end - first) (λ i low high. same i low (omega (arith, low, high))) ∙ ap (flat_map g) (sym listed)

flags_same : (h : Header) (content : Content) (mode : ℕ → ℕ) (place : PacketPlace) (p : PacketLines) → AreSent h content mode place p → part_bytes p Flags ≡ flags_part (packet_bands h place) (packet_line h content mode place)
flags_same h content mode place p sent =
    ap packed (part_same (band_part p Flags) (λ band. flag_bits (packet_line h content mode place band) (written_flag (packet_line h content mode place band))) p.first p.end (packet_bands h place) sent.bands
    (λ band low high. (sent.lines band low high).flags))

counts_same : (h : Header) (content : Content) (mode : ℕ → ℕ) (place : PacketPlace) (p : PacketLines) → AreSent h content mode place p → part_bytes p Counts ≡ counts_part (packet_bands h place) (packet_line h content mode place)
counts_same h content mode place p sent =
    ap packed (part_same (band_part p Counts) (λ band. line_count_bits false (packet_line h content mode place band) (written_flag (packet_line h content mode place band))) p.first p.end (packet_bands h place) sent.bands
    (λ band low high. (sent.lines band low high).counts))

data_same : (h : Header) (content : Content) (mode : ℕ → ℕ) (place : PacketPlace) (p : PacketLines) → AreSent h content mode place p → part_bytes p Data ≡ data_part h.signs_apart (packet_bands h place) (packet_line h content mode place)
data_same h content mode place p sent =
    ap packed (part_same (band_part p Data) (λ band. line_data_bits p.apart (packet_line h content mode place band)) p.first p.end (packet_bands h place) sent.bands
    (λ band low high. (sent.lines band low high).planes p.apart))
    ∙ ap (λ apart. data_part apart (packet_bands h place) (packet_line h content mode place)) sent.apart

nothing : (xs : List ℕ) → flat_map {A = ℕ} (λ (x : ℕ). []) xs ≡ []
nothing [] = refl
nothing (x ∷ xs) = nothing xs

signs_same : (h : Header) (content : Content) (mode : ℕ → ℕ) (place : PacketPlace) (p : PacketLines) → AreSent h content mode place p → part_bytes p Signs ≡ signs_part h.signs_apart (packet_bands h place) (packet_line h content mode place)
signs_same h content mode place p sent = cases p.apart ∙ ap (λ apart. signs_part apart (packet_bands h place) (packet_line h content mode place)) sent.apart
  where
    cases : (apart : Bool) → packed (flat_map (λ band. own_signs apart (get_or p.lines.now band no_outgoing)) (range_with_len p.first (p.end - p.first))) ≡ signs_part apart (packet_bands h place) (packet_line h content mode place)
    cases true = ap packed (part_same (λ band. own_signs true (get_or p.lines.now band no_outgoing)) (λ band. sign_bits (packet_line h content mode place band)) p.first p.end (packet_bands h place) sent.bands
        (λ band low high. (sent.lines band low high).signs))
    cases false = ap packed (nothing (range_with_len p.first (p.end - p.first)))

-- The packet

pub head_same : (h : Header) (content : Content) (mode : ℕ → ℕ) (place : PacketPlace) (p : PacketLines) → AreSent h content mode place p → head_fields p ≡ lines_fields h (packet_bands h place) (packet_line h content mode place)
head_same h content mode place p sent =
    fields (length (part_bytes p Data)) _ (length (part_bytes p Counts)) _ (length (part_bytes p Signs)) _ (ap length (data_same h content mode place p sent)) (ap length (counts_same h content mode place p sent)) (ap length (signs_same h content mode place p sent))
    ∙ ap (λ long. packet_fields long false (length (data_part h.signs_apart (packet_bands h place) (packet_line h content mode place))) (length (counts_part (packet_bands h place) (packet_line h content mode place))) (length (signs_part h.signs_apart (packet_bands h place) (packet_line h content mode place)))) (sym sent.heads)
  where
    fields : (a b c d e f : ℕ) → a ≡ b → c ≡ d → e ≡ f → packet_fields false false a c e ≡ packet_fields false false b d f
    fields a b c d e f p q r = ap (λ n. packet_fields false false n c e) p ∙ ap (λ n. packet_fields false false b n e) q ∙ ap (λ n. packet_fields false false b d n) r

pub packet_same : (h : Header) (content : Content) (mode : ℕ → ℕ) (place : PacketPlace) (p : PacketLines) → AreSent h content mode place p → packet_out p ≡ packet_bytes h content mode place
packet_same h content mode place p sent =
    five _ _ _ _ _ _ _ _ _ _ (ap field_bytes (head_same h content mode place p sent)) (flags_same h content mode place p sent) (counts_same h content mode place p sent) (data_same h content mode place p sent) (signs_same h content mode place p sent)
  where
    five : (a b c d e f g i j k : List ℕ) → a ≡ b → c ≡ d → e ≡ f → g ≡ i → j ≡ k → a ++ (c ++ (e ++ (g ++ j))) ≡ b ++ (d ++ (f ++ (i ++ k)))
    five a b c d e f g i j k p q r s t =
        ap (λ l. l ++ (c ++ (e ++ (g ++ j)))) p ∙ ap (λ l. b ++ (l ++ (e ++ (g ++ j)))) q ∙ ap (λ l. b ++ (d ++ (l ++ (g ++ j)))) r ∙ ap (λ l. b ++ (d ++ (f ++ (l ++ j)))) s ∙ ap (λ l. b ++ (d ++ (f ++ (i ++ l)))) t

record AreWithin (most b c d e : ℕ) : Type 0 where
  flags : b ≤ most
  counts : c ≤ most
  planes : d ≤ most
  signs : e ≤ most

within : (a b c d e most : ℕ) → a + b + c + d + e ≤ most → AreWithin most b c d e
within a b c d e most h = record { flags = omega (arith, h); counts = omega (arith, h); planes = omega (arith, h); signs = omega (arith, h) }

pub short_parts : (h : Header) (content : Content) (mode : ℕ → ℕ) (place : PacketPlace) (p : PacketLines) → AreSent h content mode place p → packet_size h content mode place ≤ 2 ^ 20 → (part : LinePart) → length (part_bytes p part) ≤ 2 ^ 20
short_parts h content mode place p sent size = parts
  where
    bands : List ℕ
    bands = packet_bands h place

    line : ℕ → Line
    line = packet_line h content mode place

    all : AreWithin (2 ^ 20) (bytes_for (sum_by (λ band. length (flag_bits (line band) (written_flag (line band)))) bands)) (bytes_for (sum_by (λ band. length (line_count_bits false (line band) (written_flag (line band)))) bands))
        (bytes_for (sum_by (λ band. length (line_data_bits h.signs_apart (line band))) bands)) (if h.signs_apart then bytes_for (sum_by (λ band. length (sign_bits (line band))) bands) else 0)
    all = within (head_size h) _ _ _ _ (2 ^ 20) size

    sized : (apart : Bool) → length (signs_part apart bands line) ≡ (if apart then bytes_for (sum_by (λ band. length (sign_bits (line band))) bands) else 0)
    sized true = part-size (λ band. sign_bits (line band)) bands
    sized false = refl

    parts : (part : LinePart) → length (part_bytes p part) ≤ 2 ^ 20
    parts Flags = subst (λ n. n ≤ 2 ^ 20) (sym (ap length (flags_same h content mode place p sent) ∙ part-size (λ band. flag_bits (line band) (written_flag (line band))) bands)) all.flags
    parts Counts = subst (λ n. n ≤ 2 ^ 20) (sym (ap length (counts_same h content mode place p sent) ∙ part-size (λ band. line_count_bits false (line band) (written_flag (line band))) bands)) all.counts
    parts Data = subst (λ n. n ≤ 2 ^ 20) (sym (ap length (data_same h content mode place p sent) ∙ part-size (λ band. line_data_bits h.signs_apart (line band)) bands)) all.planes
    parts Signs = subst (λ n. n ≤ 2 ^ 20) (sym (ap length (signs_same h content mode place p sent) ∙ sized h.signs_apart)) all.signs

-- the lines of a packet that were counted and quantised
pub packet_known : (h : Header) (content : Content) (mode : ℕ → ℕ) (place : PacketPlace) (packet : Place) (old : List Outgoing) (p : PacketLines) → h.long_heads ≡ false → p.apart ≡ h.signs_apart
    → packet_bands h place ≡ range_with_len p.first (p.end - p.first) → place_of packet ≡ place → HaveModes h mode old → p.end ≤ bands_of h
    → ((band : ℕ) → p.first ≤ band → band < p.end → IsSentAs (coded_line h content (get_or old band no_outgoing).mode band packet.line) (get_or p.lines.now band no_outgoing))
    → AreSent h content mode place p
packet_known h content mode place packet old p heads apart listed here modes end sent = record {
  heads = heads;
  apart = apart;
  bands = listed;
  lines = λ band low high.
      subst (λ line. IsSentAs (coded_line h content (mode band) band line) (get_or p.lines.now band no_outgoing)) (ap (λ (x : PacketPlace). x.line) here)
      (subst (λ m. IsSentAs (coded_line h content m band packet.line) (get_or p.lines.now band no_outgoing)) (modes band (omega (arith, high, end))) (sent band low high));
}

pub packet_lines : (h : Header) (content : Content) (mode : ℕ → ℕ) (place : PacketPlace) (p : PacketLines) → AreSent h content mode place p → p.end ≤ length p.lines.now → packet_size h content mode place ≤ 2 ^ 20 → ArePacketLines p
packet_lines h content mode place p sent there size = record { there = there; numbers = λ band low high. (sent.lines band low high).numbers; short = short_parts h content mode place p sent size }

-- what is said of the packet of the lines is said of the packet
pub packet_given : (h : Header) (content : Content) (mode : ℕ → ℕ) (place : PacketPlace) (p : PacketLines) (Q : List ℕ → Type 0) → Q (packet_out p) → AreSent h content mode place p → Q (packet_bytes h content mode place)
packet_given h content mode place p Q given sent = subst Q (packet_same h content mode place p sent) given

pub packet_fits_out : (h : Header) (content : Content) (mode : ℕ → ℕ) (place : PacketPlace) (p : PacketLines) → AreSent h content mode place p → packet_fits h content mode place ≡ true → fields_fit (head_fields p) ≡ true
packet_fits_out h content mode place p sent fits = subst (λ fields. fields_fit fields ≡ true) (sym (head_same h content mode place p sent)) fits
