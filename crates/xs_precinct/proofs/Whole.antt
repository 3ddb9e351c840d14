-- All packets of a precinct.
use Rattle.std.proofs.Common.{◌≡◌, ℕ, ◌+◌, ◌-◌, ◌*◌, ◌%◌, ◌<◌, ◌≤◌, List, map, drop, length, get_or, sym, ap, subst, ◌∙◌, arith}
use Rattle.std.specs.Prelude.{Bool, false, if◌then◌else◌, None, Some, ◌↔◌}
use Rattle.std.proofs.lemmas.List.{drop_all}
use Rattle.xs_lists.specs.Spelling.{upto}
use Rattle.xs_params.specs.declared.header.Header.{Header}
use Rattle.xs_params.specs.Geometry.{band_width_of, bands_of, packets_of, precinct_count, precinct_lines}
use Rattle.xs_params.specs.Accepted.{IsGeometry}
use Rattle.xs_geometry.specs.Places.{packet_at}
use Rattle.xs_geometry.specs.SliceLines.{AreLinesOf, BandLines, HasLine, row_at}
use Rattle.xs_geometry.proofs.PacketLines.{slice_has_lines}
use Rattle.xs_grammar.specs.Precinct.{Content, is_first_line, precinct_of}
use Rattle.xs_reading.specs.Precinct.{packets_fault, with_packets}
use Rattle.xs_reading.specs.Rows.{dequantised_rows}
use Rattle.xs_precinct.specs.Held.{SameElsewhere, ShowsPrecinct, last_before, line_held}
use Rattle.xs_precinct.specs.Bands.{Band, last_of, no_band}
use Rattle.xs_precinct.specs.Read.{ArePacketsRead, ArePut}
use Rattle.xs_precinct.proofs.First.{whole_precinct, within_slice}
use Rattle.xs_precinct.proofs.Packets.{IsLatest, PacketsSoFar}
use Rattle.xs_precinct.proofs.Placed.{HasItsLine, in_precinct, of_precinct, packet_line, packet_order, packet_with, some_lines}

-- Rows elsewhere

pub elsewhere_more : (h : Header) (precinct number : ℕ) (bands : List Band) (init rows into : List BandLines) → IsGeometry h → number < length (packets_of h precinct)
    → ((band line : ℕ) → HasLine rows band line ↔ HasLine init band line) → SameElsewhere h precinct init rows → ArePut h (packet_at h precinct number) bands rows into → SameElsewhere h precinct init into
elsewhere_more h precinct number bands init rows into ranges inside lines before put band line has other =
    let place = packet_at h precinct number in
    put.elsewhere band line ((lines band line).1 has) (λ among e.
    let own = packet_line h precinct number band ranges inside (record { low = among.0; high = among.1 }) in
    other (ap (precinct_of h band) e ∙ of_precinct h precinct band place.line own.from own.to))
    ∙ before band line has other

-- No packet is left

pub faults_done : (h : Header) (precinct : ℕ) (content : Content) (modes : ℕ → ℕ) (body : List ℕ) (rows : List BandLines) (bands : List Band) (at number : ℕ) → length (packets_of h precinct) ≤ number
    → PacketsSoFar h precinct content modes body rows bands at number → None ≡ packets_fault h modes 0 (packets_of h precinct) content body
faults_done h precinct content modes body rows bands at number all so = sym (so.fault ∙ ap (λ l. packets_fault h modes number l so.now (drop at body)) (drop_all number (packets_of h precinct) all))

-- what is held of a line is what stands above the next one
held_after : (h : Header) (now : Content) (band end : ℕ) (state : Band) (line : ℕ) → line ≡ end - 1 → is_first_line h band end ≡ false → last_of state ≡ Some (line_held h now band line) → last_of state ≡ last_before h now band end
held_after h now band end state line same within held = held ∙ ap (λ l. Some (line_held h now band l)) same ∙ sym (ap (λ (t : Bool). if t then None else Some (line_held h now band (end - 1))) within)

pub packets_done : (h : Header) (precinct : ℕ) (content : Content) (modes : ℕ → ℕ) (body : List ℕ) (slice : ℕ) (init rows : List BandLines) (bands : List Band) (at number : ℕ) → IsGeometry h → number ≡ length (packets_of h precinct)
    → AreLinesOf h slice rows → SameElsewhere h precinct init rows → PacketsSoFar h precinct content modes body rows bands at number → ArePacketsRead h precinct (with_packets h modes (packets_of h precinct) content body) bands init rows
packets_done h precinct content modes body slice init rows bands at number ranges all are elsewhere so =
    subst (λ c. ArePacketsRead h precinct c bands init rows) (sym whole) (record { shown = shown; elsewhere = elsewhere; kept = kept })
  where
    now : Content
    now = so.now

    whole : with_packets h modes (packets_of h precinct) content body ≡ now
    whole = so.after ∙ ap (λ l. with_packets h modes l now (drop at body)) (drop_all number (packets_of h precinct) (omega (arith, all)))

    shown : ShowsPrecinct h now precinct rows
    shown band line has own =
        let there = (slice_has_lines h slice rows band line ranges.hsl are).0 has in
        let one = packet_with h precinct band line ranges (in_precinct h precinct band line there.0 there.1 own) in
        let it : HasItsLine h precinct band line one.0 = one.1 in
        subst (λ l. row_at rows band l ≡ map (dequantised_rows h now band l) (upto (band_width_of h band))) it.line_is (so.shown one.0 band (omega (arith, it.inside, all)) it.band_in)

    kept : 0 < (precinct + 1) % h.hsl → precinct + 1 < precinct_count h → (band : ℕ) → band < bands_of h → last_of (get_or bands band no_band) ≡ last_before h now band ((precinct + 1) * precinct_lines h band)
    kept more last band there =
        let lines = precinct_lines h band in
        let end = (precinct + 1) * lines in
        let next : end ≡ precinct * lines + lines = omega arith in
        let some : 0 < lines = some_lines h band in
        let high = whole_precinct h precinct band ranges there last in
        let one = packet_with h precinct band (end - 1) ranges (record { band_there = there; there = omega (arith, high, next, some); from = omega (arith, next, some); to = omega (arith, next, some) }) in
        let it : HasItsLine h precinct band (end - 1) one.0 = one.1 in
        let latest : IsLatest h precinct number one.0 band = λ m after below has.
        (let inside : m < length (packets_of h precinct) = omega (arith, below, all) in
        let less = packet_order h precinct one.0 m band after inside it.band_in has in
        let own = packet_line h precinct m band ranges inside has in
        omega (arith, less, it.line_is, own.to, next)) in
        held_after h now band end (get_or bands band no_band) (packet_at h precinct one.0).line it.line_is (within_slice h (precinct + 1) band more) ((so.holds band there).some one.0 (omega (arith, it.inside, all)) it.band_in latest)
