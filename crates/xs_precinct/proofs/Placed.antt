-- The packets of a precinct by their numbers: a band has its lines in their order, each in one packet.
use Rattle.std.proofs.Common.{◌≡◌, ℕ, zero, suc, ◌+◌, ◌-◌, ◌*◌, ◌/◌, ◌<◌, ◌≤◌, List, [], ◌∷◌, length, get_or, sym, ap, subst, ◌∙◌, arith}
use Rattle.std.specs.Prelude.{true}
use Rattle.std.specs.List.{AllByRecursion, Contains}
use Rattle.std.proofs.Math.Nat.{div-mul-le_self, lt-div-mul-add}
use Rattle.std.proofs.lemmas.Nat.{div-mul-add, pow_pos}
use Rattle.xs_layout.specs.Geometry.{PacketPlace, components_of}
use Rattle.xs_params.specs.declared.header.Header.{Header}
use Rattle.xs_layout.specs.declared.Format.{Format}
use Rattle.xs_layout.specs.declared.Format.TheVariants.{Mono, C422, C444}
use Rattle.xs_lists.proofs.Cut.{all-each}
use Rattle.xs_lists.proofs.Walk.{all-filter}
use Rattle.xs_params.specs.Geometry.{bands_of, band_height_of, has_line, packet_bands, packet_places, packets_of, precinct_lines}
use Rattle.xs_params.specs.Accepted.{IsGeometry}
use Rattle.xs_geometry.specs.Places.{no_place, packet_at}
use Rattle.xs_geometry.specs.Lines.{HoldsLine}
use Rattle.xs_geometry.proofs.PlaceFacts.{range_has, in_range}
use Rattle.xs_geometry.proofs.PacketLines.{line_in_one_packet, packets_have_lines}
use Rattle.xs_grammar.specs.Precinct.{precinct_of}
use Rattle.xs_reading.proofs.Places.{AreOrdered, Before, IsBandOf, all-places, before_line, packets_ordered}
use Rattle.xs_precinct.proofs.Pairs.{all_at}

pub contains : (h : Header) (place : PacketPlace) (band : ℕ) → IsBandOf h place band → Contains (packet_bands h place) band
contains h place band of = in_range (place.first_type * components_of h.shape.format) (place.types * components_of h.shape.format) band of.low of.high

pub band_of : (h : Header) (place : PacketPlace) (band : ℕ) → Contains (packet_bands h place) band → IsBandOf h place band
band_of h place band has = let between = range_has (place.first_type * components_of h.shape.format) (place.types * components_of h.shape.format) band has in record { low = between.0; high = between.1 }

-- a later packet has a later line of a band
in_order : (places : List PacketPlace) (n m : ℕ) (d : PacketPlace) → AreOrdered places → n < m → m < length places → Before (get_or places n d) (get_or places m d)
in_order [] n m d order less inside = absurd (omega (arith, inside))
in_order (p ∷ places) n zero d order less inside = absurd (omega (arith, less))
in_order (p ∷ places) zero (suc m) d order less inside = all_at (Before p) places m d (omega (arith, inside)) order.0
in_order (p ∷ places) (suc n) (suc m) d order less inside = in_order places n m d order.1 (omega (arith, less)) (omega (arith, inside))

pub packet_order : (h : Header) (precinct n m band : ℕ) → n < m → m < length (packets_of h precinct) → IsBandOf h (packet_at h precinct n) band → IsBandOf h (packet_at h precinct m) band
    → (packet_at h precinct n).line < (packet_at h precinct m).line
packet_order h precinct n m band less inside a b = before_line h (packet_at h precinct n) (packet_at h precinct m) band (in_order (packets_of h precinct) n m no_place (packets_ordered h precinct) less inside) a b

-- a line of a band in a precinct
pub record IsInPrecinct (h : Header) (precinct band line : ℕ) : Type 0 where
  pub band_there : band < bands_of h
  pub there : line < band_height_of h band
  pub from : precinct * precinct_lines h band ≤ line
  pub to : line < precinct * precinct_lines h band + precinct_lines h band

pub some_lines : (h : Header) (band : ℕ) → 0 < precinct_lines h band
some_lines h band = pow_pos _

pub of_precinct : (h : Header) (precinct band line : ℕ) → precinct * precinct_lines h band ≤ line → line < precinct * precinct_lines h band + precinct_lines h band → precinct_of h band line ≡ precinct
of_precinct h precinct band line low high =
    let lines = precinct_lines h band in
    let back : precinct * lines + (line - precinct * lines) ≡ line = omega (arith, low) in
    sym (ap (λ n. n / lines) back) ∙ div-mul-add precinct lines (line - precinct * lines) (omega (arith, low, high))

pub in_precinct : (h : Header) (precinct band line : ℕ) → band < bands_of h → line < band_height_of h band → precinct_of h band line ≡ precinct → IsInPrecinct h precinct band line
in_precinct h precinct band line there inside e =
    let lines = precinct_lines h band in
    record {
      band_there = there;
      there = inside;
      from = subst (λ p. p * lines ≤ line) e (div-mul-le_self line lines);
      to = subst (λ p. line < p * lines + lines) e (lt-div-mul-add (some_lines h band));
    }

pub packet_line : (h : Header) (precinct n band : ℕ) → IsGeometry h → n < length (packets_of h precinct) → IsBandOf h (packet_at h precinct n) band → IsInPrecinct h precinct band (packet_at h precinct n).line
packet_line h precinct n band ranges inside of =
    let is = packets_have_lines h precinct n band ranges inside (contains h (packet_at h precinct n) band of) in
    let lines = precinct_lines h band in
    let next : (precinct + 1) * lines ≡ precinct * lines + lines = omega arith in
    record { band_there = is.band_there; there = is.line_there; from = omega (arith, is.from, is.line_there); to = omega (arith, is.to, next) }

-- the packet that has a line of the precinct
pub record HasItsLine (h : Header) (precinct band line n : ℕ) : Type 0 where
  pub inside : n < length (packets_of h precinct)
  pub band_in : IsBandOf h (packet_at h precinct n) band
  pub line_is : (packet_at h precinct n).line ≡ line

pub packet_with : (h : Header) (precinct band line : ℕ) → IsGeometry h → IsInPrecinct h precinct band line → (n : ℕ) × HasItsLine h precinct band line n
packet_with h precinct band line ranges is =
    let one = line_in_one_packet h band line ranges is.band_there is.there in
    let holds : HoldsLine h band line one.0 one.1 one.2 = one.3 in
    let of = band_of h (packet_at h one.1 one.2) band holds.band_in in
    let own = packet_line h one.1 one.2 band ranges holds.number_there of in
    let same : one.1 ≡ precinct = sym (of_precinct h one.1 band (packet_at h one.1 one.2).line own.from own.to) ∙ ap (precinct_of h band) holds.line_is ∙ of_precinct h precinct band line is.from is.to in
    (one.2, subst (λ p. HasItsLine h p band line one.2) same (record { inside = holds.number_there; band_in = of; line_is = holds.line_is }))

-- Windows

-- each packet has some bands
some_types : (h : Header) (precinct : ℕ) → AllByRecursion (λ (place : PacketPlace). 1 ≤ place.types) (packets_of h precinct)
some_types h precinct = all-filter (λ (place : PacketPlace). 1 ≤ place.types) (has_line h) (packet_places h precinct)
    (all-each (λ (place : PacketPlace). 1 ≤ place.types) (λ place. has_line h place ≡ true → 1 ≤ place.types) (packet_places h precinct) (λ place some _. some)
    (all-places (λ (place : PacketPlace). 1 ≤ place.types) h precinct (omega arith) (λ level line side low high from to inside. omega arith)))

-- where its bands begin among all, and how many they are
pub record IsWindow (h : Header) (place : PacketPlace) : Type 0 where
  pub some : 1 ≤ place.types * components_of h.shape.format
  pub inside : place.first_type * components_of h.shape.format + place.types * components_of h.shape.format ≤ bands_of h

pub window_of : (h : Header) (precinct number : ℕ) → IsGeometry h → number < length (packets_of h precinct) → IsWindow h (packet_at h precinct number)
window_of h precinct number ranges inside =
    let place = packet_at h precinct number in
    let some = product place.types (components_of h.shape.format) (all_at (λ (p : PacketPlace). 1 ≤ p.types) (packets_of h precinct) number no_place inside (some_types h precinct)) (some_components h.shape.format) in
    let last = place.first_type * components_of h.shape.format + (place.types * components_of h.shape.format - 1) in
    let there = (packet_line h precinct number last ranges inside (record { low = omega arith; high = omega (arith, some) })).band_there in
    record { some = some; inside = omega (arith, there, some) }
  where
    some_components : (f : Format) → 1 ≤ components_of f
    some_components Mono = omega arith
    some_components C422 = omega arith
    some_components C444 = omega arith

    product : (m n : ℕ) → 1 ≤ m → 1 ≤ n → 1 ≤ m * n
    product m n a b = grind (arith, a, b)
