-- All lengths in a slice have room in their fields where the parts of its packets have.
use Rattle.std.proofs.Common.{◌≡◌, ℕ, zero, suc, ◌*◌, ◌^◌, ◌<◌, ◌≤◌, List, [], ◌∷◌, length, refl, ap, ◌∙◌, arith, append-nil}
use Rattle.std.specs.Prelude.{Bool, true, false, nat_lt}
use Rattle.std.specs.List.{flat_map, list_all, sum_by, Contains, AllByRecursion}
use Rattle.std.proofs.Math.Nat.{add-mul}
use Rattle.std.proofs.lemmas.Bool.{and_from, lt-ltb}
use Rattle.std.proofs.lemmas.List.Concat.{length-flat_map}
use Rattle.std.proofs.lemmas.List.Elements.{recursion_from_All, Contains-get_or}
use Rattle.std.proofs.lemmas.List.Sums.{sum_by-cons}
use Rattle.xs_lists.specs.Bits.{bytes_for}
use Rattle.xs_lists.specs.Packing.{packed}
use Rattle.xs_lists.proofs.Packing.{length-packed}
use Rattle.xs_layout.specs.Geometry.{PacketPlace, packet_places_of}
use Rattle.xs_params.specs.declared.header.Header.{Header}
use Rattle.xs_params.specs.Geometry.{packet_bands, packets_of, precincts_of, has_line}
use Rattle.xs_spelling.specs.Counts.{Line}
use Rattle.xs_spelling.proofs.Bounded.{join-most, kept-most}
use Rattle.xs_grammar.specs.Packet.{packet_fields}
use Rattle.xs_grammar.specs.Precinct.{Content}
use Rattle.xs_grammar.specs.Coded.{no_filler, packets_bytes, fields_fit, counts_part, data_part, signs_part, packet_line, packet_bytes, packet_fits, precinct_body, precinct_fits, slice_fits}
use Rattle.xs_grammar.specs.Sizes.{lines_size}
use Rattle.xs_grammar.proofs.Coded.{all-list_all}
use Rattle.xs_grammar.proofs.Sizes.{length-lines_bytes}

-- Lists

pub sum-most : {A : Type 0} (f g : A → ℕ) (most : ℕ) → ((x : A) → f x ≤ g x * most) → (xs : List A) → sum_by f xs ≤ sum_by g xs * most
sum-most f g most h [] = omega arith
sum-most f g most h (x ∷ xs) =
    omega (arith, sum_by-cons f x xs, h x, sum-most f g most h xs, ap (λ n. n * most) (sum_by-cons g x xs), add-mul (g x) (sum_by g xs) most)

pub part-size : (f : ℕ → List ℕ) (bands : List ℕ) → length (packed (flat_map f bands)) ≡ bytes_for (sum_by (λ band. length (f band)) bands)
part-size f bands = length-packed (flat_map f bands) ∙ ap bytes_for (length-flat_map f bands)

each-passes : {A : Type 0} (test : A → Bool) → ((x : A) → test x ≡ true) → (xs : List A) → list_all test xs ≡ true
each-passes test h [] = refl
each-passes test h (x ∷ xs) = and_from (test x) (list_all test xs) (h x) (each-passes test h xs)

pub all-contained : {A : Type 0} (P : A → Type 0) (xs : List A) → ((x : A) → Contains xs x → P x) → AllByRecursion P xs
all-contained P xs h = recursion_from_All P xs (λ k d inside. h _ (Contains-get_or xs k d inside))

-- Packets

-- the parts of a packet of the bands' lines have room in its header, and all of it is small
pub record IsSmallPacket (h : Header) (bands : List ℕ) (line : ℕ → Line) : Type 0 where
  pub counts : length (counts_part bands line) < 2 ^ 13
  pub numbers : length (data_part h.signs_apart bands line) < 2 ^ 15
  pub signs : length (signs_part h.signs_apart bands line) < 2 ^ 11
  pub whole : lines_size h bands line ≤ 2 ^ 20

packet-fits : (h : Header) (content : Content) (mode : ℕ → ℕ) (place : PacketPlace) → h.long_heads ≡ false → IsSmallPacket h (packet_bands h place) (packet_line h content mode place) → packet_fits h content mode place ≡ true
packet-fits h content mode place short s =
    ap (λ long. fields_fit (packet_fields long false numbers counts signs)) short
    ∙ and_from (nat_lt numbers (2 ^ 15)) _ (lt-ltb numbers (2 ^ 15) s.numbers)
    (and_from (nat_lt counts (2 ^ 13)) _ (lt-ltb counts (2 ^ 13) s.counts) (and_from (nat_lt signs (2 ^ 11)) true (lt-ltb signs (2 ^ 11) s.signs) refl))
  where
    numbers : ℕ
    numbers = length (data_part h.signs_apart (packet_bands h place) (packet_line h content mode place))

    counts : ℕ
    counts = length (counts_part (packet_bands h place) (packet_line h content mode place))

    signs : ℕ
    signs = length (signs_part h.signs_apart (packet_bands h place) (packet_line h content mode place))

-- Precincts and slices

-- each packet of each precinct is small
abbrev pub AreSmallPackets : Header → Content → (ℕ → ℕ → ℕ) → Type 0
AreSmallPackets h content mode =
    (precinct : ℕ) (place : PacketPlace) → Contains (packets_of h precinct) place → IsSmallPacket h (packet_bands h place) (packet_line h content (mode precinct) place)

pub places-most : (nlx nly precinct : ℕ) → nly ≤ 2 → length (packet_places_of nlx nly precinct) ≤ 10
places-most nlx zero precinct few = omega arith
places-most nlx (suc zero) precinct few = omega arith
places-most nlx (suc (suc zero)) precinct few = omega arith
places-most nlx (suc (suc (suc nly))) precinct few = absurd (omega (arith, few))

pub packets-most : (h : Header) (content : Content) (mode : ℕ → ℕ → ℕ) (precinct : ℕ) → h.nly ≤ 2 → AreSmallPackets h content mode → length (packets_bytes h content mode precinct) < 2 ^ 24
packets-most h content mode precinct few small =
    let bytes = join-most (packet_bytes h content (mode precinct)) (2 ^ 20) (packets_of h precinct)
    (all-contained (λ place. length (packet_bytes h content (mode precinct) place) ≤ 2 ^ 20) (packets_of h precinct)
    (λ place there. omega (arith, length-lines_bytes h (packet_bands h place) (packet_line h content (mode precinct) place), (small precinct place there).whole))) in
    omega (arith, bytes, kept-most (has_line h) (packet_places_of h.nlx h.nly precinct), places-most h.nlx h.nly precinct few)

precinct-fits : (h : Header) (content : Content) (mode : ℕ → ℕ → ℕ) (precinct : ℕ) → h.long_heads ≡ false → h.nly ≤ 2 → AreSmallPackets h content mode → precinct_fits h content mode no_filler precinct ≡ true
precinct-fits h content mode precinct short few small =
    let Small : PacketPlace → Type 0 = λ place. IsSmallPacket h (packet_bands h place) (packet_line h content (mode precinct) place) in
    and_from (list_all (packet_fits h content (mode precinct)) (packets_of h precinct)) _
    (all-list_all Small (packet_fits h content (mode precinct)) (λ place s. packet-fits h content (mode precinct) place short s) (packets_of h precinct)
    (all-contained Small (packets_of h precinct) (small precinct)))
    (lt-ltb (length (precinct_body h content mode no_filler precinct)) (2 ^ 24) (omega (arith, ap length (append-nil (packets_bytes h content mode precinct)), packets-most h content mode precinct few small)))

pub slice-fits : (h : Header) (content : Content) (mode : ℕ → ℕ → ℕ) (slice : ℕ) → h.long_heads ≡ false → h.nly ≤ 2 → AreSmallPackets h content mode → slice_fits h content mode no_filler slice ≡ true
slice-fits h content mode slice short few small = each-passes (precinct_fits h content mode no_filler) (λ precinct. precinct-fits h content mode precinct short few small) (precincts_of h slice)
