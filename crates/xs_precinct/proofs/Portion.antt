-- The bands of a packet as a part of all bands, in which the packet is read, and their rows.
use Rattle.std.proofs.Common.{◌≡◌, ◌≢◌, ℕ, ◌+◌, ◌-◌, ◌*◌, ◌<◌, ◌≤◌, ◌⊎◌, inl, inr, List, take, drop, length, get_or, sym, ap, subst, ◌∙◌, arith}
use Rattle.std.specs.Prelude.{false, ◌↔◌}
use Rattle.std.specs.List.{AllByRecursion, Contains, range_with_len}
use Rattle.std.proofs.lemmas.Bool.{cases_lt}
use borrow.Rule.Slice.PartMut.{put_mid}
use Rattle.xs_layout.specs.Geometry.{PacketPlace, components_of}
use Rattle.xs_params.specs.declared.header.Header.{Header}
use Rattle.xs_params.specs.Geometry.{bands_of, geometry_of, packet_bands, packets_of, precincts_of}
use Rattle.xs_params.specs.Accepted.{IsGeometry}
use Rattle.xs_geometry.specs.Places.{packet_at}
use Rattle.xs_geometry.specs.SliceLines.{AreLinesOf, BandLines, HasLine, row_at}
use Rattle.xs_geometry.proofs.PacketLines.{slice_has_packets}
use Rattle.xs_precinct.specs.Bands.{Band, EachOf, Follows, IsBand, HoldsNumbers, no_band, row_of}
use Rattle.xs_precinct.specs.Read.{AreAfterPacket, ArePut, HaveRooms, IsAmong, bands_at}
use Rattle.xs_precinct.proofs.Pairs.{all_at, pairs_length}
use Rattle.xs_precinct.proofs.Placed.{contains, window_of}
use Rattle.xs_precinct.proofs.Windows.{put_length, put_outside, put_window, range_same, window_at, window_both, window_size}

-- the part of so many bands from one on
pub record IsPart (h : Header) (precinct number first count : ℕ) : Type 0 where
  pub begins : first ≡ (packet_at h precinct number).first_type * components_of h.shape.format
  pub counts : count ≡ (packet_at h precinct number).types * components_of h.shape.format
  pub inside : first + count ≤ bands_of h

pub part_of : (h g : Header) (place : PacketPlace) (precinct number first count : ℕ) → IsGeometry h → number < length (packets_of h precinct) → g ≡ geometry_of h → place ≡ packet_at g precinct number → packet_bands g place ≡ range_with_len first count
    → IsPart h precinct number first count
part_of h g place precinct number first count ranges inside same here e =
    let window = window_of h precinct number ranges inside in
    let now : packet_bands h (packet_at h precinct number) ≡ range_with_len first count = sym (ap (λ k. packet_bands k (packet_at k precinct number)) same) ∙ sym (ap (packet_bands g) here) ∙ e in
    let both = range_same ((packet_at h precinct number).first_type * components_of h.shape.format) first ((packet_at h precinct number).types * components_of h.shape.format) count window.some now in
    record { begins = sym both.0; counts = sym both.1; inside = omega (arith, both.0, both.1, window.inside) }

pub same_part : {A : Type 0} (h : Header) (precinct number first count : ℕ) (xs : List A) → IsPart h precinct number first count
    → take count (drop first xs) ≡ take ((packet_at h precinct number).types * components_of h.shape.format) (drop ((packet_at h precinct number).first_type * components_of h.shape.format) xs)
same_part h precinct number first count xs part = ap (λ n. take n (drop first xs)) part.counts ∙ ap (λ n. take ((packet_at h precinct number).types * components_of h.shape.format) (drop n xs)) part.begins

-- one of the part's bands
among_part : (h : Header) (precinct number first count k : ℕ) → IsPart h precinct number first count → k < count → IsAmong h (packet_at h precinct number) (first + k)
among_part h precinct number first count k part inside = (omega (arith, part.begins), omega (arith, part.begins, part.counts, inside))

-- what the packet's reader leaves of all bands
pub record IsPartRead (bands part : List Band) (first count : ℕ) : Type 0 where
  pub ranges : AllByRecursion IsBand (take count (drop first bands))
  pub follow : EachOf Follows (take count (drop first bands)) part
  pub filled : AllByRecursion (HoldsNumbers false) part

pub part_size : (bands part : List Band) (first count : ℕ) → first + count ≤ length bands → IsPartRead bands part first count → length part ≡ count
part_size bands part first count inside r = sym (pairs_length Follows (take count (drop first bands)) part r.follow) ∙ window_size first count bands inside

pub bands_after : (h : Header) (precinct number first count : ℕ) (bands part : List Band) → IsPart h precinct number first count → length bands ≡ bands_of h → IsPartRead bands part first count
    → AreAfterPacket h (packet_at h precinct number) bands (put_mid first count bands part)
bands_after h precinct number first count bands part is all r =
    let inside : first + count ≤ length bands = omega (arith, is.inside, all) in
    let size = part_size bands part first count inside r in
    record {
      count = put_length first count bands part inside size;
      ranges = subst (AllByRecursion IsBand) (same_part h precinct number first count bands is) r.ranges;
      follow = subst (EachOf Follows (bands_at h (packet_at h precinct number) bands)) (sym (put_window first count bands part inside size) ∙ same_part h precinct number first count (put_mid first count bands part) is)
          (subst (λ l. EachOf Follows l part) (same_part h precinct number first count bands is) r.follow);
      others = λ band out. put_outside first count band bands part no_band inside size (aside band out);
    }
  where
    aside : (band : ℕ) → (IsAmong h (packet_at h precinct number) band → ⊥) → (band < first) ⊎ (first + count ≤ band)
    aside band out = elim (cases_lt band first) [
      | inl below ↦ inl below
      | inr low ↦ elim (cases_lt band (first + count)) [ inl high ↦ absurd (out (omega (arith, low, is.begins), omega (arith, high, is.begins, is.counts))) | inr past ↦ inr past ]
    ]

-- the bands at their places
part_band : (first count k : ℕ) (bands part : List Band) → first + count ≤ length bands → length part ≡ count → k < count → get_or (put_mid first count bands part) (first + k) no_band ≡ get_or part k no_band
part_band first count k bands part inside size less =
    sym (window_at first count k (put_mid first count bands part) no_band less) ∙ ap (λ l. get_or l k no_band) (put_window first count bands part inside size)

-- Rows

pub lines_there : (h : Header) (precinct number first count slice line k : ℕ) (rows : List BandLines) → IsGeometry h → number < length (packets_of h precinct) → IsPart h precinct number first count
    → AreLinesOf h slice rows → Contains (precincts_of h slice) precinct → line ≡ (packet_at h precinct number).line → k < count → HasLine rows (first + k) line
lines_there h precinct number first count slice line k rows ranges inside part are within here less =
    let among = among_part h precinct number first count k part less in
    subst (HasLine rows (first + k)) (sym here) (slice_has_packets h slice rows precinct number (first + k) ranges are within inside (contains h (packet_at h precinct number) (first + k) (record { low = among.0; high = among.1 })))

-- a row is no longer than the numbers of its band
pub row_short : (h : Header) (precinct number first count slice line k : ℕ) (rows : List BandLines) (bands part : List Band) → IsGeometry h → number < length (packets_of h precinct) → IsPart h precinct number first count
    → AreLinesOf h slice rows → Contains (precincts_of h slice) precinct → line ≡ (packet_at h precinct number).line → length bands ≡ bands_of h → HaveRooms h bands → IsPartRead bands part first count → k < count
    → length (row_at rows (first + k) line) ≤ length (get_or part k no_band).values
row_short h precinct number first count slice line k rows bands part ranges inside is are within here all room r less =
    let fits : first + count ≤ length bands = omega (arith, is.inside, all) in
    let size = part_size bands part first count fits r in
    let width = are.width (first + k) line (lines_there h precinct number first count slice line k rows ranges inside is are within here less) in
    let there : first + k < bands_of h = omega (arith, is.inside, less) in
    let follows : Follows (get_or bands (first + k) no_band) (get_or (put_mid first count bands part) (first + k) no_band) =
    window_both Follows bands (put_mid first count bands part) first count no_band fits (subst (EachOf Follows (take count (drop first bands))) (sym (put_window first count bands part fits size)) r.follow) (first + k) (omega arith) (omega (arith, less)) in
    let same = part_band first count k bands part fits size less in
    let groups = sym (ap (λ (b : Band). length b.counts) same) ∙ follows.groups ∙ room (first + k) there in
    let filled = (all_at (HoldsNumbers false) part k no_band (omega (arith, less, size)) r.filled).0 in
    omega (arith, width, filled.size, groups)

pub rows_put : (h : Header) (precinct number first count line : ℕ) (bands part : List Band) (rows into : List BandLines) → IsPart h precinct number first count → line ≡ (packet_at h precinct number).line → length bands ≡ bands_of h
    → IsPartRead bands part first count → ((g : Header) (slice : ℕ) → AreLinesOf g slice rows → AreLinesOf g slice into) → ((band other : ℕ) → HasLine into band other ↔ HasLine rows band other)
    → ((k : ℕ) → k < length part → row_at into (first + k) line ≡ row_of h.quant (get_or part k no_band) (length (row_at rows (first + k) line)))
    → ((band other : ℕ) → HasLine rows band other → ((k : ℕ) → k < length part → first + k ≡ band → other ≢ line) → row_at into band other ≡ row_at rows band other)
    → ArePut h (packet_at h precinct number) (put_mid first count bands part) rows into
rows_put h precinct number first count line bands part rows into is here all r kept same_lines put elsewhere = record {
  kept = kept;
  same_lines = same_lines;
  here = λ band among.
      let k = band - first in
      let back : first + k ≡ band = omega (arith, among, is.begins) in
      let less : k < count = omega (arith, among, is.begins, is.counts) in
      subst (λ b. row_at into b (packet_at h precinct number).line ≡ row_of h.quant (get_or (put_mid first count bands part) b no_band) (length (row_at rows b (packet_at h precinct number).line))) back
      (subst (λ l. row_at into (first + k) l ≡ row_of h.quant (get_or (put_mid first count bands part) (first + k) no_band) (length (row_at rows (first + k) l))) here
      (put k (omega (arith, less, size)) ∙ ap (λ b. row_of h.quant b (length (row_at rows (first + k) line))) (sym (part_band first count k bands part fits size less))));
  elsewhere = λ band other has apart. elsewhere band other has (λ k less e f. apart (subst (IsAmong h (packet_at h precinct number)) e (among_part h precinct number first count k is (omega (arith, less, size)))) (f ∙ here));
}
  where
    fits : first + count ≤ length bands
    fits = omega (arith, is.inside, all)

    size : length part ≡ count
    size = part_size bands part first count fits r
