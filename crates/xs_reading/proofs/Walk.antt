-- A precinct of a content has no fault, and is read as the content has it.
use Rattle.std.proofs.Common.{◌≡◌, ℕ, ◌+◌, ◌-◌, ◌*◌, ◌<◌, List, [], ◌∷◌, ◌++◌, map, drop, refl, sym, ap, subst, ◌∙◌, arith, append_assoc, inl, inr}
use Rattle.std.specs.Prelude.{Bool, true, false, ◌&&◌, not, max, if◌then◌else◌, Option, None}
use Rattle.std.specs.List.{AllByRecursion}
use Rattle.std.proofs.lemmas.Bool.{and_parts, cases_eq, cases_lt}
use Rattle.std.proofs.lemmas.List.{drop_at}
use Rattle.xs_lists.specs.First.{first_some}
use Rattle.xs_lists.specs.Spelling.{SpellsEach}
use Rattle.xs_lists.proofs.Cut.{all-each, all-both}
use Rattle.xs_lists.proofs.Each.{all-range}
use Rattle.xs_params.specs.declared.header.Header.{Header}
use Rattle.xs_layout.specs.Geometry.{groups_of, components_of, PacketPlace}
use Rattle.xs_spelling.specs.Counts.{Line, predicts_above}
use Rattle.xs_spelling.specs.Laws.{SameBefore}
use Rattle.xs_spelling.specs.ReadingLaws.{IsPredicted}
use Rattle.xs_params.specs.Geometry.{band_width_of, packet_bands}
use Rattle.xs_grammar.specs.Laws.{SameLine, SameBandLine}
use Rattle.xs_grammar.specs.Precinct.{Content, precinct_of, coded_line, is_first_line, line_truncation, prediction_of, SpellsPacket}
use Rattle.xs_grammar.proofs.OneSlice.{truncation_at, not_first}
use Rattle.xs_reading.specs.Packet.{packet_end, packet_fault, packet_lines}
use Rattle.xs_reading.specs.Precinct.{place_lines, with_packet, with_packets, packets_fault}
use Rattle.xs_reading.specs.Laws.{HasRange, IsPacketKnown}
use Rattle.xs_reading.proofs.Known.{packet_known}
use Rattle.xs_reading.proofs.Lines.{AreReadOf}
use Rattle.xs_reading.proofs.Places.{IsBandOf, AreOrdered, Before, before_line, bands_in, IsOfPrecinct}
use Rattle.xs_reading.proofs.Spelled.{packet_shaped}
use Rattle.xs_reading.proofs.Contents.{Same, lines_given, lines_range, lines_settings, packet_leaves, packets_leave, predicted_line}
use Rattle.xs_reading.proofs.Ready.{SameCountsAt, Grows, HasPacket, AreReady}

-- what a precinct's settings are in both
pub record AreSet (h : Header) (content read : Content) (precinct : ℕ) : Type 0 where
  pub q : content.q precinct ≡ read.q precinct
  pub r : content.r precinct ≡ read.r precinct
  -- and those of the precincts before it in the slice
  pub above : (band line : ℕ) → precinct_of h band line ≡ precinct → is_first_line h band line ≡ false → line_truncation h content band (line - 1) ≡ line_truncation h read band (line - 1)

-- a line is known alike before it is read
same_before : (h : Header) (content read : Content) (precinct mode modes band line : ℕ) → AreSet h content read precinct → mode ≡ modes → precinct_of h band line ≡ precinct
    → (is_first_line h band line ≡ false → SameCountsAt h content read band (line - 1)) → SameBefore (coded_line h content mode band line) (coded_line h read modes band line)
same_before h content read precinct mode modes band line set same own above = record {
  groups = refl;
  mode = same;
  truncation = cut;
  prediction = λ group inside. ap (λ m. prediction_of h content m band line group) same ∙ go (predicts_above modes && not (is_first_line h band line)) (λ e. not_first (is_first_line h band line) (and_parts (predicts_above modes) (not (is_first_line h band line)) e).1) group inside;
}
  where
    cut : line_truncation h content band line ≡ line_truncation h read band line
    cut = truncation_at h content read band line precinct own set.q set.r

    go : (s : Bool) → (s ≡ true → is_first_line h band line ≡ false) → (group : ℕ) → group < groups_of (band_width_of h band)
        → (if s then max (max (content.count band (line - 1) group) (line_truncation h content band (line - 1))) (line_truncation h content band line) else line_truncation h content band line)
        ≡ (if s then max (max (read.count band (line - 1) group) (line_truncation h read band (line - 1))) (line_truncation h read band line) else line_truncation h read band line)
    go true f group inside =
        ap (λ n. max (max n (line_truncation h content band (line - 1))) (line_truncation h content band line)) (above (f refl) group inside)
        ∙ ap (λ n. max (max (read.count band (line - 1) group) n) (line_truncation h content band line)) (set.above band line own (f refl))
        ∙ ap (λ n. max (max (read.count band (line - 1) group) (line_truncation h read band (line - 1))) n) cut
    go false f group inside = cut

pub two_back : {A : Type 0} (a b : Option A) → a ≡ None → b ≡ None → first_some (a ∷ b ∷ []) ≡ None
two_back a b p q = ap (λ x. first_some (x ∷ b ∷ [])) p ∙ ap (λ x. first_some (x ∷ [])) q

-- packets of the content
pub record ArePacketsKnown (h : Header) (modes : ℕ → ℕ) (number : ℕ) (places : List PacketPlace) (content read : Content) (bytes : List ℕ) : Type 0 where
  pub no_fault : packets_fault h modes number places read bytes ≡ None
  pub lines : AllByRecursion (λ place. AllByRecursion (λ band. SameBandLine h content (with_packets h modes places read bytes) band place.line) (packet_bands h place)) places
  pub range : HasRange h (with_packets h modes places read bytes)

pub walk : (h : Header) (precinct : ℕ) (mode modes : ℕ → ℕ) (number : ℕ) (places : List PacketPlace) (content read : Content) (front rest : List ℕ)
    → AreOrdered places → AllByRecursion (IsOfPrecinct h precinct) places → AllByRecursion (λ place. (band : ℕ) → IsBandOf h place band → mode band ≡ modes band) places
    → AreReady h content read places → AreSet h content read precinct → HasRange h read → SpellsEach (SpellsPacket h content mode) places front
    → ArePacketsKnown h modes number places content read (front ++ rest)
walk h precinct mode modes number [] content read front rest order own same ready set range p = record { no_fault = refl; lines = tt; range = range }
walk h precinct mode modes number (place ∷ places) content read front rest order own same ready set range p =
    subst (ArePacketsKnown h modes number (place ∷ places) content read) (sym whole)
    (step (walk h precinct mode modes (number + 1) places content next p.1 rest order.1 own.1 same.1 (ready.1 next grows has) next_set next_range p.4))
  where
    bytes : List ℕ
    bytes = p.0 ++ (p.1 ++ rest)

    whole : front ++ rest ≡ bytes
    whole = ap (λ l. l ++ rest) p.2 ∙ append_assoc p.0 p.1 rest

    lines : List Line
    lines = place_lines h modes read place

    packet : IsPacketKnown h number (packet_bands h place) (λ band. coded_line h content (mode band) band place.line) lines p.0 (p.1 ++ rest)
    packet = packet_known h number (packet_bands h place) (λ band. coded_line h content (mode band) band place.line) (λ band. coded_line h read (modes band) band place.line) p.0 (p.1 ++ rest)
        (bands_in h place (λ band. SameBefore (coded_line h content (mode band) band place.line) (coded_line h read (modes band) band place.line))
        (λ band of. same_before h content read precinct (mode band) (modes band) band place.line set (same.0 band of) (own.0 band of) (λ f. ready.0 band of f))) p.3

    known : AllByRecursion IsPredicted lines
    known = all-lines (packet_bands h place)
      where
        all-lines : (bands : List ℕ) → AllByRecursion IsPredicted (map (λ band. coded_line h read (modes band) band place.line) bands)
        all-lines [] = tt
        all-lines (band ∷ bands) = (predicted_line h read (modes band) band place.line range, all-lines bands)

    shaped : AreReadOf lines (packet_lines h lines bytes)
    shaped = packet_shaped h number lines bytes known packet.no_fault

    next : Content
    next = with_packet h modes place read bytes

    next_range : HasRange h next
    next_range = lines_range h read place.line (packet_bands h place) lines (packet_lines h lines bytes) range shaped

    settings : (next.q ≡ read.q) × (next.r ≡ read.r)
    settings = lines_settings read place.line (packet_bands h place) (packet_lines h lines bytes)

    next_set : AreSet h content next precinct
    next_set = record {
      q = set.q ∙ ap (λ f. f precinct) (sym settings.0);
      r = set.r ∙ ap (λ f. f precinct) (sym settings.1);
      above = λ band line e f. set.above band line e f ∙ truncation_at h read next band (line - 1) (precinct_of h band (line - 1)) refl (ap (λ f. f (precinct_of h band (line - 1))) (sym settings.0)) (ap (λ f. f (precinct_of h band (line - 1))) (sym settings.1));
    }

    here : AllByRecursion (λ band. SameLine (coded_line h content (mode band) band place.line) (record (coded_line h read (modes band) band place.line) { count = next.count band place.line; value = next.value band place.line })) (packet_bands h place)
    here = packet.same (λ band. record (coded_line h read (modes band) band place.line) { count = next.count band place.line; value = next.value band place.line })
        (lines_given (λ band. coded_line h read (modes band) band place.line) read place.line (place.first_type * components_of h.shape.format) (place.types * components_of h.shape.format) (packet_lines h lines bytes) shaped)

    has : HasPacket h content next place
    has band of = (all-range (λ band. SameLine (coded_line h content (mode band) band place.line) (record (coded_line h read (modes band) band place.line) { count = next.count band place.line; value = next.value band place.line }))
        (place.first_type * components_of h.shape.format) (place.types * components_of h.shape.format) here band of.low of.high).counts

    left : (band l : ℕ) → (IsBandOf h place band → l ≡ place.line → ⊥) → SameCountsAt h content read band l → SameCountsAt h content next band l
    left band l apart s group inside = s group inside ∙ ap (λ f. f group) (sym (packet_leaves h modes place read bytes band l apart).0)

    grows : Grows h content read next
    grows band l s = elim (cases_eq l place.line) [
      | inr other ↦ left band l (λ of e. other e) s
      | inl e ↦ elim (cases_lt band (place.first_type * components_of h.shape.format)) [
        | inl below ↦ left band l (λ of _. absurd (omega (arith, below, of.low))) s
        | inr low ↦ elim (cases_lt band (place.first_type * components_of h.shape.format + place.types * components_of h.shape.format)) [
          | inl high ↦ subst (SameCountsAt h content next band) (sym e) (has band (record { low = low; high = high }))
          | inr above ↦ left band l (λ of _. absurd (omega (arith, above, of.high))) s
        ]
      ]
    ]

    cut : drop (packet_end h lines bytes) bytes ≡ p.1 ++ rest
    cut = drop_at p.0 (p.1 ++ rest) (packet_end h lines bytes) (sym packet.ends)

    step : ArePacketsKnown h modes (number + 1) places content next (p.1 ++ rest) → ArePacketsKnown h modes number (place ∷ places) content read bytes
    step others =
        let moved : ArePacketsKnown h modes (number + 1) places content next (drop (packet_end h lines bytes) bytes) = subst (ArePacketsKnown h modes (number + 1) places content next) (sym cut) others in
        let final : Content = with_packets h modes places next (drop (packet_end h lines bytes) bytes) in
        let kept : (band : ℕ) → IsBandOf h place band → Same final next band place.line = λ band of. packets_leave h modes places next (drop (packet_end h lines bytes) bytes) band place.line
        (all-each (Before place) (λ q. IsBandOf h q band → place.line ≡ q.line → ⊥) places (λ q before there e. let less = before_line h place q band before of there in omega (arith, less, e)) order.0) in
        record {
          no_fault = two_back (packet_fault h number lines bytes) (packets_fault h modes (number + 1) places next (drop (packet_end h lines bytes) bytes)) packet.no_fault moved.no_fault;
          lines = (
            all-both (λ band. SameLine (coded_line h content (mode band) band place.line) (record (coded_line h read (modes band) band place.line) { count = next.count band place.line; value = next.value band place.line }))
                (λ band. Same final next band place.line) (λ band. SameBandLine h content final band place.line) (packet_bands h place)
                (λ band line k. record { counts = λ group inside. line.counts group inside ∙ ap (λ f. f group) (sym k.0); values = λ column inside. line.values column inside ∙ ap (λ f. f column) (sym k.1) })
                here (bands_in h place (λ band. Same final next band place.line) kept),
            moved.lines,
          );
          range = moved.range;
        }
