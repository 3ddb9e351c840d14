-- The codestream of a trial as it is sent: whatever is selected of its packets, its picture is received.
use Rattle.std.proofs.Common.{◌≡◌, ℕ, zero, suc, ◌+◌, ◌-◌, ◌*◌, ◌^◌, ◌<◌, ◌≤◌, ◌++◌, List, [], length, length-append, get_or, Ok, sym, ap, subst, ◌∙◌, arith, inl, inr}
use Rattle.std.specs.Prelude.{sum_by}
use Rattle.std.specs.List.{concat}
use Rattle.std.proofs.lemmas.Bool.{cases_lt}
use Rattle.std.proofs.lemmas.List.Concat.{concat_is, length-flat_map}
use Rattle.std.proofs.lemmas.List.Elements.{All-from_get_or, All-weaker, recursion_from_All}
use Rattle.std.proofs.lemmas.List.FromFn.{get_or-map-range_with_len}
use Rattle.xs_lists.specs.Packing.{AreBytes}
use Rattle.xs_lists.proofs.Walk.{all-append}
use Rattle.xs_layout.specs.Geometry.{components_of}
use Rattle.xs_layout.specs.declared.Candidate.{Candidate}
use Rattle.xs_layout.specs.declared.Weight.{Weight}
use Rattle.xs_params.specs.declared.header.Header.{Header}
use Rattle.xs_params.specs.declared.settings.Settings.{Settings}
use Rattle.xs_params.specs.Check.{AreInRange, AreWeights}
use Rattle.xs_params.specs.Geometry.{bands_of, slice_count}
use Rattle.xs_params.specs.Headers.{header_of}
use Rattle.xs_params.specs.Markers.{eoc}
use Rattle.xs_params.specs.Picture.{Picture}
use Rattle.xs_params.specs.Stream.{Stream, stream_bytes}
use Rattle.xs_params.proofs.Accepted.{header_accepted}
use Rattle.xs_params.proofs.HeaderWeights.{header_weights}
use Rattle.xs_grammar.specs.Coded.{HasRoom, header_bytes}
use Rattle.xs_grammar.specs.Header.{IsHeader}
use Rattle.xs_grammar.specs.Precinct.{Content}
use Rattle.xs_grammar.specs.Slice.{IsSlice, slice_head}
use Rattle.xs_grammar.proofs.CodedStream.{written_header}
use Rattle.xs_grammar.proofs.Sizes.{header_are, slice_are}
use Rattle.xs_rate.specs.Choice.{filled_slice_at, filler_of}
use Rattle.xs_rate.specs.Chosen.{chosen_candidate, content_at, mode_of}
use Rattle.xs_rate.specs.Coefficients.{Rows, rows_of_picture}
use Rattle.xs_rate.specs.Encoded.{IsEncoding, chosen_content, chosen_stream, stated_header}
use Rattle.xs_rate.specs.Encoding.{encoding_of, slices_at, with_length}
use Rattle.xs_rate.proofs.Encoded.{encoded_in_grammar}
use Rattle.xs_rate.proofs.FirstOver.{first_over_law, same_stream}
use Rattle.xs_rate.proofs.Fits.{length-stream, length_fits}
use Rattle.xs_rate.proofs.Headers.{components-few, few-bands, header-size}
use Rattle.xs_picture.proofs.Encoded.{some_slices}
use Rattle.xs_pack.specs.Datagrams.{IsPackable, unit_at, units_of}
use Rattle.xs_pack.specs.Sent.{AreSendable}
use Rattle.xs_pack.proofs.Cutting.{packable, unit_count, unit_last, unit_other}
use Rattle.xs_recv.specs.Laws.{IsStreamOf}

-- Units

-- what holds of the header unit and of each slice, as it is and with the end marker, holds of each unit
units_each : (P : List ℕ → Type 0) (boxes : List ℕ) (stream : Stream) → P (boxes ++ stream.header) → ((k : ℕ) → k < length stream.slices → P (get_or stream.slices k []))
    → ((k : ℕ) → k < length stream.slices → P (get_or stream.slices k [] ++ eoc)) → (unit : ℕ) → unit < length (units_of boxes stream) → P (unit_at (units_of boxes stream) unit)
units_each P boxes stream first other last zero inside = first
units_each P boxes stream first other last (suc k) inside =
    let count = unit_count boxes stream in
    let next : k + 1 ≡ suc k = omega arith in
    let there : k < length stream.slices = omega (arith, inside, count) in
    subst (λ n. P (unit_at (units_of boxes stream) n)) next (elim (cases_lt (k + 1) (length stream.slices)) [
      | inl less ↦ subst P (sym (unit_other boxes stream k less)) (other k there)
      | inr past ↦ subst P (sym (unit_last boxes stream k (omega (arith, past, there)))) (last k there)
    ])

-- The header

has_room : (s : Settings) → AreInRange s → (lcod : ℕ) → lcod < 2 ^ 32 → HasRoom (with_length (header_of s) lcod)
has_room s range lcod small = record {
  lcod = small;
  hsl = range.hsl.1;
  gains = recursion_from_All (λ (w : Weight). w.gain < 2 ^ 8) weights (All-weaker (λ (w : Weight). w.gain ≤ 15) (λ (w : Weight). w.gain < 2 ^ 8) (λ w p. omega (arith, p)) weights known.gains);
  priorities = recursion_from_All (λ (w : Weight). w.priority < 2 ^ 8) weights
      (All-weaker (λ (w : Weight). w.priority < bands_of (header_of s)) (λ (w : Weight). w.priority < 2 ^ 8) (λ w p. below w.priority (bands_of (header_of s)) p (few-bands s range)) weights known.priorities);
}
  where
    weights : List Weight
    weights = (header_of s).weights

    known : AreWeights (bands_of (header_of s)) (header_of s).weights
    known = header_weights s range

    below : (n bands : ℕ) → n < bands → bands ≤ 30 → n < 2 ^ 8
    below n bands p q = omega (arith, p, q)

-- a slice has bytes
some_bytes : (h : Header) (content : Content) (slice : ℕ) (bytes : List ℕ) → IsSlice h content slice bytes → 1 ≤ length bytes
some_bytes h content slice bytes is =
    let head : 1 ≤ length (slice_head slice) = omega arith in
    omega (arith, ap length is.joined, length-append (slice_head slice) is.body, head)

-- What is sent

pub record IsSent (s : Settings) (stream : Stream) (content : Content) : Type 0 where
  pub packable : IsPackable s stream
  pub whole : IsStreamOf s.boxes (stated_header (header_of s) stream) content stream
  pub sendable : s.ssrc < 2 ^ 32 → AreSendable s (units_of s.boxes stream) 0
  pub bytes : s.boxes ≡ [] → (unit : ℕ) → unit < length (units_of s.boxes stream) → AreBytes (unit_at (units_of s.boxes stream) unit)

module _ (s : Settings) (range : AreInRange s) (rows : Rows) (share : ℕ) (is : IsEncoding (header_of s) rows s.share s.fill (chosen_stream (header_of s) rows s.share s.fill)) where
  abbrev slices : List (List ℕ)
  slices = slices_at (header_of s) rows s.share s.fill (chosen_candidate (header_of s) rows s.share)

  abbrev stream : Stream
  stream = chosen_stream (header_of s) rows s.share s.fill

  abbrev size : ℕ
  size = length (header_bytes (header_of s)) + sum_by length slices + 2

  sum : length (concat slices) ≡ sum_by length slices
  sum = ap length (concat_is slices) ∙ length-flat_map (λ l. l) slices

  total : length (stream_bytes stream) ≡ size
  total =
      length-stream stream
      ∙ ap (λ n. n + length (concat slices) + 2) (header-size s range size ∙ sym (header-size s range 0))
      ∙ ap (λ n. length (header_bytes (header_of s)) + n + 2) sum

  short : length (stream_bytes stream) < 2 ^ 32
  short = length_fits s slices range is.count (All-from_get_or (λ slice. length slice ≤ s.share) slices [] (λ k inside. (is.each k (omega (arith, inside, is.count))).within))

  headed : IsHeader (stated_header (header_of s) stream) stream.header
  headed =
      subst (λ n. IsHeader (with_length (header_of s) n) stream.header) (sym total)
      (written_header (with_length (header_of s) size) (header_accepted s size range) (has_room s range size (subst (λ n. n < 2 ^ 32) total short)))

  header_size : (length stream.header ≤ 108) × (1 ≤ length stream.header)
  header_size = bound (length stream.header) (header-size s range size) (components-few s.shape.format) (few-bands s range)
    where
      bound : (n : ℕ) → n ≡ 42 + 2 * components_of s.shape.format + 2 * bands_of (header_of s) → components_of s.shape.format ≤ 3 → bands_of (header_of s) ≤ 30 → (n ≤ 108) × (1 ≤ n)
      bound n p q r = (omega (arith, p, q, r), omega (arith, p))

  few : slice_count (header_of s) ≤ 2047
  few = range.slices

  each : (k : ℕ) → k < length stream.slices → (length (get_or stream.slices k []) ≤ 512 * s.chunk - 2) × (1 ≤ length (get_or stream.slices k []))
  each k inside =
      let one = is.each k (omega (arith, inside, is.count)) in
      let within = one.within in
      let share = range.share.1 in
      (omega (arith, within, share), some_bytes _ _ k _ one.spelled)

  packed : IsPackable s stream
  packed =
      let chunk = range.chunk.0 in
      let boxes = range.few_boxes in
      let front = header_size.0 in
      packable s stream (omega (arith, chunk)) (omega (arith, is.count, few)) (omega (arith, chunk, boxes, front)) (λ k inside. let most = (each k inside).0 in omega (arith, most, chunk))

  sendable : s.ssrc < 2 ^ 32 → AreSendable s (units_of s.boxes stream) 0
  sendable ssrc =
      let chunk = range.chunk.0 in
      let boxes = range.few_boxes in
      let front = header_size in
      let header = length-append s.boxes stream.header in
      record {
        chunk = omega (arith, chunk);
        few = omega (arith, unit_count s.boxes stream, is.count, few);
        some = units_each (λ bytes. 1 ≤ length bytes) s.boxes stream (omega (arith, header, front.1)) (λ k inside. (each k inside).1)
            (λ k inside. let least = (each k inside).1 in omega (arith, least, length-append (get_or stream.slices k []) eoc));
        short = units_each (λ bytes. length bytes ≤ 512 * s.chunk) s.boxes stream (omega (arith, header, front.0, boxes, chunk)) (λ k inside. let most = (each k inside).0 in omega (arith, most))
            (λ k inside. let most = (each k inside).0 in let marked : length (get_or stream.slices k [] ++ eoc) ≡ length (get_or stream.slices k []) + 2 = length-append (get_or stream.slices k []) eoc in omega (arith, most, marked, chunk));
        payload_type = let type = range.payload_type.1 in omega (arith, type);
        ssrc = ssrc;
        timestamp = let first = range.first_timestamp in omega (arith, first);
      }

  -- the slices are bytes
  slice_bytes_are : (k : ℕ) → k < length stream.slices → AreBytes (get_or stream.slices k [])
  slice_bytes_are k inside =
      let chosen : ℕ → Candidate = chosen_candidate (header_of s) rows s.share in
      let content = content_at (header_of s) rows (chosen k) in
      let there : k < slice_count (header_of s) = omega (arith, inside, is.count) in
      subst AreBytes (sym (get_or-map-range_with_len (λ slice. filled_slice_at (header_of s) rows s.share s.fill slice (chosen slice)) 0 (slice_count (header_of s)) k k [] there (omega arith)))
      (slice_are (header_of s) content (mode_of (header_of s) content) (filler_of (header_of s) rows s.share s.fill k (chosen k)) k)

  unit_bytes_are : s.boxes ≡ [] → (unit : ℕ) → unit < length (units_of s.boxes stream) → AreBytes (unit_at (units_of s.boxes stream) unit)
  unit_bytes_are none =
      units_each AreBytes s.boxes stream (subst (λ boxes. AreBytes (boxes ++ stream.header)) (sym none) (header_are (with_length (header_of s) size))) slice_bytes_are
      (λ k inside. all-append (λ byte. byte < 2 ^ 8) (get_or stream.slices k []) eoc (slice_bytes_are k inside) (omega arith, (omega arith, tt)))

  sent : 1 ≤ slice_count (header_of s) → IsSent s stream (chosen_content (header_of s) rows s.share)
  sent some = record {
    packable = packed;
    whole = record {
      boxed = range.boxes;
      headed = headed;
      some = some;
      count = is.count;
      each = λ slice there. (is.each slice there).spelled;
      stated = is.whole.stated;
    };
    sendable = sendable;
    bytes = unit_bytes_are;
  }

-- an encoding can be sent
pub encoding_sent : (s : Settings) (picture : Picture) (stream : Stream) → AreInRange s → encoding_of s picture ≡ Ok stream
    → IsSent s stream (chosen_content (header_of s) (rows_of_picture (header_of s) picture) s.share)
encoding_sent s picture stream range e =
    let h = header_of s in
    let rows = rows_of_picture (header_of s) picture in
    let chosen = chosen_stream (header_of s) rows s.share s.fill in
    let given = first_over_law.given s picture ((first_over_law.encoded s picture).0 (stream, e)) in
    subst (λ (t : Stream). IsSent s t (chosen_content h rows s.share)) (same_stream (encoding_of s picture) chosen stream given e)
    (sent s range rows s.share (encoded_in_grammar s picture chosen range given) (some_slices (header_of s) (header_accepted s 0 range)))
