-- Good inputs are answered with status 0.
use Rattle.std.proofs.Common.{◌≡◌, ℕ, suc, zero, ◌+◌, ◌-◌, ◌*◌, ◌<◌, ◌≤◌, List, [], ◌∷◌, length, drop, Option, Some, None, Result, Ok, Err, sym, ap, subst, ◌∙◌, arith, inl, inr}
use Rattle.std.specs.Prelude.{Bool, false, nat_lt, MatchBool}
use Rattle.std.specs.Option.{option_map}
use Rattle.std.proofs.lemmas.Bool.{cases_lt}
use Rattle.std.proofs.lemmas.Bool.Decides.{nat_tests}
use Rattle.std.proofs.lemmas.List.{drop-drop, length-drop}
use Rattle.std.proofs.lemmas.Nat.{mul-le}
use Rattle.std.proofs.Math.Nat.{mul-sub, mul_comm}
use Rattle.xs_lists.specs.Packing.{AreBytes}
use Rattle.xs_params.specs.declared.settings.Settings.{Settings}
use Rattle.xs_params.specs.Picture.{Picture, over_sample, raw_size}
use Rattle.xs_params.specs.Stream.{Stream}
use Rattle.xs_faults.specs.declared.Budget.{Budget}
use Rattle.xs_rate.specs.Encoding.{encoding_of}
use Rattle.xs_capture.specs.Pictures.{most_pictures}
use Rattle.xs_notes.specs.declared.note.Note.{Note}
use Rattle.xs_notes.specs.declared.note.Note.TheVariants as note
use Rattle.xs_endings.specs.Said.{Said, only_note, status_of, status_of_notes}
use Rattle.xs_endings.specs.Turns.{AreWritten, Before, Ends, HasSaidAll, Turn, Writes, after, nothing}
use Rattle.xs_words.specs.declared.command.Form.{Form}
use Rattle.xs_words.specs.declared.command.Form.TheVariants.{Rtp, Xs, Pcap}
use Rattle.xs_lists.specs.First.{first_some}
use Rattle.xs_params.specs.Picture.{raw_bytes}
use Rattle.xs_picture.proofs.Known.{streams_known}
use Rattle.xs_words.specs.declared.command.Command.{Command}
use Rattle.xs_words.specs.declared.command.Command.TheVariants.{Encode, Decode, Trial}
use Rattle.xs_trial.specs.Generator.{trial_picture}
use Rattle.xs_cli.specs.Tried.{IsTriedBy}
use Rattle.xs_cli.specs.Answer.{IsCommandAnswer}
use Rattle.xs_cli.specs.Decoded.{IsDecodeTurn, IsDecodeAnswer, IsDecodedTurn, IsTurnUnless, decode_ends, fault_notes, input_limit}
use Rattle.xs_cli.specs.Encoded.{IsEncodeTurn, encoded_as, first_picture, turn_unless}
use Rattle.xs_cli.specs.Good.{AreGoodPictures, AreGoodStreams, AreStreams, IsGood, picture_at}
use Rattle.xs_cli.proofs.CapturedWhole.{captured_good, file_good}
use Rattle.xs_cli.proofs.Streams.{drop_bytes, end_ends, in_order}
use Rattle.xs_cli.proofs.Turns.{end_turn, whole_turn, writes_whole}

ends_is : (a b : List Note) → Ends a ≡ Ends b → a ≡ b
ends_is a b e = cc

not_both : (notes : List Note) (size : ℕ) (piece : List ℕ) (packets : ℕ) → Ends notes ≡ Writes size piece packets → ⊥
not_both notes size piece packets e = absurd (cc)

-- a good picture is written
written_good : (s : Settings) (form : Form) (at : Before) (picture : Picture) (stream : Stream) (o : Option ℕ) (r : Result Stream Budget) (notes : List Note) → o ≡ None → r ≡ Ok stream
    → Ends notes ≡ turn_unless (option_map (λ place. note.InputSample (at.bytes + place) ∷ []) o) (encoded_as s form at r) → ⊥
written_good s Xs at picture stream None (Ok other) notes none ok e = absurd (cc)
written_good s Rtp at picture stream None (Ok other) notes none ok e = absurd (cc)
written_good s (Pcap port) at picture stream None (Ok other) notes none ok e = absurd (cc)
written_good s form at picture stream None (Err budget) notes none ok e = absurd (cc)
written_good s form at picture stream (Some place) r notes none ok e = absurd (cc)

module _ (s : Settings) (form : Form) (input : List ℕ) (good : AreGoodPictures s input) where
  -- where the run stands
  pub record Stands (at : Before) (rest : List ℕ) : Type 0 where
    pub few : at.pictures ≤ good.pictures
    pub is : rest ≡ drop (at.pictures * raw_size s.shape) input

  left : (at : Before) (rest : List ℕ) → Stands at rest → length rest ≡ (good.pictures - at.pictures) * raw_size s.shape
  left at rest stands = ap length stands.is ∙ length-drop (at.pictures * raw_size s.shape) input ∙ ap (λ n. n - at.pictures * raw_size s.shape) good.whole ∙ spread good.pictures at.pictures (raw_size s.shape)
    where
      spread : (n k size : ℕ) → n * size - k * size ≡ (n - k) * size
      spread n k size =
          let turned : size * n - size * k ≡ n * size - k * size = ap (λ x. x - size * k) (mul_comm size n) ∙ ap (λ x. n * size - x) (mul_comm size k) in
          sym (mul_comm (n - k) size ∙ mul-sub size n k ∙ turned)

  -- it ends where no picture is left
  ended_good : (at : Before) (rest : List ℕ) (notes : List Note) → Stands at rest → IsEncodeTurn s form at rest (Ends notes) → notes ≡ []
  ended_good at rest notes stands turn = elim (cases_lt 0 (length rest)) [
    | inl some ↦ absurd (goes_on some)
    | inr none ↦ ends_is notes [] (turn ∙ end_turn s form at rest (omega (arith, none)))
  ]
    where
      at_least : (n size : ℕ) → 1 ≤ n → size ≤ n * size
      at_least n size some = let most : 1 * size ≤ n * size = mul-le 1 size n size some (omega arith) in omega (arith, most)

      goes_on : 0 < length rest → ⊥
      goes_on some = elim (cases_lt at.pictures good.pictures) [
        | inl less ↦
            let one : 1 ≤ good.pictures - at.pictures = omega (arith, less) in
            let size : raw_size s.shape ≤ length rest = rw (left at rest stands) (at_least (good.pictures - at.pictures) (raw_size s.shape) one) in
            let few : at.pictures < most_pictures = (let most = good.most in omega (arith, less, most)) in
            let here = turn ∙ whole_turn s form at rest (omega (arith, some)) few size in
            let stream = good.encoded at.pictures less in
            let same : first_picture s rest ≡ picture_at s input at.pictures = ap (first_picture s) stands.is in
            written_good s form at (first_picture s rest) stream.0 (over_sample (first_picture s rest)) (encoding_of s (first_picture s rest)) notes (ap over_sample same ∙ good.small at.pictures less) (ap (encoding_of s) same ∙ stream.1) here
        | inr more ↦
            let equal : good.pictures - at.pictures ≡ 0 = omega (arith, more) in
            let no_size : 0 * raw_size s.shape ≡ 0 = omega arith in
            let none : length rest ≡ 0 = left at rest stands ∙ ap (λ n. n * raw_size s.shape) equal ∙ no_size in
            absurd (omega (arith, some, none))
      ]

  all_good : (at end : Before) (rest last : List ℕ) (pieces : List (List ℕ)) → Stands at rest → AreWritten (IsEncodeTurn s form) at rest pieces end last → Stands end last
  all_good at end rest last [] stands written = subst (λ (b : Before). Stands b last) written.0 (subst (λ (l : List ℕ). Stands at l) written.1 stands)
  all_good at end rest last (piece ∷ pieces) stands written =
      let is = writes_whole s form at rest written.0 piece written.1 written.2 in
      let long = left at rest stands in
      let more : 1 ≤ good.pictures - at.pictures = positive (good.pictures - at.pictures) (raw_size s.shape) (omega (arith, is.some, long)) in
      let next : Stands (after at written.0 written.1) (drop written.0 rest) = record {
        few = omega (arith, more);
        is = ap (λ n. drop n rest) is.exact ∙ ap (drop (raw_size s.shape)) stands.is ∙ drop-drop (raw_size s.shape) (at.pictures * raw_size s.shape) input ∙ ap (λ n. drop n input) (one_on at.pictures (raw_size s.shape));
      } in
      all_good (after at written.0 written.1) end (drop written.0 rest) last pieces next written.3
    where
      positive : (n size : ℕ) → 1 ≤ n * size → 1 ≤ n
      positive zero size some = absurd (omega (arith, some))
      positive (suc n) size some = omega arith

      one_on : (n size : ℕ) → n * size + size ≡ (n + 1) * size
      one_on n size = omega arith

  pub encoded_good : (said : Said) → HasSaidAll (IsEncodeTurn s form) input said → status_of said ≡ 0
  encoded_good said all =
      let from : 0 ≡ 0 * raw_size s.shape = omega arith in
      let start : Stands nothing input = record { few = omega arith; is = ap (λ n. drop n input) from } in
      let stands = all_good nothing all.first.end input all.first.rest all.first.pieces start all.first.written in
      ap status_of_notes (ended_good all.first.end all.first.rest said.notes stands all.ended)

-- Codestreams

as_ends : (at : Before) (rest : List ℕ) (o : Option (List Note)) (turn : Turn) → first_some (decode_ends at rest) ≡ o → IsDecodeTurn at rest turn → IsTurnUnless o rest turn
as_ends at rest o turn e is = subst (λ (x : Option (List Note)). IsTurnUnless x rest turn) e is

decoded_turn : (o : Option (List Note)) (rest : List ℕ) (size : ℕ) (piece : List ℕ) (packets : ℕ) → IsTurnUnless o rest (Writes size piece packets) → IsDecodedTurn rest (Writes size piece packets)
decoded_turn None rest size piece packets is = is
decoded_turn (Some notes) rest size piece packets is = absurd (cc)

sizes_same : (size other : ℕ) (piece piece' : List ℕ) (packets packets' : ℕ) → Writes size piece packets ≡ Writes other piece' packets' → size ≡ other
sizes_same size other piece piece' packets packets' e = cc

-- what is left is codestreams again
pub record Streams (at : Before) (rest : List ℕ) : Type 0 where
  pub bytes : AreBytes rest
  pub sizes : List ℕ
  pub are : AreStreams sizes rest
  pub few : at.pictures + length sizes ≤ most_pictures

one_stream : (at : Before) (rest : List ℕ) (size : ℕ) (piece : List ℕ) (packets : ℕ) → Streams at rest → IsDecodeTurn at rest (Writes size piece packets) → Streams (after at size packets) (drop size rest)
one_stream at rest size piece packets streams turn = by_sizes streams.sizes streams.are streams.few
  where
    by_sizes : (sizes : List ℕ) → AreStreams sizes rest → at.pictures + length sizes ≤ most_pictures → Streams (after at size packets) (drop size rest)
    by_sizes [] none few = absurd (not_both [] size piece packets (sym (as_ends at rest (Some []) (Writes size piece packets) (end_ends at rest (ap length none)) turn)))
    by_sizes (first ∷ sizes) are few =
        let known = (streams_known rest streams.bytes).known are.0 are.1 first are.2 in
        let decoded = decoded_turn (first_some (decode_ends at rest)) rest size piece packets turn in
        let same : size ≡ first = sizes_same size decoded.size piece _ packets 0 decoded.writes ∙ sym decoded.read.ends ∙ sym known.2 in
        record {
          bytes = drop_bytes size rest streams.bytes;
          sizes = sizes;
          are = subst (λ (n : ℕ). AreStreams sizes (drop n rest)) (sym same) are.3;
          few = omega (arith, few);
        }

all_streams : (at end : Before) (rest last : List ℕ) (pieces : List (List ℕ)) → Streams at rest → AreWritten IsDecodeTurn at rest pieces end last → Streams end last
all_streams at end rest last [] streams written = subst (λ (b : Before). Streams b last) written.0 (subst (λ (l : List ℕ). Streams at l) written.1 streams)
all_streams at end rest last (piece ∷ pieces) streams written =
    all_streams (after at written.0 written.1) end (drop written.0 rest) last pieces (one_stream at rest written.0 piece written.1 streams written.2) written.3

ended_streams : (at : Before) (rest : List ℕ) (notes : List Note) → Streams at rest → IsDecodeTurn at rest (Ends notes) → notes ≡ []
ended_streams at rest notes streams turn = elim (cases_lt 0 (length rest)) [
  | inl some ↦ absurd (by_sizes streams.sizes streams.are streams.few some)
  | inr none ↦ ends_is notes [] (as_ends at rest (Some []) (Ends notes) (end_ends at rest (omega (arith, none))) turn)
]
  where
    no_end : (notes : List Note) → IsDecodedTurn rest (Ends notes) → ⊥
    no_end notes decoded = not_both notes decoded.size (raw_bytes decoded.picture) 0 decoded.writes

    by_sizes : (sizes : List ℕ) → AreStreams sizes rest → at.pictures + length sizes ≤ most_pictures → 0 < length rest → ⊥
    by_sizes [] none few some = absurd (omega (arith, some, ap length none))
    by_sizes (first ∷ sizes) are few some =
        let known = (streams_known rest streams.bytes).known are.0 are.1 first are.2 in
        let e = in_order at rest (omega (arith, some)) (omega (arith, few)) ∙ ap (option_map (fault_notes at rest)) known.0 in
        no_end notes (as_ends at rest None (Ends notes) e turn)

pub decoded_good : (input : List ℕ) → AreGoodStreams input → (said : Said) → IsDecodeAnswer Xs input said → status_of said ≡ 0
decoded_good input good said answer =
    let test : nat_lt input_limit (length input) ≡ false = (let within = good.within in grind (arith, nat_tests)) in
    let all : HasSaidAll IsDecodeTurn input said = subst (λ (b : Bool). MatchBool b (said ≡ only_note (note.InputLimit input_limit)) (HasSaidAll IsDecodeTurn input said)) test answer in
    let start : Streams nothing input = record { bytes = good.bytes; sizes = good.sizes; are = good.streams; few = omega (arith, good.most) } in
    let streams = all_streams nothing all.first.end input all.first.rest all.first.pieces start all.first.written in
    ap status_of_notes (ended_streams all.first.end all.first.rest said.notes streams all.ended)

-- Trials

tried_good : (s : Settings) (picture : Picture) (stream : Stream) (said : Said) → IsTriedBy s picture (Ok stream) said → status_of said ≡ 0
tried_good s picture stream said tried = ap status_of tried.2

-- Commands

pub good_status : (command : Command) (input : List ℕ) (said : Said) → IsGood command input → IsCommandAnswer command input said → status_of said ≡ 0
good_status (Encode settings form) input said good answer = ap status_of answer.whole ∙ encoded_good settings form input good answer.pictures answer.turns
good_status (Decode Xs workers feeders) input said good answer = decoded_good input good said answer
good_status (Decode Rtp workers feeders) input said good answer = captured_good input good said answer
good_status (Decode (Pcap port) workers feeders) input said good answer = file_good port input good said answer
good_status (Trial settings seed) input said good answer =
    tried_good settings (trial_picture settings.shape seed) good.0 said (subst (λ r. IsTriedBy settings (trial_picture settings.shape seed) r said) good.1 answer)
