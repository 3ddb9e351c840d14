-- A capture of whole pictures is answered by them.
use Rattle.std.proofs.Common.{◌≡◌, ℕ, ◌+◌, ◌≤◌, arith, append-nil, Result, Err, None, sym, List, [], ◌∷◌, ◌++◌, length, map, Bool, false, Ok, refl, ap, subst, ◌∙◌, Contains}
use Rattle.std.specs.Prelude.{nat_eq, nat_lt, if◌then◌else◌, MatchBool}
use Rattle.std.proofs.lemmas.Bool.Decides.{nat_tests}
use Rattle.xs_params.specs.Picture.{Picture}
use Rattle.xs_reading.specs.Rows.{dequantised_rows}
use Rattle.xs_capture.specs.Capture.{IsCapture}
use Rattle.xs_capture.specs.Offer.{Offer}
use Rattle.xs_capture.specs.Offers.{offers_at, offers_of, stepped_of}
use Rattle.xs_capture.specs.Pictures.{AreTimestamps, IsSorted, Sorting, most_pictures}
use Rattle.xs_capture.specs.declared.pictures.SortFault.{SortFault}
use Rattle.xs_capture.specs.declared.pictures.SortFault.TheVariants as sort
use Rattle.xs_pcap.specs.File.{pcap_fault}
use Rattle.xs_pcap.proofs.Files.{file_is_whole}
use Rattle.xs_pcap.proofs.OneCapture.{unwrapped_is_one}
use Rattle.xs_capture.proofs.Firsts.{here, there}
use Rattle.xs_notes.specs.declared.note.Note.TheVariants as note
use Rattle.xs_recv.specs.declared.received.Received.TheVariants as received
use Rattle.xs_endings.specs.Said.{Said, only_note, status_of, status_of_notes}
use Rattle.xs_words.specs.declared.command.Form.TheVariants.{Rtp, Pcap}
use Rattle.xs_cli.specs.Captured.{AreSaidOf, IsCaptured, IsFileAnswer, IsFileUnless, IsReceivedOf, IsSaidOfSorted, IsUnwrappedAnswer, also_stepped, nothing_said, said_of, said_then, stepped_said}
use Rattle.xs_cli.specs.Decoded.{IsDecodeAnswer, input_limit}
use Rattle.xs_cli.specs.Good.{AreWhole, IsGoodCapture, IsGoodFile}
use Rattle.xs_cli.proofs.CapturedOne.{one_said}
use Rattle.xs_cli.proofs.CapturedSaid.{status_on, stepped_status}
use Rattle.xs_cli.proofs.Exists.{picture_there}

-- the answer of a capture by what is said of its pictures
pub captured_by : (packets : List (List ℕ)) (bytes : List ℕ) (timestamps : List ℕ) (pictures : Said) → IsCapture packets bytes → AreTimestamps (offers_of packets) timestamps → length timestamps ≤ most_pictures
    → AreSaidOf timestamps (map (λ timestamp. offers_at timestamp (offers_of packets)) timestamps) pictures → IsCaptured bytes (said_then (stepped_said (stepped_of packets)) pictures)
captured_by packets bytes timestamps pictures whole listed most said = record {
  sorted = Ok (record { timestamps = timestamps; offers = map (λ timestamp. offers_at timestamp (offers_of packets)) timestamps; stepped = stepped_of packets });
  sorts = record { packets = packets; whole = whole; timestamps = listed; most = most; offers = refl; stepped = refl };
  answer = (pictures, said, refl);
}

-- a picture is received where all is whole
whole_received : (offers : List Offer) → AreWhole offers → (picture : Picture) × IsReceivedOf offers (received.Picture picture)
whole_received offers whole =
    let is = whole.picture in
    let picture = picture_there is.header (dequantised_rows is.header is.content) is.headed.spelled.4.accepted in
    (picture.0, record { held = whole.held; selection = whole.selection; received = (is.header, is.size, is.headed, is.units, is.whole, is.content, is.spelled, is.stated, picture.1) })

module _ (packets : List (List ℕ)) where
  abbrev offers_for : ℕ → List Offer
  offers_for timestamp = offers_at timestamp (offers_of packets)

  -- and nothing is noted
  whole_said : (timestamps : List ℕ) → ((timestamp : ℕ) → Contains timestamps timestamp → AreWhole (offers_at timestamp (offers_of packets)))
      → (said : Said) × AreSaidOf timestamps (map offers_for timestamps) said × (said.notes ≡ [])
  whole_said [] each = (nothing_said, refl, refl)
  whole_said (timestamp ∷ timestamps) each =
      let one = whole_received (offers_for timestamp) (each timestamp (here timestamp timestamps)) in
      let rest = whole_said timestamps (λ t has. each t (there timestamp t timestamps has)) in
      let first = said_of timestamp (received.Picture one.0) in
      (said_then first rest.0, (first, (received.Picture one.0, one.1, refl), rest.0, rest.1, refl), rest.2)

-- frames that are stepped over do no harm
harmless : (count : ℕ) (pictures : Said) → pictures.notes ≡ [] → status_of (said_then (stepped_said count) pictures) ≡ 0
harmless count pictures none = ap (λ notes. status_of_notes ((stepped_said count).notes ++ notes)) none ∙ ap status_of_notes (append-nil (stepped_said count).notes) ∙ stepped_status count

captured_status : (input : List ℕ) → IsGoodCapture input → (said : Said) → IsCaptured input said → status_of said ≡ 0
captured_status input good said captured =
    let pictures = whole_said good.packets good.timestamps good.pictures in
    let known = captured_by good.packets input good.timestamps pictures.0 good.whole good.listed good.most pictures.1 in
    ap status_of (one_said good.packets input said _ good.whole good.bytes good.agree captured known) ∙ harmless (stepped_of good.packets) pictures.0 pictures.2

pub captured_good : (input : List ℕ) → IsGoodCapture input → (said : Said) → IsDecodeAnswer Rtp input said → status_of said ≡ 0
captured_good input good said answer =
    let test : nat_lt input_limit (length input) ≡ false = (let within = good.within in grind (arith, nat_tests)) in
    captured_status input good said (subst (λ (b : Bool). MatchBool b (said ≡ only_note (note.InputLimit input_limit)) (IsCaptured input said)) test answer)

-- the status of a capture, whatever number of records was stepped over
stepped_first : (count : ℕ) (pictures : Said) → status_of (said_then (stepped_said count) pictures) ≡ status_of pictures
stepped_first count pictures = status_on (stepped_said count).notes pictures.notes ∙ ap (λ s. if nat_eq s 0 then status_of pictures else s) (stepped_status count)

after_status : (records : ℕ) (input : List ℕ) (sorted : Result Sorting SortFault) (said : Said) → IsSorted input sorted → IsSaidOfSorted (also_stepped records sorted) said
    → (other : Said) × IsCaptured input other × (status_of said ≡ status_of other)
after_status records input (Ok sorting) said sorts is = (
  said_then (stepped_said sorting.stepped) is.0,
  record { sorted = Ok sorting; sorts = sorts; answer = (is.0, is.1, refl) },
  ap status_of is.2 ∙ stepped_first (sorting.stepped + records) is.0 ∙ sym (stepped_first sorting.stepped is.0),
)
after_status records input (Err (sort.Cut place)) said sorts is = (said, record { sorted = Err (sort.Cut place); sorts = sorts; answer = is }, refl)
after_status records input (Err (sort.Pictures count)) said sorts is = (said, record { sorted = Err (sort.Pictures count); sorts = sorts; answer = is }, refl)
after_status records input (Err sort.Memory) said sorts is = absurd is

pub file_good : (port : ℕ) (input : List ℕ) → IsGoodFile port input → (said : Said) → IsDecodeAnswer (Pcap port) input said → status_of said ≡ 0
file_good port input good said answer =
    let test : nat_lt input_limit (length input) ≡ false = (let within = good.within in grind (arith, nat_tests)) in
    let unless = subst (λ (b : Bool). MatchBool b (said ≡ only_note (note.InputLimit input_limit)) (IsFileAnswer port input said)) test answer in
    let whole : pcap_fault input ≡ None = file_is_whole input good.file.records good.file.file in
    let is : IsUnwrappedAnswer port input said = subst (λ o. IsFileUnless o port input said) whole unless in
    let same = (unwrapped_is_one.one input port good.unwrapped is.unwrapped good.file is.file).0 in
    let capture = subst IsGoodCapture same good.capture in
    let other = after_status is.unwrapped.stepped is.unwrapped.capture is.answer.sorted said is.answer.sorts is.answer.answer in
    other.2 ∙ captured_status is.unwrapped.capture capture other.0 other.1
