-- Laws of what is received: each selection of offers has one answer, and packets that were sent are received as their picture.
use Rattle.std.specs.Prelude.{◌≡◌, ◌↔◌, ℕ, ◌<◌, ◌≤◌, ◌⊎◌, List, [], length, slice_index_or, Contains}
use Rattle.xs_lists.specs.Packing.{AreBytes}
use Rattle.xs_params.specs.declared.header.Header.{Header}
use Rattle.xs_params.specs.declared.settings.Settings.{Settings}
use Rattle.xs_params.specs.Boxes.{AreBoxes}
use Rattle.xs_params.specs.Geometry.{slice_count}
use Rattle.xs_params.specs.Picture.{Picture}
use Rattle.xs_params.specs.Stream.{Stream, stream_bytes}
use Rattle.xs_grammar.specs.Header.{IsHeader}
use Rattle.xs_grammar.specs.Precinct.{Content}
use Rattle.xs_grammar.specs.Slice.{IsSlice}
use Rattle.xs_decoding.specs.Decoded.{IsDecodingOf}
use Rattle.xs_capture.specs.Capture.{IsCapture}
use Rattle.xs_capture.specs.Offer.{Offer, unit_places}
use Rattle.xs_capture.specs.Offers.{AllAgree, offers_at, offers_of}
use Rattle.xs_capture.specs.Pictures.{dealt_parts}
use Rattle.xs_capture.specs.Selection.{Held, IsSelection}
use Rattle.xs_pack.specs.Datagrams.{datagrams_of, units_of}
use Rattle.xs_pack.specs.Laws.{HaveSame}
use Rattle.xs_pack.specs.Sent.{AreSendable}
use Rattle.xs_recv.specs.declared.received.Received.{Received}
use Rattle.xs_recv.specs.declared.received.Received.TheVariants as received
use Rattle.xs_recv.specs.Received.{IsReceived, offered_bytes, offers_of_parts}

-- the place of each offer is one that there is, and its bytes are bytes
pub record AreOffers (offers : List Offer) : Type 0 where
  pub place : (p : Offer) → Contains offers p → p.place < unit_places
  pub bytes : (p : Offer) → Contains offers p → AreBytes p.bytes

-- each selection has an answer
abbrev pub AnswerExists : Type 0
AnswerExists = (offers : List Offer) (held : Held) → AreOffers offers → IsSelection offers held → (answer : Received) × IsReceived held answer

-- and no other
abbrev pub OneAnswer : Type 0
OneAnswer = (offers : List Offer) (held : Held) (answer other : Received) → AreOffers offers → IsSelection offers held → IsReceived held answer → IsReceived held other → answer ≡ other

-- Where the offers of a picture agree, the answer hangs on which offers there are, and neither on their order nor on how often each is there.
abbrev pub AnswerOfSet : Type 0
AnswerOfSet = (offers others : List Offer) (timestamp : ℕ) (a b : Held) (answer other : Received) → ((p : Offer) → Contains offers p ↔ Contains others p) → AreOffers offers
    → ((p : Offer) → Contains offers p → p.timestamp ≡ timestamp) → AllAgree offers → IsSelection offers a → IsSelection others b → IsReceived a answer → IsReceived b other → answer ≡ other

-- a codestream in pieces, with boxes before it: its header, its slices, of one content, and its length where it is stated
pub record IsStreamOf (boxes : List ℕ) (h : Header) (content : Content) (stream : Stream) : Type 0 where
  pub boxed : AreBoxes boxes
  pub headed : IsHeader h stream.header
  pub some : 1 ≤ slice_count h
  pub count : length stream.slices ≡ slice_count h
  pub each : (slice : ℕ) → slice < slice_count h → IsSlice h content slice (slice_index_or stream.slices slice [])
  pub stated : (h.lcod ≡ 0) ⊎ (h.lcod ≡ length (stream_bytes stream))

-- Where exactly the packets of a codestream arrive, in any order and each as often as one likes, its picture is received, whatever is selected.
abbrev pub SentIsReceived : Type 0
SentIsReceived = (s : Settings) (h : Header) (content : Content) (stream : Stream) (picture : Picture) (number sequence : ℕ) (arrived : List (List ℕ)) (held : Held)
    → IsStreamOf s.boxes h content stream → AreSendable s (units_of s.boxes stream) number → HaveSame arrived (datagrams_of s stream number sequence)
    → IsSelection (offers_of arrived) held → IsDecodingOf h content picture → IsReceived held (received.Picture picture)

-- Offers that are dealt to parts are the same offers, with as many bytes.
pub record AreDealt (parts : ℕ) (offers : List Offer) : Type 0 where
  pub count : length (dealt_parts parts offers) ≡ parts
  pub same : (p : Offer) → Contains offers p ↔ Contains (offers_of_parts (dealt_parts parts offers)) p
  pub size : offered_bytes (offers_of_parts (dealt_parts parts offers)) ≡ offered_bytes offers

abbrev pub OffersAreDealt : Type 0
OffersAreDealt = (parts : ℕ) (offers : List Offer) → 1 ≤ parts → AreDealt parts offers

-- The offers of a picture have no more bytes than the capture, and their bytes are bytes where those of the capture are.
pub record AreInCapture (bytes : List ℕ) (offers : List Offer) : Type 0 where
  pub size : offered_bytes offers ≤ length bytes
  pub sound : AreBytes bytes → AreOffers offers

abbrev pub OffersAreInCapture : Type 0
OffersAreInCapture = (packets : List (List ℕ)) (bytes : List ℕ) (timestamp : ℕ) → IsCapture packets bytes → AreInCapture bytes (offers_at timestamp (offers_of packets))
