-- Laws of what is said of a capture.
use Rattle.std.specs.Prelude.{◌≡◌, ◌↔◌, ◌⊎◌, ⊤, ℕ, ◌+◌, ◌^◌, ◌<◌, ◌≤◌, map, List, [], ◌∷◌, ◌++◌, length, flat_map, Contains}
use Rattle.std.specs.List.{AllByRecursion}
use Rattle.xs_lists.specs.Packing.{AreBytes}
use Rattle.xs_params.specs.declared.header.Header.{Header}
use Rattle.xs_params.specs.declared.settings.Settings.{Settings}
use Rattle.xs_params.specs.Picture.{Picture, raw_bytes}
use Rattle.xs_params.specs.Stream.{Stream}
use Rattle.xs_grammar.specs.Precinct.{Content}
use Rattle.xs_decoding.specs.Decoded.{IsDecodingOf}
use Rattle.xs_capture.specs.Capture.{IsCapture}
use Rattle.xs_capture.specs.Offer.{Offer}
use Rattle.xs_capture.specs.Offers.{AllAgree, offers_of, stepped_of}
use Rattle.xs_capture.specs.Pictures.{most_pictures}
use Rattle.xs_pack.specs.Datagrams.{datagrams_of, units_of}
use Rattle.xs_pack.specs.Laws.{HaveSame}
use Rattle.xs_pack.specs.Sent.{AreSendable}
use Rattle.xs_pcap.specs.declared.unwrapping.Unwrapped.{Unwrapped}
use Rattle.xs_pcap.specs.Laws.{IsEntry}
use Rattle.xs_pcap.specs.Unwrapped.{IsUnwrapped}
use Rattle.xs_pcap.specs.Wrapped.{wrapped_file}
use Rattle.xs_recv.specs.Laws.{IsStreamOf}
use Rattle.xs_endings.specs.Said.{Said}
use Rattle.xs_words.specs.declared.command.Form.TheVariants.{Rtp, Pcap}
use Rattle.xs_cli.specs.Captured.{IsCaptured, IsFileAnswer}
use Rattle.xs_cli.specs.Decoded.{IsDecodeAnswer, input_limit}

-- each input of bytes has an answer
abbrev pub CapturesAnswered : Type 0
CapturesAnswered = (bytes : List ℕ) → AreBytes bytes → (said : Said) × IsCaptured bytes said

-- Where the offers agree, the answer hangs on which offers there are and on how many packets are none, and neither on their order nor on how often each is there.
abbrev pub OneCaptured : Type 0
OneCaptured = (packets others : List (List ℕ)) (bytes more : List ℕ) (said other : Said) → IsCapture packets bytes → IsCapture others more → AreBytes bytes
    → ((p : Offer) → Contains (offers_of packets) p ↔ Contains (offers_of others) p) → stepped_of packets ≡ stepped_of others → AllAgree (offers_of packets)
    → IsCaptured bytes said → IsCaptured more other → said ≡ other

-- The same of pcap files: with the packets that are none, the records count that were stepped over.
abbrev pub OneFile : Type 0
OneFile = (port asked : ℕ) (file other : List ℕ) (u v : Unwrapped) (packets others : List (List ℕ)) (said answer : Said) → IsUnwrapped file port u → IsUnwrapped other asked v
    → IsCapture packets u.capture → IsCapture others v.capture → AreBytes file
    → ((p : Offer) → Contains (offers_of packets) p ↔ Contains (offers_of others) p) → stepped_of packets + u.stepped ≡ stepped_of others + v.stepped → AllAgree (offers_of packets)
    → IsFileAnswer port file said → IsFileAnswer asked other answer → said ≡ answer

-- a picture that is sent: the number of its first packet, its codestream, and what that is decoded to
pub record Sent : Type 0 where
  pub sequence : ℕ
  pub stream : Stream
  pub picture : Picture

-- the codestream of the picture can be sent, as that of this number
pub record IsSentPicture (s : Settings) (number : ℕ) (sent : Sent) : Type 0 where
  pub header : Header
  pub content : Content
  pub stream : IsStreamOf s.boxes header content sent.stream
  pub sendable : AreSendable s (units_of s.boxes sent.stream) number
  pub picture : IsDecodingOf header content sent.picture

-- pictures are numbered one after the other
abbrev pub AreSentFrom : Settings → ℕ → List Sent → Type 0
AreSentFrom s number [] = ⊤
AreSentFrom s number (sent ∷ more) = IsSentPicture s number sent × AreSentFrom s (number + 1) more

-- all their packets
abbrev pub packets_from : Settings → ℕ → List Sent → List (List ℕ)
packets_from s number [] = []
packets_from s number (sent ∷ more) = datagrams_of s sent.stream number sent.sequence ++ packets_from s (number + 1) more

-- Where exactly the packets of pictures arrive, in any order, each as often as one likes, over any number of paths, the pictures are written in order, and nothing is
-- noted.
abbrev pub SentIsWritten : Type 0
SentIsWritten = (s : Settings) (sent : List Sent) (arrived : List (List ℕ)) (input : List ℕ) (said : Said)
    → 1 ≤ s.step → length sent ≤ most_pictures → AreSentFrom s 0 sent → HaveSame arrived (packets_from s 0 sent)
    → IsCapture arrived input → AreBytes input → length input ≤ input_limit
    → IsDecodeAnswer Rtp input said → said ≡ record { out = flat_map (λ (one : Sent). raw_bytes one.picture) sent; notes = [] }

-- The same of a pcap file: exactly the packets of pictures, each beside some timestamp, are wrapped for a port, and are asked for by that port or by any.
abbrev pub FileIsWritten : Type 0
FileIsWritten = (s : Settings) (sent : List Sent) (port asked : ℕ) (arrived : List (ℕ × List ℕ)) (said : Said)
    → 1 ≤ s.step → length sent ≤ most_pictures → AreSentFrom s 0 sent → HaveSame (map (λ (entry : ℕ × List ℕ). entry.1) arrived) (packets_from s 0 sent)
    → port < 2 ^ 16 → (asked ≡ 0) ⊎ (asked ≡ port) → AllByRecursion IsEntry arrived → AreBytes (wrapped_file port arrived) → length (wrapped_file port arrived) ≤ input_limit
    → IsDecodeAnswer (Pcap asked) (wrapped_file port arrived) said → said ≡ record { out = flat_map (λ (one : Sent). raw_bytes one.picture) sent; notes = [] }
