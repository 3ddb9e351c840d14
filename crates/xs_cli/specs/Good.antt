-- Inputs that are answered with status 0.
use Rattle.std.specs.Prelude.{◌≡◌, ℕ, ◌*◌, ◌<◌, ◌≤◌, ◌⊎◌, None, Ok, List, [], ◌∷◌, length, drop, Contains}
use Rattle.xs_lists.specs.Packing.{AreBytes}
use Rattle.xs_params.specs.declared.header.Header.{Header}
use Rattle.xs_params.specs.declared.settings.Settings.{Settings}
use Rattle.xs_params.specs.Picture.{Picture, over_sample, raw_size}
use Rattle.xs_params.specs.Stream.{Stream}
use Rattle.xs_grammar.specs.Precinct.{Content}
use Rattle.xs_grammar.specs.Codestream.{IsCodestreamFront}
use Rattle.xs_rate.specs.Encoding.{encoding_of}
use Rattle.xs_capture.specs.Capture.{IsCapture}
use Rattle.xs_capture.specs.Offer.{Offer}
use Rattle.xs_capture.specs.Offers.{AllAgree, offers_at, offers_of}
use Rattle.xs_capture.specs.Pictures.{AreTimestamps, most_pictures}
use Rattle.xs_capture.specs.Selection.{Held, IsSelection}
use Rattle.xs_pcap.specs.declared.unwrapping.Unwrapped.{Unwrapped}
use Rattle.xs_pcap.specs.Unwrapped.{IsUnwrapped}
use Rattle.xs_recv.specs.Received.{AreSpelled, AreUnits, HasHeader, stream_size}
use Rattle.xs_words.specs.declared.command.Command.{Command}
use Rattle.xs_words.specs.declared.command.Command.TheVariants.{Encode, Decode, Trial}
use Rattle.xs_words.specs.declared.command.Form.{Form}
use Rattle.xs_words.specs.declared.command.Form.TheVariants.{Rtp, Xs, Pcap}
use Rattle.xs_trial.specs.Generator.{trial_picture}
use Rattle.xs_cli.specs.Decoded.{input_limit}
use Rattle.xs_cli.specs.Encoded.{first_picture}

-- picture n of the input
abbrev pub picture_at : Settings → List ℕ → ℕ → Picture
picture_at s input n = first_picture s (drop (n * raw_size s.shape) input)

-- whole raw pictures, no more than a run has, with samples in range and an encoding each
pub record AreGoodPictures (s : Settings) (input : List ℕ) : Type 0 where
  pub pictures : ℕ
  pub most : pictures ≤ most_pictures
  pub whole : length input ≡ pictures * raw_size s.shape
  pub small : (n : ℕ) → n < pictures → over_sample (picture_at s input n) ≡ None
  pub encoded : (n : ℕ) → n < pictures → (stream : Stream) × (encoding_of s (picture_at s input n) ≡ Ok stream)

-- the bytes are codestreams of these sizes, one after the other
abbrev pub AreStreams : List ℕ → List ℕ → Type 0
AreStreams [] bytes = bytes ≡ []
AreStreams (size ∷ sizes) bytes = (h : Header) × (content : Content) × IsCodestreamFront h content bytes size × AreStreams sizes (drop size bytes)

-- whole codestreams, no more than a run has
pub record AreGoodStreams (input : List ℕ) : Type 0 where
  pub bytes : AreBytes input
  pub within : length input ≤ input_limit
  pub sizes : List ℕ
  pub streams : AreStreams sizes input
  pub most : length sizes ≤ most_pictures

-- the header and all slices of a picture are whole in what is selected and in the grammar, and the length is right where the header states one
pub record IsWholePicture (held : Held) : Type 0 where
  pub header : Header
  pub size : ℕ
  pub headed : HasHeader held header size
  pub units : List (List ℕ)
  pub whole : AreUnits held header units
  pub content : Content
  pub spelled : AreSpelled header content units
  pub stated : (header.lcod ≡ 0) ⊎ (header.lcod ≡ stream_size size units)

-- the offers of a picture have a selection in which it is whole
pub record AreWhole (offers : List Offer) : Type 0 where
  pub held : Held
  pub selection : IsSelection offers held
  pub picture : IsWholePicture held

-- whole frames, whose offers agree, of no more pictures than a run has, each of which is whole
pub record IsGoodCapture (input : List ℕ) : Type 0 where
  pub bytes : AreBytes input
  pub within : length input ≤ input_limit
  pub packets : List (List ℕ)
  pub whole : IsCapture packets input
  pub agree : AllAgree (offers_of packets)
  pub timestamps : List ℕ
  pub listed : AreTimestamps (offers_of packets) timestamps
  pub most : length timestamps ≤ most_pictures
  pub pictures : (timestamp : ℕ) → Contains timestamps timestamp → AreWhole (offers_at timestamp (offers_of packets))

-- a pcap file that is unwrapped to such a capture
pub record IsGoodFile (port : ℕ) (input : List ℕ) : Type 0 where
  pub bytes : AreBytes input
  pub within : length input ≤ input_limit
  pub unwrapped : Unwrapped
  pub file : IsUnwrapped input port unwrapped
  pub capture : IsGoodCapture unwrapped.capture

abbrev pub IsGoodForm : Form → List ℕ → Type 0
IsGoodForm Xs input = AreGoodStreams input
IsGoodForm Rtp input = IsGoodCapture input
IsGoodForm (Pcap port) input = IsGoodFile port input

abbrev pub IsGood : Command → List ℕ → Type 0
IsGood (Encode settings form) input = AreGoodPictures settings input
IsGood (Decode form workers feeders) input = IsGoodForm form input
IsGood (Trial settings seed) input = (stream : Stream) × (encoding_of settings (trial_picture settings.shape seed) ≡ Ok stream)
