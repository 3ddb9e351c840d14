-- What `encode` writes and says, picture after picture: 'Runs' and 'Notes'.
use Rattle.std.specs.Prelude.{◌≡◌, ℕ, ◌+◌, ◌*◌, ◌<◌, ◌≤◌, nat_eq, nat_le, nat_lt, Result, Ok, Err, Option, None, Some, List, [], ◌∷◌, ◌++◌, length, take, flat_map}
use Rattle.std.specs.Option.{option_map}
use Rattle.xs_lists.specs.First.{when, first_some}
use Rattle.xs_params.specs.declared.settings.Settings.{Settings}
use Rattle.xs_params.specs.Picture.{Picture, raw_size, picture_of_raw, over_sample}
use Rattle.xs_params.specs.Stream.{Stream, stream_bytes}
use Rattle.xs_faults.specs.declared.Budget.{Budget}
use Rattle.xs_rate.specs.Encoding.{encoding_of}
use Rattle.xs_capture.specs.Capture.{frame}
use Rattle.xs_capture.specs.Pictures.{most_pictures}
use Rattle.xs_pack.specs.Datagrams.{datagrams_of}
use Rattle.xs_notes.specs.declared.note.Note.{Note}
use Rattle.xs_notes.specs.declared.note.Note.TheVariants as note
use Rattle.xs_pcap.specs.Wrapped.{header_bytes, most_wrapped, wrapped}
use Rattle.xs_endings.specs.Said.{Said}
use Rattle.xs_endings.specs.Turns.{Before, Ends, HasSaidAll, HasSaidFirst, Turn, Writes}
use Rattle.xs_words.specs.declared.command.Form.{Form}
use Rattle.xs_words.specs.declared.command.Form.TheVariants.{Rtp, Xs, Pcap}
use Rattle.xs_cli.specs.declared.encoding.Envelope.{Envelope}
use Rattle.xs_cli.specs.declared.encoding.Envelope.TheVariants.{Frame, Record}

-- the picture at the front of what is left
abbrev pub first_picture : Settings → List ℕ → Picture
first_picture s rest = picture_of_raw s.shape (take (raw_size s.shape) rest)

-- there are more pictures than a run has
abbrev pub too_many : Note
too_many = note.InputPictures (most_pictures + 1)

-- why the run ends without another picture being encoded, in this order
abbrev pub ends_before : Settings → Before → List ℕ → List (Option (List Note))
ends_before s before rest =
    when (nat_eq (length rest) 0) []
    ∷ when (nat_le most_pictures before.pictures) (too_many ∷ [])
    ∷ when (nat_lt (length rest) (raw_size s.shape)) (note.InputCut (before.bytes + length rest) ∷ [])
    ∷ option_map (λ place. note.InputSample (before.bytes + place) ∷ []) (over_sample (first_picture s rest))
    ∷ []

-- a slice of a picture is over its share
abbrev pub over_share : ℕ → Budget → Note
over_share picture budget = note.Budget picture budget.slice budget.size budget.share

-- the packets of a picture: its timestamp follows from its number, and its packets are numbered on from those before
abbrev pub packets_sent : Settings → Before → Stream → List (List ℕ)
packets_sent s before stream = datagrams_of s stream before.pictures before.sequence

-- the timestamp of a picture
abbrev pub timestamp_of : Settings → ℕ → ℕ
timestamp_of s picture = s.first_timestamp + picture * s.step

-- a packet as it is written: a frame of a capture, or a record of a pcap file at the time of the picture
abbrev pub enveloped : Envelope → List ℕ → List ℕ
enveloped Frame packet = frame packet
enveloped (Record timestamp port) packet = wrapped port timestamp packet

-- a packet has room in either
abbrev pub FitsEnvelope : List ℕ → Type 0
FitsEnvelope packet = length packet ≤ most_wrapped

-- so many packets are written
abbrev pub written_in : Settings → Envelope → List (List ℕ) → Turn
written_in s envelope packets = Writes (raw_size s.shape) (flat_map (enveloped envelope) packets) (length packets)

-- a picture is written as its codestream, or as the frames of its packets, or as their records
abbrev pub written_as : Settings → Form → Before → Stream → Turn
written_as s Xs before stream = Writes (raw_size s.shape) (stream_bytes stream) 0
written_as s Rtp before stream = written_in s Frame (packets_sent s before stream)
written_as s (Pcap port) before stream = written_in s (Record (timestamp_of s before.pictures) port) (packets_sent s before stream)

abbrev pub encoded_as : Settings → Form → Before → Result Stream Budget → Turn
encoded_as s form before (Ok stream) = written_as s form before stream
encoded_as s form before (Err budget) = Ends (over_share before.pictures budget ∷ [])

-- what comes next
abbrev pub turn_unless : Option (List Note) → Turn → Turn
turn_unless None turn = turn
turn_unless (Some notes) turn = Ends notes

abbrev pub encode_turn : Settings → Form → Before → List ℕ → Turn
encode_turn s form before rest = turn_unless (first_some (ends_before s before rest)) (encoded_as s form before (encoding_of s (first_picture s rest)))

abbrev pub IsEncodeTurn : Settings → Form → Before → List ℕ → Turn → Type 0
IsEncodeTurn s form before rest turn = turn ≡ encode_turn s form before rest

-- what stands in the output where the source failed after these bytes: the pictures that are whole in them
pub record StandsAfter (s : Settings) (form : Form) (taken out : List ℕ) : Type 0 where
  pub first : HasSaidFirst (IsEncodeTurn s form) taken out
  pub begun : length first.rest < raw_size s.shape

-- what is written before the first picture is read: the header of a pcap file
abbrev pub file_front : Form → List ℕ
file_front Rtp = []
file_front Xs = []
file_front (Pcap port) = header_bytes

abbrev pub with_front : List ℕ → Said → Said
with_front front said = record { out = front ++ said.out; notes = said.notes }

-- all that is written and said
pub record IsEncoded (s : Settings) (form : Form) (input : List ℕ) (said : Said) : Type 0 where
  pub pictures : Said
  pub turns : HasSaidAll (IsEncodeTurn s form) input pictures
  pub whole : said ≡ with_front (file_front form) pictures

-- what stands where the source failed, with what is written before the first picture is read
abbrev pub EncodedStandsAfter : Settings → Form → List ℕ → List ℕ → Type 0
EncodedStandsAfter s form taken out = (pictures : List ℕ) × StandsAfter s form taken pictures × (out ≡ file_front form ++ pictures)
