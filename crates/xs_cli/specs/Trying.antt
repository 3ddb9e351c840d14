-- What the steps of a trial owe.
use Rattle.std.specs.Prelude.{◌≡◌, ℕ, ◌<◌, ◌^◌, ⊤, IsSome, Result, Ok, Err, List, [], map, length, slice_index_or}
use Rattle.std.specs.Io.KnownBytes.{Keeps}
use Rattle.xs_params.specs.declared.settings.Settings.{Settings}
use Rattle.xs_params.specs.Picture.{Picture}
use Rattle.xs_params.specs.Stream.{Stream, stream_bytes}
use Rattle.xs_faults.specs.declared.Budget.{Budget}
use Rattle.xs_rate.specs.Encoding.{encoding_of}
use Rattle.xs_picture.specs.StreamRead.{IsPictureRead}
use Rattle.xs_capture.specs.Offer.{Offer}
use Rattle.xs_capture.specs.Offers.{offer_of}
use Rattle.xs_capture.specs.Selection.{Held, IsSelection}
use Rattle.xs_recv.specs.declared.received.Received.{Received}
use Rattle.xs_recv.specs.declared.received.Received.TheVariants as received
use Rattle.xs_recv.specs.Received.{IsReceived}
use Rattle.xs_endings.specs.declared.stop.Stop.{Stop}
use Rattle.xs_endings.specs.declared.stop.Stop.TheVariants as stop
use Rattle.xs_endings.specs.Ends.{Change, Got, GotFront, HasFailed, IsLater}
use Rattle.xs_endings.specs.Said.{Said, only_note}
use Rattle.xs_cli.specs.Encoded.{over_share}
use Rattle.xs_cli.specs.Tried.{IsTried}

-- a trial has no boxes, and its packets are short: all of them, twice, have fewer than 2^32 bytes
pub record IsTrialSized (s : Settings) : Type 0 where
  pub boxes : s.boxes ≡ []
  pub chunk : s.chunk < 2 ^ 11

-- the picture is encoded, or a slice is over its share; want of memory is free
abbrev pub IsEncodedOr : Settings → Picture → Result Stream Stop → Type 0
IsEncodedOr s picture (Ok stream) = encoding_of s picture ≡ Ok stream
IsEncodedOr s picture (Err (stop.Told why)) = (budget : Budget) × (encoding_of s picture ≡ Err budget) × (why ≡ over_share 0 budget)
IsEncodedOr s picture (Err stop.Memory) = ⊤
IsEncodedOr s picture (Err stop.ReadFault) = ⊥
IsEncodedOr s picture (Err stop.WriteFault) = ⊥

-- these bytes are written, or this is told; want of memory is free
abbrev pub IsLinesOf : Settings → ℕ → Result (List ℕ) Stop → Type 0
IsLinesOf s seed (Ok lines) = IsTried s seed (record { out = lines; notes = [] })
IsLinesOf s seed (Err (stop.Told why)) = IsTried s seed (only_note why)
IsLinesOf s seed (Err stop.Memory) = ⊤
IsLinesOf s seed (Err stop.ReadFault) = ⊥
IsLinesOf s seed (Err stop.WriteFault) = ⊥

-- the packets with these numbers
abbrev pub in_order : List (List ℕ) → List ℕ → List (List ℕ)
in_order packets order = map (λ number. slice_index_or packets number []) order

-- each packet is an offer
abbrev pub AreOffered : List (List ℕ) → Type 0
AreOffered packets = (k : ℕ) → k < length packets → IsSome (offer_of (slice_index_or packets k []))

-- whatever is selected of the offers, the picture of the codestream is received
abbrev pub BringPicture : Settings → Stream → List Offer → Type 0
BringPicture s stream offers =
    (held : Held) (answer : Received) → IsSelection offers held → IsReceived held answer
    → (picture : Picture) × (answer ≡ received.Picture picture) × (picture.shape ≡ s.shape) × IsPictureRead picture (stream_bytes stream) (length (stream_bytes stream))

-- an answer was given, or is left to be told, or a front of it was given
pub record IsAnswered (s : Settings) (seed : ℕ) (output : Change) : Type 0 where
  pub said : Said
  pub answer : IsTried s seed said
  pub quiet : said.notes ≡ []
  pub given : Got output said.out

pub record IsAnsweredInFront (s : Settings) (seed : ℕ) (output : Change) : Type 0 where
  pub said : Said
  pub answer : IsTried s seed said
  pub given : GotFront output said.out

-- what a trial owes
abbrev pub IsTrialStop : Settings → ℕ → Change → Result ℕ Stop → Type 0
IsTrialStop s seed output (Ok status) = (status ≡ 0) × IsAnswered s seed output
IsTrialStop s seed output (Err (stop.Told why)) = IsTried s seed (only_note why) × Keeps output.before output.after
IsTrialStop s seed output (Err stop.WriteFault) = HasFailed output × IsAnsweredInFront s seed output
IsTrialStop s seed output (Err stop.Memory) = IsAnsweredInFront s seed output
IsTrialStop s seed output (Err stop.ReadFault) = ⊥

pub record HasTried (s : Settings) (seed : ℕ) (output : Change) (result : Result ℕ Stop) : Type 0 where
  pub stop : IsTrialStop s seed output result
  pub later : IsLater output
