-- What is encoded is read.
use Rattle.std.specs.Prelude.{◌≡◌, ℕ, None, Ok, List, ◌++◌, length}
use Rattle.xs_lists.specs.Packing.{AreBytes}
use Rattle.xs_params.specs.declared.header.Header.{Header}
use Rattle.xs_params.specs.declared.settings.Settings.{Settings}
use Rattle.xs_params.specs.Check.{AreInRange}
use Rattle.xs_params.specs.Headers.{header_of}
use Rattle.xs_params.specs.Picture.{Picture}
use Rattle.xs_params.specs.Stream.{Stream, stream_bytes}
use Rattle.xs_rate.specs.Encoding.{encoding_of}
use Rattle.xs_rate.specs.Encoded.{stated_header}
use Rattle.xs_markers.specs.Reading.{header_at}
use Rattle.xs_picture.specs.Faults.{stream_fault, stream_end}

-- the bytes begin with a codestream without fault, of this header and so many bytes
pub record IsReadAs (h : Header) (n : ℕ) (bytes : List ℕ) : Type 0 where
  pub no_fault : stream_fault bytes ≡ None
  pub header : header_at bytes ≡ h
  pub ends : stream_end bytes ≡ n

-- an encoding is read as itself, whatever bytes follow it
abbrev pub EncodedIsRead : Type 0
EncodedIsRead = (s : Settings) (picture : Picture) (stream : Stream) (rest : List ℕ) → AreInRange s → encoding_of s picture ≡ Ok stream → AreBytes rest
    → IsReadAs (stated_header (header_of s) stream) (length (stream_bytes stream)) (stream_bytes stream ++ rest)
