-- Which bytes are codestreams, and that they have one picture.
use Rattle.std.specs.Prelude.{◌≡◌, ℕ, None, List}
use Rattle.xs_lists.specs.Packing.{AreBytes}
use Rattle.xs_params.specs.declared.header.Header.{Header}
use Rattle.xs_params.specs.Picture.{Picture}
use Rattle.xs_grammar.specs.Precinct.{Content}
use Rattle.xs_grammar.specs.Codestream.{IsCodestreamFront}
use Rattle.xs_markers.specs.Reading.{header_at}
use Rattle.xs_decoding.specs.Decoded.{IsDecodingOf}
use Rattle.xs_picture.specs.Faults.{stream_fault, stream_end}

-- bytes have no fault exactly where they begin with a codestream, and header and end are those that are read
pub record IsStreamKnown (bytes : List ℕ) : Type 0 where
  pub spelled : stream_fault bytes ≡ None → (content : Content) × IsCodestreamFront (header_at bytes) content bytes (stream_end bytes)
  pub known : (h : Header) (content : Content) (n : ℕ) → IsCodestreamFront h content bytes n → (stream_fault bytes ≡ None) × (h ≡ header_at bytes) × (n ≡ stream_end bytes)

abbrev pub StreamsKnown : Type 0
StreamsKnown = (bytes : List ℕ) → AreBytes bytes → IsStreamKnown bytes

-- all codestreams that begin the bytes are of one length and one header, and have the same picture
abbrev pub OnePicture : Type 0
OnePicture = (h other : Header) (content contents : Content) (bytes : List ℕ) (n m : ℕ) (picture : Picture) → IsCodestreamFront h content bytes n → IsCodestreamFront other contents bytes m
    → IsDecodingOf h content picture → (n ≡ m) × (h ≡ other) × IsDecodingOf other contents picture
