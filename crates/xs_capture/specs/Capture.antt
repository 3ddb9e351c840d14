-- A capture: packets, each after its length: 'RTP packets and captures'.
use Rattle.std.specs.Prelude.{◌≡◌, ℕ, ◌+◌, ◌<◌, ◌^◌, ◌||◌, nat_lt, if◌then◌else◌, Result, Ok, Err, List, ◌++◌, length, take, drop, flat_map}
use Rattle.std.specs.Int.{to_be_bytes, w16}
use Rattle.std.specs.List.{AllByRecursion}
use Rattle.xs_lists.specs.Fields.{half_word_at}
use Rattle.xs_lists.specs.Spelling.{BeginsWith}
use Rattle.xs_capture.specs.declared.frames.FrameFault.{FrameFault}
use Rattle.xs_capture.specs.declared.frames.FrameFault.TheVariants.{Cut}

-- a packet after its length in two bytes
abbrev pub frame : List ℕ → List ℕ
frame packet = to_be_bytes w16 (length packet) ++ packet

-- the packet's length has room in its two bytes
abbrev pub IsShort : List ℕ → Type 0
IsShort packet = length packet < 2 ^ 16

-- the bytes begin with no whole frame
abbrev pub HasNoFrame : List ℕ → Type 0
HasNoFrame bytes = (packet : List ℕ) → IsShort packet → ¬ BeginsWith bytes (frame packet)

-- the bytes join the packets, each after its length
pub record IsCapture (packets : List (List ℕ)) (bytes : List ℕ) : Type 0 where
  pub joined : bytes ≡ flat_map frame packets
  pub short : AllByRecursion IsShort packets

-- whole frames end at the place, bytes follow, and no whole frame begins there
pub record IsCutAt (bytes : List ℕ) (place : ℕ) : Type 0 where
  pub packets : List (List ℕ)
  pub whole : IsCapture packets (take place bytes)
  pub follow : place < length bytes
  pub cut : HasNoFrame (drop place bytes)

-- Reading a frame

-- where the frame at a place ends, by its stated length
abbrev pub frame_end : List ℕ → ℕ → ℕ
frame_end bytes place = place + 2 + half_word_at bytes place

-- where the packet of the frame at a place begins and ends, or that the bytes end before that
abbrev pub frame_read : List ℕ → ℕ → Result (ℕ × ℕ) FrameFault
frame_read bytes place =
    if nat_lt (length bytes) (place + 2) || nat_lt (length bytes) (frame_end bytes place) then Err (Cut place) else Ok (place + 2, frame_end bytes place)
