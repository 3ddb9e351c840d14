-- Laws of captures, offers and selections.
use Rattle.std.specs.Prelude.{◌≡◌, ◌↔◌, ℕ, ◌-◌, ◌<◌, ◌≤◌, ◌⊎◌, Result, Ok, Err, List, take, drop, length, Contains}
use Rattle.xs_lists.specs.Packing.{AreBytes}
use Rattle.xs_lists.specs.Spelling.{BeginsWith}
use Rattle.xs_capture.specs.declared.frames.FrameFault.{FrameFault}
use Rattle.xs_capture.specs.declared.frames.FrameFault.TheVariants.{Cut}
use Rattle.xs_capture.specs.Offer.{Offer}
use Rattle.xs_capture.specs.Capture.{frame, HasNoFrame, IsCapture, IsCutAt, IsShort, frame_read}
use Rattle.xs_capture.specs.Offers.{AllAgree, offers_of}
use Rattle.xs_capture.specs.Pictures.{AreTimestamps}
use Rattle.xs_capture.specs.Selection.{Held, IsSelection, EndsAt}

-- Captures

-- bytes are whole frames, or are cut at a place
abbrev pub CutOrWhole : Type 0
CutOrWhole = (bytes : List ℕ) → ((packets : List (List ℕ)) × IsCapture packets bytes) ⊎ ((place : ℕ) × IsCutAt bytes place)

-- bytes have one list of frames, and are cut at one place or not at all
pub record FramesAreOne : Type 0 where
  pub whole : (bytes : List ℕ) (packets others : List (List ℕ)) → IsCapture packets bytes → IsCapture others bytes → packets ≡ others
  pub cut : (bytes : List ℕ) (place other : ℕ) → IsCutAt bytes place → IsCutAt bytes other → place ≡ other
  pub either : (bytes : List ℕ) (packets : List (List ℕ)) (place : ℕ) → IsCapture packets bytes → IsCutAt bytes place → ⊥

-- what reading at a place answers: a frame stands there, or none does
abbrev pub IsFrameRead : List ℕ → ℕ → Result (ℕ × ℕ) FrameFault → Type 0
IsFrameRead bytes place (Ok read) =
    (read.0 ≤ read.1) × (read.1 ≤ length bytes) × IsShort (take (read.1 - read.0) (drop read.0 bytes)) × BeginsWith (drop place bytes) (frame (take (read.1 - read.0) (drop read.0 bytes)))
IsFrameRead bytes place (Err (Cut first)) = (first ≡ place) × HasNoFrame (drop place bytes)

abbrev pub FrameIsRead : Type 0
FrameIsRead = (bytes : List ℕ) (place : ℕ) → AreBytes bytes → place < length bytes → IsFrameRead bytes place (frame_read bytes place)

-- Offers

-- the offers of packets have timestamps
abbrev pub TimestampsExist : Type 0
TimestampsExist = (packets : List (List ℕ)) → (timestamps : List ℕ) × AreTimestamps (offers_of packets) timestamps

-- Selections

-- there is a selection of offers
abbrev pub SelectionExists : Type 0
SelectionExists = (offers : List Offer) → (held : Held) × IsSelection offers held

-- the same offers in another order, or each of them more than once, have the same selections
abbrev pub SelectionOfSet : Type 0
SelectionOfSet = (offers others : List Offer) (held : Held) → ((p : Offer) → Contains offers p ↔ Contains others p) → IsSelection offers held → IsSelection others held

-- where the offers of a picture agree, any two selections of them hold the same
abbrev pub OneSelection : Type 0
OneSelection =
    (offers : List Offer) (timestamp : ℕ) → ((p : Offer) → Contains offers p → p.timestamp ≡ timestamp) → AllAgree offers
    → (a b : Held) → IsSelection offers a → IsSelection offers b → (unit place : ℕ) → a unit place ≡ b unit place

-- a unit ends at one place
abbrev pub OneEnd : Type 0
OneEnd = (held : Held) (unit a b : ℕ) → EndsAt held unit a → EndsAt held unit b → a ≡ b
