-- What is found in a capture before it is sorted.
use Rattle.std.specs.Prelude.{◌≡◌, ℕ, ⊤, List}
use Rattle.xs_capture.specs.declared.pictures.SortFault.{SortFault}
use Rattle.xs_capture.specs.declared.pictures.SortFault.TheVariants.{Cut, Pictures, Memory}
use Rattle.xs_capture.specs.Offer.{Offer}
use Rattle.xs_capture.specs.Capture.{IsCapture, IsCutAt}
use Rattle.xs_capture.specs.Offers.{offers_of, stepped_of}

-- the bytes are whole frames, with these offers and so many other frames
pub record HasOffers (bytes : List ℕ) (offers : List Offer) (stepped : ℕ) : Type 0 where
  pub packets : List (List ℕ)
  pub whole : IsCapture packets bytes
  pub those : offers ≡ offers_of packets
  pub others : stepped ≡ stepped_of packets

-- why they are not; want of memory is free
abbrev pub IsFindFault : List ℕ → SortFault → Type 0
IsFindFault bytes (Cut place) = IsCutAt bytes place
IsFindFault bytes (Pictures count) = ⊥
IsFindFault bytes Memory = ⊤
