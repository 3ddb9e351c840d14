-- A capture whose offers are sorted by picture, and dealt to feeders: 'RTP packets and captures'.
use Rattle.std.specs.Prelude.{◌≡◌, ℕ, ◌<◌, ◌≤◌, ◌%◌, nat_eq, Result, Ok, Err, ⊤, List, [], length, map, filter, zip, Contains, slice_index_or, slice_set}
use Rattle.xs_lists.specs.Ascending.{ListsAscending}
use Rattle.xs_lists.specs.Spelling.{upto}
use Rattle.xs_capture.specs.Offer.{Offer}
use Rattle.xs_capture.specs.declared.frames.FrameFault.{FrameFault}
use Rattle.xs_capture.specs.declared.frames.FrameFault.TheVariants as frames
use Rattle.xs_capture.specs.declared.pictures.SortFault.{SortFault}
use Rattle.xs_capture.specs.declared.pictures.SortFault.TheVariants.{Cut, Pictures, Memory}
use Rattle.xs_capture.specs.Capture.{IsCapture, IsCutAt}
use Rattle.xs_capture.specs.Offers.{offers_of, offers_at, stepped_of}

-- a run has at most so many pictures
abbrev pub most_pictures : ℕ
most_pictures = 256

-- the pictures: the timestamps of the offers, each once, ascending
abbrev pub AreTimestamps : List Offer → List ℕ → Type 0
AreTimestamps offers = ListsAscending (Contains (map (λ (p : Offer). p.timestamp) offers))

-- pictures that were sorted: their timestamps, the offers of each, and how many packets were stepped over
pub record Sorting : Type 0 where
  pub timestamps : List ℕ
  pub offers : List (List Offer)
  pub stepped : ℕ

-- the offers of a picture by its number
abbrev pub offers_in : Sorting → ℕ → List Offer
offers_in sorting number = slice_index_or sorting.offers number []

-- the pictures, and none of its offers any more
abbrev pub without_offers : Sorting → ℕ → Sorting
without_offers sorting number = record sorting { offers = slice_set sorting.offers number [] }

-- a capture whose frames are whole is sorted so
pub record IsSorting (bytes : List ℕ) (sorting : Sorting) : Type 0 where
  pub packets : List (List ℕ)
  pub whole : IsCapture packets bytes
  pub timestamps : AreTimestamps (offers_of packets) sorting.timestamps
  pub most : length sorting.timestamps ≤ most_pictures
  pub offers : sorting.offers ≡ map (λ timestamp. offers_at timestamp (offers_of packets)) sorting.timestamps
  pub stepped : sorting.stepped ≡ stepped_of packets

-- there are too many pictures, so many
pub record HasTooMany (bytes : List ℕ) (count : ℕ) : Type 0 where
  pub packets : List (List ℕ)
  pub whole : IsCapture packets bytes
  pub timestamps : List ℕ
  pub sorted : AreTimestamps (offers_of packets) timestamps
  pub counted : count ≡ length timestamps
  pub many : most_pictures < count

-- a frame that is cut, as the fault of its capture
abbrev pub sort_fault_of : FrameFault → SortFault
sort_fault_of (frames.Cut place) = Cut place

-- what sorting a capture answers; want of memory is free
abbrev pub IsSorted : List ℕ → Result Sorting SortFault → Type 0
IsSorted bytes (Ok sorting) = IsSorting bytes sorting
IsSorted bytes (Err (Cut place)) = IsCutAt bytes place
IsSorted bytes (Err (Pictures count)) = HasTooMany bytes count
IsSorted bytes (Err Memory) = ⊤

-- the offers that a part gets of so many: the first to part 0, the next to part 1, and so on round
abbrev pub dealt_part : ℕ → List Offer → ℕ → List Offer
dealt_part parts offers part = map (λ (entry : Offer × ℕ). entry.0) (filter (λ (entry : Offer × ℕ). nat_eq (entry.1 % parts) part) (zip offers (upto (length offers))))

abbrev pub dealt_parts : ℕ → List Offer → List (List Offer)
dealt_parts parts offers = map (dealt_part parts offers) (upto parts)
