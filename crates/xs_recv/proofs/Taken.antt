-- The copy of a slice, as it is taken of its place.
use Rattle.std.proofs.Common.{◌≡◌, ℕ, ◌+◌, ◌<◌, ◌≤◌, ◌^◌, Bool, true, Option, Some, None, List, length, get_or, arith}
use Rattle.xs_params.specs.declared.header.Header.{Header}
use Rattle.xs_params.specs.Accepted.{IsAccepted}
use Rattle.xs_params.specs.Geometry.{slice_count}
use Rattle.xs_lane_core.specs.Machine.{Actor}
use Rattle.xs_capture.specs.Offer.{last_unit}
use Rattle.xs_capture.specs.Selection.{HasBytes, Held}
use Rattle.xs_handover.specs.Blocks.{Carried}
use Rattle.xs_recv.specs.declared.activity.SliceCopy.{SliceCopy}
use Rattle.xs_recv.specs.Filed.{IsReceivable}
use Rattle.xs_recv.specs.Activities.{IsReadBy}
use Rattle.xs_recv.specs.Reading.{AreReadable}
use Rattle.xs_recv.proofs.InOrder.{taken}
use Rattle.xs_recv.proofs.Sizes.{whole_short}

-- It has the bytes of the slice's unit, which are few, and what was read of them, where that is trusted.
pub record IsTaken (held : Held) (h : Header) (v : Actor Carried) (trusted : Bool) (slice : ℕ) (c : SliceCopy) : Type 0 where
  pub here : c.slice ≡ slice
  pub whole : HasBytes held (slice + 1) c.bytes
  pub few : length c.bytes < 2 ^ 32
  pub unit : slice + 1 ≤ last_unit
  pub read : trusted ≡ true → IsReadBy h v c.slice c.bytes c.reading

pub copy_taken : (held : Held) (h : Header) (v : Actor Carried) (trusted : Bool) (places list : List (Option SliceCopy)) (slice : ℕ) (c : SliceCopy) → IsReceivable held → IsAccepted h → AreReadable held h v trusted places → slice < slice_count h
    → ((k : ℕ) → slice ≤ k → get_or list k None ≡ get_or places k None) → Some c ≡ get_or list slice None → IsTaken held h v trusted slice c
copy_taken held h v trusted places list slice c receivable accepted readable below left is = record {
  here = both.0;
  whole = both.1;
  few = whole_short held (slice + 1) c.bytes receivable unit both.1;
  unit = unit;
  read = both.2;
}
  where
    both : (c.slice ≡ slice) × HasBytes held (slice + 1) c.bytes × (trusted ≡ true → IsReadBy h v c.slice c.bytes c.reading)
    both = (taken held h v trusted places list slice (Some c) readable below left is).1

    unit : slice + 1 ≤ last_unit
    unit = let most = accepted.geometry.slices in omega (arith, below, most)
