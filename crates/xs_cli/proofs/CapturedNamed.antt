-- No fault of what is sent is want of memory.
use Rattle.std.proofs.Common.{◌≡◌, ◌≢◌, ℕ, zero, suc, ◌+◌, List, [], ◌∷◌, length, drop, ap, subst}
use Rattle.std.specs.Prelude.{Bool, true, false, not, nat_eq, nat_lt, if◌then◌else◌, Option, None, Some, Result, Ok, Err}
use Rattle.std.specs.Result.{result_err}
use Rattle.xs_lists.specs.Fields.{word_at}
use Rattle.xs_lists.specs.First.{first_some, when}
use Rattle.xs_faults.specs.declared.HeadFault.{HeadFault}
use Rattle.xs_faults.specs.declared.HeadFault.TheVariants as head
use Rattle.xs_faults.specs.declared.SliceFault.{SliceFault}
use Rattle.xs_faults.specs.declared.SliceFault.TheVariants as slice_fault
use Rattle.xs_faults.specs.Names.{NamesSliceFault}
use Rattle.xs_params.specs.declared.header.Header.{Header}
use Rattle.xs_params.specs.Geometry.{slice_count}
use Rattle.xs_params.specs.Markers.{eoc}
use Rattle.xs_reading.specs.Slice.{is_same, slice_end, slice_fault as fault_of_slice, slice_unit_fault, whole_slice_fault}
use Rattle.xs_markers.specs.Reading.{head_fault, header_end, unless}
use Rattle.xs_markers.specs.Segments.{slh_code}
use Rattle.xs_markers.specs.Units.{box_fault, boxes_end, boxes_fault, boxes_from, header_unit_fault, is_start, whole_header_fault}
use Rattle.xs_picture.proofs.FirstHolds.{two_hold, when_holds}
use Rattle.xs_picture.proofs.HeadersNamed.{headers_named}
use Rattle.xs_picture.proofs.Named.{slice_named}

abbrev IsNamedHead : HeadFault → Type 0
IsNamedHead f = f ≢ head.Memory

tested : (test : Bool) (x f : HeadFault) (rest : Option HeadFault) → IsNamedHead x → (rest ≡ Some f → IsNamedHead f) → (if test then Some x else rest) ≡ Some f → IsNamedHead f
tested true x f rest own later e = let same : x ≡ f = cc e in subst IsNamedHead same own
tested false x f rest own later e = later e

box_named : (bytes : List ℕ) (place : ℕ) (f : HeadFault) → box_fault bytes place ≡ Some f → IsNamedHead f
unfolding box_fault
box_named bytes place f e =
    tested (nat_lt (length bytes) (place + 4)) (head.Truncated (length bytes)) f _ (λ m. cc m)
    (tested (nat_lt (word_at bytes place) 8) (head.BoxLength (word_at bytes place) place) f _ (λ m. cc m)
    (tested (nat_lt (length bytes) (place + word_at bytes place)) (head.Truncated (length bytes)) f None (λ m. cc m) (λ e. absurd (cc e)))) e

boxes_named : (steps : ℕ) (bytes : List ℕ) (place : ℕ) (f : HeadFault) → boxes_from steps bytes place ≡ Err f → IsNamedHead f
unfolding boxes_from
boxes_named zero bytes place f e = λ m. cc (e, m)
boxes_named (suc steps) bytes place f e = at (boxes_named steps bytes (place + word_at bytes place) f) (is_start bytes place) (box_fault bytes place) (box_named bytes place) e
  where
    at : (boxes_from steps bytes (place + word_at bytes place) ≡ Err f → IsNamedHead f) → (start : Bool) (fault : Option HeadFault) → ((g : HeadFault) → fault ≡ Some g → IsNamedHead g)
        → (if start then Ok place else unless fault (boxes_from steps bytes (place + word_at bytes place))) ≡ Err f → IsNamedHead f
    at later true fault own e = absurd (cc e)
    at later false None own e = later e
    at later false (Some g) own e = let same : g ≡ f = cc e in own f (ap Some same)

err_of : (r : Result ℕ HeadFault) (f : HeadFault) → result_err r ≡ Some f → r ≡ Err f
err_of (Ok n) f e = absurd (cc e)
err_of (Err g) f e = let same : g ≡ f = cc e in ap Err same

whole_header_named : (bytes : List ℕ) (f : HeadFault) → whole_header_fault bytes ≡ Some f → IsNamedHead f
whole_header_named bytes f e =
    let behind = when (nat_lt (header_end bytes) (length bytes)) (head.Marker slh_code (header_end bytes)) in
    two_hold IsNamedHead (head_fault bytes) behind f (headers_named bytes)
    (when_holds IsNamedHead (nat_lt (header_end bytes) (length bytes)) (head.Marker slh_code (header_end bytes)) (λ m. cc m)) e

pub header_unit_named : (bytes : List ℕ) (f : HeadFault) → header_unit_fault bytes ≡ Some f → f ≢ head.Memory
header_unit_named bytes f e =
    two_hold IsNamedHead (boxes_fault bytes) (whole_header_fault (drop (boxes_end bytes) bytes)) f
    (λ g e. boxes_named (suc (length bytes)) bytes 0 g (err_of (boxes_from (suc (length bytes)) bytes 0) g e))
    (whole_header_named (drop (boxes_end bytes) bytes)) e

pub slice_unit_named : (h : Header) (slice : ℕ) (bytes : List ℕ) (f : SliceFault) → slice_unit_fault h slice bytes ≡ Some f → NamesSliceFault f
slice_unit_named h slice bytes f e = at (nat_eq (slice + 1) (slice_count h)) e
  where
    unended : Option SliceFault
    unended = when (not (is_same (drop (slice_end h slice bytes) bytes) eoc)) slice_fault.End

    behind : Option SliceFault
    behind = when (nat_lt (slice_end h slice bytes) (length bytes)) (slice_fault.Trailing (slice_end h slice bytes))

    at : (last : Bool) → (if last then first_some (fault_of_slice h slice bytes ∷ unended ∷ []) else whole_slice_fault h slice bytes) ≡ Some f → NamesSliceFault f
    at true e =
        two_hold NamesSliceFault (fault_of_slice h slice bytes) unended f (slice_named h slice bytes)
        (when_holds NamesSliceFault (not (is_same (drop (slice_end h slice bytes) bytes) eoc)) slice_fault.End tt) e
    at false e =
        two_hold NamesSliceFault (fault_of_slice h slice bytes) behind f (slice_named h slice bytes)
        (when_holds NamesSliceFault (nat_lt (slice_end h slice bytes) (length bytes)) (slice_fault.Trailing (slice_end h slice bytes)) tt) e
