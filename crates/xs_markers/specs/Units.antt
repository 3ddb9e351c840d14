-- What is sent of a header: boxes, and the header from its start marker on: 'Picture header' and 'RTP packets and captures'.
use Rattle.std.specs.Prelude.{ℕ, zero, suc, ◌+◌, ◌&&◌, Bool, nat_eq, nat_lt, nat_le, if◌then◌else◌, Option, Result, Ok, Err, List, [], ◌∷◌, length, drop}
use Rattle.std.specs.Result.{result_err, result_unwrap_or}
use Rattle.xs_lists.specs.Fields.{half_word_at, word_at}
use Rattle.xs_lists.specs.First.{first_of, first_some, when}
use Rattle.xs_params.specs.declared.header.Header.{Header}
use Rattle.xs_faults.specs.declared.HeadFault.{HeadFault}
use Rattle.xs_faults.specs.declared.HeadFault.TheVariants.{Truncated, Marker, BoxLength}
use Rattle.xs_markers.specs.Segments.{soc_code, slh_code}
use Rattle.xs_markers.specs.Reading.{unless, head_fault, header_at, header_end}

-- the start marker stands at a place
abbrev pub is_start : List ℕ → ℕ → Bool
is_start bytes place = nat_le (place + 2) (length bytes) && nat_eq (half_word_at bytes place) soc_code

-- the first fault of the box at a place
unfoldable pub box_fault : List ℕ → ℕ → Option HeadFault
box_fault bytes place =
    first_of (
    (nat_lt (length bytes) (place + 4), Truncated (length bytes))
    ∷ (nat_lt (word_at bytes place) 8, BoxLength (word_at bytes place) place)
    ∷ (nat_lt (length bytes) (place + word_at bytes place), Truncated (length bytes))
    ∷ []
    )

-- where the start marker stands after boxes, from a place on; a box has eight bytes or more, so that as many steps as there are bytes are enough
unfoldable pub boxes_from : ℕ → List ℕ → ℕ → Result ℕ HeadFault
boxes_from zero bytes place = Err (Truncated (length bytes))
boxes_from (suc steps) bytes place =
    if is_start bytes place then Ok place else unless (box_fault bytes place) (boxes_from steps bytes (place + word_at bytes place))

-- why the bytes do not begin with boxes and a start marker, and where that marker stands
abbrev pub boxes_fault : List ℕ → Option HeadFault
boxes_fault bytes = result_err (boxes_from (suc (length bytes)) bytes 0)

abbrev pub boxes_end : List ℕ → ℕ
boxes_end bytes = result_unwrap_or (boxes_from (suc (length bytes)) bytes 0) 0

-- Header units

-- the first fault of a header that the bytes are, and nothing more
abbrev pub whole_header_fault : List ℕ → Option HeadFault
whole_header_fault bytes = first_some (head_fault bytes ∷ when (nat_lt (header_end bytes) (length bytes)) (Marker slh_code (header_end bytes)) ∷ [])

-- the first fault of what is sent of a header; places in the header count from its start marker
abbrev pub header_unit_fault : List ℕ → Option HeadFault
header_unit_fault bytes = first_some (boxes_fault bytes ∷ whole_header_fault (drop (boxes_end bytes) bytes) ∷ [])

-- the header, and its length from the start marker
abbrev pub header_unit_at : List ℕ → Header × ℕ
header_unit_at bytes = (header_at (drop (boxes_end bytes) bytes), header_end (drop (boxes_end bytes) bytes))
