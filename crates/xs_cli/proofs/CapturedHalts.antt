-- How the receiving of a capture halts.
use Rattle.std.proofs.Common.{◌≡◌, ℕ, ◌+◌, ◌<◌, ◌≤◌, List, length, map, Bool, true, false, Result, Ok, Err, Option, refl, sym, ap, subst, ◌∙◌, arith, inl, inr}
use Rattle.std.specs.Prelude.{nat_le}
use Rattle.std.proofs.KnownBytes.{Appends-nil, Keeps-refl}
use Rattle.std.proofs.lemmas.Bool.Decides.{nat_tests}
use Rattle.xs_lists.specs.Packing.{AreBytes}
use Rattle.xs_capture.specs.declared.pictures.SortFault.{SortFault}
use Rattle.xs_capture.specs.declared.pictures.SortFault.TheVariants as sort
use Rattle.xs_capture.specs.Capture.{IsCapture}
use Rattle.xs_capture.specs.Offers.{offers_at, offers_of, stepped_of}
use Rattle.xs_capture.specs.Pictures.{AreTimestamps, IsSorted, IsSorting, Sorting, most_pictures}
use Rattle.xs_capture.proofs.Times.{timestamps_exist}
use Rattle.xs_capture.proofs.WholeFrames.{cut_or_whole}
use Rattle.xs_notes.specs.declared.note.Note.TheVariants as note
use Rattle.xs_endings.specs.declared.stop.Stop.{Stop}
use Rattle.xs_endings.specs.declared.stop.Stop.TheVariants as stop
use Rattle.xs_endings.specs.Ends.{Change, ends_of, untouched}
use Rattle.xs_endings.specs.Endings.{HasFronts}
use Rattle.xs_endings.specs.Said.{Said, only_note}
use Rattle.xs_endings.proofs.Changes.{front_of_none}
use Rattle.xs_cli.specs.Captured.{IsCaptured, IsCapturedAfter, IsSaidOfSorted, also_stepped, said_then, stepped_said, with_stepped}
use Rattle.xs_cli.specs.Receiving.{AreReceived, stop_of_sort}
use Rattle.xs_cli.specs.Steps.{IsCommandStop}
use Rattle.xs_cli.proofs.CapturedKnown.{all_answered}
use Rattle.xs_cli.proofs.CapturedSaid.{IsPictureStatus, IsSaidAll, said_of_left, sorted_status}

-- Pictures that are sorted

captured_of : (records : ℕ) (bytes : List ℕ) (sorting : Sorting) (said : Said) → IsSorting bytes sorting → IsSaidOfSorted (also_stepped records (Ok sorting)) said → IsCapturedAfter records bytes said
captured_of records bytes sorting said sorts is = record { sorted = Ok sorting; sorts = sorts; answer = is }

abbrev stepped_also : ℕ → Sorting → Sorting
stepped_also records sorting = with_stepped sorting (sorting.stepped + records)

fronts_of : (records : ℕ) (bytes input : List ℕ) (sorting : Sorting) (source output notes : Change) (why : Stop) → IsSorting bytes sorting → IsSaidAll (stepped_also records sorting) output notes (Err why)
    → HasFronts (IsCapturedAfter records bytes) input (ends_of source output notes)
fronts_of records bytes input sorting source output notes why sorts has = record {
  said = has.said;
  answer = λ _. captured_of records bytes sorting has.said sorts has.answer;
  output = has.saying.out_front;
  notes = has.saying.lines_front;
}

pub pictures_halt : (records : ℕ) (bytes : List ℕ) (sorting : Sorting) (output notes : Change) (result : Result ℕ Stop) → IsSorting bytes sorting → IsSaidAll (stepped_also records sorting) output notes result
    → AreReceived records bytes output notes result
pictures_halt records bytes sorting output notes (Ok status) sorts has source input = record {
  said = has.said;
  answer = captured_of records bytes sorting has.said sorts has.answer;
  answered = has.saying.status;
  output = has.saying.out;
  notes = has.saying.lines;
}
pictures_halt records bytes sorting output notes (Err stop.WriteFault) sorts has source input = (has.saying.failed refl, fronts_of records bytes input sorting source output notes stop.WriteFault sorts has)
pictures_halt records bytes sorting output notes (Err stop.Memory) sorts has source input = fronts_of records bytes input sorting source output notes stop.Memory sorts has
pictures_halt records bytes sorting output notes (Err stop.ReadFault) sorts has source input = absurd has.saying.why
pictures_halt records bytes sorting output notes (Err (stop.Told why)) sorts has source input = absurd has.saying.why

pub pictures_stop : (sorting : Sorting) (output notes : Change) (result : Result ℕ Stop) → IsSaidAll sorting output notes result → IsCommandStop result
pictures_stop sorting output notes (Ok status) has = subst IsPictureStatus (sym has.saying.status) (sorted_status sorting has.said has.answer)
pictures_stop sorting output notes (Err stop.WriteFault) has = tt
pictures_stop sorting output notes (Err stop.Memory) has = tt
pictures_stop sorting output notes (Err stop.ReadFault) has = tt
pictures_stop sorting output notes (Err (stop.Told why)) has = absurd has.saying.why

-- Each input of bytes has an answer

of_sorting : (records : ℕ) (bytes : List ℕ) (sorting : Sorting) → AreBytes bytes → IsSorting bytes sorting → (said : Said) × IsCapturedAfter records bytes said
of_sorting records bytes sorting are sorts =
    let pictures = said_of_left (stepped_also records sorting) (all_answered bytes sorting are sorts) 0 in
    let said = said_then (stepped_said (sorting.stepped + records)) pictures.0 in
    (said, captured_of records bytes sorting said sorts (pictures.0, pictures.1, refl))

of_timestamps : (records : ℕ) (bytes : List ℕ) (packets : List (List ℕ)) (timestamps : List ℕ) → AreBytes bytes → IsCapture packets bytes → AreTimestamps (offers_of packets) timestamps → (said : Said) × IsCapturedAfter records bytes said
of_timestamps records bytes packets timestamps are whole sorted = at (nat_le (length timestamps) most_pictures) refl
  where
    at : (few : Bool) → nat_le (length timestamps) most_pictures ≡ few → (said : Said) × IsCapturedAfter records bytes said
    at true e =
        let most : length timestamps ≤ most_pictures = grind (arith, nat_tests, e) in
        of_sorting records bytes (record { timestamps = timestamps; offers = map (λ timestamp. offers_at timestamp (offers_of packets)) timestamps; stepped = stepped_of packets }) are
        (record { packets = packets; whole = whole; timestamps = sorted; most = most; offers = refl; stepped = refl })
    at false e =
        let many : most_pictures < length timestamps = grind (arith, nat_tests, e) in (
          only_note (note.InputPictures (length timestamps)),
          record { sorted = Err (sort.Pictures (length timestamps)); sorts = record { packets = packets; whole = whole; timestamps = timestamps; sorted = sorted; counted = refl; many = many }; answer = refl },
        )

pub captured_exists : (records : ℕ) (bytes : List ℕ) → AreBytes bytes → (said : Said) × IsCapturedAfter records bytes said
captured_exists records bytes are = elim (cut_or_whole bytes) [
  | inl whole ↦ let sorted = timestamps_exist whole.0 in of_timestamps records bytes whole.0 sorted.0 are whole.1 sorted.1
  | inr cut ↦ (only_note (note.InputCut cut.0), record { sorted = Err (sort.Cut cut.0); sorts = cut.1; answer = refl })
]

-- where no record was stepped over it is that of the capture

none_more : (sorted : Result Sorting SortFault) (said : Said) → IsSaidOfSorted (also_stepped 0 sorted) said → IsSaidOfSorted sorted said
none_more (Ok sorting) said is =
    let same : sorting.stepped + 0 ≡ sorting.stepped = omega arith in (is.0, is.1, is.2 ∙ ap (λ n. said_then (stepped_said n) is.0) same)
none_more (Err fault) said is = is

more_none : (sorted : Result Sorting SortFault) (said : Said) → IsSaidOfSorted sorted said → IsSaidOfSorted (also_stepped 0 sorted) said
more_none (Ok sorting) said is =
    let same : sorting.stepped ≡ sorting.stepped + 0 = omega arith in (is.0, is.1, is.2 ∙ ap (λ n. said_then (stepped_said n) is.0) same)
more_none (Err fault) said is = is

pub after_none : (bytes : List ℕ) (said : Said) → IsCapturedAfter 0 bytes said → IsCaptured bytes said
after_none bytes said after = record { sorted = after.sorted; sorts = after.sorts; answer = none_more after.sorted said after.answer }

pub as_after : (bytes : List ℕ) (said : Said) → IsCaptured bytes said → IsCapturedAfter 0 bytes said
as_after bytes said captured = record { sorted = captured.sorted; sorts = captured.sorts; answer = more_none captured.sorted said captured.answer }

pub capture_answered : (bytes : List ℕ) → AreBytes bytes → (said : Said) × IsCaptured bytes said
capture_answered bytes are = let found = captured_exists 0 bytes are in (found.0, after_none bytes found.0 found.1)

-- Captures that are refused as a whole

pub refusal_halts : (records : ℕ) (bytes : List ℕ) (a p : Option (List ℕ)) (f u : ℕ) (fault : SortFault) → AreBytes bytes → IsSorted bytes (Err fault)
    → AreReceived records bytes (untouched a f) (untouched p u) (Err (stop_of_sort fault))
refusal_halts records bytes a p f u (sort.Cut place) are sorts source input = record {
  said = only_note (note.InputCut place);
  answer = record { sorted = Err (sort.Cut place); sorts = sorts; answer = refl };
  note = refl;
  output = Appends-nil a;
  notes = Keeps-refl p;
}
refusal_halts records bytes a p f u (sort.Pictures count) are sorts source input = record {
  said = only_note (note.InputPictures count);
  answer = record { sorted = Err (sort.Pictures count); sorts = sorts; answer = refl };
  note = refl;
  output = Appends-nil a;
  notes = Keeps-refl p;
}
refusal_halts records bytes a p f u sort.Memory are sorts source input =
    let answer = captured_exists records bytes are in
    record { said = answer.0; answer = λ _. answer.1; output = front_of_none a f f answer.0.out; notes = front_of_none p u u _ }

pub refusal_stops : (fault : SortFault) → IsCommandStop (Err (stop_of_sort fault))
refusal_stops (sort.Cut place) = ((omega arith, omega arith), tt)
refusal_stops (sort.Pictures count) = ((omega arith, omega arith), tt)
refusal_stops sort.Memory = tt
