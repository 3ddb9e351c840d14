-- What comes next in `decode`, case by case.
use Rattle.std.proofs.Common.{◌≡◌, ℕ, suc, ◌-◌, get_or, ◌+◌, ◌^◌, ◌<◌, ◌≤◌, ◌++◌, List, [], ◌∷◌, length, drop, Option, Some, None, Ok, Err, refl, sym, ap, subst, ◌∙◌, arith, inl, inr}
use Rattle.std.specs.Prelude.{Bool, true, false, nat_eq, nat_le}
use Rattle.std.specs.List.{concat}
use Rattle.std.specs.Option.{option_map}
use Rattle.std.specs.Io.KnownBytes.{Appends}
use Rattle.std.proofs.KnownBytes.{Appends-nil, Appends-trans, Appends-kept, Keeps-refl}
use Rattle.std.proofs.lemmas.Bool.{cases_lt}
use Rattle.std.proofs.lemmas.Bool.Decides.{nat_tests}
use Rattle.std.proofs.lemmas.List.{drop-drop}
use Rattle.std.proofs.lemmas.List.Elements.{All-drop, All-from_recursion, recursion_from_All}
use Rattle.xs_lists.specs.First.{when, first_some}
use Rattle.xs_lists.specs.Packing.{AreBytes}
use Rattle.xs_params.specs.Picture.{Picture, raw_bytes}
use Rattle.xs_params.specs.Geometry.{slice_count}
use Rattle.xs_faults.specs.declared.HeadFault.{HeadFault}
use Rattle.xs_faults.specs.declared.HeadFault.TheVariants as head
use Rattle.xs_faults.specs.declared.SliceFault.TheVariants as slice_fault
use Rattle.xs_faults.specs.declared.StreamFault.{StreamFault}
use Rattle.xs_faults.specs.declared.StreamFault.TheVariants as stream
use Rattle.xs_reading.specs.Stream.{body_fault, stream_fault_of_head}
use Rattle.xs_markers.specs.Reading.{head_fault, header_at, header_end}
use Rattle.xs_picture.specs.Faults.{stream_fault, stream_end}
use Rattle.xs_picture.specs.StreamRead.{IsPictureRead}
use Rattle.xs_picture.proofs.Known.{streams_known}
use Rattle.xs_capture.specs.Pictures.{most_pictures}
use Rattle.xs_notes.specs.declared.note.Note.{Note}
use Rattle.xs_notes.specs.declared.note.Note.TheVariants as note
use Rattle.xs_endings.specs.declared.stop.Stop.{Stop}
use Rattle.xs_endings.specs.declared.stop.Stop.TheVariants as stop
use Rattle.xs_endings.specs.Ends.{Change, Got, IsLater, change_of, untouched}
use Rattle.xs_endings.specs.Steps.{IsGiven}
use Rattle.xs_endings.specs.Turns.{AreWritten, Before, Ends, Turn, Writes, nothing, piece_of}
use Rattle.xs_endings.proofs.Changes.{front_of_none, rose_after}
use Rattle.xs_endings.proofs.Pictures.{Goes, finished, fronts, left_to_tell, taken_of_given}
use Rattle.xs_endings.proofs.Turns.{joined_more, written_more}
use Rattle.xs_cli.specs.Decoded.{IsDecodeTurn, IsTurnUnless, decode_ends, fault_notes}
use Rattle.xs_cli.specs.Encoded.{too_many}
use Rattle.xs_cli.specs.Steps.{AreStreamsDecoded, IsBadEnd, IsNext, IsOwnNote, IsTold}
use Rattle.xs_cli.proofs.Exists.{picture_exists}

-- Tests in an order

two : {A : Type 0} (a b : Bool) → A → A → Option A → Option A
two a b x y other = first_some (when a x ∷ when b y ∷ other ∷ [])

third : {A : Type 0} (a b : Bool) (x y : A) (other : Option A) → a ≡ false → b ≡ false → first_some (when a x ∷ when b y ∷ other ∷ []) ≡ other
third true b x y other p q = absurd (cc)
third false true x y other p q = absurd (cc)
third false false x y None p q = refl
third false false x y (Some other) p q = refl

first : {A : Type 0} (a b : Bool) (x y : A) (other : Option A) → a ≡ true → first_some (when a x ∷ when b y ∷ other ∷ []) ≡ Some x
first true b x y other p = refl
first false b x y other p = absurd (cc)

second : {A : Type 0} (a b : Bool) (x y : A) (other : Option A) → a ≡ false → b ≡ true → first_some (when a x ∷ when b y ∷ other ∷ []) ≡ Some y
second true b x y other p q = absurd (cc)
second false true x y other p q = refl
second false false x y other p q = absurd (cc)

-- The cases

by_ends : (at : Before) (rest : List ℕ) (o : Option (List Note)) (turn : Turn) → first_some (decode_ends at rest) ≡ o → IsTurnUnless o rest turn → IsDecodeTurn at rest turn
by_ends at rest o turn e is = subst (λ (x : Option (List Note)). IsTurnUnless x rest turn) (sym e) is

pub end_next : (at : Before) (rest : List ℕ) → length rest ≡ 0 → IsDecodeTurn at rest (Ends [])
end_next at rest none =
    let a : nat_eq (length rest) 0 ≡ true = grind (arith, nat_tests) in
    by_ends at rest (Some []) (Ends []) (first _ _ _ _ _ a) refl

pub end_ends : (at : Before) (rest : List ℕ) → length rest ≡ 0 → first_some (decode_ends at rest) ≡ Some []
end_ends at rest none = let a : nat_eq (length rest) 0 ≡ true = grind (arith, nat_tests) in first _ _ _ _ _ a

pub many_next : (at : Before) (rest : List ℕ) → 1 ≤ length rest → most_pictures ≤ at.pictures → IsDecodeTurn at rest (Ends (too_many ∷ []))
many_next at rest some many =
    let a : nat_eq (length rest) 0 ≡ false = grind (arith, nat_tests) in
    let b : nat_le most_pictures at.pictures ≡ true = grind (arith, nat_tests) in
    by_ends at rest (Some (too_many ∷ [])) (Ends (too_many ∷ [])) (second _ _ _ _ _ a b) refl

pub in_order : (at : Before) (rest : List ℕ) → 1 ≤ length rest → at.pictures < most_pictures → first_some (decode_ends at rest) ≡ option_map (fault_notes at rest) (stream_fault rest)
in_order at rest some few =
    let a : nat_eq (length rest) 0 ≡ false = grind (arith, nat_tests) in
    let b : nat_le most_pictures at.pictures ≡ false = grind (arith, nat_tests) in
    third _ _ _ _ _ a b

pub faulty_next : (at : Before) (rest : List ℕ) (fault : StreamFault) → 1 ≤ length rest → at.pictures < most_pictures → stream_fault rest ≡ Some fault
    → IsDecodeTurn at rest (Ends (fault_notes at rest fault))
faulty_next at rest fault some few e =
    by_ends at rest (Some (fault_notes at rest fault)) (Ends (fault_notes at rest fault)) (in_order at rest some few ∙ ap (option_map (fault_notes at rest)) e) refl

pub good_next : (at : Before) (rest : List ℕ) (picture : Picture) (size : ℕ) → 1 ≤ length rest → at.pictures < most_pictures → IsPictureRead picture rest size
    → IsDecodeTurn at rest (Writes size (raw_bytes picture) 0)
good_next at rest picture size some few read =
    by_ends at rest None (Writes size (raw_bytes picture) 0) (in_order at rest some few ∙ ap (option_map (fault_notes at rest)) read.no_fault) (record { picture = picture; size = size; read = read; writes = refl })

-- Each turn is there

read_there : (rest : List ℕ) → AreBytes rest → stream_fault rest ≡ None → (picture : Picture) × (size : ℕ) × IsPictureRead picture rest size
read_there rest are none =
    let known = (streams_known rest are).spelled none in
    let made = picture_exists (header_at rest) known.0 rest (stream_end rest) known.1 in
    (made.0, stream_end rest, record { no_fault = none; ends = refl; content = known.0; spelled = known.1; decoded = made.1 })

there : (at : Before) (rest : List ℕ) → AreBytes rest → (turn : Turn) × IsDecodeTurn at rest turn
there at rest are = elim (cases_lt 0 (length rest)) [
  | inl some ↦ elim (cases_lt at.pictures most_pictures) [
    | inl few ↦ by_fault some few (stream_fault rest) refl
    | inr many ↦ (Ends (too_many ∷ []), many_next at rest (omega (arith, some)) many)
  ]
  | inr none ↦ (Ends [], end_next at rest (omega (arith, none)))
]
  where
    by_fault : 0 < length rest → at.pictures < most_pictures → (o : Option StreamFault) → stream_fault rest ≡ o → (turn : Turn) × IsDecodeTurn at rest turn
    by_fault some few None e =
        let read = read_there rest are e in
        (Writes read.1 (raw_bytes read.0) 0, good_next at rest read.0 read.1 (omega (arith, some)) few read.2)
    by_fault some few (Some fault) e = (Ends (fault_notes at rest fault), faulty_next at rest fault (omega (arith, some)) few e)

never_writes : (rest : List ℕ) (notes : List Note) (o : Option (List Note)) (size : ℕ) (piece : List ℕ) (packets : ℕ) → o ≡ Some notes → IsTurnUnless o rest (Writes size piece packets) → ⊥
never_writes rest notes None size piece packets e is = absurd (cc)
never_writes rest notes (Some other) size piece packets e is = absurd (cc)

few : (at : Before) (rest : List ℕ) (size : ℕ) (piece : List ℕ) (packets : ℕ) → IsDecodeTurn at rest (Writes size piece packets) → at.pictures < most_pictures
few at rest size piece packets turn = elim (cases_lt at.pictures most_pictures) [
  | inl less ↦ less
  | inr many ↦ absurd (elim (cases_lt 0 (length rest)) [
    | inl some ↦
        let a : nat_eq (length rest) 0 ≡ false = grind (arith, nat_tests) in
        let b : nat_le most_pictures at.pictures ≡ true = grind (arith, nat_tests) in
        never_writes rest (too_many ∷ []) _ size piece packets (second _ _ _ _ _ a b) turn
    | inr none ↦
        let a : nat_eq (length rest) 0 ≡ true = grind (arith, nat_tests) in
        never_writes rest [] _ size piece packets (first _ _ _ _ _ a) turn
  ])
]

pub drop_bytes : (size : ℕ) (rest : List ℕ) → AreBytes rest → AreBytes (drop size rest)
drop_bytes size rest are = recursion_from_All (λ (byte : ℕ). byte < 2 ^ 8) (drop size rest) (All-drop (λ (byte : ℕ). byte < 2 ^ 8) size rest (All-from_recursion (λ (byte : ℕ). byte < 2 ^ 8) rest are))

pub decode_goes : Goes IsDecodeTurn AreBytes most_pictures
decode_goes = record { there = there; few = few; again = λ rest size are. drop_bytes size rest are }

-- What is decoded of bytes

pub record HasDecoded (bytes : List ℕ) (output : Change) (at : Before) : Type 0 where
  pub pieces : List (List ℕ)
  pub written : AreWritten IsDecodeTurn nothing bytes pieces at (drop at.bytes bytes)
  pub given : Got output (concat pieces)
  pub later : IsLater output

pub nothing_decoded : (bytes : List ℕ) (held : Option (List ℕ)) (u : ℕ) → HasDecoded bytes (untouched held u) nothing
nothing_decoded bytes held u = record { pieces = []; written = (refl, refl); given = Appends-nil held; later = omega arith }

module _ (bytes : List ℕ) (p q r : Option (List ℕ)) (u v w : ℕ) (picture place : ℕ)
    (before : HasDecoded bytes (change_of p q u v) (record { pictures = picture; bytes = place; sequence = 0 })) where
  pub one_decoded : (size : ℕ) → IsNext (record { pictures = picture; bytes = place; sequence = 0 }) (drop place bytes) (change_of q r v w) (Ok size) → v ≤ w
      → HasDecoded bytes (change_of p r u w) (record { pictures = picture + 1; bytes = place + size; sequence = 0 })
  one_decoded size next later =
      let at : Before = record { pictures = picture; bytes = place; sequence = 0 } in
      let more = written_more IsDecodeTurn nothing at bytes (drop place bytes) before.pieces size next.0 0 before.written next.1 in
      record {
        pieces = before.pieces ++ next.0 ∷ [];
        written = subst (λ (l : List ℕ). AreWritten IsDecodeTurn nothing bytes (before.pieces ++ next.0 ∷ []) (record { pictures = picture + 1; bytes = place + size; sequence = 0 }) l) (drop-drop size place bytes) more;
        given = subst (Appends p r) (sym (joined_more before.pieces next.0)) (Appends-trans p q r (concat before.pieces) next.0 before.given next.3);
        later = omega (arith, before.later, later);
      }

  pub all_decoded : drop place bytes ≡ [] → AreStreamsDecoded bytes (change_of p q u v) (Ok 0)
  all_decoded none = λ command source held faults.
      let at : Before = record { pictures = picture; bytes = place; sequence = 0 } in
      finished IsDecodeTurn AreBytes at bytes (drop place bytes) before.pieces before.written (end_next at (drop place bytes) (ap length none)) source (change_of p q u v) before.given held faults

  pub told_decoded : (why : Note) → Appends p r (concat before.pieces) → IsDecodeTurn (record { pictures = picture; bytes = place; sequence = 0 }) (drop place bytes) (Ends (why ∷ []))
      → AreStreamsDecoded bytes (change_of p r u w) (Err (stop.Told why))
  told_decoded why given turn = λ command source held faults.
      let at : Before = record { pictures = picture; bytes = place; sequence = 0 } in
      left_to_tell IsDecodeTurn AreBytes at bytes (drop place bytes) before.pieces why before.written turn source (change_of p r u w) given held faults

  pub stop_decoded : (why : Stop) → AreBytes (drop place bytes) → IsNext (record { pictures = picture; bytes = place; sequence = 0 }) (drop place bytes) (change_of q r v w) (Err why)
      → AreStreamsDecoded bytes (change_of p r u w) (Err why)
  stop_decoded (stop.Told why) are next =
      told_decoded why (Appends-kept p q r (concat before.pieces) before.given next.2.kept) (subst (λ (t : Turn). IsDecodeTurn (record { pictures = picture; bytes = place; sequence = 0 }) (drop place bytes) t) next.2.ends next.1)
  stop_decoded stop.ReadFault are next = absurd next.2
  stop_decoded stop.WriteFault are next = λ command source held faults.
      let at : Before = record { pictures = picture; bytes = place; sequence = 0 } in (
        inl (rose_after u v w before.later next.2.0),
        fronts IsDecodeTurn AreBytes most_pictures decode_goes at bytes (drop place bytes) before.pieces before.written are next.0 next.1 source p q r u v w before.given next.2.1 held faults,
      )
  stop_decoded stop.Memory are next = λ command source held faults.
      let at : Before = record { pictures = picture; bytes = place; sequence = 0 } in
      fronts IsDecodeTurn AreBytes most_pictures decode_goes at bytes (drop place bytes) before.pieces before.written are next.0 next.1 source p q r u v w before.given next.2 held faults

-- What `next` answers

pub some_there : (l : List ℕ) → ¬ (l ≡ []) → 1 ≤ length l
some_there [] some = absurd (some refl)
some_there (x ∷ l) some = omega arith

pub own_of_sink : {T : Type 0} (output : Change) (piece : List ℕ) (why : Stop) → IsGiven {T = T} output piece (Err why) → IsOwnNote why
own_of_sink output piece stop.WriteFault given = tt
own_of_sink output piece stop.Memory given = tt
own_of_sink output piece stop.ReadFault given = absurd given.why
own_of_sink output piece (stop.Told note) given = absurd given.why

-- the picture was not written whole
pub unwritten : (at : Before) (rest : List ℕ) (picture : Picture) (size : ℕ) (output : Change) (why : Stop) → 1 ≤ length rest → at.pictures < most_pictures → IsPictureRead picture rest size
    → IsGiven {T = Unit {0}} output (raw_bytes picture) (Err why) → IsNext at rest output (Err why)
unwritten at rest picture size output why some few read given =
    (Writes size (raw_bytes picture) 0, good_next at rest picture size some few read, taken_of_given output size (raw_bytes picture) 0 why given)

pub written_next : (at : Before) (rest : List ℕ) (picture : Picture) (size : ℕ) (output : Change) → 1 ≤ length rest → at.pictures < most_pictures → IsPictureRead picture rest size
    → Got output (raw_bytes picture) → IsNext at rest output (Ok size)
written_next at rest picture size output some few read got = (raw_bytes picture, good_next at rest picture size some few read, read.spelled.0, got)

-- there is no codestream
pub told_next : (at : Before) (rest : List ℕ) (held : Option (List ℕ)) (u : ℕ) (why : Stop) → AreBytes rest → IsTold at rest why → IsNext at rest (untouched held u) (Err why)
told_next at rest held u (stop.Told why) are told = (Ends (why ∷ []), told, record { ends = refl; kept = Keeps-refl held })
told_next at rest held u stop.ReadFault are told = absurd told
told_next at rest held u stop.WriteFault are told = absurd told
told_next at rest held u stop.Memory are told = let turn = there at rest are in (turn.0, turn.1, front_of_none held u u (piece_of turn.0))

pub are_bytes : (xs : List ℕ) → ((i : ℕ) → get_or xs i 0 < 2 ^ 8) → AreBytes xs
are_bytes [] each = tt
are_bytes (x ∷ xs) each = (each 0, are_bytes xs (λ i. each (suc i)))

-- a bad end is told
pub bad_end_told : (at : Before) (rest : List ℕ) (place : ℕ) (why : Stop) → 1 ≤ length rest → at.pictures < most_pictures → stream_fault rest ≡ Some (stream.End place) → IsBadEnd at.pictures rest why
    → IsTold at rest why
bad_end_told at rest place (stop.Told said) some few fault end =
    let one : said ≡ note.DamagedSlice at.pictures (slice_count (header_at rest) - 1) slice_fault.End = cc in
    subst (λ (n : Note). IsDecodeTurn at rest (Ends (n ∷ []))) (sym one) (faulty_next at rest (stream.End place) some few fault)
bad_end_told at rest place stop.ReadFault some few fault end = absurd (cc)
bad_end_told at rest place stop.WriteFault some few fault end = absurd (cc)
bad_end_told at rest place stop.Memory some few fault end = tt

pub bad_end_own : (picture : ℕ) (rest : List ℕ) (why : Stop) → IsBadEnd picture rest why → IsOwnNote why
bad_end_own picture rest (stop.Told said) end =
    let one : said ≡ note.DamagedSlice picture (slice_count (header_at rest) - 1) slice_fault.End = cc in
    subst (λ (n : Note). IsOwnNote (stop.Told n)) (sym one) ((omega arith, omega arith), tt)
bad_end_own picture rest stop.ReadFault end = absurd (cc)
bad_end_own picture rest stop.WriteFault end = absurd (cc)
bad_end_own picture rest stop.Memory end = tt

-- where the end marker is missing the header has no fault
pub headed : (rest : List ℕ) (place : ℕ) → stream_fault rest ≡ Some (stream.End place) → head_fault rest ≡ None
headed rest place fault = no_head (head_fault rest) (body_fault (header_at rest) rest (header_end rest)) fault
  where
    no_head : (o : Option HeadFault) (other : Option StreamFault) → first_some (option_map (stream_fault_of_head (length rest)) o ∷ other ∷ []) ≡ Some (stream.End place) → o ≡ None
    no_head None other e = refl
    no_head (Some (head.Truncated at)) other e = absurd (cc)
    no_head (Some (head.Marker code at)) other e = absurd (cc)
    no_head (Some (head.Segment code at)) other e = absurd (cc)
    no_head (Some (head.Length code size)) other e = absurd (cc)
    no_head (Some (head.Unsupported field value)) other e = absurd (cc)
    no_head (Some (head.Twice code)) other e = absurd (cc)
    no_head (Some (head.Absent code)) other e = absurd (cc)
    no_head (Some (head.BoxLength size at)) other e = absurd (cc)
    no_head (Some head.Memory) other e = absurd (cc)
