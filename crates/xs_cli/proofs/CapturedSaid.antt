-- What is said of pictures, one after the other.
use Rattle.std.proofs.Common.{◌≡◌, ◌≢◌, ℕ, zero, suc, ◌+◌, ◌≤◌, ◌<◌, ◌++◌, List, [], ◌∷◌, length, map, drop, get_or, Bool, true, false, Result, Ok, Err, Option, refl, sym, ap, subst, ◌∙◌, arith, append-nil, append_assoc, inl, inr, ◌⊎◌}
use Rattle.std.specs.Prelude.{nat_eq, if◌then◌else◌, IfOk}
use Rattle.xs_notes.specs.declared.note.Note.TheVariants as note
use Rattle.std.specs.List.{AllByRecursion}
use Rattle.std.specs.Io.KnownBytes.{Appends}
use Rattle.std.proofs.lemmas.Bool.Decides.{nat_tests}
use Rattle.std.proofs.KnownBytes.{Appends-nil, Appends-trans}
use Rattle.std.proofs.lemmas.List.{at_drop_more, at_drop_all, drop-drop, drop-set-lt, get_or-drop, length-set}
use Rattle.std.proofs.lemmas.Grind.{flat_map-append}
use Rattle.xs_capture.specs.Offer.{Offer}
use Rattle.xs_capture.specs.Pictures.{Sorting, offers_in, without_offers}
use Rattle.xs_notes.specs.declared.note.Note.{Note}
use Rattle.xs_notes.specs.Lines.{note_line, note_lines}
use Rattle.xs_endings.specs.declared.stop.Stop.{Stop}
use Rattle.xs_endings.specs.declared.stop.Stop.TheVariants as stop
use Rattle.xs_endings.specs.Ends.{Change, Got, GotFront, HasFailed, IsLater, change_of, untouched}
use Rattle.xs_endings.specs.Said.{Said, note_status, only_note, status_of, status_of_notes}
use Rattle.xs_endings.specs.Steps.{IsGiven}
use Rattle.xs_endings.proofs.Changes.{front_of_more, front_of_none, got_then_front, rose_after}
use Rattle.xs_recv.specs.declared.received.Damage.TheVariants as damage
use Rattle.xs_recv.specs.declared.received.Received.{Received}
use Rattle.xs_recv.specs.declared.received.Received.TheVariants as received
use Rattle.xs_cli.specs.Captured.{AreSaidOf, IsReceivedOf, IsSaidOfSorted, nothing_said, said_of, said_then, stepped_said}
use Rattle.xs_cli.specs.Receiving.{HasSaid, IsSaying}
use Rattle.xs_cli.proofs.CapturedKnown.{HasAnswer}
use Rattle.xs_cli.proofs.CapturedTold.{same_stop}

-- The first status

status_step : (s x y z : ℕ) → y ≡ (if nat_eq x 0 then z else x) → (if nat_eq s 0 then y else s) ≡ (if nat_eq (if nat_eq s 0 then x else s) 0 then z else (if nat_eq s 0 then x else s))
status_step s x y z e = at (nat_eq s 0) refl
  where
    at : (b : Bool) → nat_eq s 0 ≡ b → (if b then y else s) ≡ (if nat_eq (if b then x else s) 0 then z else (if b then x else s))
    at true same = e
    at false same = sym (ap (λ b. if b then z else s) same)

pub status_on : (first more : List Note) → status_of_notes (first ++ more) ≡ (if nat_eq (status_of_notes first) 0 then status_of_notes more else status_of_notes first)
status_on [] more = refl
status_on (said ∷ notes) more = status_step (note_status said) (status_of_notes notes) (status_of_notes (notes ++ more)) (status_of_notes more) (status_on notes more)

pub stepped_status : (count : ℕ) → status_of (stepped_said count) ≡ 0
stepped_status count = at (nat_eq count 0)
  where
    at : (b : Bool) → status_of_notes (if b then [] else note.Stepped count ∷ []) ≡ 0
    at true = refl
    at false = refl

lines_then : (first more : List Note) → note_lines (first ++ more) ≡ note_lines first ++ note_lines more
lines_then first more = flat_map-append note_line first more

then_assoc : (x y z : Said) → said_then (said_then x y) z ≡ said_then x (said_then y z)
then_assoc x y z = cc (append_assoc x.out y.out z.out, append_assoc x.notes y.notes z.notes)

then_nothing : (x : Said) → said_then x nothing_said ≡ x
then_nothing x = ap (λ o. pair o (x.notes ++ [])) (append-nil x.out) ∙ ap (pair x.out) (append-nil x.notes)
  where
    pair : List ℕ → List Note → Said
    pair out notes = record { out = out; notes = notes }

-- There is something to say of what is left

said_of_all : (timestamps : List ℕ) (offers : List (List Offer)) → AllByRecursion HasAnswer offers → (said : Said) × AreSaidOf timestamps offers said
said_of_all [] offers all = (nothing_said, refl)
said_of_all (timestamp ∷ timestamps) [] all = (nothing_said, refl)
said_of_all (timestamp ∷ timestamps) (offers ∷ more) all =
    let others = said_of_all timestamps more all.1 in
    (said_then (said_of timestamp all.0.0) others.0, (said_of timestamp all.0.0, (all.0.0, all.0.1, refl), others.0, others.1, refl))

all_left : (at : ℕ) (offers : List (List Offer)) → AllByRecursion HasAnswer offers → AllByRecursion HasAnswer (drop at offers)
all_left zero offers all = all
all_left (suc at) [] all = tt
all_left (suc at) (offers ∷ more) all = all_left at more all.1

abbrev pub AreLeft : Sorting → ℕ → Said → Type 0
AreLeft sorting number said = AreSaidOf (drop number sorting.timestamps) (drop number sorting.offers) said

pub said_of_left : (sorting : Sorting) → AllByRecursion HasAnswer sorting.offers → (number : ℕ) → (said : Said) × AreLeft sorting number said
said_of_left sorting all number = said_of_all (drop number sorting.timestamps) (drop number sorting.offers) (all_left number sorting.offers all)

left_none : (sorting : Sorting) (number : ℕ) → length sorting.timestamps ≤ number → AreLeft sorting number nothing_said
left_none sorting number end = subst (λ l. AreSaidOf l (drop number sorting.offers) nothing_said) (sym (at_drop_all (λ l. l) sorting.timestamps number end)) refl

left_more : (sorting : Sorting) (number : ℕ) (answer : Received) (others : Said) → number < length sorting.timestamps → number < length sorting.offers
    → IsReceivedOf (get_or sorting.offers number []) answer → AreLeft sorting (number + 1) others → AreLeft sorting number (said_then (said_of (get_or sorting.timestamps number 0) answer) others)
left_more sorting number answer others below below' is left =
    let said = said_then (said_of (get_or sorting.timestamps number 0) answer) others in
    let here : AreSaidOf (get_or sorting.timestamps number 0 ∷ drop (number + 1) sorting.timestamps) (get_or sorting.offers number [] ∷ drop (number + 1) sorting.offers) said =
    (said_of (get_or sorting.timestamps number 0) answer, (answer, is, refl), others, left, refl) in
    let one = subst (λ l. AreSaidOf (get_or sorting.timestamps number 0 ∷ drop (number + 1) sorting.timestamps) l said) (sym (at_drop_more (λ l. l) sorting.offers number [] below')) here in
    subst (λ l. AreSaidOf l (drop number sorting.offers) said) (sym (at_drop_more (λ l. l) sorting.timestamps number 0 below)) one

-- Saying

module _ (a b c : Option (List ℕ)) (f g h : ℕ) (p q r : Option (List ℕ)) (u v w : ℕ) (first : Said) (out : Appends a b first.out) (lines : Appends p q (note_lines first.notes)) (later : f ≤ g) (later' : u ≤ v) where
  -- it stops after the first, in what comes then
  pub then_cut : (said more : Said) (why : Stop) → IsSaying (change_of b c g h) (change_of q r v w) said (Err why)
      → IsSaying (change_of a c f h) (change_of p r u w) (said_then first (said_then said more)) (Err why)
  then_cut said more why cut =
      let whole : note_lines (first.notes ++ (said.notes ++ more.notes)) ≡ note_lines first.notes ++ (note_lines said.notes ++ note_lines more.notes) =
      lines_then first.notes (said.notes ++ more.notes) ∙ ap (λ l. note_lines first.notes ++ l) (lines_then said.notes more.notes) in
      record {
        out = tt;
        lines = tt;
        status = tt;
        out_front = got_then_front a b c f g h first.out (said.out ++ more.out) out (front_of_more (change_of b c g h) said.out more.out cut.out_front);
        lines_front = subst (GotFront (change_of p r u w)) (sym whole) (got_then_front p q r u v w (note_lines first.notes) (note_lines said.notes ++ note_lines more.notes) lines (front_of_more (change_of q r v w) (note_lines said.notes) (note_lines more.notes) cut.lines_front));
        why = cut.why;
        failed = λ e. either (cut.failed e);
        out_later = omega (arith, later, cut.out_later);
        lines_later = omega (arith, later', cut.lines_later);
      }
    where
      either : HasFailed (change_of b c g h) ⊎ HasFailed (change_of q r v w) → HasFailed (change_of a c f h) ⊎ HasFailed (change_of p r u w)
      either (inl rose) = inl (rose_after f g h later rose)
      either (inr rose) = inr (rose_after u v w later' rose)

  pub then_out : (said : Said) (status : ℕ) → IsSaying (change_of b c g h) (change_of q r v w) said (Ok status) → Appends a c (first.out ++ said.out)
  then_out said status saying = Appends-trans a b c first.out said.out out saying.out

  pub then_lines : (said : Said) (status : ℕ) → IsSaying (change_of b c g h) (change_of q r v w) said (Ok status) → Appends p r (note_lines (first.notes ++ said.notes))
  then_lines said status saying = subst (Appends p r) (sym (lines_then first.notes said.notes)) (Appends-trans p q r (note_lines first.notes) (note_lines said.notes) lines saying.lines)

-- memory was wanting before anything was said
pub unsaid : (a p : Option (List ℕ)) (f u : ℕ) (said : Said) → IsSaying (untouched a f) (untouched p u) said (Err stop.Memory)
unsaid a p f u said = record {
  out = tt;
  lines = tt;
  status = tt;
  out_front = front_of_none a f f said.out;
  lines_front = front_of_none p u u (note_lines said.notes);
  why = tt;
  failed = λ e. absurd (cc e);
  out_later = omega arith;
  lines_later = omega arith;
}

-- only the output, or only the notes are given to
pub saying_out : (output : Change) (p : Option (List ℕ)) (u : ℕ) (piece : List ℕ) (result : Result ℕ Stop) → IsGiven output piece result → IfOk result (λ status. status ≡ 0)
    → IsSaying output (untouched p u) (record { out = piece; notes = [] }) result
saying_out output p u piece (Ok status) given done = record {
  out = given.whole;
  lines = Appends-nil p;
  status = done;
  out_front = tt;
  lines_front = tt;
  why = tt;
  failed = λ e. absurd (cc e);
  out_later = given.later;
  lines_later = omega arith;
}
saying_out output p u piece (Err why) given done = record {
  out = tt;
  lines = tt;
  status = tt;
  out_front = given.front;
  lines_front = front_of_none p u u [];
  why = given.why;
  failed = λ e. inl (given.failed e);
  out_later = given.later;
  lines_later = omega arith;
}

pub saying_notes : (a : Option (List ℕ)) (f : ℕ) (notes : Change) (told : List Note) (result : Result ℕ Stop) → IsGiven notes (note_lines told) result → IfOk result (λ status. status ≡ status_of_notes told)
    → IsSaying (untouched a f) notes (record { out = []; notes = told }) result
saying_notes a f notes told (Ok status) given done = record {
  out = Appends-nil a;
  lines = given.whole;
  status = done;
  out_front = tt;
  lines_front = tt;
  why = tt;
  failed = λ e. absurd (cc e);
  out_later = omega arith;
  lines_later = given.later;
}
saying_notes a f notes told (Err why) given done = record {
  out = tt;
  lines = tt;
  status = tt;
  out_front = front_of_none a f f [];
  lines_front = given.front;
  why = given.why;
  failed = λ e. inr (given.failed e);
  out_later = omega arith;
  lines_later = given.later;
}

-- one note
pub saying_one : (a : Option (List ℕ)) (f : ℕ) (notes : Change) (why : Note) (result : Result ℕ Stop) → IsGiven notes (note_line why) result → IfOk result (λ status. status ≡ note_status why)
    → IsSaying (untouched a f) notes (only_note why) result
saying_one a f notes why result given done =
    saying_notes a f notes (why ∷ []) result (subst (λ l. IsGiven notes l result) (sym (append-nil (note_line why))) given) (one result done)
  where
    alone : (s : ℕ) → s ≡ (if nat_eq s 0 then 0 else s)
    alone s = grind (arith, nat_tests)

    one : (result : Result ℕ Stop) → IfOk result (λ status. status ≡ note_status why) → IfOk result (λ status. status ≡ status_of_notes (why ∷ []))
    one (Ok status) done = done ∙ alone (note_status why)
    one (Err why) done = tt

-- a note on each slice
pub saying_slices : (a : Option (List ℕ)) (f : ℕ) (notes : Change) (timestamp : ℕ) (slices : List ℕ) (result : Result ℕ Stop) → slices ≢ []
    → IsGiven notes (note_lines (map (note.MissingSlice timestamp) slices)) result → IfOk result (λ status. status ≡ 5)
    → IsSaying (untouched a f) notes (said_of timestamp (received.Missing false slices)) result
saying_slices a f notes timestamp slices result some given done = saying_notes a f notes (map (note.MissingSlice timestamp) slices) result given (each slices some result done)
  where
    each : (slices : List ℕ) → slices ≢ [] → (result : Result ℕ Stop) → IfOk result (λ status. status ≡ 5) → IfOk result (λ status. status ≡ status_of_notes (map (note.MissingSlice timestamp) slices))
    each [] some result done = absurd (some refl)
    each (slice ∷ slices) some (Ok status) done = done
    each (slice ∷ slices) some (Err why) done = tt

-- Statuses

abbrev pub IsPictureStatus : ℕ → Type 0
IsPictureStatus status = (status ≡ 0) ⊎ ((3 ≤ status) × (status ≤ 6))

one_status : (timestamp : ℕ) (answer : Received) → IsPictureStatus (status_of (said_of timestamp answer))
one_status timestamp (received.Picture picture) = inl refl
one_status timestamp (received.Missing true slices) = inr (omega arith, omega arith)
one_status timestamp (received.Missing false []) = inl refl
one_status timestamp (received.Missing false (slice ∷ slices)) = inr (omega arith, omega arith)
one_status timestamp (received.Damaged (damage.Head fault)) = inr (omega arith, omega arith)
one_status timestamp (received.Damaged (damage.Slice slice fault)) = inr (omega arith, omega arith)
one_status timestamp (received.Damaged (damage.Lcod stated actual)) = inr (omega arith, omega arith)

then_status : (first more : Said) → IsPictureStatus (status_of first) → IsPictureStatus (status_of more) → IsPictureStatus (status_of (said_then first more))
then_status first more one other = subst IsPictureStatus (sym (status_on first.notes more.notes)) (at (nat_eq (status_of first) 0))
  where
    at : (b : Bool) → IsPictureStatus (if b then status_of more else status_of first)
    at true = other
    at false = one

said_status : (timestamps : List ℕ) (offers : List (List Offer)) (said : Said) → AreSaidOf timestamps offers said → IsPictureStatus (status_of said)
said_status [] offers said is = subst (λ (s : Said). IsPictureStatus (status_of s)) (sym is) (inl refl)
said_status (timestamp ∷ timestamps) [] said is = subst (λ (s : Said). IsPictureStatus (status_of s)) (sym is) (inl refl)
said_status (timestamp ∷ timestamps) (offers ∷ more) said is =
    let first = subst (λ (s : Said). IsPictureStatus (status_of s)) (sym is.1.2) (one_status timestamp is.1.0) in
    subst (λ (s : Said). IsPictureStatus (status_of s)) (sym is.4) (then_status is.0 is.2 first (said_status timestamps more is.2 is.3))

pub sorted_status : (sorting : Sorting) (said : Said) → IsSaidOfSorted (Ok sorting) said → IsPictureStatus (status_of said)
sorted_status sorting said is =
    subst (λ (s : Said). IsPictureStatus (status_of s)) (sym is.2)
    (then_status (stepped_said sorting.stepped) is.0 (inl (stepped_status sorting.stepped)) (said_status sorting.timestamps sorting.offers is.0 is.1))

-- Pictures

-- the first pictures are said, after how many frames were stepped over; of the others the offers are as they were
pub record HasSaidTo (sorting sorted : Sorting) (number status : ℕ) (output notes : Change) : Type 0 where
  pub said : Said
  pub on : (more : Said) → AreLeft sorting number more → IsSaidOfSorted (Ok sorting) (said_then said more)
  pub out : Got output said.out
  pub lines : Got notes (note_lines said.notes)
  pub is : status ≡ status_of said
  pub out_later : IsLater output
  pub lines_later : IsLater notes
  pub names : sorted.timestamps ≡ sorting.timestamps
  pub count : length sorted.offers ≡ length sorting.timestamps
  pub left : drop number sorted.offers ≡ drop number sorting.offers

abbrev pub IsSaidAll : Sorting → Change → Change → Result ℕ Stop → Type 0
IsSaidAll sorting = HasSaid (IsSaidOfSorted (Ok sorting))

module _ (sorting : Sorting) (all : AllByRecursion HasAnswer sorting.offers) (as_many : length sorting.offers ≡ length sorting.timestamps) where
  -- the note on what was stepped over
  pub stepped_given : (sorted : Sorting) → sorted.timestamps ≡ sorting.timestamps → sorted.offers ≡ sorting.offers → (a p r : Option (List ℕ)) (f u w : ℕ) {T : Type 0} (done : T)
      → IsGiven (change_of p r u w) (note_lines (stepped_said sorting.stepped).notes) (Ok done) → HasSaidTo sorting sorted 0 0 (untouched a f) (change_of p r u w)
  stepped_given sorted names offers a p r f u w done given = record {
    said = stepped_said sorting.stepped;
    on = λ more left. (more, left, refl);
    out = Appends-nil a;
    lines = given.whole;
    is = sym (stepped_status sorting.stepped);
    out_later = omega arith;
    lines_later = given.later;
    names = names;
    count = ap length offers ∙ as_many;
    left = ap (drop 0) offers;
  }

  pub stepped_cut : (a p r : Option (List ℕ)) (f u w : ℕ) {T : Type 0} (why : Stop) → IsGiven {T = T} (change_of p r u w) (note_lines (stepped_said sorting.stepped).notes) (Err why)
      → IsSaidAll sorting (untouched a f) (change_of p r u w) (Err why)
  stepped_cut a p r f u w why given =
      let left = said_of_left sorting all 0 in
      let whole = lines_then (stepped_said sorting.stepped).notes left.0.notes in
      record {
        said = said_then (stepped_said sorting.stepped) left.0;
        answer = (left.0, left.1, refl);
        saying = record {
          out = tt;
          lines = tt;
          status = tt;
          out_front = front_of_none a f f left.0.out;
          lines_front = subst (GotFront (change_of p r u w)) (sym whole) (front_of_more (change_of p r u w) (note_lines (stepped_said sorting.stepped).notes) (note_lines left.0.notes) given.front);
          why = given.why;
          failed = λ e. inr (given.failed (ap Err (same_stop why stop.WriteFault e)));
          out_later = omega arith;
          lines_later = given.later;
        };
      }

  module _ (a b c : Option (List ℕ)) (f g h : ℕ) (p q r : Option (List ℕ)) (u v w : ℕ) (sorted : Sorting) (number status : ℕ) (before : HasSaidTo sorting sorted number status (change_of a b f g) (change_of p q u v)) where
    -- memory is wanting for a picture
    pub none_more : IsSaidAll sorting (change_of a b f g) (change_of p q u v) (Err stop.Memory)
    none_more =
        let left = said_of_left sorting all number in
        record {
          said = said_then before.said left.0;
          answer = before.on left.0 left.1;
          saying = then_cut a b b f g g p q q u v v before.said before.out before.lines before.out_later before.lines_later nothing_said left.0 stop.Memory (unsaid b q g v nothing_said);
        }

    pub offers_here : number < length sorting.timestamps → get_or sorted.offers number [] ≡ get_or sorting.offers number []
    offers_here below =
        let here : number + 0 ≡ number = omega arith in
        ap (λ n. get_or sorted.offers n []) (sym here) ∙ sym (get_or-drop number sorted.offers 0 []) ∙ ap (λ l. get_or l 0 []) before.left ∙ get_or-drop number sorting.offers 0 []
        ∙ ap (λ n. get_or sorting.offers n []) here

    below_offers : number < length sorting.timestamps → number < length sorting.offers
    below_offers below = omega (arith, below, as_many)

    -- what comes of a picture is said in part
    pub more_cut : (timestamp : ℕ) (answer : Received) (why : Stop) → number < length sorting.timestamps → timestamp ≡ get_or sorting.timestamps number 0 → IsReceivedOf (offers_in sorted number) answer
        → IsSaying (change_of b c g h) (change_of q r v w) (said_of timestamp answer) (Err why) → IsSaidAll sorting (change_of a c f h) (change_of p r u w) (Err why)
    more_cut timestamp answer why below named is cut =
        let left = said_of_left sorting all (number + 1) in
        let here = subst (λ t. AreLeft sorting number (said_then (said_of t answer) left.0)) (sym named)
        (left_more sorting number answer left.0 below (below_offers below) (subst (λ o. IsReceivedOf o answer) (offers_here below) is) left.1) in
        record {
          said = said_then before.said (said_then (said_of timestamp answer) left.0);
          answer = before.on (said_then (said_of timestamp answer) left.0) here;
          saying = then_cut a b c f g h p q r u v w before.said before.out before.lines before.out_later before.lines_later (said_of timestamp answer) left.0 why cut;
        }

    -- or as a whole
    pub one_more : (timestamp : ℕ) (answer : Received) (more : ℕ) → number < length sorting.timestamps → timestamp ≡ get_or sorting.timestamps number 0 → IsReceivedOf (offers_in sorted number) answer
        → IsSaying (change_of b c g h) (change_of q r v w) (said_of timestamp answer) (Ok more)
        → HasSaidTo sorting (without_offers sorted number) (number + 1) (if nat_eq status 0 then more else status) (change_of a c f h) (change_of p r u w)
    one_more timestamp answer more below named is saying = record {
      said = said_then before.said (said_of timestamp answer);
      on = λ others left. subst (IsSaidOfSorted (Ok sorting)) (sym (then_assoc before.said (said_of timestamp answer) others)) (before.on (said_then (said_of timestamp answer) others)
          (subst (λ t. AreLeft sorting number (said_then (said_of t answer) others)) (sym named)
          (left_more sorting number answer others below (below_offers below) (subst (λ o. IsReceivedOf o answer) (offers_here below) is) left)));
      out = then_out a b c f g h p q r u v w before.said before.out before.lines before.out_later before.lines_later (said_of timestamp answer) more saying;
      lines = then_lines a b c f g h p q r u v w before.said before.out before.lines before.out_later before.lines_later (said_of timestamp answer) more saying;
      is = sym (status_on before.said.notes (said_of timestamp answer).notes ∙ ap (λ s. if nat_eq s 0 then status_of (said_of timestamp answer) else s) (sym before.is) ∙ ap (λ s. if nat_eq status 0 then s else status) (sym saying.status));
      out_later = omega (arith, before.out_later, saying.out_later);
      lines_later = omega (arith, before.lines_later, saying.lines_later);
      names = before.names;
      count = length-set sorted.offers number [] ∙ before.count;
      left = drop-set-lt (number + 1) sorted.offers number [] (omega arith) ∙ sym (drop-drop 1 number sorted.offers) ∙ ap (drop 1) before.left ∙ drop-drop 1 number sorting.offers;
    }

    -- all are said
    pub all_said : length sorting.timestamps ≤ number → IsSaidAll sorting (change_of a b f g) (change_of p q u v) (Ok status)
    all_said end = record {
      said = before.said;
      answer = subst (IsSaidOfSorted (Ok sorting)) (then_nothing before.said) (before.on nothing_said (left_none sorting number end));
      saying = record {
        out = before.out;
        lines = before.lines;
        status = before.is;
        out_front = tt;
        lines_front = tt;
        why = tt;
        failed = λ e. absurd (cc e);
        out_later = before.out_later;
        lines_later = before.lines_later;
      };
    }
