-- What `encode` has written, and how it ends.
use Rattle.std.proofs.Common.{◌≡◌, ℕ, ◌+◌, ◌*◌, ◌<◌, ◌≤◌, ◌++◌, List, [], ◌∷◌, length, drop, Option, Ok, Err, refl, sym, ap, subst, ◌∙◌, arith, length-append, append-nil, append_assoc, inl, inr}
use Rattle.std.specs.List.{concat}
use Rattle.std.specs.Io.KnownBytes.{Appends, Consumes}
use Rattle.std.proofs.KnownBytes.{Appends-nil, Appends-trans, Consumes-nil, Consumes-trans, Keeps-refl, Appends-kept}
use Rattle.std.specs.Prelude.{sum_by}
use Rattle.std.proofs.lemmas.Nat.{mul-le}
use Rattle.std.proofs.lemmas.Bool.Decides.{nat_tests}
use Rattle.std.proofs.lemmas.Bool.{cases_lt}
use Rattle.std.proofs.lemmas.List.{drop_all}
use Rattle.std.proofs.lemmas.List.Elements.{All-append}
use Rattle.xs_io.specs.Bytes.{AreByteItems}
use Rattle.xs_params.specs.declared.settings.Settings.{Settings}
use Rattle.xs_layout.specs.declared.Format.{Format}
use Rattle.xs_layout.specs.declared.Format.TheVariants.{Mono, C422, C444}
use Rattle.xs_layout.specs.declared.Shape.{Shape}
use Rattle.xs_layout.specs.Geometry.{ceil_div, component_width_of, components_of}
use Rattle.xs_lists.specs.Spelling.{upto}
use Rattle.xs_params.specs.Picture.{IsShape, raw_size, sample_size}
use Rattle.xs_capture.specs.Pictures.{most_pictures}
use Rattle.xs_notes.specs.declared.note.Note.{Note}
use Rattle.xs_endings.specs.declared.stop.Stop.{Stop}
use Rattle.xs_endings.specs.declared.stop.Stop.TheVariants as stop
use Rattle.xs_endings.specs.Ends.{Change, Got, GotFront, IsLater, IsLeft, TookAtMost, change_of, ends_of, untouched}
use Rattle.xs_endings.specs.Endings.{HasFronts}
use Rattle.xs_endings.specs.Turns.{AreWritten, Before, Ends, HasSaidAll, IsTaken, Writes, after, nothing, piece_of}
use Rattle.xs_endings.proofs.Changes.{front_of_none, rose_after}
use Rattle.xs_endings.proofs.Pictures.{finished, fronts, left_to_tell}
use Rattle.xs_endings.proofs.Turns.{joined_more, written_more, written_whatever_follows}
use Rattle.xs_words.specs.declared.command.Form.{Form}
use Rattle.xs_cli.specs.Encoded.{IsEncodeTurn, encode_turn, too_many}
use Rattle.xs_cli.specs.Steps.{ArePicturesDone, IsOwnNote, IsRead}
use Rattle.xs_cli.specs.Places.{IsStreamAt}
use Rattle.xs_cli.proofs.Inputs.{HasRest, front_of, no_bytes, rest_of, used_up}
use Rattle.xs_cli.proofs.Turns.{encode_goes, end_turn, many_turn, more_behind, writes_whole}

-- so many pictures were read, encoded and written
pub record HasWritten (s : Settings) (form : Form) (source output : Change) (at : Before) : Type 0 where
  pub taken : List ℕ
  pub bytes : AreByteItems taken
  pub size : length taken ≡ at.bytes
  pub whole : at.bytes ≡ at.pictures * raw_size s.shape
  pub consumed : Consumes source.before source.after taken
  pub pieces : List (List ℕ)
  pub written : AreWritten (IsEncodeTurn s form) nothing taken pieces at []
  pub given : Got output (concat pieces)
  pub later_in : IsLater source
  pub later_out : IsLater output

pub nothing_written : (s : Settings) (form : Form) (left held : Option (List ℕ)) (f u : ℕ) → HasWritten s form (untouched left f) (untouched held u) nothing
nothing_written s form left held f u = record {
  taken = [];
  bytes = no_bytes;
  size = refl;
  whole = omega arith;
  consumed = Consumes-nil left;
  pieces = [];
  written = (refl, refl);
  given = Appends-nil held;
  later_in = omega arith;
  later_out = omega arith;
}

looks : (s : Settings) (form : Form) (at : Before) (input more : List ℕ) (size : ℕ) (piece : List ℕ) (packets : ℕ) → IsEncodeTurn s form at input (Writes size piece packets)
    → (size ≤ length input) × IsEncodeTurn s form at (input ++ more) (Writes size piece packets)
looks s form at input more size piece packets turn =
    let is = writes_whole s form at input size piece packets turn in
    (omega (arith, is.exact, is.whole), turn ∙ sym (more_behind s form at input more is.some is.few is.whole))

-- what is written of the bytes that were taken is written of them whatever follows
pub behind : (s : Settings) (form : Form) (at : Before) (taken more : List ℕ) (pieces : List (List ℕ)) → AreWritten (IsEncodeTurn s form) nothing taken pieces at []
    → AreWritten (IsEncodeTurn s form) nothing (taken ++ more) pieces at more
behind s form at taken more pieces written = written_whatever_follows (IsEncodeTurn s form) (looks s form) nothing at taken [] more pieces written

module _ (s : Settings) (form : Form) (a b c p q r : Option (List ℕ)) (f g h u v w : ℕ) (at : Before) (before : HasWritten s form (change_of a b f g) (change_of p q u v) at) where
  -- one more
  pub one_more : (bytes : List ℕ) (packets : ℕ) → AreByteItems bytes → IsRead (raw_size s.shape) (change_of b c g h) (Ok bytes) → g ≤ h
      → IsTaken (change_of q r v w) (encode_turn s form at bytes) (Ok packets) → v ≤ w → HasWritten s form (change_of a c f h) (change_of p r u w) (after at (raw_size s.shape) packets)
  one_more bytes packets are read later taken later' =
      let turn : IsEncodeTurn s form at bytes (Writes taken.size taken.piece packets) = sym taken.writes in
      let is = writes_whole s form at bytes taken.size taken.piece packets turn in
      let turn' = subst (λ (size : ℕ). IsEncodeTurn s form at bytes (Writes size taken.piece packets)) is.exact turn in
      let none : drop (raw_size s.shape) bytes ≡ [] = drop_all (raw_size s.shape) bytes read.1 in
      let more = written_more (IsEncodeTurn s form) nothing at (before.taken ++ bytes) bytes before.pieces (raw_size s.shape) taken.piece packets (behind s form at before.taken bytes before.pieces before.written) turn' in
      record {
        taken = before.taken ++ bytes;
        bytes = All-append (λ (item : ℕ). item < 256) before.taken bytes before.bytes are;
        size = omega (arith, length-append before.taken bytes, before.size, read.1, is.whole);
        whole = omega (arith, before.whole);
        consumed = Consumes-trans a b c before.taken bytes before.consumed read.0;
        pieces = before.pieces ++ taken.piece ∷ [];
        written = subst (λ l. AreWritten (IsEncodeTurn s form) nothing (before.taken ++ bytes) (before.pieces ++ taken.piece ∷ []) (after at (raw_size s.shape) packets) l) none more;
        given = subst (Appends p r) (sym (joined_more before.pieces taken.piece)) (Appends-trans p q r (concat before.pieces) taken.piece before.given taken.given);
        later_in = omega (arith, before.later_in, later);
        later_out = omega (arith, before.later_out, later');
      }

  -- how far the source was taken
  took : (want : ℕ) (front : List ℕ) → at.bytes + want ≤ most_pictures * raw_size s.shape + 1 → length front ≤ want → Consumes b c front → TookAtMost (most_pictures * raw_size s.shape + 1) (change_of a c f h)
  took want front room short consumed =
      (before.taken ++ front, omega (arith, length-append before.taken front, before.size, room, short), Consumes-trans a b c before.taken front before.consumed consumed)

  -- nothing is left
  pub done : (want : ℕ) → 1 ≤ want → at.bytes + want ≤ most_pictures * raw_size s.shape + 1 → IsRead want (change_of b c g h) (Ok []) → (held : Option (List ℕ)) (faults : ℕ)
      → ArePicturesDone s form (ends_of (change_of a c f h) (change_of p q u v) (untouched held faults)) (Ok 0)
  done want some room read held faults =
      let end = read.2 (omega (arith, some)) in
      let all = Consumes-trans a b c before.taken [] before.consumed read.0 in
      let consumed = subst (Consumes a c) (append-nil before.taken) all in
      let rest = rest_of a c before.taken before.bytes consumed in
      let left = subst (λ l. IsLeft a (before.taken ++ l)) (rest.end end) rest.left in
      record {
        input = before.taken ++ [];
        left = left;
        halt = finished (IsEncodeTurn s form) (λ _. Unit {0}) at (before.taken ++ []) [] before.pieces (behind s form at before.taken [] before.pieces before.written) (sym (end_turn s form at [] refl)) (change_of a c f h) (change_of p q u v) before.given held faults;
        stop = inl refl;
        whole = λ _. used_up a c f h before.taken consumed end;
        most = took want [] room (omega arith) read.0;
        later = omega arith;
      }

  -- the run ends with a note
  pub told : (want : ℕ) (bytes : List ℕ) (why : Note) → at.bytes + want ≤ most_pictures * raw_size s.shape + 1 → AreByteItems bytes → IsRead want (change_of b c g h) (Ok bytes)
      → ((rest : List ℕ) → (length bytes < want → rest ≡ []) → encode_turn s form at (bytes ++ rest) ≡ Ends (why ∷ [])) → IsOwnNote (stop.Told why) → Appends p r (concat before.pieces)
      → (held : Option (List ℕ)) (faults : ℕ) → ArePicturesDone s form (ends_of (change_of a c f h) (change_of p r u w) (untouched held faults)) (Err (stop.Told why))
  told want bytes why room are read turn own given held faults =
      let all = before.taken ++ bytes in
      let consumed = Consumes-trans a b c before.taken bytes before.consumed read.0 in
      let rest = rest_of a c all (All-append (λ (item : ℕ). item < 256) before.taken bytes before.bytes are) consumed in
      let input = before.taken ++ (bytes ++ rest.rest) in
      let ended = sym (turn rest.rest (λ short. rest.end (read.2 short))) in
      record {
        input = input;
        left = subst (IsLeft a) (append_assoc before.taken bytes rest.rest) rest.left;
        halt = left_to_tell (IsEncodeTurn s form) (λ _. Unit {0}) at input (bytes ++ rest.rest) before.pieces why (behind s form at before.taken (bytes ++ rest.rest) before.pieces before.written) ended (change_of a c f h) (change_of p r u w) given held faults;
        stop = own;
        whole = λ e. absurd (cc);
        most = took want bytes room read.1 read.0;
        later = omega arith;
      }

  -- the source failed
  pub failed : (want : ℕ) → at.bytes + want ≤ most_pictures * raw_size s.shape + 1 → want ≤ raw_size s.shape → IsRead want (change_of b c g h) (Err stop.ReadFault) → (held : Option (List ℕ)) (faults : ℕ)
      → ArePicturesDone s form (ends_of (change_of a c f h) (change_of p q u v) (untouched held faults)) (Err stop.ReadFault)
  failed want room within read held faults =
      let found = front_of a b c before.taken read.1 want before.bytes before.consumed read.3 read.2 in
      record {
        input = before.taken ++ (found.front ++ found.rest);
        left = found.left;
        halt = record {
          failed = record {
            cause = rose_after f g h before.later_in read.0;
            taken = before.taken ++ found.front;
            front = (found.rest, sym (append_assoc before.taken found.front found.rest));
            consumed = found.consumed;
            out = concat before.pieces;
            stands = record {
              most = omega (arith, length-append before.taken found.front, before.size, room, found.short);
              stands = record {
                first = record { pieces = before.pieces; end = at; rest = found.front; written = behind s form at before.taken found.front before.pieces before.written; joined = refl };
                begun = omega (arith, found.short, within);
              };
            };
            output = before.given;
          };
          notes = Keeps-refl held;
        };
        stop = tt;
        whole = λ e. absurd (cc);
        most = (before.taken ++ found.front, omega (arith, length-append before.taken found.front, before.size, room, found.short), found.consumed);
        later = omega arith;
      }

  -- memory was wanting for reading
  pub starved : (want : ℕ) → at.bytes + want ≤ most_pictures * raw_size s.shape + 1 → IsRead want (change_of b c g h) (Err stop.Memory) → (held : Option (List ℕ)) (faults : ℕ)
      → ArePicturesDone s form (ends_of (change_of a c f h) (change_of p q u v) (untouched held faults)) (Err stop.Memory)
  starved want room read held faults =
      let rest = rest_of a b before.taken before.bytes before.consumed in
      let input = before.taken ++ rest.rest in
      record {
        input = input;
        left = rest.left;
        halt = fronts (IsEncodeTurn s form) (λ _. Unit {0}) most_pictures (encode_goes s form) at input rest.rest before.pieces (behind s form at before.taken rest.rest before.pieces before.written) tt (encode_turn s form at rest.rest) refl (change_of a c f h) p q q u v v before.given (front_of_none q v v (piece_of (encode_turn s form at rest.rest))) held faults;
        stop = tt;
        whole = λ e. absurd (cc);
        most = took want read.0 room read.1 read.2;
        later = omega arith;
      }

  -- either
  pub unread : (want : ℕ) (why : Stop) → at.bytes + want ≤ most_pictures * raw_size s.shape + 1 → want ≤ raw_size s.shape → IsRead want (change_of b c g h) (Err why) → (held : Option (List ℕ)) (faults : ℕ)
      → ArePicturesDone s form (ends_of (change_of a c f h) (change_of p q u v) (untouched held faults)) (Err why)
  unread want stop.ReadFault room within read held faults = failed want room within read held faults
  unread want stop.Memory room within read held faults = starved want room read held faults
  unread want stop.WriteFault room within read held faults = absurd read
  unread want (stop.Told note) room within read held faults = absurd read

  -- the fronts that stand where a picture was not written whole
  cut_fronts : (bytes rest : List ℕ) → encode_turn s form at (bytes ++ rest) ≡ encode_turn s form at bytes → GotFront (change_of q r v w) (piece_of (encode_turn s form at bytes))
      → (held : Option (List ℕ)) (faults : ℕ) → HasFronts (HasSaidAll (IsEncodeTurn s form) (before.taken ++ (bytes ++ rest))) (before.taken ++ (bytes ++ rest)) (ends_of (change_of a c f h) (change_of p r u w) (untouched held faults))
  cut_fronts bytes rest same front held faults =
      fronts (IsEncodeTurn s form) (λ _. Unit {0}) most_pictures (encode_goes s form) at (before.taken ++ (bytes ++ rest)) (bytes ++ rest) before.pieces (behind s form at before.taken (bytes ++ rest) before.pieces before.written) tt (encode_turn s form at bytes) (sym same) (change_of a c f h) p q r u v w before.given front held faults

  -- the output failed, or memory was wanting for a picture
  pub cut : (bytes : List ℕ) (why : Stop) → at.bytes + raw_size s.shape ≤ most_pictures * raw_size s.shape + 1 → 1 ≤ length bytes → at.pictures < most_pictures → AreByteItems bytes
      → IsRead (raw_size s.shape) (change_of b c g h) (Ok bytes) → IsTaken (change_of q r v w) (encode_turn s form at bytes) (Err why) → IsOwnNote why
      → (held : Option (List ℕ)) (faults : ℕ) → ArePicturesDone s form (ends_of (change_of a c f h) (change_of p r u w) (untouched held faults)) (Err why)
  cut bytes why room some few are read taken own held faults =
      let all = before.taken ++ bytes in
      let consumed = Consumes-trans a b c before.taken bytes before.consumed read.0 in
      let rest = rest_of a c all (All-append (λ (item : ℕ). item < 256) before.taken bytes before.bytes are) consumed in
      by_why why rest taken own
    where
      same_turn : (bytes rest : List ℕ) → 1 ≤ length bytes → at.pictures < most_pictures → (length bytes < raw_size s.shape → rest ≡ []) → encode_turn s form at (bytes ++ rest) ≡ encode_turn s form at bytes
      same_turn bytes rest some few end = elim (cases_lt (length bytes) (raw_size s.shape)) [
        | inl short ↦ ap (λ l. encode_turn s form at (bytes ++ l)) (end short) ∙ ap (encode_turn s form at) (append-nil bytes)
        | inr whole ↦ more_behind s form at bytes rest some few whole
      ]

      by_why : (why : Stop) → (rest : HasRest a c (before.taken ++ bytes)) → IsTaken (change_of q r v w) (encode_turn s form at bytes) (Err why) → IsOwnNote why
          → ArePicturesDone s form (ends_of (change_of a c f h) (change_of p r u w) (untouched held faults)) (Err why)
      by_why (stop.Told why) rest taken own =
          told (raw_size s.shape) bytes why room are read (λ more end. same_turn bytes more some few end ∙ taken.ends) own (Appends-kept p q r (concat before.pieces) before.given taken.kept) held faults
      by_why stop.ReadFault rest taken own = absurd taken
      by_why stop.WriteFault rest taken own =
          let same = same_turn bytes rest.rest some few (λ short. rest.end (read.2 short)) in
          record {
            input = before.taken ++ (bytes ++ rest.rest);
            left = subst (IsLeft a) (append_assoc before.taken bytes rest.rest) rest.left;
            halt = (inl (rose_after u v w before.later_out taken.0), cut_fronts bytes rest.rest same taken.1 held faults);
            stop = tt;
            whole = λ e. absurd (cc);
            most = took (raw_size s.shape) bytes room read.1 read.0;
            later = omega arith;
          }
      by_why stop.Memory rest taken own =
          let same = same_turn bytes rest.rest some few (λ short. rest.end (read.2 short)) in
          record {
            input = before.taken ++ (bytes ++ rest.rest);
            left = subst (IsLeft a) (append_assoc before.taken bytes rest.rest) rest.left;
            halt = cut_fronts bytes rest.rest same taken held faults;
            stop = tt;
            whole = λ e. absurd (cc);
            most = took (raw_size s.shape) bytes room read.1 read.0;
            later = omega arith;
          }

-- no codestream was made of a picture
pub untaken : (s : Settings) (form : Form) (at : Before) (bytes : List ℕ) (why : Stop) → IsStreamAt s at bytes (Err why) → (held : Option (List ℕ)) (u : ℕ)
    → IsTaken (untouched held u) (encode_turn s form at bytes) (Err why)
untaken s form at bytes (stop.Told why) stream held u = record { ends = stream form; kept = Keeps-refl held }
untaken s form at bytes stop.ReadFault stream held u = absurd stream
untaken s form at bytes stop.WriteFault stream held u = absurd stream
untaken s form at bytes stop.Memory stream held u = front_of_none held u u (piece_of (encode_turn s form at bytes))

-- there is a byte at least in a raw picture
pub some_raw : (shape : Shape) → IsShape shape → 1 ≤ raw_size shape
some_raw shape accepted = some shape.format shape.width shape.height shape.depth accepted.width.0 accepted.height.0
  where
    luma : (w : ℕ) → ceil_div w 1 ≡ w
    luma w = omega arith

    both : (n depth : ℕ) → 1 ≤ n → 1 ≤ n * sample_size depth
    both n depth some = grind (arith, nat_tests)

    area : (w h : ℕ) → 32 ≤ w → 4 ≤ h → 1 ≤ w * h
    area w h p q = mul-le 1 1 w h (omega (arith, p)) (omega (arith, q))

    count : (f : Format) (w h : ℕ) → 32 ≤ w → 4 ≤ h → 1 ≤ sum_by (λ k. component_width_of f w k * h) (upto (components_of f))
    count Mono w h p q = let e : ceil_div w 1 * h ≡ w * h = ap (λ x. x * h) (luma w) in omega (arith, e, area w h p q)
    count C422 w h p q = let e : ceil_div w 1 * h ≡ w * h = ap (λ x. x * h) (luma w) in omega (arith, e, area w h p q)
    count C444 w h p q = let e : ceil_div w 1 * h ≡ w * h = ap (λ x. x * h) (luma w) in omega (arith, e, area w h p q)

    some : (f : Format) (w h depth : ℕ) → 32 ≤ w → 4 ≤ h → 1 ≤ sum_by (λ k. component_width_of f w k * h) (upto (components_of f)) * sample_size depth
    some f w h depth p q = both (sum_by (λ k. component_width_of f w k * h) (upto (components_of f))) depth (count f w h p q)

-- one more picture is within what is wanted
pub room_for : (n raw : ℕ) → n < most_pictures → n * raw + raw ≤ most_pictures * raw + 1
room_for n raw few = let most : (n + 1) * raw ≤ most_pictures * raw = mul-le (n + 1) raw most_pictures raw (omega (arith, few)) (omega arith) in omega (arith, most)

pub none_there : (l : List ℕ) → length l ≡ 0 → l ≡ []
none_there [] e = refl
none_there (x ∷ l) e = absurd (omega (arith, e))

-- after the last picture bytes follow
pub too_many_behind : (s : Settings) (form : Form) (at : Before) (bytes : List ℕ) → 1 ≤ length bytes → most_pictures ≤ at.pictures → (rest : List ℕ) → (length bytes < 1 → rest ≡ [])
    → encode_turn s form at (bytes ++ rest) ≡ Ends (too_many ∷ [])
too_many_behind s form at bytes some many rest end = many_turn s form at (bytes ++ rest) (omega (arith, length-append bytes rest, some)) many

pub own_too_many : IsOwnNote (stop.Told too_many)
own_too_many = ((omega arith, omega arith), tt)
