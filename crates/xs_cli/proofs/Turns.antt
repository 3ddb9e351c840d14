-- What comes next in `encode`, case by case.
use Rattle.std.proofs.Common.{◌≡◌, ℕ, ◌+◌, ◌<◌, ◌≤◌, ◌++◌, List, [], ◌∷◌, length, Option, Some, None, Result, Ok, Err, refl, sym, ap, ◌∙◌, arith, length-append}
use Rattle.std.specs.Prelude.{Bool, true, false, nat_eq, nat_lt, nat_le}
use Rattle.std.specs.Option.{option_map}
use Rattle.std.proofs.lemmas.Bool.Decides.{nat_tests}
use Rattle.std.proofs.lemmas.List.{take-append-le}
use Rattle.xs_lists.specs.First.{when, first_some}
use Rattle.xs_params.specs.declared.settings.Settings.{Settings}
use Rattle.xs_params.specs.Picture.{Picture, raw_size, picture_of_raw, over_sample}
use Rattle.xs_params.specs.Stream.{Stream}
use Rattle.xs_faults.specs.declared.Budget.{Budget}
use Rattle.xs_rate.specs.Encoding.{encoding_of}
use Rattle.xs_capture.specs.Pictures.{most_pictures}
use Rattle.xs_notes.specs.declared.note.Note.{Note}
use Rattle.xs_notes.specs.declared.note.Note.TheVariants as note
use Rattle.xs_endings.specs.Turns.{Before, Ends, Turn, Writes}
use Rattle.xs_endings.proofs.Pictures.{Goes}
use Rattle.xs_words.specs.declared.command.Form.{Form}
use Rattle.xs_words.specs.declared.command.Form.TheVariants.{Rtp, Xs, Pcap}
use Rattle.xs_cli.specs.Encoded.{IsEncodeTurn, encode_turn, encoded_as, ends_before, first_picture, too_many, turn_unless}

-- Tests in an order

abbrev pub three : {A : Type 0} → (a b c : Bool) → A → A → A → Option A → Option A
three a b c x y z other = first_some (when a x ∷ when b y ∷ when c z ∷ other ∷ [])

pub none_of : {A : Type 0} (a b c : Bool) (x y z : A) (other : Option A) → a ≡ false → b ≡ false → c ≡ false → three a b c x y z other ≡ other
none_of true b c x y z other p q r = absurd (cc)
none_of false true c x y z other p q r = absurd (cc)
none_of false false true x y z other p q r = absurd (cc)
none_of false false false x y z None p q r = refl
none_of false false false x y z (Some other) p q r = refl

pub first_of_three : {A : Type 0} (a b c : Bool) (x y z : A) (other : Option A) → a ≡ true → three a b c x y z other ≡ Some x
first_of_three true b c x y z other p = refl
first_of_three false b c x y z other p = absurd (cc)

pub second_of_three : {A : Type 0} (a b c : Bool) (x y z : A) (other : Option A) → a ≡ false → b ≡ true → three a b c x y z other ≡ Some y
second_of_three true b c x y z other p q = absurd (cc)
second_of_three false false c x y z other p q = absurd (cc)
second_of_three false true c x y z other p q = refl

pub third_of_three : {A : Type 0} (a b c : Bool) (x y z : A) (other : Option A) → a ≡ false → b ≡ false → c ≡ true → three a b c x y z other ≡ Some z
third_of_three true b c x y z other p q r = absurd (cc)
third_of_three false true c x y z other p q r = absurd (cc)
third_of_three false false false x y z other p q r = absurd (cc)
third_of_three false false true x y z other p q r = refl

-- none of the tests holds where there is no answer
pub record AreFalse (a b c : Bool) : Type 0 where
  pub first : a ≡ false
  pub second : b ≡ false
  pub third : c ≡ false

pub all_false : {A : Type 0} (a b c : Bool) (x y z : A) (other : Option A) → three a b c x y z other ≡ None → AreFalse a b c
all_false true b c x y z other e = absurd (cc)
all_false false true c x y z other e = absurd (cc)
all_false false false true x y z other e = absurd (cc)
all_false false false false x y z other e = record { first = refl; second = refl; third = refl }

-- Pictures

-- a whole picture is written, or ends the run
abbrev pub picture_turn : Settings → Form → Before → Picture → Turn
picture_turn s form at picture = turn_unless (option_map (λ place. note.InputSample (at.bytes + place) ∷ []) (over_sample picture)) (encoded_as s form at (encoding_of s picture))

-- a picture stands next
pub whole_turn : (s : Settings) (form : Form) (at : Before) (input : List ℕ) → 1 ≤ length input → at.pictures < most_pictures → raw_size s.shape ≤ length input
    → encode_turn s form at input ≡ picture_turn s form at (first_picture s input)
whole_turn s form at input some few whole =
    let a : nat_eq (length input) 0 ≡ false = grind (arith, nat_tests) in
    let b : nat_le most_pictures at.pictures ≡ false = grind (arith, nat_tests) in
    let c : nat_lt (length input) (raw_size s.shape) ≡ false = grind (arith, nat_tests) in
    ap (λ o. turn_unless o (encoded_as s form at (encoding_of s (first_picture s input)))) (none_of _ _ _ _ _ _ _ a b c)

-- nothing is left
pub end_turn : (s : Settings) (form : Form) (at : Before) (input : List ℕ) → length input ≡ 0 → encode_turn s form at input ≡ Ends []
end_turn s form at input none =
    let a : nat_eq (length input) 0 ≡ true = grind (arith, nat_tests) in
    ap (λ o. turn_unless o (encoded_as s form at (encoding_of s (first_picture s input)))) (first_of_three _ _ _ _ _ _ _ a)

-- too many pictures
pub many_turn : (s : Settings) (form : Form) (at : Before) (input : List ℕ) → 1 ≤ length input → most_pictures ≤ at.pictures → encode_turn s form at input ≡ Ends (too_many ∷ [])
many_turn s form at input some many =
    let a : nat_eq (length input) 0 ≡ false = grind (arith, nat_tests) in
    let b : nat_le most_pictures at.pictures ≡ true = grind (arith, nat_tests) in
    ap (λ o. turn_unless o (encoded_as s form at (encoding_of s (first_picture s input)))) (second_of_three _ _ _ _ _ _ _ a b)

-- the input ends inside a picture
pub cut_turn : (s : Settings) (form : Form) (at : Before) (input : List ℕ) → 1 ≤ length input → at.pictures < most_pictures → length input < raw_size s.shape
    → encode_turn s form at input ≡ Ends (note.InputCut (at.bytes + length input) ∷ [])
cut_turn s form at input some few short =
    let a : nat_eq (length input) 0 ≡ false = grind (arith, nat_tests) in
    let b : nat_le most_pictures at.pictures ≡ false = grind (arith, nat_tests) in
    let c : nat_lt (length input) (raw_size s.shape) ≡ true = grind (arith, nat_tests) in
    ap (λ o. turn_unless o (encoded_as s form at (encoding_of s (first_picture s input)))) (third_of_three _ _ _ _ _ _ _ a b c)

-- What a turn that writes says

writes_not_ends : (size : ℕ) (piece : List ℕ) (packets : ℕ) (o : Option (List Note)) (turn : Turn) → Writes size piece packets ≡ turn_unless o turn → (o ≡ None) × (Writes size piece packets ≡ turn)
writes_not_ends size piece packets None turn e = (refl, e)
writes_not_ends size piece packets (Some notes) turn e = absurd (cc)

written_size : (s : Settings) (form : Form) (at : Before) (r : Result Stream Budget) (size : ℕ) (piece : List ℕ) (packets : ℕ) → Writes size piece packets ≡ encoded_as s form at r → size ≡ raw_size s.shape
written_size s Xs at (Ok stream) size piece packets e = cc
written_size s Rtp at (Ok stream) size piece packets e = cc
written_size s (Pcap port) at (Ok stream) size piece packets e = cc
written_size s form at (Err budget) size piece packets e = absurd (cc)

pub record IsWholePicture (s : Settings) (at : Before) (input : List ℕ) (size : ℕ) : Type 0 where
  pub exact : size ≡ raw_size s.shape
  pub whole : raw_size s.shape ≤ length input
  pub some : 1 ≤ length input
  pub few : at.pictures < most_pictures

pub writes_whole : (s : Settings) (form : Form) (at : Before) (input : List ℕ) (size : ℕ) (piece : List ℕ) (packets : ℕ) → IsEncodeTurn s form at input (Writes size piece packets) → IsWholePicture s at input size
writes_whole s form at input size piece packets turn =
    let parts = writes_not_ends size piece packets (first_some (ends_before s at input)) (encoded_as s form at (encoding_of s (first_picture s input))) turn in
    let tests = all_false (nat_eq (length input) 0) (nat_le most_pictures at.pictures) (nat_lt (length input) (raw_size s.shape)) [] (too_many ∷ []) (note.InputCut (at.bytes + length input) ∷ []) (option_map (λ place. note.InputSample (at.bytes + place) ∷ []) (over_sample (first_picture s input))) parts.0 in
    record {
      exact = written_size s form at (encoding_of s (first_picture s input)) size piece packets parts.1;
      whole = grind (arith, nat_tests, tests.third);
      some = grind (arith, nat_tests, tests.first);
      few = grind (arith, nat_tests, tests.second);
    }

-- More bytes behind a whole picture have no effect.
pub more_behind : (s : Settings) (form : Form) (at : Before) (input more : List ℕ) → 1 ≤ length input → at.pictures < most_pictures → raw_size s.shape ≤ length input
    → encode_turn s form at (input ++ more) ≡ encode_turn s form at input
more_behind s form at input more some few whole =
    let size = length-append input more in
    let same : first_picture s (input ++ more) ≡ first_picture s input = ap (picture_of_raw s.shape) (take-append-le (raw_size s.shape) input more whole) in
    whole_turn s form at (input ++ more) (omega (arith, size, some)) few (omega (arith, size, whole)) ∙ ap (picture_turn s form at) same ∙ sym (whole_turn s form at input some few whole)

-- a turn of `encode` is there, and ends after so many pictures
pub encode_goes : (s : Settings) (form : Form) → Goes (IsEncodeTurn s form) (λ _. Unit {0}) most_pictures
encode_goes s form = record {
  there = λ at input _. (encode_turn s form at input, refl);
  few = λ at input size piece packets turn. (writes_whole s form at input size piece packets turn).few;
  again = λ input size _. tt;
}
