-- One step over the segments of a header, and over the boxes before it.
use Rattle.std.proofs.Common.{◌≡◌, ℕ, zero, suc, ◌+◌, ◌<◌, ◌≤◌, Bool, true, false, not, nat_eq, nat_lt, if◌then◌else◌, List, [], ◌∷◌, length, Option, Some, None, Result, Ok, Err, refl, sym, ap, ◌∙◌, arith}
use Rattle.xs_lists.specs.Fields.{half_word_at, word_at}
use Rattle.xs_lists.specs.First.{first_of, first_some}
use Rattle.std.proofs.lemmas.Bool.{ltb-false, le-ltb}
use Rattle.xs_faults.specs.declared.HeadFault.{HeadFault}
use Rattle.xs_faults.specs.declared.HeadFault.TheVariants.{Truncated, Marker}
use Rattle.xs_markers.specs.declared.seen.Seen.{Seen}
use Rattle.xs_markers.specs.Reading.{unless, is_end, segments_from, segments_of, start_fault}
use Rattle.xs_markers.specs.Segments.{segment_kind, segment_body, segment_end, rules_of, with_segment, code_fault, size_fault, segment_fault, nothing_seen, soc_code}
use Rattle.xs_markers.specs.Units.{is_start, box_fault, boxes_from}
use Rattle.xs_markers.specs.Values.{fields_fault}
use Rattle.xs_markers.proofs.Refusals.{passed, stopped, no_row, skipped, is_equal, equal_is}

-- The fault of a segment, by its parts

pub fault_of_code : (bytes : List ℕ) (place : ℕ) (seen : Seen) (fault : HeadFault) → Some fault ≡ code_fault bytes place seen → segment_fault bytes place seen ≡ Some fault
unfolding segment_fault
fault_of_code bytes place seen fault e = stopped (code_fault bytes place seen) fault _ e

pub fault_of_size : (bytes : List ℕ) (place : ℕ) (seen : Seen) (fault : HeadFault) → None ≡ code_fault bytes place seen → Some fault ≡ size_fault bytes place seen → segment_fault bytes place seen ≡ Some fault
unfolding segment_fault
fault_of_size bytes place seen fault code e = passed (code_fault bytes place seen) _ code ∙ stopped (size_fault bytes place seen) fault _ e

pub fault_of_fields : (bytes : List ℕ) (place : ℕ) (seen : Seen) (fault : Option HeadFault) → None ≡ code_fault bytes place seen → None ≡ size_fault bytes place seen
    → fault ≡ fields_fault (rules_of seen (segment_kind bytes place) (segment_body bytes place)) → segment_fault bytes place seen ≡ fault
unfolding segment_fault
fault_of_fields bytes place seen fault code size e =
    passed (code_fault bytes place seen) _ code ∙ passed (size_fault bytes place seen) _ size ∙ ap (λ o. first_some (o ∷ [])) (sym e) ∙ alone fault
  where
    alone : (o : Option HeadFault) → first_some (o ∷ []) ≡ o
    alone None = refl
    alone (Some x) = refl

-- Steps

abbrev Walked : Type 0
Walked = Result (Seen × ℕ) HeadFault

abbrev pick : {A : Type 0} → Bool → A → A → A
pick test a b = if test then a else b

abbrev further : ℕ → List ℕ → ℕ → Seen → Walked
further steps bytes place seen =
    unless (segment_fault bytes place seen) (segments_from steps bytes (segment_end bytes place) (with_segment seen (segment_kind bytes place) (segment_body bytes place) (place + 4)))

pub one_step : (steps : ℕ) (bytes : List ℕ) (place : ℕ) (seen : Seen) → segments_from (suc steps) bytes place seen ≡ pick {A = Walked} (is_end bytes place) (Ok (seen, place)) (further steps bytes place seen)
unfolding segments_from
one_step steps bytes place seen = refl

pub step_end : (steps : ℕ) (bytes : List ℕ) (place : ℕ) (seen : Seen) → length bytes < steps + place → place ≤ length bytes → is_end bytes place ≡ true → segments_from steps bytes place seen ≡ Ok (seen, place)
step_end zero bytes place seen enough within e = absurd (omega (arith, enough, within))
step_end (suc steps) bytes place seen enough within e = one_step steps bytes place seen ∙ ap (λ t. pick {A = Walked} t (Ok (seen, place)) (further steps bytes place seen)) e

pub step_fault : (steps : ℕ) (bytes : List ℕ) (place : ℕ) (seen : Seen) (fault : HeadFault) → length bytes < steps + place → place ≤ length bytes → is_end bytes place ≡ false
    → segment_fault bytes place seen ≡ Some fault → segments_from steps bytes place seen ≡ Err fault
step_fault zero bytes place seen fault enough within e f = absurd (omega (arith, enough, within))
step_fault (suc steps) bytes place seen fault enough within e f =
    let next = segments_from steps bytes (segment_end bytes place) (with_segment seen (segment_kind bytes place) (segment_body bytes place) (place + 4)) in
    one_step steps bytes place seen ∙ ap (λ t. pick {A = Walked} t (Ok (seen, place)) (further steps bytes place seen)) e ∙ ap (λ o. unless o next) f

-- so many steps less from the next place on
pub record IsStepped (steps : ℕ) (bytes : List ℕ) (place : ℕ) (seen : Seen) : Type 0 where
  pub fewer : ℕ
  pub enough : length bytes < fewer + segment_end bytes place
  pub same : segments_from steps bytes place seen ≡ segments_from fewer bytes (segment_end bytes place) (with_segment seen (segment_kind bytes place) (segment_body bytes place) (place + 4))

pub step_on : (steps : ℕ) (bytes : List ℕ) (place : ℕ) (seen : Seen) → length bytes < steps + place → place ≤ length bytes → is_end bytes place ≡ false → segment_fault bytes place seen ≡ None
    → IsStepped steps bytes place seen
step_on zero bytes place seen enough within e f = absurd (omega (arith, enough, within))
step_on (suc steps) bytes place seen enough within e f =
    let next = segments_from steps bytes (segment_end bytes place) (with_segment seen (segment_kind bytes place) (segment_body bytes place) (place + 4)) in
    record {
      fewer = steps;
      enough = omega (arith, enough);
      same = one_step steps bytes place seen ∙ ap (λ t. pick {A = Walked} t (Ok (seen, place)) (further steps bytes place seen)) e ∙ ap (λ o. unless o next) f;
    }

-- the start
pub start_refused : (bytes : List ℕ) (fault : HeadFault) → Some fault ≡ start_fault bytes → segments_of bytes ≡ Err fault
unfolding segments_of
start_refused bytes fault e = ap (λ o. unless o (segments_from (length bytes) bytes 2 nothing_seen)) (sym e)

pub started : (bytes : List ℕ) → None ≡ start_fault bytes → segments_of bytes ≡ segments_from (length bytes) bytes 2 nothing_seen
unfolding segments_of
started bytes e = ap (λ o. unless o (segments_from (length bytes) bytes 2 nothing_seen)) (sym e)

-- Boxes

abbrev further_box : ℕ → List ℕ → ℕ → Result ℕ HeadFault
further_box steps bytes place = unless (box_fault bytes place) (boxes_from steps bytes (place + word_at bytes place))

one_box : (steps : ℕ) (bytes : List ℕ) (place : ℕ) → boxes_from (suc steps) bytes place ≡ pick {A = Result ℕ HeadFault} (is_start bytes place) (Ok place) (further_box steps bytes place)
unfolding boxes_from
one_box steps bytes place = refl

pub box_end : (steps : ℕ) (bytes : List ℕ) (place : ℕ) → length bytes < steps + place → place ≤ length bytes → is_start bytes place ≡ true → boxes_from steps bytes place ≡ Ok place
box_end zero bytes place enough within e = absurd (omega (arith, enough, within))
box_end (suc steps) bytes place enough within e = one_box steps bytes place ∙ ap (λ t. pick {A = Result ℕ HeadFault} t (Ok place) (further_box steps bytes place)) e

pub box_refused : (steps : ℕ) (bytes : List ℕ) (place : ℕ) (fault : HeadFault) → length bytes < steps + place → place ≤ length bytes → is_start bytes place ≡ false
    → Some fault ≡ box_fault bytes place → boxes_from steps bytes place ≡ Err fault
box_refused zero bytes place fault enough within e f = absurd (omega (arith, enough, within))
box_refused (suc steps) bytes place fault enough within e f =
    one_box steps bytes place ∙ ap (λ t. pick {A = Result ℕ HeadFault} t (Ok place) (further_box steps bytes place)) e
    ∙ ap (λ o. unless o (boxes_from steps bytes (place + word_at bytes place))) (sym f)

pub record IsPastBox (steps : ℕ) (bytes : List ℕ) (place : ℕ) : Type 0 where
  pub fewer : ℕ
  pub enough : length bytes < fewer + (place + word_at bytes place)
  pub same : boxes_from steps bytes place ≡ boxes_from fewer bytes (place + word_at bytes place)

pub box_on : (steps : ℕ) (bytes : List ℕ) (place : ℕ) → length bytes < steps + place → place ≤ length bytes → is_start bytes place ≡ false → None ≡ box_fault bytes place → 8 ≤ word_at bytes place
    → IsPastBox steps bytes place
box_on zero bytes place enough within e f some = absurd (omega (arith, enough, within))
box_on (suc steps) bytes place enough within e f some = record {
  fewer = steps;
  enough = omega (arith, enough, some);
  same =
      one_box steps bytes place ∙ ap (λ t. pick {A = Result ℕ HeadFault} t (Ok place) (further_box steps bytes place)) e
      ∙ ap (λ o. unless o (boxes_from steps bytes (place + word_at bytes place))) (sym f);
}

-- the start marker has room
pub start_there : (bytes : List ℕ) → start_fault bytes ≡ None → (2 ≤ length bytes) × (half_word_at bytes 0 ≡ soc_code)
unfolding start_fault
start_there bytes e =
    let first : (nat_lt (length bytes) 2 ≡ false) × (first_of ((not (nat_eq (half_word_at bytes 0) soc_code), Marker (half_word_at bytes 0) 0) ∷ []) ≡ None) = no_row _ _ _ e in
    let second : (not (nat_eq (half_word_at bytes 0) soc_code) ≡ false) × (None ≡ None) = no_row _ _ _ first.1 in
    (ltb-false (length bytes) 2 first.0, is_equal (half_word_at bytes 0) soc_code second.0)

pub there_start : (bytes : List ℕ) → 2 ≤ length bytes → half_word_at bytes 0 ≡ soc_code → start_fault bytes ≡ None
unfolding start_fault
there_start bytes size code =
    skipped (nat_lt (length bytes) 2) (Truncated (length bytes)) _ (le-ltb (length bytes) 2 size)
    (skipped (not (nat_eq (half_word_at bytes 0) soc_code)) (Marker (half_word_at bytes 0) 0) None (equal_is (half_word_at bytes 0) soc_code code) refl)
