-- What is found of a header: segments from the start marker on, up to its end.
use Rattle.std.proofs.Common.{◌≡◌, ℕ, zero, suc, ◌+◌, ◌-◌, ◌^◌, ◌<◌, ◌≤◌, Bool, true, false, not, is_ok, if◌then◌else◌, List, [], ◌∷◌, ◌++◌, length, take, Option, Some, None, Result, Ok, Err, refl, sym, ap, subst, ◌∙◌, arith, append_assoc, take-add}
use Rattle.std.specs.List.{flat_map, AllByRecursion}
use Rattle.std.proofs.lemmas.List.Elements.{filter-append}
use Rattle.xs_lists.proofs.Walk.{all-append}
use Rattle.xs_faults.specs.declared.HeadFault.{HeadFault}
use Rattle.xs_grammar.specs.Header.{Segment, segment_bytes, is_stepped_over}
use Rattle.xs_params.specs.Markers.{soc}
use Rattle.xs_markers.specs.declared.seen.Seen.{Seen}
use Rattle.xs_markers.specs.Reading.{is_end, segments_from, segments_of, start_fault}
use Rattle.xs_markers.specs.Segments.{soc_code, segment_size, segment_code, segment_kind, segment_body, segment_end, with_segment, nothing_seen, segment_fault}
use Rattle.xs_markers.proofs.Cut.{IsBytes, half_word_bytes, half_word_small, piece_size}
use Rattle.xs_markers.proofs.Fine.{IsFine, segment_fine}
use Rattle.xs_markers.proofs.OneStep.{step_end, step_fault, step_on, started, start_refused, start_there}
use Rattle.xs_markers.proofs.Pieces.{join, segment_here}
use Rattle.xs_markers.proofs.Steps.{flat_more}
use Rattle.xs_markers.proofs.Tables.{kept, AreTablesSeen, segment_at, with_one}

-- the bytes up to a place are the start marker and segments
pub record AreBefore (bytes : List ℕ) (place : ℕ) (seen : Seen) : Type 0 where
  pub segments : List Segment
  pub within : place ≤ length bytes
  pub joined : take place bytes ≡ soc ++ flat_map segment_bytes segments
  pub short : AllByRecursion (λ (s : Segment). length s.body + 2 < 2 ^ 16) segments
  pub tables : AreTablesSeen bytes seen (kept segments)

pub record IsFound (bytes : List ℕ) (found : Seen × ℕ) : Type 0 where
  pub before : AreBefore bytes found.1 found.0
  pub ended : is_end bytes found.1 ≡ true

-- one segment more

sum : (place size : ℕ) → place + 2 + size ≡ place + (2 + size)
sum place size = omega arith

short_size : (size body : ℕ) → 2 ≤ size → size < 2 ^ 16 → body ≡ size - 2 → body + 2 < 2 ^ 16
short_size size body least small is = omega (arith, least, small, is)

rooms : (place size length : ℕ) → 2 ≤ size → place + 2 + size ≤ length → (place + 2 + 2 ≤ length) × (place + 4 + (size - 2) ≤ length)
rooms place size length least whole = (omega (arith, least, whole), omega (arith, least, whole))

short_body : (bytes : List ℕ) (place : ℕ) → IsBytes bytes → 2 ≤ segment_size bytes place → segment_end bytes place ≤ length bytes → length (segment_body bytes place) + 2 < 2 ^ 16
short_body bytes place small least whole =
    let room = rooms place (segment_size bytes place) (length bytes) least whole in
    short_size (segment_size bytes place) (length (segment_body bytes place)) least (half_word_small bytes (place + 2) small room.0) (piece_size (segment_size bytes place - 2) (place + 4) bytes room.1)

one_more : (bytes : List ℕ) (place : ℕ) (seen : Seen) → IsBytes bytes → IsFine bytes place seen → AreBefore bytes place seen
    → AreBefore bytes (segment_end bytes place) (with_segment seen (segment_kind bytes place) (segment_body bytes place) (place + 4))
one_more bytes place seen small fine before = record {
  segments = before.segments ++ s ∷ [];
  within = fine.whole;
  joined =
      ap (λ n. take n bytes) (sum place (segment_size bytes place)) ∙ take-add place (2 + segment_size bytes place) bytes
      ∙ join _ _ _ _ before.joined (segment_here bytes place (segment_code bytes place) (segment_size bytes place) small fine.least (record { whole = fine.whole; coded = refl; sized = refl }))
      ∙ append_assoc soc (flat_map segment_bytes before.segments) (segment_bytes s) ∙ ap (λ l. soc ++ l) (sym (flat_more segment_bytes before.segments s));
  short = all-append (λ (s : Segment). length s.body + 2 < 2 ^ 16) before.segments (s ∷ []) before.short (short_body bytes place small fine.least fine.whole, tt);
  tables =
      subst (AreTablesSeen bytes (with_segment seen (segment_kind bytes place) (segment_body bytes place) (place + 4))) (sym (filter-append (λ s. not (is_stepped_over s)) before.segments (s ∷ [])))
      (with_one bytes place seen (kept before.segments) small fine before.tables);
}
  where
    s : Segment
    s = segment_at bytes place

pub ok_same : {T E : Type 0} (x y : T) → ◌≡◌ {A = Result T E} (Ok x) (Ok y) → x ≡ y
ok_same x y e = cc e

pub ok_err : {T E : Type 0} (x : T) (fault : E) → ◌≡◌ {A = Result T E} (Ok x) (Err fault) → ⊥
ok_err x fault e = let one : ◌≡◌ {A = ℕ} 1 0 = ap (λ r. if is_ok r then 1 else 0) e in absurd (omega (arith, one))

fewer_left : (n place size length : ℕ) → length < suc n + place → length < n + (place + 2 + size)
fewer_left n place size length enough = omega (arith, enough)

-- as many steps as are left are enough, and n of them too
found_from : (n steps : ℕ) (bytes : List ℕ) (place : ℕ) (seen : Seen) (t : Seen × ℕ) → IsBytes bytes → length bytes < n + place → length bytes < steps + place → AreBefore bytes place seen
    → segments_from steps bytes place seen ≡ Ok t → IsFound bytes t
found_from zero steps bytes place seen t small most enough before e = absurd (omega (arith, most, before.within))
found_from (suc n) steps bytes place seen t small most enough before e =
    at_end (λ fewer next after more few before same. found_from n fewer bytes next after t small more few before same) (is_end bytes place) refl
  where
    Rest : Type 0
    Rest = (fewer next : ℕ) (after : Seen) → length bytes < n + next → length bytes < fewer + next → AreBefore bytes next after → segments_from fewer bytes next after ≡ Ok t → IsFound bytes t

    on : Rest → is_end bytes place ≡ false → (fault : Option HeadFault) → segment_fault bytes place seen ≡ fault → IsFound bytes t
    on rest more (Some fault) f = absurd (ok_err t fault (sym e ∙ step_fault steps bytes place seen fault enough before.within more f))
    on rest more None f =
        let next = step_on steps bytes place seen enough before.within more f in
        rest next.fewer (segment_end bytes place) (with_segment seen (segment_kind bytes place) (segment_body bytes place) (place + 4))
        (fewer_left n place (segment_size bytes place) (length bytes) most) next.enough (one_more bytes place seen small (segment_fine bytes place seen f) before) (sym next.same ∙ e)

    at_end : Rest → (test : Bool) → is_end bytes place ≡ test → IsFound bytes t
    at_end rest true ended =
        subst (IsFound bytes) (ok_same (seen, place) t (sym (step_end steps bytes place seen enough before.within ended) ∙ e)) (record { before = before; ended = ended })
    at_end rest false more = on rest more (segment_fault bytes place seen) refl

pub segments_found : (bytes : List ℕ) (t : Seen × ℕ) → IsBytes bytes → segments_of bytes ≡ Ok t → IsFound bytes t
segments_found bytes t small e = go (start_fault bytes) refl
  where
    go : (fault : Option HeadFault) → start_fault bytes ≡ fault → IsFound bytes t
    go (Some fault) f = absurd (ok_err t fault (sym e ∙ start_refused bytes fault (sym f)))
    go None f =
        let there = start_there bytes f in
        found_from (length bytes) (length bytes) bytes 2 nothing_seen t small (omega (arith, there)) (omega (arith, there))
        (record { segments = []; within = there.0; joined = half_word_bytes bytes 0 soc_code small (omega (arith, there)) there.1; short = tt; tables = refl }) (sym (started bytes (sym f)) ∙ e)
