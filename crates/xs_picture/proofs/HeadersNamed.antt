-- Want of memory is no fault of a header.
use Rattle.std.proofs.Common.{◌≡◌, ◌≢◌, ℕ, zero, suc, ◌+◌, List, [], ◌∷◌, map, length, refl, subst}
use Rattle.std.specs.Prelude.{Bool, true, false, not, nat_eq, nat_le, nat_lt, is_none, is_some, if◌then◌else◌, Option, None, Some, Result, Ok, Err}
use Rattle.std.specs.List.{AllByRecursion}
use Rattle.xs_lists.specs.Fields.{half_word_at}
use Rattle.xs_lists.specs.First.{first_of, when}
use Rattle.xs_faults.specs.declared.HeadFault.{HeadFault}
use Rattle.xs_faults.specs.declared.HeadFault.TheVariants as fault
use Rattle.xs_grammar.specs.Header.{pih_code, cdt_code, wgt_code}
use Rattle.xs_markers.specs.declared.kinds.Kind.{Kind}
use Rattle.xs_markers.specs.declared.kinds.Kind.TheVariants as kind
use Rattle.xs_markers.specs.declared.rules.FieldRule.{FieldRule}
use Rattle.xs_markers.specs.declared.seen.Seen.{Seen}
use Rattle.xs_markers.specs.Values.{fields_fault}
use Rattle.xs_markers.specs.Segments.{segment_body, segment_code, code_fault, is_size, segment_kind, kind_fault, segment_end, nothing_seen, rules_of, segment_fault, segment_size, size_fault, soc_code, with_segment}
use Rattle.xs_markers.specs.Reading.{end_fault, head_fault, is_end, missing, segments_from, segments_of, start_fault, unless}
use Rattle.xs_picture.proofs.FirstHolds.{three_hold, two_hold, when_holds}

rows_named : (rows : List (Bool × HeadFault)) → AllByRecursion (λ (row : Bool × HeadFault). row.1 ≢ fault.Memory) rows → (f : HeadFault) → first_of rows ≡ Some f → f ≢ fault.Memory
rows_named [] all f e = absurd (cc e)
rows_named (row ∷ rows) all f e = at row.0 e (rows_named rows all.1 f)
  where
    at : (test : Bool) → (if test then Some row.1 else first_of rows) ≡ Some f → (first_of rows ≡ Some f → f ≢ fault.Memory) → f ≢ fault.Memory
    at true e later = let same : row.1 ≡ f = cc e in subst (λ f. f ≢ fault.Memory) same all.0
    at false e later = later e

fields_named : (rules : List FieldRule) (f : HeadFault) → fields_fault rules ≡ Some f → f ≢ fault.Memory
unfolding fields_fault
fields_named rules f e = rows_named (map (λ (rule : FieldRule). (rule.refused, fault.Unsupported rule.field rule.value)) rules) (all rules) f e
  where
    all : (rules : List FieldRule) → AllByRecursion (λ (row : Bool × HeadFault). row.1 ≢ fault.Memory) (map (λ (rule : FieldRule). (rule.refused, fault.Unsupported rule.field rule.value)) rules)
    all [] = tt
    all (rule ∷ rules) = ((λ memory. cc memory), all rules)

kind_named : (seen : Seen) (k : Kind) (code place : ℕ) (f : HeadFault) → kind_fault seen k code place ≡ Some f → f ≢ fault.Memory
kind_named seen kind.Picture code place f e = when_holds (λ f. f ≢ fault.Memory) (is_some seen.picture) (fault.Twice code) (λ memory. cc memory) f e
kind_named seen kind.Components code place f e = rows_named ((is_some seen.shape, fault.Twice code) ∷ (is_none seen.picture, fault.Absent pih_code) ∷ []) ((λ memory. cc memory), ((λ memory. cc memory), tt)) f e
kind_named seen kind.Weights code place f e = rows_named ((is_some seen.weights, fault.Twice code) ∷ (is_none seen.picture, fault.Absent pih_code) ∷ []) ((λ memory. cc memory), ((λ memory. cc memory), tt)) f e
kind_named seen kind.SteppedOver code place f e = absurd (cc e)
kind_named seen kind.Unsupported code place f e = λ memory. cc (e, memory)
kind_named seen kind.Unknown code place f e = λ memory. cc (e, memory)

code_named : (bytes : List ℕ) (place : ℕ) (seen : Seen) (f : HeadFault) → code_fault bytes place seen ≡ Some f → f ≢ fault.Memory
unfolding code_fault
code_named bytes place seen f e =
    two_hold (λ f. f ≢ fault.Memory) (when (nat_lt (length bytes) (place + 2)) (fault.Truncated (length bytes))) (kind_fault seen (segment_kind bytes place) (segment_code bytes place) place) f
    (when_holds (λ f. f ≢ fault.Memory) (nat_lt (length bytes) (place + 2)) (fault.Truncated (length bytes)) (λ memory. cc memory)) (kind_named seen (segment_kind bytes place) (segment_code bytes place) place) e

size_named : (bytes : List ℕ) (place : ℕ) (seen : Seen) (f : HeadFault) → size_fault bytes place seen ≡ Some f → f ≢ fault.Memory
unfolding size_fault
size_named bytes place seen f e =
    rows_named
    ((nat_lt (length bytes) (place + 4), fault.Truncated (length bytes))
    ∷ (not (is_size seen (segment_kind bytes place) (segment_size bytes place)), fault.Length (segment_code bytes place) (segment_size bytes place))
    ∷ (nat_lt (length bytes) (segment_end bytes place), fault.Truncated (length bytes)) ∷ [])
    ((λ memory. cc memory), ((λ memory. cc memory), ((λ memory. cc memory), tt))) f e

segment_named : (bytes : List ℕ) (place : ℕ) (seen : Seen) (f : HeadFault) → segment_fault bytes place seen ≡ Some f → f ≢ fault.Memory
unfolding segment_fault
segment_named bytes place seen f e =
    three_hold (λ f. f ≢ fault.Memory) (code_fault bytes place seen) (size_fault bytes place seen) (fields_fault (rules_of seen (segment_kind bytes place) (segment_body bytes place))) f
    (code_named bytes place seen) (size_named bytes place seen) (fields_named (rules_of seen (segment_kind bytes place) (segment_body bytes place))) e

unless_named : {A : Type 0} (o : Option HeadFault) (r : Result A HeadFault) (f : HeadFault) → ((g : HeadFault) → o ≡ Some g → g ≢ fault.Memory) → (r ≡ Err f → f ≢ fault.Memory) → unless o r ≡ Err f → f ≢ fault.Memory
unless_named None r f first later e = later e
unless_named (Some g) r f first later e = let same : g ≡ f = cc e in subst (λ f. f ≢ fault.Memory) same (first g refl)

segments_named : (steps : ℕ) (bytes : List ℕ) (place : ℕ) (seen : Seen) (f : HeadFault) → segments_from steps bytes place seen ≡ Err f → f ≢ fault.Memory
unfolding segments_from
segments_named zero bytes place seen f e = λ memory. cc (e, memory)
segments_named (suc steps) bytes place seen f e =
    at (is_end bytes place) e (segments_named steps bytes (segment_end bytes place) (with_segment seen (segment_kind bytes place) (segment_body bytes place) (place + 4)) f)
  where
    at : (test : Bool) → ◌≡◌ {A = Result (Seen × ℕ) HeadFault} (if test then Ok (seen, place) else unless (segment_fault bytes place seen) (segments_from steps bytes (segment_end bytes place) (with_segment seen (segment_kind bytes place) (segment_body bytes place) (place + 4)))) (Err f)
        → (segments_from steps bytes (segment_end bytes place) (with_segment seen (segment_kind bytes place) (segment_body bytes place) (place + 4)) ≡ Err f → f ≢ fault.Memory) → f ≢ fault.Memory
    at true e later = absurd (cc e)
    at false e later = unless_named (segment_fault bytes place seen) (segments_from steps bytes (segment_end bytes place) (with_segment seen (segment_kind bytes place) (segment_body bytes place) (place + 4))) f (segment_named bytes place seen) later e

start_named : (bytes : List ℕ) (f : HeadFault) → start_fault bytes ≡ Some f → f ≢ fault.Memory
unfolding start_fault
start_named bytes f e =
    rows_named ((nat_lt (length bytes) 2, fault.Truncated (length bytes)) ∷ (not (nat_eq (half_word_at bytes 0) soc_code), fault.Marker (half_word_at bytes 0) 0) ∷ [])
    ((λ memory. cc memory), ((λ memory. cc memory), tt)) f e

all_named : (bytes : List ℕ) (f : HeadFault) → segments_of bytes ≡ Err f → f ≢ fault.Memory
unfolding segments_of
all_named bytes f e = unless_named (start_fault bytes) (segments_from (length bytes) bytes 2 nothing_seen) f (start_named bytes) (segments_named (length bytes) bytes 2 nothing_seen f) e

missing_named : (bytes : List ℕ) (place code : ℕ) → missing bytes place code ≢ fault.Memory
missing_named bytes place code = at (nat_le (length bytes) place)
  where
    at : (test : Bool) → (if test then fault.Truncated (length bytes) else fault.Absent code) ≢ fault.Memory
    at true memory = cc memory
    at false memory = cc memory

end_named : (bytes : List ℕ) (seen : Seen) (place : ℕ) (f : HeadFault) → end_fault bytes seen place ≡ Some f → f ≢ fault.Memory
unfolding end_fault
end_named bytes seen place f e =
    rows_named ((is_none seen.picture, missing bytes place pih_code) ∷ (is_none seen.shape, missing bytes place cdt_code) ∷ (is_none seen.weights, missing bytes place wgt_code) ∷ [])
    (missing_named bytes place pih_code, (missing_named bytes place cdt_code, (missing_named bytes place wgt_code, tt))) f e

pub headers_named : (bytes : List ℕ) (f : HeadFault) → head_fault bytes ≡ Some f → f ≢ fault.Memory
headers_named bytes f e = at (segments_of bytes) refl e
  where
    at : (r : Result (Seen × ℕ) HeadFault) → segments_of bytes ≡ r → elim r [ Err g ↦ Some g | Ok found ↦ end_fault bytes found.0 found.1 ] ≡ Some f → f ≢ fault.Memory
    at (Err g) here e = let same : g ≡ f = cc e in subst (λ f. f ≢ fault.Memory) same (all_named bytes g here)
    at (Ok found) here e = end_named bytes found.0 found.1 f e
