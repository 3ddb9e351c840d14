-- Lines of the bands, one of which was changed.
use Rattle.std.proofs.Common.{◌≡◌, ◌≢◌, ℕ, ◌<◌, List, ◌++◌, length, take, drop, get_or, set, refl, sym, ap, subst, ◌∙◌, arith, inl, inr, append-nil}
use Rattle.std.proofs.lemmas.Bool.{cases_eq}
use Rattle.std.proofs.lemmas.List.{drop_all, get_or-set_same, get_or-set_other, length-set, take_all}
use Rattle.xs_params.specs.declared.header.Header.{Header}
use Rattle.xs_params.specs.Geometry.{geometry_of}
use Rattle.xs_precinct_write.specs.Outgoing.{Outgoing, no_outgoing, IsAlike, HaveRoom, HaveModes}
use Rattle.xs_precinct_write.specs.Sent.{AreLinesAlike}

pub all_same : (lines : List Outgoing) → AreLinesAlike lines lines
all_same lines = record { count = refl; each = λ band. record { mode = refl; groups = refl } }

pub alike_then : (a b c : List Outgoing) → AreLinesAlike a b → AreLinesAlike b c → AreLinesAlike a c
alike_then a b c p q = record {
  count = q.count ∙ p.count;
  each = λ band. record { mode = (q.each band).mode ∙ (p.each band).mode; groups = (q.each band).groups ∙ (p.each band).groups };
}

-- what holds of each line still holds after one was changed for another of which it holds
pub set_each : (P : ℕ → Outgoing → Type 0) (lines : List Outgoing) (k : ℕ) (new : Outgoing) → k < length lines → P k new → (band : ℕ) → (band ≢ k → P band (get_or lines band no_outgoing)) → P band (get_or (set lines k new) band no_outgoing)
set_each P lines k new inside here band before = elim (cases_eq band k) [
  | inl same ↦ subst (λ b. P b (get_or (set lines k new) b no_outgoing)) (sym same) (subst (P k) (sym (get_or-set_same lines k new no_outgoing inside)) here)
  | inr other ↦ subst (P band) (sym (get_or-set_other lines k band new no_outgoing other)) (before other)
]

pub alike_set : (old lines : List Outgoing) (k : ℕ) (new : Outgoing) → k < length lines → AreLinesAlike old lines → IsAlike (get_or lines k no_outgoing) new → AreLinesAlike old (set lines k new)
alike_set old lines k new inside are is = record {
  count = length-set lines k new ∙ are.count;
  each = λ band. set_each (λ b x. IsAlike (get_or old b no_outgoing) x) lines k new inside
      (record { mode = is.mode ∙ (are.each k).mode; groups = is.groups ∙ (are.each k).groups }) band (λ other. are.each band);
}

pub room_kept : (h : Header) (old new : List Outgoing) → HaveRoom h old → AreLinesAlike old new → HaveRoom h new
room_kept h old new room are = record { count = are.count ∙ room.count; groups = λ band inside. (are.each band).groups ∙ room.groups band inside }

pub modes_kept : (h : Header) (mode : ℕ → ℕ) (old new : List Outgoing) → HaveModes h mode old → AreLinesAlike old new → HaveModes h mode new
modes_kept h mode old new have are band inside = (are.each band).mode ∙ have band inside

-- the lines of a list that was lent as a slice
pub room_back : (h : Header) (new items : List Outgoing) (n : ℕ) → n ≡ length items → length new ≡ length items → HaveRoom h new → HaveRoom h (take n (new ++ drop (length new) items))
room_back h new items n all same room =
    let none : new ++ drop (length new) items ≡ new = ap (λ l. new ++ l) (drop_all (length new) items (omega (arith, same))) ∙ append-nil new in
    let whole : take n (new ++ drop (length new) items) ≡ new = ap (take n) none ∙ take_all n new (omega (arith, all, same)) in
    subst (HaveRoom h) (sym whole) room

pub room_of_geometry : (h : Header) (lines : List Outgoing) → HaveRoom (geometry_of h) lines → HaveRoom h lines
room_of_geometry h lines room = record { count = room.count; groups = room.groups }
