-- The slices that are handed, and what is received where they stop.
use Rattle.std.proofs.Common.{◌≡◌, ◌≢◌, ℕ, ◌+◌, ◌<◌, List, [], ◌∷◌, ◌++◌, All, length, get_or, None, Some, refl, sym, ap, subst, ◌∙◌, arith, length-append, inl, inr}
use Rattle.std.proofs.Math.Seq.{get_or-append_seam}
use Rattle.std.proofs.lemmas.Bool.{cases_lt}
use Rattle.std.proofs.lemmas.List.{get_or_append_left}
use Rattle.std.proofs.lemmas.List.Sums.{sum_by_push}
use Rattle.xs_params.specs.declared.header.Header.{Header}
use Rattle.xs_params.specs.Accepted.{IsAccepted}
use Rattle.xs_params.specs.Geometry.{slice_count}
use Rattle.xs_grammar.specs.Precinct.{Content}
use Rattle.xs_grammar.specs.Slice.{IsSliceUnit}
use Rattle.xs_reading.specs.Slice.{no_content, slice_unit_fault}
use Rattle.xs_lane_core.specs.Machine.{Actor}
use Rattle.xs_lanes.specs.Knowing.{IsChoice}
use Rattle.xs_capture.specs.Selection.{AreMissing, HasBytes, Held, IsBounded, IsWholeUnit, unit_bytes}
use Rattle.xs_handover.specs.Blocks.{Carried, blocks}
use Rattle.xs_handover.specs.Decoded.{IsDecodedBlock}
use Rattle.xs_recv.specs.declared.received.Damage.TheVariants as damage
use Rattle.xs_recv.specs.declared.received.Received.TheVariants as received
use Rattle.xs_recv.specs.declared.received.Stop.{Stop}
use Rattle.xs_recv.specs.declared.received.Stop.TheVariants as stop
use Rattle.xs_recv.specs.Received.{AreSpelled, AreUnits, HasHeader, IsReceived, slice_unit}
use Rattle.xs_recv.specs.Handed.{AreHanded, IsBlockIn}
use Rattle.xs_recv.specs.Reading.{AreHandedUpTo, IsNoPicture, IsSliceStop, IsStop}
use Rattle.xs_recv.proofs.Blocks.{sound_unit}
use Rattle.xs_recv.proofs.Contents.{deep_in}
use Rattle.xs_recv.proofs.Handed.{IsLater, handed_still}
use Rattle.xs_recv.proofs.Wholes.{all_whole, one_unit}
use Rattle.xs_recv.proofs.Joined.{chosen_each, joined, unit_of_joined}

-- Slices

-- nothing is handed
pub none_handed : (held : Held) (h : Header) (size : ℕ) (v : Actor Carried) → AreHandedUpTo held h size 0 v size
none_handed held h size v = record {
  units = [];
  as_many = refl;
  whole = λ slice there. absurd (omega (arith, there));
  handed = λ slice there. absurd (omega (arith, there));
  sized = let e : size + 0 ≡ size = omega arith in sym e;
}

-- one more element of a list, and what holds of each
each_more : {A : Type 0} (P : ℕ → A → Type 0) (xs : List A) (x d : A) (n : ℕ) → length xs ≡ n → ((k : ℕ) → k < n → P k (get_or xs k d)) → P n x → (k : ℕ) → k < n + 1 → P k (get_or (xs ++ x ∷ []) k d)
each_more P xs x d n size each here k below = elim (cases_lt k n) [
  | inl less ↦ let there : k < length xs = omega (arith, less, size) in subst (P k) (sym (get_or_append_left xs (x ∷ []) d k there)) (each k less)
  | inr past ↦
      let same : n ≡ k = omega (arith, below, past) in
      let seam : get_or (xs ++ x ∷ []) n d ≡ x = ap (λ i. get_or (xs ++ x ∷ []) i d) (sym size) ∙ get_or-append_seam xs x [] d in
      subst (λ i. P i (get_or (xs ++ x ∷ []) i d)) same (subst (P n) (sym seam) here)
]

pub more_handed : (held : Held) (h : Header) (size slice : ℕ) (v w : Actor Carried) (bytes : List ℕ) (total : ℕ)
    → AreHandedUpTo held h size slice v total → IsLater v w → HasBytes held (slice_unit slice) bytes → AreHanded h slice bytes w → AreHandedUpTo held h size (slice + 1) w (total + length bytes)
more_handed held h size slice v w bytes total so later whole now = record {
  units = so.units ++ bytes ∷ [];
  as_many = let more = length-append so.units (bytes ∷ []) in let as_many = so.as_many in omega (arith, more, as_many);
  whole = each_more (λ k b. HasBytes held (slice_unit k) b) so.units bytes [] slice so.as_many so.whole whole;
  handed = each_more (λ k b. AreHanded h k b w) so.units bytes [] slice so.as_many (λ k below. handed_still v w h k (get_or so.units k []) later (so.handed k below)) now;
  sized = let sized = so.sized in let more = sum_by_push length so.units bytes in omega (arith, sized, more);
}

-- The content of all slices

module _ (held : Held) (h : Header) (size : ℕ) (v : Actor Carried) (total : ℕ) (accepted : IsAccepted h) (choice : IsChoice blocks v) (from : All (IsBlockIn held h) v.stored) (decoded : All IsDecodedBlock v.stored)
    (so : AreHandedUpTo held h size (slice_count h) v total) where
  pub whole_units : AreUnits held h so.units
  whole_units = record { count = so.as_many; each = so.whole }

  pub found : (list : List Content) × (length list ≡ slice_count h) × ((slice : ℕ) → slice < slice_count h → IsSliceUnit h (get_or list slice no_content) slice (get_or so.units slice []))
  found = chosen_each (λ slice content. IsSliceUnit h content slice (get_or so.units slice [])) no_content (slice_count h)
      (λ slice there. (sound_unit held h v slice (get_or so.units slice []) choice from decoded (so.whole slice there) (so.handed slice there)).1)

  abbrev pub content : Content
  content = joined h found.0

  pub spelled : AreSpelled h content so.units
  spelled slice there = unit_of_joined h found.0 slice (get_or so.units slice []) accepted.geometry.hsl (deep_in h accepted) (found.2 slice there)

  pub length_received : HasHeader held h size → h.lcod ≢ 0 → h.lcod ≢ total → IsReceived held (received.Damaged (damage.Lcod h.lcod total))
  length_received headed some other = (h, size, headed, so.units, whole_units, content, spelled, refl, some, so.sized, other)

-- A slice that is damaged

-- the units of all slices, where all are whole
pub units_of : (held : Held) (h : Header) → IsBounded held → AreMissing held (slice_count h) [] → (units : List (List ℕ)) × AreUnits held h units
units_of held h bounded missing =
    let found = chosen_each (λ slice bytes. HasBytes held (slice_unit slice) bytes) [] (slice_count h) (λ slice there. bytes_of slice (all_whole held (slice_count h) bounded missing slice there)) in
    (found.0, record { count = found.1; each = found.2 })
  where
    bytes_of : (slice : ℕ) → IsWholeUnit held (slice_unit slice) → (bytes : List ℕ) × HasBytes held (slice_unit slice) bytes
    bytes_of slice whole = (unit_bytes held (slice_unit slice) whole.0, (whole.0, whole.1, refl))

pub slice_stops : (held : Held) (h : Header) (size slice : ℕ) (v : Actor Carried) (total : ℕ) (bytes : List ℕ) (why : Stop) → IsBounded held → HasHeader held h size → AreMissing held (slice_count h) []
    → IsChoice blocks v → All (IsBlockIn held h) v.stored → All IsDecodedBlock v.stored → AreHandedUpTo held h size slice v total → slice < slice_count h → HasBytes held (slice_unit slice) bytes → IsSliceStop h slice bytes why → IsStop held why
slice_stops held h size slice v total bytes stop.Memory bounded headed missing choice from decoded so there whole p = tt
slice_stops held h size slice v total bytes (stop.Answer answer) bounded headed missing choice from decoded so there whole p = (
  subst (IsReceived held) (sym p.1) (
    h,
    size,
    headed,
    all.0,
    all.1,
    record {
      there = there;
      before = λ earlier less. subst (λ b. slice_unit_fault h earlier b ≡ None) (same earlier (get_or so.units earlier []) (before earlier less) (so.whole earlier less))
          (sound_unit held h v earlier (get_or so.units earlier []) choice from decoded (so.whole earlier less) (so.handed earlier less)).0;
      faulty = subst (λ b. slice_unit_fault h slice b ≡ Some p.0) (same slice bytes there whole) p.2;
    },
  ),
  subst IsNoPicture (sym p.1) tt,
)
  where
    all : (units : List (List ℕ)) × AreUnits held h units
    all = units_of held h bounded missing

    before : (earlier : ℕ) → earlier < slice → earlier < slice_count h
    before earlier less = omega (arith, less, there)

    same : (k : ℕ) (b : List ℕ) → k < slice_count h → HasBytes held (slice_unit k) b → b ≡ get_or all.0 k []
    same k b inside has = one_unit held (slice_unit k) b (get_or all.0 k []) has (all.1.each k inside)

-- the same after the pass handed more
pub handed_after : (held : Held) (h : Header) (size count : ℕ) (v w : Actor Carried) (total : ℕ) → IsLater v w → AreHandedUpTo held h size count v total → AreHandedUpTo held h size count w total
handed_after held h size count v w total later so = record {
  units = so.units;
  as_many = so.as_many;
  whole = so.whole;
  handed = λ k below. handed_still v w h k (get_or so.units k []) later (so.handed k below);
  sized = so.sized;
}
