-- A pass with the whole share gets what is whole.
use Rattle.std.proofs.Common.{◌≡◌, ℕ, zero, suc, ◌+◌, ◌^◌, ◌<◌, inl, inr, append_assoc, append-nil, false, List, [], ◌∷◌, ◌++◌, sum_by, sym, ap, ◌∙◌, subst, arith}
use Rattle.std.specs.List.{Contains}
use Rattle.std.proofs.lemmas.List.Sums.{sum_by-append, get_or-le-sum_by}
use Rattle.xs_lane_core.specs.Machine.{Actor}
use Rattle.xs_lane_core.specs.Sound.{IsAlone, at, closes_at, in_lane}
use Rattle.std.proofs.lemmas.Bool.{cases_eq}
use Rattle.xs_lane_core.specs.Places.{places}
use Rattle.xs_lane_core.proofs.Finds.{some_element}
use Rattle.xs_lane_core.proofs.Placed.{in_lane_here, in_lane_other}
use Rattle.xs_lanes.specs.Knowing.{IsWhole, SameShare}
use Rattle.xs_lanes.specs.Claiming.{IsRun, got_in, HasFoundGone, HasSeenPart}
use Rattle.xs_lanes.proofs.Wholes.{whole_summary}
use Rattle.xs_capture.specs.Offer.{Offer}
use Rattle.xs_stored.specs.Stored.{packets, joined_bytes}
use Rattle.xs_board.specs.declared.board.BoardPass.{BoardPass}
use Rattle.xs_board.specs.declared.claim.Claimed.{Claimed}
use Rattle.xs_board.specs.declared.claim.Claimed.TheVariants as header
use Rattle.xs_board.specs.declared.claim.SliceClaim.{SliceClaim}
use Rattle.xs_board.specs.declared.claim.SliceClaim.TheVariants as slice
use Rattle.xs_board.specs.Answers.{FilesNothing, GetsMore, HasUnit, HeaderAnswers, SliceAnswers, saw_whole}
use Rattle.xs_recv.specs.Activities.{Doing}
use Rattle.xs_board.specs.Passes.{actor}
use Rattle.xs_recv.specs.Sweeping.{GetsAbove, GetsAll, GetsSlices, GetsWhole, GotIfWhole}

-- Values of a lane

run_counts : (unit : ℕ) (values : List Offer) → IsRun packets unit 0 values → 0 < sum_by (in_lane packets unit) values
run_counts unit [] run = absurd run
run_counts unit (x ∷ xs) run =
    let one = in_lane_here packets unit x run.0 in
    let some = get_or-le-sum_by (in_lane packets unit) (x ∷ xs) 0 x (omega arith) in
    omega (arith, one, some)

got_more : (unit : ℕ) (got more : List Offer) → sum_by (in_lane packets unit) (got ++ more) ≡ sum_by (in_lane packets unit) got + sum_by (in_lane packets unit) more
got_more unit got more = sum_by-append (in_lane packets unit) got more

-- the values of a unit that were got
unit_got : (v w : Actor Offer) (unit : ℕ) (values : List Offer) → w.got ≡ v.got ++ values → IsRun packets unit 0 values → 0 < got_in packets unit w
unit_got v w unit values e run =
    let sum = ap (sum_by (in_lane packets unit)) e ∙ got_more unit v.got values in
    let some = run_counts unit values run in
    omega (arith, sum, some)

pub has_got : (v w : Actor Offer) (unit : ℕ) (bytes : List ℕ) → HasUnit (saw_whole unit v) unit bytes w → (values : List Offer) × (w.got ≡ v.got ++ values) × IsRun packets unit 0 values × (bytes ≡ joined_bytes values)
has_got v w unit bytes u = (u.values, ap (λ (z : Actor Offer). z.got) u.got.view, u.got.run, u.joins)

unit_swept : (v w : Actor Offer) (unit : ℕ) (bytes : List ℕ) → HasUnit (saw_whole unit v) unit bytes w → GotIfWhole w unit
unit_swept v w unit bytes u whole = let h = has_got v w unit bytes u in unit_got v w unit h.0 h.1 h.2

part_swept : (v w : Actor Offer) (unit set : ℕ) → IsAlone v → HasSeenPart packets v unit set w → GotIfWhole w unit
part_swept v w unit set alone h whole =
    let there : IsWhole packets unit v = subst (IsWhole packets unit) h.view whole in
    absurd (h.part ((whole_summary packets unit set v h.found.low (h.found.alone alone)).1 there))

gone_swept : (v w : Actor Offer) (unit : ℕ) → IsAlone v → HasFoundGone packets (saw_whole unit v) unit w → GotIfWhole w unit
gone_swept v w unit alone h whole = subst (λ (z : Actor Offer). 0 < got_in packets unit z) (sym h.view) (h.alone alone)

pub slice_swept : (v w : Actor Offer) (unit : ℕ) (r : SliceClaim) → SliceAnswers v unit r w → IsAlone v → GotIfWhole w unit
slice_swept v w unit (slice.Got bytes) h alone = unit_swept v w unit bytes h
slice_swept v w unit (slice.NotWhole set) h alone = part_swept v w unit set alone h
slice_swept v w unit slice.Gone h alone = gone_swept v w unit alone h

pub header_swept : (v w : Actor Offer) (r : Claimed) → HeaderAnswers v r w → IsAlone v → GotIfWhole w 0
header_swept v w (header.Got read) h alone = unit_swept v w 0 read.bytes h
header_swept v w (header.NotWhole set) h alone = part_swept v w 0 set alone h
header_swept v w header.Gone h alone = gone_swept v w 0 alone h

pub alone_inside : (p : BoardPass) (old : Doing) → p ≡ old.pass → IsAlone (actor old.pass) → IsAlone (actor p)
alone_inside p old e alone = subst (λ (z : BoardPass). IsAlone (actor z)) (sym e) alone

-- what was got where a claim got nothing
pub slice_part_got : (v w : Actor Offer) (unit set : ℕ) → SliceAnswers v unit (slice.NotWhole set) w → w.got ≡ v.got
slice_part_got v w unit set h = ap (λ (z : Actor Offer). z.got) h.view

pub slice_gone_got : (v w : Actor Offer) (unit : ℕ) → SliceAnswers v unit slice.Gone w → w.got ≡ v.got
slice_gone_got v w unit h = ap (λ (z : Actor Offer). z.got) h.view

pub header_part_got : (v w : Actor Offer) (set : ℕ) → HeaderAnswers v (header.NotWhole set) w → w.got ≡ v.got
header_part_got v w set h = ap (λ (z : Actor Offer). z.got) h.view

pub header_gone_got : (v w : Actor Offer) → HeaderAnswers v header.Gone w → w.got ≡ v.got
header_gone_got v w h = ap (λ (z : Actor Offer). z.got) h.view

-- Later

pub more_again : (u v w : Actor Offer) → GetsMore u v → GetsMore v w → GetsMore u w
more_again u v w a b = (a.0 ++ b.0, b.1 ∙ ap (λ l. l ++ b.0) a.1 ∙ append_assoc u.got a.0 b.0)

-- whether a lane is whole by what is stored
abbrev IsWholeIn : ℕ → List Offer → Type 0
IsWholeIn unit stored = (c : ℕ) × (c < places) × (0 < sum_by (closes_at packets unit c) stored) × ((p : ℕ) → p < c → 0 < sum_by (at packets unit p) stored)

pub got_still : (v w : Actor Offer) (unit : ℕ) → FilesNothing v w → GetsMore v w → GotIfWhole v unit → GotIfWhole w unit
got_still v w unit files more got whole =
    let there : IsWhole packets unit v = subst (IsWholeIn unit) files.stored whole in
    let some = got there in
    let sum = ap (sum_by (in_lane packets unit)) more.1 ∙ got_more unit v.got more.0 in
    omega (arith, some, sum)

alone_still : (v w : Actor Offer) → SameShare v w → IsAlone v → IsAlone w
alone_still v w s alone = s.0 ∙ alone ∙ ap (λ n. 2 ^ n) (sym s.1)

pub more_none : (v : Actor Offer) → GetsMore v v
more_none v = ([], sym (append-nil v.got))

pub sweeps_none : (old : Doing) → GetsSlices 0 old old
sweeps_none old alone sated slice below = absurd (omega (arith, below))

pub sweeps_more : (slices : ℕ) (old mid now : Doing) → GetsSlices slices old mid → SameShare (actor old.pass) (actor mid.pass) → FilesNothing (actor mid.pass) (actor now.pass) → GetsMore (actor mid.pass) (actor now.pass)
    → (now.starved ≡ false → mid.starved ≡ false) → GetsWhole (slices + 1) mid now → GetsSlices (slices + 1) old now
sweeps_more slices old mid now all share files more sated last alone fed slice below = elim (cases_eq slice slices) [
  | inl same ↦ subst (λ n. GotIfWhole (actor now.pass) (n + 1)) (sym same) (last (alone_still (actor old.pass) (actor mid.pass) share alone) fed)
  | inr other ↦ got_still (actor mid.pass) (actor now.pass) (slice + 1) files more (all alone (sated fed) slice (omega (arith, below, other)))
]

pub sweeps_all : (units : ℕ) (old mid now : Doing) → GetsWhole 0 old mid → SameShare (actor old.pass) (actor mid.pass) → FilesNothing (actor mid.pass) (actor now.pass) → GetsMore (actor mid.pass) (actor now.pass)
    → (now.starved ≡ false → mid.starved ≡ false) → GetsAbove units mid now → GetsAll units old now
sweeps_all units old mid now first share files more sated all alone fed = each
  where
    each : (unit : ℕ) → unit < units → GotIfWhole (actor now.pass) unit
    each zero below = got_still (actor mid.pass) (actor now.pass) 0 files more (first alone (sated fed))
    each (suc slice) below = subst (GotIfWhole (actor now.pass)) (let n : slice + 1 ≡ suc slice = omega arith in n) (all (alone_still (actor old.pass) (actor mid.pass) share alone) fed slice (omega (arith, below)))

-- a value that was got of the unit
pub got_of : (v : Actor Offer) (unit : ℕ) → 0 < got_in packets unit v → (p : Offer) × Contains v.got p × (p.unit ≡ unit)
got_of v unit some = let r = some_element (in_lane packets unit) v.got some in (r.0, r.2, of_lane r.0 r.1)
  where
    of_lane : (p : Offer) → 0 < in_lane packets unit p → p.unit ≡ unit
    of_lane p there = elim (cases_eq p.unit unit) [
      | inl same ↦ same
      | inr other ↦ let none = in_lane_other packets unit p other in absurd (omega (arith, none, there))
    ]
