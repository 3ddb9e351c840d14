-- What is handed of a slice is filed.
use Rattle.std.proofs.Common.{◌≡◌, ◌⊎◌, inl, inr, ℕ, ◌+◌, ◌<◌, ◌≤◌, List, [], ◌∷◌, ◌++◌, All, refl, sym, ap, subst, arith}
use Rattle.std.specs.Prelude.{Bool, Option, Some, None, IfSome, MatchOption, nat_lt, if◌then◌else◌}
use Rattle.std.specs.List.{Contains}
use Rattle.std.proofs.lemmas.Bool.{cases_lt, le-ltb, lt-ltb}
use Rattle.std.proofs.lemmas.List.Elements.{All-append, All-cons, All-contains, All-head, All-nil, All-tail, All-weaker}
use Rattle.xs_params.specs.Geometry.{slice_count}
use Rattle.xs_stripe.specs.Edges.{EdgeRows}
use Rattle.xs_lane_core.specs.Places.{places}
use Rattle.xs_lane_core.specs.Machine.{Actor}
use Rattle.xs_handover.specs.declared.piece.Piece.{Piece}
use Rattle.xs_handover.specs.declared.piece.Piece.TheVariants.{Body, Up, Down}
use Rattle.xs_handover.specs.declared.piece.SliceSource.{SliceSource}
use Rattle.xs_handover.specs.declared.blocks.Handed.{Handed}
use Rattle.xs_handover.specs.Blocks.{Carried, block_of, place_for, stripe_for}
use Rattle.xs_handover.specs.Handing.{AreBlocksOf, FilesAll, Hands, IsBlockFrom, IsFiled, IsFit, IsSourceBlock, listed}

-- Each block has a place

fit_of : (source : SliceSource) (piece : Piece) (stripes : ℕ) (v : Carried) → IsSourceBlock source piece v → stripe_for source.slice piece < stripes → place_for source.slice piece < places → IsFit stripes v
fit_of source piece stripes v is low place = subst (IsFit stripes) (sym is.0) (record { stripe = low; place = place; decoded = is.1 })

up_place : (s : ℕ) → (if nat_lt 1 s then 2 else 1) < places
up_place s = elim (cases_lt 1 s) [
  | inl more ↦ subst (λ n. n < places) (sym (ap (λ (t : Bool). if t then 2 else 1) (lt-ltb 1 s more))) (omega arith)
  | inr few ↦ subst (λ n. n < places) (sym (ap (λ (t : Bool). if t then 2 else 1) (le-ltb 1 s few))) (omega arith)
]

pub body_fits : (source : SliceSource) (handed : Handed) (stripes : ℕ) → AreBlocksOf source handed → source.slice < slice_count source.header → slice_count source.header ≤ stripes → IsFit stripes handed.body
body_fits source handed stripes are there enough = fit_of source (Body are.body.0) stripes handed.body are.body.1 (omega (arith, there, enough)) (omega arith)

pub up_fits : (source : SliceSource) (handed : Handed) (stripes : ℕ) → AreBlocksOf source handed → source.slice < slice_count source.header → slice_count source.header ≤ stripes → IfSome handed.up (IsFit stripes)
up_fits source handed stripes are there enough = by handed.up are.up
  where
    by : (o : Option Carried) → MatchOption o (source.slice ≡ 0) (λ v. (edge : EdgeRows) × IsSourceBlock source (Up edge) v) → IfSome o (IsFit stripes)
    by None none = tt
    by (Some v) is = fit_of source (Up is.0) stripes v is.1 (omega (arith, there, enough)) (up_place source.slice)

pub down_fits : (source : SliceSource) (handed : Handed) (stripes : ℕ) → AreBlocksOf source handed → slice_count source.header ≤ stripes → IfSome handed.down (IsFit stripes)
down_fits source handed stripes are enough = by handed.down are.down
  where
    by : (o : Option Carried) → MatchOption o (source.slice + 1 ≡ slice_count source.header) (λ v. (edge : EdgeRows) × IsSourceBlock source (Down edge) v) → IfSome o (IsFit stripes)
    by None none = tt
    by (Some v) is = fit_of source (Down is.0) stripes v is.1 (let more = is.1.1.piece_of.0 in omega (arith, more, enough)) (omega arith)

-- All are filed, and nothing else

from_source : (source : SliceSource) (piece : Piece) (v : Carried) → IsSourceBlock source piece v → IsBlockFrom source v
from_source source piece v is = subst (IsBlockFrom source) (sym is.0) (record { header = refl; slice_is = refl; bytes_are = refl })

filed_of : (source : SliceSource) (piece : Piece) (v : Carried) (w : Actor Carried) → IsSourceBlock source piece v → IsFiled w v → IsFiled w (Some (block_of source piece))
filed_of source piece v w is filed = subst (IsFiled w) is.0 filed

pub hands : (source : SliceSource) (handed : Handed) (v w : Actor Carried) → AreBlocksOf source handed → FilesAll ((handed.body ∷ []) ++ listed handed.up ++ listed handed.down) v w → Hands source v w
hands source handed v w are f = record {
  body = (are.body.0, filed_of source (Body are.body.0) handed.body w are.body.1 (All-head (IsFiled w) handed.body rest f.each));
  up = up_is handed.up are.up (front_all (listed handed.up) (listed handed.down) others);
  down = down_is handed.down are.down (back_all (listed handed.up) (listed handed.down) others);
  only = All-weaker (λ (x : Carried). Contains v.stored x ⊎ Contains (handed.body ∷ rest) x) (λ (x : Carried). Contains v.stored x ⊎ IsBlockFrom source x) each w.stored f.only;
  stored = f.stored;
  repeated = f.repeated;
  got = f.got;
  gone = f.gone;
}
  where
    rest : List Carried
    rest = listed handed.up ++ listed handed.down

    others : All (IsFiled w) rest
    others = All-tail (IsFiled w) handed.body rest f.each

    front_all : (xs ys : List Carried) → All (IsFiled w) (xs ++ ys) → All (IsFiled w) xs
    front_all [] ys all = All-nil (IsFiled w)
    front_all (x ∷ xs) ys all = All-cons (IsFiled w) x xs (All-head (IsFiled w) x (xs ++ ys) all) (front_all xs ys (All-tail (IsFiled w) x (xs ++ ys) all))

    back_all : (xs ys : List Carried) → All (IsFiled w) (xs ++ ys) → All (IsFiled w) ys
    back_all [] ys all = all
    back_all (x ∷ xs) ys all = back_all xs ys (All-tail (IsFiled w) x (xs ++ ys) all)

    up_is : (o : Option Carried) → MatchOption o (source.slice ≡ 0) (λ u. (edge : EdgeRows) × IsSourceBlock source (Up edge) u) → All (IsFiled w) (listed o) → 0 < source.slice → (edge : EdgeRows) × IsFiled w (Some (block_of source (Up edge)))
    up_is None none all some = absurd (omega (arith, none, some))
    up_is (Some u) is all some = (is.0, filed_of source (Up is.0) u w is.1 (All-head (IsFiled w) u [] all))

    down_is : (o : Option Carried) → MatchOption o (source.slice + 1 ≡ slice_count source.header) (λ u. (edge : EdgeRows) × IsSourceBlock source (Down edge) u) → All (IsFiled w) (listed o) → source.slice + 1 < slice_count source.header
        → (edge : EdgeRows) × IsFiled w (Some (block_of source (Down edge)))
    down_is None none all more = absurd (omega (arith, none, more))
    down_is (Some u) is all more = (is.0, filed_of source (Down is.0) u w is.1 (All-head (IsFiled w) u [] all))

    from_up : (o : Option Carried) → MatchOption o (source.slice ≡ 0) (λ u. (edge : EdgeRows) × IsSourceBlock source (Up edge) u) → All (IsBlockFrom source) (listed o)
    from_up None none = All-nil (IsBlockFrom source)
    from_up (Some u) is = All-cons (IsBlockFrom source) u [] (from_source source (Up is.0) u is.1) (All-nil (IsBlockFrom source))

    from_down : (o : Option Carried) → MatchOption o (source.slice + 1 ≡ slice_count source.header) (λ u. (edge : EdgeRows) × IsSourceBlock source (Down edge) u) → All (IsBlockFrom source) (listed o)
    from_down None none = All-nil (IsBlockFrom source)
    from_down (Some u) is = All-cons (IsBlockFrom source) u [] (from_source source (Down is.0) u is.1) (All-nil (IsBlockFrom source))

    all_from : All (IsBlockFrom source) (handed.body ∷ rest)
    all_from = All-cons (IsBlockFrom source) handed.body rest (from_source source (Body are.body.0) handed.body are.body.1)
        (All-append (IsBlockFrom source) (listed handed.up) (listed handed.down) (from_up handed.up are.up) (from_down handed.down are.down))

    each : (x : Carried) → Contains v.stored x ⊎ Contains (handed.body ∷ rest) x → Contains v.stored x ⊎ IsBlockFrom source x
    each x (inl c) = inl c
    each x (inr c) = inr (All-contains (IsBlockFrom source) (handed.body ∷ rest) x all_from c)
