-- What activities do with the packets of their parts.
use Rattle.std.specs.Prelude.{◌≡◌, ◌⊎◌, ◌+◌, ◌∷◌, ◌++◌, ◌<◌, ℕ, [], List, All, length, slice_index_or, flat_map}
use Rattle.std.specs.List.{Contains}
use Rattle.xs_lane_core.specs.Machine.{Actor}
use Rattle.xs_lanes.specs.Knowing.{SameShare}
use Rattle.xs_lanes.specs.Gathering.{HasPart, HasRest}
use Rattle.xs_capture.specs.Offer.{Offer}
use Rattle.xs_stored.specs.Stored.{IsFiled}
use Rattle.xs_board.specs.declared.board.Board.{Board}
use Rattle.xs_board.specs.declared.board.BoardPass.{BoardPass}
use Rattle.xs_board.specs.Passes.{IsBoardPass, unit_count, actor}
use Rattle.xs_handover.specs.declared.handover.Handover.{Handover}
use Rattle.xs_handover.specs.declared.handover.HandPass.{HandPass}
use Rattle.xs_handover.specs.Passes.{IsHandPass, actor as hand_actor}
use Rattle.xs_recv.specs.declared.activity.Feed.{Feed}
use Rattle.xs_recv.specs.declared.exchange.Exchange.{Exchange}
use Rattle.xs_recv.specs.Activities.{Doing, HasHand}

-- the packet was stored, or its place is repeated
abbrev pub Puts : Offer → Actor Offer → Actor Offer → Type 0
Puts p v w = ((w.stored ≡ v.stored ++ p ∷ []) × (w.repeated ≡ v.repeated)) ⊎ ((w.stored ≡ v.stored) × (w.repeated ≡ v.repeated ++ (p.unit, p.place) ∷ []))

-- nothing but packets of the part is new
abbrev pub FilesOf : List Offer → Actor Offer → Actor Offer → Type 0
FilesOf part v w = All (λ (p : Offer). Contains v.stored p ⊎ Contains part p) w.stored

-- An activity filed its part and nothing else.
pub record HasRun (e : Exchange) (old new : Doing) : Type 0 where
  pub pass : IsBoardPass e.board new.pass
  pub hand : HasHand e.handover old.hand new.hand
  pub share : SameShare (actor old.pass) (actor new.pass)
  pub files : FilesOf old.part (actor old.pass) (actor new.pass)
  pub each : All (IsFiled (actor new.pass)) old.part

-- the packets of all feeds
abbrev pub fed : List Feed → List Offer
fed feeds = flat_map (λ (f : Feed). f.part.items) feeds

-- all packets of all feeds are of the first so many units
abbrev pub AreOfUnits : ℕ → List Feed → Type 0
AreOfUnits units feeds = All (λ (f : Feed). All (λ (p : Offer). p.unit < units) f.part.items) feeds

module _ {T : Type 0} where
  -- the pass did nothing
  pub record IsUnusedPass (v : Actor T) : Type 0 where
    pub stored : v.stored ≡ []
    pub repeated : v.repeated ≡ []
    pub got : v.got ≡ []

-- a packet that the activities shall file
abbrev pub IsFedBy : List Doing → Offer → Type 0
IsFedBy others p = (a : Doing) × Contains others a × Contains a.part p

-- Passes were split off for activities, to which these offers are dealt.
pub record AreForked (b : Board) (offers : List Offer) (first : BoardPass) (others : List Doing) : Type 0 where
  pub pass : IsBoardPass b first
  pub share : HasPart (length others) (actor first)
  pub fresh : IsUnusedPass (actor first)
  pub passes : All (λ (a : Doing). IsBoardPass b a.pass) others
  pub shares : (i : ℕ) (d : Doing) → i < length others → HasPart (i + 1) (actor (slice_index_or others i d).pass)
  pub idle : All (λ (a : Doing). IsUnusedPass (actor a.pass)) others
  pub units : All (λ (a : Doing). All (λ (p : Offer). p.unit < unit_count b) a.part) others
  pub within : All (λ (a : Doing). All (Contains offers) a.part) others
  pub each : All (IsFedBy others) offers

-- Passes of the handover were split off for activities.
pub record HandsForked (h : Handover) (first : HandPass) (others : List Doing) : Type 0 where
  pub pass : IsHandPass h first
  pub share : HasPart (length others) (hand_actor first)
  pub fresh : IsUnusedPass (hand_actor first)
  pub passes : All (λ (a : Doing). IsHandPass h a.hand) others
  pub shares : (i : ℕ) (d : Doing) → i < length others → HasPart (i + 1) (hand_actor (slice_index_or others i d).hand)

-- Passes of activities may be joined, the last one first, until n were.
pub record MayJoin (b : Board) (n : ℕ) (first : BoardPass) (others : List Doing) : Type 0 where
  pub pass : IsBoardPass b first
  pub share : HasRest n (length others) (actor first)
  pub passes : All (λ (a : Doing). IsBoardPass b a.pass) others
  pub shares : (i : ℕ) (d : Doing) → i < length others → HasPart (i + 1) (actor (slice_index_or others i d).pass)

-- The same of passes of the handover.
pub record MayJoinHands (h : Handover) (n : ℕ) (first : HandPass) (others : List Doing) : Type 0 where
  pub pass : IsHandPass h first
  pub share : HasRest n (length others) (hand_actor first)
  pub passes : All (λ (a : Doing). IsHandPass h a.hand) others
  pub shares : (i : ℕ) (d : Doing) → i < length others → HasPart (i + 1) (hand_actor (slice_index_or others i d).hand)

-- The offers are filed by the pass or by an activity, and nothing else is.
pub record AreFiledBy (offers : List Offer) (v : Actor Offer) (others : List Doing) : Type 0 where
  pub mine : All (Contains offers) v.stored
  pub theirs : All (λ (a : Doing). All (Contains offers) (actor a.pass).stored) others
  pub each : All (λ (p : Offer). IsFiled v p ⊎ ((a : Doing) × Contains others a × IsFiled (actor a.pass) p)) offers

-- the offers are filed by the pass, and nothing else is
pub record HasFiled (offers : List Offer) (v : Actor Offer) : Type 0 where
  pub only : All (Contains offers) v.stored
  pub each : All (IsFiled v) offers
