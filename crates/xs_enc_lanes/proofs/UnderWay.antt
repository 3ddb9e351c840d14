-- A component on its way: its own component is the one that it was made of.
use Rattle.std.proofs.Common.{◌≡◌, ◌≢◌, ◌⊎◌, ℕ, ℤ, ◌+◌, ◌<◌, ◌≤◌, Bool, true, false, Vec, refl, ap, ◌∙◌, sym, subst, arith, inl, inr}
use Rattle.std.proofs.lemmas.Bool.{cases_eq}
use Rattle.std.specs.declared.alloc.Global.{Global}
use Rattle.xs_params.specs.Geometry.{slice_count}
use Rattle.xs_signal.specs.Wavelet.{Split}
use Rattle.xs_splitter.specs.Chain.{HasAll, HoldBands, HoldsPlane, IsChain, split_of}
use Rattle.xs_splitter.specs.declared.splitter.Splitter.{Splitter}
use Rattle.xs_splitter.proofs.Forgotten.{held_later, plane_later}
use Rattle.xs_stripe.specs.Joined.{component_split}
use Rattle.xs_picture.specs.Analysed.{IsGiven, IsSplitUp, numbers_of}
use Rattle.xs_rate.specs.Coefficients.{rows_of_picture}
use Rattle.xs_lane_core.specs.Machine.{Actor}
use Rattle.xs_picture.specs.declared.encode.analysis.Component.{Component}
use Rattle.xs_enc_lanes.specs.declared.transform.Transform.{Transform}
use Rattle.xs_enc_lanes.specs.Rows.{Carried, CarriesRows, component_in, slice_of}
use Rattle.xs_enc_lanes.specs.Transformed.{HasReached, IsUnderWay, rows_for}
use Rattle.xs_enc_lanes.specs.Working.{AreFiledTo, IsFiled}

pub own : (c : Component) (t : Transform) → IsUnderWay c t → IsUnderWay t.component t
own c t state = subst (λ k. IsUnderWay k t) (sym state.same) state

pub still : (c : Component) (old new : Transform) → IsUnderWay c old → IsUnderWay old.component new → IsUnderWay c new
still c old new before state = subst (λ k. IsUnderWay k new) before.same state

-- what stands in the scratch is all the same
pub scratched : (c : Component) (t : Transform) (scratch : Vec ℤ Global) → IsUnderWay c t
    → IsUnderWay c (record { component = t.component; splitter = t.splitter; rows = t.rows; scratch = scratch; kept = t.kept; taken = t.taken; done = t.done })
scratched c t scratch state = record { same = state.same; component = state.component; rows = state.rows; given = state.given; most = state.most; split = state.split }

split_is : (c : Component) (t : Transform) → IsUnderWay c t → split_of t.splitter ≡ component_split c.header.now c.number
split_is c t state = by t.done refl
  where
    by : (done : Bool) → t.done ≡ done → split_of t.splitter ≡ component_split c.header.now c.number
    by true is = (state.split is).split
    by false is = (state.given is).split

pub few_down : (c : Component) (t : Transform) → IsUnderWay c t → t.splitter.down ≤ 2
few_down c t state =
    let down = ap (λ (s : Split). s.down) (split_is c t state) in
    let most = state.component.accepted.geometry.nly in
    omega (arith, down, most)

-- the splitter gave up rows below a later one
module _ (c : Component) (t : Transform) (splitter : Splitter) (end : ℕ) (state : IsUnderWay c t) (later : t.kept ≤ end) where
  pub given_less : splitter.taken ≡ t.splitter.taken → split_of splitter ≡ split_of t.splitter → ((k taken : ℕ) → IsChain k taken t.splitter → IsChain k taken splitter)
      → ((p : ℕ → ℕ → ℤ) (from : ℕ) → end ≤ from → HoldsPlane 0 from p t.splitter → HoldsPlane 0 from p splitter) → t.done ≡ false → IsGiven c.header.now c.picture.now c.number end t.taken splitter
  given_less taken same chain holds done =
      let g = state.given done in
      let p : ℕ → ℕ → ℤ = numbers_of c.header.now c.picture.now c.number in
      record {
        chain = subst (λ n. IsChain 0 n splitter) (sym taken) (chain 0 t.splitter.taken g.chain);
        taken = taken ∙ g.taken;
        split = same ∙ g.split;
        holds = holds p end (omega arith) (plane_later 0 t.kept end p t.splitter g.holds later);
      }

  pub split_less : split_of splitter ≡ split_of t.splitter → (HasAll t.splitter → HasAll splitter)
      → ((p : ℕ → ℕ → ℤ) (from : ℕ) → end ≤ from → HoldBands (split_of t.splitter) from p t.splitter.levels.items t.splitter.low.items → HoldBands (split_of splitter) from p splitter.levels.items splitter.low.items)
      → t.done ≡ true → IsSplitUp c.header.now c.picture.now c.number end splitter
  split_less same all bands done =
      let u = state.split done in
      let p : ℕ → ℕ → ℤ = numbers_of c.header.now c.picture.now c.number in
      record { all = all u.all; split = same ∙ u.split; holds = bands p end (omega arith) (held_later t.kept end p t.splitter u.holds later) }

pub own_slice : (c : Component) (t : Transform) (slice : ℕ) → IsUnderWay c t → slice < slice_count c.header.now → slice < slice_count t.component.header.now
own_slice c t slice state below = subst (λ (k : Component). slice < slice_count k.header.now) (sym state.same) below

pub own_reached : (c : Component) (t : Transform) (slice rows : ℕ) → IsUnderWay c t → rows ≡ rows_for c.header.now slice → HasReached rows t → HasReached (rows_for t.component.header.now slice) t
own_reached c t slice rows state is reached = subst (λ (k : Component). HasReached (rows_for k.header.now slice) t) (sym state.same) (subst (λ n. HasReached n t) is reached)

pub own_rows : (c : Component) (t : Transform) (v : Carried) → IsUnderWay c t → CarriesRows t.component.header.now (rows_of_picture t.component.header.now t.component.picture.now) v → CarriesRows c.header.now (rows_of_picture c.header.now c.picture.now) v
own_rows c t v state carries = subst (λ (k : Component). CarriesRows k.header.now (rows_of_picture k.header.now k.picture.now) v) state.same carries

-- one slice more of the component is filed
pub filed_more : (v w : Actor Carried) (x : Carried) (slice component : ℕ) → slice_of x ≡ slice → component_in x ≡ component → AreFiledTo slice component v → ((s c : ℕ) → IsFiled v s c → IsFiled w s c) → IsFiled w (slice_of x) (component_in x)
    → AreFiledTo (slice + 1) component w
filed_more v w x slice component here of before others this k below = by (cases_eq k slice)
  where
    last : IsFiled w slice component
    last = subst (λ s. IsFiled w s component) here (subst (IsFiled w (slice_of x)) of this)

    by : (k ≡ slice) ⊎ (k ≢ slice) → IsFiled w k component
    by (inl same) = subst (λ s. IsFiled w s component) (sym same) last
    by (inr other) = others k component (before k (omega (arith, below, other)))
