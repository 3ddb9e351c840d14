use Rattle.std.proofs.Common.{◌≡◌, ◌<◌, ◌+◌, ◌-◌, ◌*◌, ◌/◌, ◌^◌, [], length, get_or, Bor, ap, sym, subst, ◌∙◌, arith}
use Rattle.xs_layout.specs.Geometry.{components_of}
use Rattle.xs_params.specs.declared.header.Header.{Header}
use Rattle.xs_stripe.specs.Near.{near_rows}
use Rattle.xs_stripe.specs.Source.{HaveRows, HaveRowsAbove}
use Rattle.xs_stripe.specs.Stripe.{AreDecodedFrom, IsDecodedRow}
use Rattle.xs_stripe.proofs.Steps.{slice_inside}
use Rattle.xs_stripe.proofs.Beside.{near_shown}
use Rattle.xs_stripe.proofs.Reach.{near_have, near_have_above}
use Rattle.xs_stripe.proofs.Filled.{number_known, decoded_at}
use Rattle.xs_stripe.proofs.stripe.synthesise_stripe.Goals as goal

pub begin-requires-clause-above : goal.begin-requires-clause-above
begin-requires-clause-above c =
    let h = c.args.header.now in
    let r = c.requires in
    subst (λ (x : Header). HaveRowsAbove x (c.args.slice * x.hsl) (near_rows c.args.above c.args.body.now c.args.below)) (sym c.in_ok-lines.ensures.start.0)
    (near_have_above h c.args.slice c.args.above c.args.body.now c.args.below r.accepted r.slice r.body r.above)

pub fill-requires-clause-start : goal.fill-requires-clause-start
fill-requires-clause-start c =
    let h = c.args.header.now in
    let slice = c.args.slice in
    let new = c.begin.new.self in
    let old = c.in_ok-lines.ensures.start.0 in
    let same : new.header.now ≡ h = ap (λ (b : Bor Header). b.now) c.begin.ensures.header ∙ old in
    let first : new.first ≡ slice * h.hsl = c.begin.ensures.first ∙ ap (λ (x : Header). slice * x.hsl) old in
    let given : new.given ≡ 2 ^ h.nly * (slice * h.hsl) = c.begin.ensures.given ∙ ap (λ (x : Header). 2 ^ x.nly * new.first) old ∙ ap (λ n. 2 ^ h.nly * n) first in
    let inside = slice_inside h slice c.requires.accepted c.requires.slice in
    (omega (arith, c.in_ok-stripe.ensures.first, given, inside), ap (λ (x : Header). 2 ^ x.nly * new.first) same ∙ ap (λ n. 2 ^ h.nly * n) first ∙ sym given)

pub fill-requires-clause-end : goal.fill-requires-clause-end
fill-requires-clause-end c =
    let h = c.args.header.now in
    let slice = c.args.slice in
    let same : c.begin.new.self.header.now ≡ h = ap (λ (b : Bor Header). b.now) c.begin.ensures.header ∙ c.in_ok-lines.ensures.start.0 in
    let tall = ap (λ (x : Header). x.shape.height) same in
    let more : 2 ^ h.nly * ((slice + 1) * h.hsl) ≡ 2 ^ h.nly * (slice * h.hsl) + 2 ^ h.nly * h.hsl = omega arith in
    (omega (arith, c.in_ok-stripe.ensures.first, c.in_ok-stripe.ensures.end, more), omega (arith, c.in_ok-stripe.ensures.end, tall))

pub fill-requires-clause-near : goal.fill-requires-clause-near
fill-requires-clause-near c line less =
    let h = c.args.header.now in
    let slice = c.args.slice in
    let r = c.requires in
    let new = c.begin.new.self in
    let old = c.in_ok-lines.ensures.start.0 in
    let near = near_rows c.args.above c.args.body.now c.args.below in
    let same : new.header.now ≡ h = ap (λ (b : Bor Header). b.now) c.begin.ensures.header ∙ old in
    let first : new.first ≡ slice * h.hsl = c.begin.ensures.first ∙ ap (λ (x : Header). slice * x.hsl) old in
    let room : line < 2 ^ h.nly * ((slice + 1) * h.hsl) = omega (arith, less, c.in_ok-stripe.ensures.end) in
    subst (λ (x : Header). HaveRows x new.first (line / 2 ^ x.nly + 1) near) (sym same)
    (subst (λ n. HaveRows h n (line / 2 ^ h.nly + 1) near) (sym first) (near_have h slice line c.args.above c.args.body.now c.args.below r.accepted r.body r.small r.below room))

pub fill-requires-clause-width : goal.fill-requires-clause-width
fill-requires-clause-width c =
    let same : c.begin.new.self.header.now ≡ c.args.header.now = ap (λ (b : Bor Header). b.now) c.begin.ensures.header ∙ c.in_ok-lines.ensures.start.0 in
    ap length c.as_mut_slice.ensures.value ∙ c.in_ok-scratch.ensures ∙ sym (ap (λ (x : Header). x.shape.width) same)

pub returns : goal.returns
returns c rows show down up =
    let h = c.args.header.now in
    let slice = c.args.slice in
    let r = c.requires in
    let new = c.begin.new.self in
    let begun = c.in_ok-stripe.stripe in
    let stripe = c.fill.new.stripe in
    let all = components_of h.shape.format in
    let same : new.header.now ≡ h = ap (λ (b : Bor Header). b.now) c.begin.ensures.header ∙ c.in_ok-lines.ensures.start.0 in
    let e = c.in_ok-fill.ensures in
    let shown = near_shown h slice rows c.args.above c.args.body.now c.args.below r.body r.above show down up in
    let decoded = subst (λ n. AreDecodedFrom h rows n stripe.rows) (sym e.same.0) (subst (λ x. AreDecodedFrom x rows begun.first stripe.rows) same (e.decoded rows (c.begin.ensures.holds rows shown) shown)) in
    let components : stripe.components ≡ all = e.same.2 ∙ c.in_ok-stripe.ensures.components in
    let count : length stripe.rows ≡ (begun.end - begun.first) * all = e.all ∙ ap (λ (x : Header). (begun.end - begun.first) * components_of x.shape.format) same in
    record {
      first_is = e.same.0 ∙ c.in_ok-stripe.ensures.first;
      end_is = e.same.1 ∙ c.in_ok-stripe.ensures.end;
      there = λ component line there from to.
          let known = number_known h.shape.format (line - stripe.first) component (begun.end - begun.first) there (omega (arith, from, to, e.same.0, e.same.1)) in
          record { from = from; inside = omega (arith, known, count, ap (λ n. (line - stripe.first) * n) components) };
      lines = λ component line there from to.
          let known = number_known h.shape.format (line - stripe.first) component (begun.end - begun.first) there (omega (arith, from, to, e.same.0, e.same.1)) in
          subst (λ n. IsDecodedRow h rows component line (get_or stripe.rows ((line - stripe.first) * n + component) [])) (sym components)
          (decoded_at h rows stripe.first line component stripe.rows decoded there from (omega (arith, known, count)));
    }
