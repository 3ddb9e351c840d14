use Rattle.std.proofs.Common.{◌≡◌, ◌<◌, ◌≤◌, All, ap, subst, arith}
use Rattle.std.proofs.lemmas.List.{take_all}
use Rattle.xs_capture.specs.Offer.{Offer}
use Rattle.xs_recv.proofs.Fed.{units_more}
use Rattle.xs_recv.proofs.feeds.units_with.Goals as goal

pub looking-preserved : goal.looking-preserved
looking-preserved c =
    let unit : c.packet.inside.unit ≡ c.packet-item.result.unit = ap (λ (z : Offer). z.unit) c.packet.view_is in
    let small : c.packet.inside.unit ≤ 2047 = c.packet.invariant.0 in
    record {
      few = omega (arith, c.max-most.ensures, c.looking.invariant.few, small);
      more = omega (arith, c.max-most.ensures, c.looking.invariant.more);
      of = units_more c.args.packets.now c.looking.packet-index c.looking.most c.max-most.result c.packet-item.result c.looking-test.true c.packet-item.is (omega (arith, c.max-most.ensures)) (omega (arith, unit, c.max-most.ensures)) c.looking.invariant.of;
    }

pub returns-clause-of : goal.returns-clause-of
returns-clause-of c = subst (All (λ (p : Offer). p.unit < c.looking.most)) (take_all c.looking.packet-index c.args.packets.now (omega (arith, c.looking-test.false))) c.looking.invariant.of
