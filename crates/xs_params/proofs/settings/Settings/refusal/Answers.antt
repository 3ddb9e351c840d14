use Rattle.xs_params.specs.Check.{shape_refusals, layout_refusals, band_refusals, packet_refusals, thread_refusals, port_refusals}
use Rattle.xs_params.proofs.Refusals.{found_first, found_later}
use Rattle.xs_params.proofs.settings.Settings.refusal.Goals as goal

pub returns-then-is_some : goal.returns-then-is_some
returns-then-is_some c =
    let s = c.args.self.now in
    found_first (shape_refusals s.shape) (layout_refusals s) (band_refusals s) (packet_refusals s) (thread_refusals s.workers s.feeders) (port_refusals s.port) c.or-geometry.result
    (cc (c.or-geometry.ensures, c.shape_refusal.ensures, c.layout_refusal.ensures)) (cc (c.is_some.ensures, c.if-is_some.true))

pub returns : goal.returns
returns c =
    let s = c.args.self.now in
    found_later (shape_refusals s.shape) (layout_refusals s) (band_refusals s) (packet_refusals s) (thread_refusals s.workers s.feeders) (port_refusals s.port) c.or-geometry.result c.or-3.result
    (cc (c.or-geometry.ensures, c.shape_refusal.ensures, c.layout_refusal.ensures)) (cc (c.is_some.ensures, c.if-is_some.false))
    (cc (c.or.ensures, c.or-2.ensures, c.or-3.ensures, c.band_refusal.ensures, c.packet_refusal.ensures, c.thread_refusal.ensures, c.port_refusal.ensures))
