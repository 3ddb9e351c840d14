use Rattle.std.proofs.Common.{◌≡◌, ◌+◌, ◌++◌, length, arith, ap, ◌∙◌}
use Rattle.xs_pcap.specs.Wrapped.{record_head}
use Rattle.xs_pcap.proofs.Writing.{wrapped_by_parts}
use Rattle.xs_pcap.proofs.wrapping.append.Goals as goal

pub returns-clause-appended : goal.returns-clause-appended
returns-clause-appended c =
    let size : 42 + c.from.result ≡ 42 + length c.args.packet.now = omega (arith, c.from.ensures) in
    wrapped_by_parts c.args.port c.args.timestamp c.args.packet.now c.args.out.now c.extend.new.self c.extend-2.new.self c.extend-3.new.self c.extend-4.new.self c.extend-5.new.self
    (c.in_ok-extend.ensures.appended ∙ ap (λ l. c.args.out.now ++ l) (c.record_head.ensures ∙ ap (record_head c.args.timestamp) size))
    c.in_ok-extend-2.ensures.appended
    (c.in_ok-extend-3.ensures.appended ∙ ap (λ l. c.extend-2.new.self ++ l) c.ipv4_head.ensures)
    (c.in_ok-extend-4.ensures.appended ∙ ap (λ l. c.extend-3.new.self ++ l) c.udp_head.ensures)
    c.in_ok-extend-5.ensures.appended
