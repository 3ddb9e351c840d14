use Rattle.std.proofs.Common.{rules, ◌≡◌, Err, sym, subst}
use Rattle.std.specs.Prelude.{All}
use Rattle.std.specs.List.{flat_map}
use Rattle.xs_cli.specs.Encoded.{FitsEnvelope, enveloped}
use Rattle.xs_pack.specs.Datagrams.{datagrams_of}
use Rattle.xs_endings.specs.declared.stop.Stop.TheVariants as stop
use Rattle.xs_endings.proofs.Changes.{front_of_none}
use Rattle.xs_cli.proofs.Packed.{cut_taken, short_datagrams}
use Rattle.xs_cli.proofs.encoding.Encoder.write_packets.Goals as goal

pub returns-in_err-packets-clause-taken : goal.returns-in_err-packets-clause-taken
returns-in_err-packets-clause-taken g c =
    let e : c.from_residual.result ≡ Err stop.Memory = search rules in
    rw e (front_of_none (g.W.Sink.held c.args.output.now) (g.W.Sink.faults c.args.output.now) (g.W.Sink.faults c.args.output.now) (flat_map (enveloped c.args.envelope) (datagrams_of c.args.self.now.settings.now c.args.stream.now c.args.place.picture c.args.place.sequence)))

pub give_packets-requires : goal.give_packets-requires
give_packets-requires g c = record {
  short = subst (All FitsEnvelope) (sym c.in_ok-packets.ensures) (short_datagrams c.args.self.now.settings.now c.args.stream.now c.args.place.picture c.args.place.sequence c.requires.range);
}

pub returns-clause-taken : goal.returns-clause-taken
returns-clause-taken g c =
    let given = rw c.in_ok-packets.ensures at c.in-Err.ensures in
    cut_taken _ _ _ _ c.in-Err.why given
