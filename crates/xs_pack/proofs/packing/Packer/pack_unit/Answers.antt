use Rattle.std.proofs.Common.{◌≡◌, ◌∷◌, ◌++◌, [], true, not, map, ap, ◌∙◌, sym, append_assoc}
use Rattle.std.specs.Prelude.{if◌then◌else◌, is_ok}
use Rattle.xs_lists.specs.Spelling.{upto}
use Rattle.xs_pack.specs.Datagrams.{datagram}
use Rattle.xs_pack.specs.Packing.{sent_of}
use Rattle.xs_pack.proofs.Cutting.{map_more}
use Rattle.xs_pack.proofs.packing.Packer.pack_unit.Goals as goal

pub cutting-preserved : goal.cutting-preserved
cutting-preserved c =
    let f = datagram c.args.self.now.settings.now (sent_of c.args.self.now c.args.unit.now c.len-number.result) in
    let done : is_ok c.push.result ≡ true = c.is_err.ensures.negation ∙ ap not c.if-is_err.false in
    c.push.ensures.items ∙ ap (λ b. if b then c.cutting.packets.items ++ c.in_ok-packet.packet ∷ [] else c.cutting.packets.items) done
    ∙ ap (λ l. l ++ c.in_ok-packet.packet ∷ []) c.cutting.invariant
    ∙ ap (λ p. (c.args.packets.now.items ++ map (datagram c.args.self.now.settings.now (sent_of c.args.self.now c.args.unit.now c.len-number.result)) (upto c.cutting.piece)) ++ p ∷ []) c.in_ok-packet.ensures
    ∙ append_assoc c.args.packets.now.items (map (datagram c.args.self.now.settings.now (sent_of c.args.self.now c.args.unit.now c.len-number.result)) (upto c.cutting.piece)) _
    ∙ ap (λ l. c.args.packets.now.items ++ l) (sym (map_more (datagram c.args.self.now.settings.now (sent_of c.args.self.now c.args.unit.now c.len-number.result)) c.cutting.piece))
