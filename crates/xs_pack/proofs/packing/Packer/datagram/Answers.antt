use Rattle.std.proofs.Common.{◌≡◌, ◌++◌, ap, ◌∙◌}
use Rattle.std.proofs.lemmas.Result.{IfOk-weaker}
use Rattle.xs_rtp.specs.Packet.{rtp_bytes}
use Rattle.xs_rtp.specs.Payload.{pay_bytes}
use Rattle.xs_pack.specs.Datagrams.{datagram, piece_of, piece_pay, piece_rtp}
use Rattle.xs_pack.specs.Packing.{sent_of}
use Rattle.xs_pack.proofs.packing.Packer.datagram.Goals as goal

pub returns : goal.returns
returns c =
    let s = c.args.self.now.settings.now in
    let unit = sent_of c.args.self.now c.args.unit.now c.args.number in
    let rtp = c.write-rtp.ensures.bytes ∙ ap rtp_bytes c.rtp.ensures.rtp in
    let pay = c.write-pay.ensures.bytes ∙ ap pay_bytes c.pay.ensures.pay in
    let part = c.part.ensures ∙ ap (λ s. piece_of s.chunk c.args.unit.now.bytes.now c.args.piece) c.settings.ensures.settings in
    IfOk-weaker c.joined.result (λ list. list ≡ c.write-rtp.result ++ c.write-pay.result ++ c.part.result.now) (λ packet. packet ≡ datagram c.args.self.now.settings.now (sent_of c.args.self.now c.args.unit.now c.args.number) c.args.piece)
    (λ list e. e ∙ ap (λ l. l ++ c.write-pay.result ++ c.part.result.now) rtp
    ∙ ap (λ l. rtp_bytes (piece_rtp c.args.self.now.settings.now (sent_of c.args.self.now c.args.unit.now c.args.number) c.args.piece) ++ l ++ c.part.result.now) pay
    ∙ ap (λ l. rtp_bytes (piece_rtp c.args.self.now.settings.now (sent_of c.args.self.now c.args.unit.now c.args.number) c.args.piece)
    ++ pay_bytes (piece_pay c.args.self.now.settings.now (sent_of c.args.self.now c.args.unit.now c.args.number) c.args.piece) ++ l) part)
    c.joined.ensures
