use Rattle.std.proofs.Common.{◌≡◌, ◌<◌, ◌^◌, length, sym, ap, subst, ◌∙◌, arith}
use Rattle.xs_params.specs.declared.settings.Settings.{Settings}
use Rattle.xs_params.specs.Picture.{Picture}
use Rattle.xs_stored.specs.Stored.{held_in}
use Rattle.xs_trial.specs.Comparison.{comparison_of}
use Rattle.xs_cli.specs.Trying.{AreOffered}
use Rattle.xs_cli.proofs.TrialBrought.{datagrams_offered, dealt, few_datagrams, one_received, same_outcome}
use Rattle.xs_cli.proofs.TrialStream.{encoding_sent}
use Rattle.xs_cli.proofs.trial.Trial.send.Goals as goal

pub pack-requires-clause-packable : goal.pack-requires-clause-packable
pack-requires-clause-packable g c = (encoding_sent c.args.self.now.settings.now c.args.picture.now c.args.stream.now c.settings-asked.ensures.in_range c.requires.encoded).packable

pub deal-requires-clause-few : goal.deal-requires-clause-few
deal-requires-clause-few g c =
    let few = few_datagrams c.args.self.now.settings.now c.args.picture.now c.args.stream.now c.settings-asked.ensures.in_range c.requires.encoded in
    omega (arith, few, ap length c.in_ok-packets.ensures)

pub deal-requires-clause-offers : goal.deal-requires-clause-offers
deal-requires-clause-offers g c =
    let ssrc = subst (λ (s : Settings). s.ssrc < 2 ^ 32) c.settings-asked.ensures.settings c.known_words.ensures in
    subst AreOffered (sym c.in_ok-packets.ensures)
    (datagrams_offered c.args.self.now.settings.now c.args.picture.now c.args.stream.now c.settings-asked.ensures.in_range c.requires.encoded ssrc)

pub receive_picture-requires-clause-parts : goal.receive_picture-requires-clause-parts
receive_picture-requires-clause-parts g c κs within =
    let s = c.args.self.now.settings.now in
    let range = c.settings-asked.ensures.in_range in
    let ssrc = subst (λ (s : Settings). s.ssrc < 2 ^ 32) c.settings-asked.ensures.settings c.known_words.ensures in
    let feeders : c.from.result ≡ s.feeders = c.from.ensures ∙ ap (λ (s : Settings). s.feeders) c.settings-asked.ensures.settings in
    let some = range.feeders.0 in
    let most = range.feeders.1 in
    (dealt s c.args.picture.now c.args.stream.now range c.requires.encoded c.requires.sized.boxes ssrc c.requires.sized.chunk c.in_ok-packets.packets c.in_ok-parts.parts c.from.result c.args.state
    c.in_ok-packets.ensures (omega (arith, feeders, some)) (omega (arith, feeders, most)) c.in_ok-parts.ensures).count

pub receive_picture-requires-clause-bytes : goal.receive_picture-requires-clause-bytes
receive_picture-requires-clause-bytes g c κs within =
    let s = c.args.self.now.settings.now in
    let range = c.settings-asked.ensures.in_range in
    let ssrc = subst (λ (s : Settings). s.ssrc < 2 ^ 32) c.settings-asked.ensures.settings c.known_words.ensures in
    let feeders : c.from.result ≡ s.feeders = c.from.ensures ∙ ap (λ (s : Settings). s.feeders) c.settings-asked.ensures.settings in
    let some = range.feeders.0 in
    let most = range.feeders.1 in
    (dealt s c.args.picture.now c.args.stream.now range c.requires.encoded c.requires.sized.boxes ssrc c.requires.sized.chunk c.in_ok-packets.packets c.in_ok-parts.parts c.from.result c.args.state
    c.in_ok-packets.ensures (omega (arith, feeders, some)) (omega (arith, feeders, most)) c.in_ok-parts.ensures).size

pub picture_of-decoded-requires : goal.picture_of-decoded-requires
picture_of-decoded-requires g c =
    let s = c.args.self.now.settings.now in
    let range = c.settings-asked.ensures.in_range in
    let ssrc = subst (λ (s : Settings). s.ssrc < 2 ^ 32) c.settings-asked.ensures.settings c.known_words.ensures in
    let feeders : c.from.result ≡ s.feeders = c.from.ensures ∙ ap (λ (s : Settings). s.feeders) c.settings-asked.ensures.settings in
    let some = range.feeders.0 in
    let most = range.feeders.1 in
    let are = dealt s c.args.picture.now c.args.stream.now range c.requires.encoded c.requires.sized.boxes ssrc c.requires.sized.chunk c.in_ok-packets.packets c.in_ok-parts.parts c.from.result c.args.state
    c.in_ok-packets.ensures (omega (arith, feeders, some)) (omega (arith, feeders, most)) c.in_ok-parts.ensures in
    let came = c.in_ok-receive_picture.ensures in
    let reception = c.in_ok-receive_picture.field-0 in
    let brought = are.brings (held_in reception.board.actor.stored) reception.received came.selection came.received in
    (brought.0, brought.1)

pub compare-requires : goal.compare-requires
compare-requires g c =
    let s = c.args.self.now.settings.now in
    let range = c.settings-asked.ensures.in_range in
    let ssrc = subst (λ (s : Settings). s.ssrc < 2 ^ 32) c.settings-asked.ensures.settings c.known_words.ensures in
    let feeders : c.from.result ≡ s.feeders = c.from.ensures ∙ ap (λ (s : Settings). s.feeders) c.settings-asked.ensures.settings in
    let some = range.feeders.0 in
    let most = range.feeders.1 in
    let are = dealt s c.args.picture.now c.args.stream.now range c.requires.encoded c.requires.sized.boxes ssrc c.requires.sized.chunk c.in_ok-packets.packets c.in_ok-parts.parts c.from.result c.args.state
    c.in_ok-packets.ensures (omega (arith, feeders, some)) (omega (arith, feeders, most)) c.in_ok-parts.ensures in
    let came = c.in_ok-receive_picture.ensures in
    let reception = c.in_ok-receive_picture.field-0 in
    let brought = are.brings (held_in reception.board.actor.stored) reception.received came.selection came.received in
    let one = one_received c.picture_of-decoded.result brought.0 (sym c.picture_of-decoded.ensures ∙ brought.1) in
    c.requires.shape ∙ sym brought.2 ∙ sym (ap (λ (p : Picture). p.shape) one)

pub returns : goal.returns
returns g c =
    let s = c.args.self.now.settings.now in
    let range = c.settings-asked.ensures.in_range in
    let ssrc = subst (λ (s : Settings). s.ssrc < 2 ^ 32) c.settings-asked.ensures.settings c.known_words.ensures in
    let feeders : c.from.result ≡ s.feeders = c.from.ensures ∙ ap (λ (s : Settings). s.feeders) c.settings-asked.ensures.settings in
    let some = range.feeders.0 in
    let most = range.feeders.1 in
    let are = dealt s c.args.picture.now c.args.stream.now range c.requires.encoded c.requires.sized.boxes ssrc c.requires.sized.chunk c.in_ok-packets.packets c.in_ok-parts.parts c.from.result c.args.state
    c.in_ok-packets.ensures (omega (arith, feeders, some)) (omega (arith, feeders, most)) c.in_ok-parts.ensures in
    let came = c.in_ok-receive_picture.ensures in
    let reception = c.in_ok-receive_picture.field-0 in
    let brought = are.brings (held_in reception.board.actor.stored) reception.received came.selection came.received in
    let one = one_received c.picture_of-decoded.result brought.0 (sym c.picture_of-decoded.ensures ∙ brought.1) in (
      brought.0,
      brought.3,
      same_outcome _ _ _ _ _ _ _ _ c.len.ensures.count (c.len-2.ensures.count ∙ ap length c.in_ok-bytes.ensures.joined) (c.len-3.ensures ∙ ap length c.in_ok-packets.ensures)
          (c.compare.ensures ∙ ap (λ (p : Picture). comparison_of c.args.picture.now.samples p.samples) one),
    )
