use Rattle.std.proofs.Common.{ap, ◌∙◌}
use Rattle.std.proofs.lemmas.List.{take_rest}
use Rattle.xs_pcap.specs.Datagram.{without_tag}
use Rattle.xs_pcap.proofs.datagram.after_tags.Goals as goal

pub returns : goal.returns
returns c = c.without_tag-2.ensures ∙ ap without_tag (c.without_tag.ensures ∙ ap without_tag (take_rest c.args.frame.now 12))
