use Rattle.xs_recv_tests.proofs.Packable.{encoding_packable}
use Rattle.xs_recv_tests.proofs.captures.send.Goals as goal

pub pack-requires-clause-packable : goal.pack-requires-clause-packable
pack-requires-clause-packable c = encoding_packable c.args.settings.now _ c.in-Ok-encode_picture.stream c.settings.ensures.in_range c.in-Ok-encode_picture.ensures.encoding
