use Rattle.xs_cli.proofs.Packed.{encoding_packable}
use Rattle.xs_cli.proofs.RawTaken.{raw_shape}
use Rattle.xs_cli.proofs.encoding.Encoder.stream_of.Goals as goal

pub encode_threaded-requires-clause-shape : goal.encode_threaded-requires-clause-shape
encode_threaded-requires-clause-shape g c = λ κs within. raw_shape c.args.self.now.settings.now.shape c.args.raw c.in-Whole.planes c.requires.raw.0 c.requires.raw.1 c.in-Whole.is

pub returns-in-Ok-clause-packable : goal.returns-in-Ok-clause-packable
returns-in-Ok-clause-packable g c =
    encoding_packable c.args.self.now.settings.now _ c.in-Ok.encoded.stream c.known_settings.ensures c.in-Ok.ensures.encoding
