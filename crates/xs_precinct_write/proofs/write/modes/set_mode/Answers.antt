use Rattle.std.proofs.Common.{arith}
use Rattle.xs_rate.specs.Modes.{mode_size}
use Rattle.xs_rate.proofs.Fewest.{first_fewest}
use Rattle.xs_precinct_write.specs.Sent.{content_in}
use Rattle.xs_precinct_write.proofs.write.modes.set_mode.Goals as goal

pub set_mode-requires : goal.set_mode-requires
set_mode-requires c =
    let s = c.args.at.now in
    omega (arith, c.requires.modes c.args.band c.requires.band, (first_fewest (mode_size s.header.now (content_in s) c.args.wanted.precinct c.args.band)).is_mode)
