use Rattle.std.proofs.lemmas.Result.{on_ok_weaker}
use Rattle.xs_precinct.proofs.Faults.{coded_twice}
use Rattle.xs_precinct.proofs.read.packet.read_all_numbers.Goals as goal

pub returns-then-apart-clause-coded : goal.returns-then-apart-clause-coded
returns-then-apart-clause-coded c = on_ok_weaker c.read_all_signs.result (coded_twice c.args.bands.now c.read_data.new.bands c.read_all_signs.new.bands c.in_default.ensures.coded) c.read_all_signs.ensures.coded
