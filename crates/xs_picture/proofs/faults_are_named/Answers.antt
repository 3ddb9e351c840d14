use Rattle.xs_picture.proofs.Named.{faults_are_named}
use Rattle.xs_picture.proofs.faults_are_named.Goals as goal

pub returns : goal.returns
returns c = faults_are_named
