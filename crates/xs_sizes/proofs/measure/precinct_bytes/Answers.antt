use Rattle.xs_sizes.proofs.measure.precinct_bytes.Goals as goal

pub returns-clause-bytes : goal.returns-clause-bytes
returns-clause-bytes c slice bands kept there = c.precinct_size.ensures.bytes slice bands c.args.weights.now c.args.candidate (record { coded = kept; count = c.requires.weights; truncations = c.cuts_of.ensures.cuts }) there

pub returns-clause-fits : goal.returns-clause-fits
returns-clause-fits c slice bands kept there = c.precinct_size.ensures.fits slice bands c.args.weights.now c.args.candidate (record { coded = kept; count = c.requires.weights; truncations = c.cuts_of.ensures.cuts }) there
