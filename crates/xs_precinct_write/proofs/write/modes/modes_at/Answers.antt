use Rattle.std.proofs.Common.{sym, ap, ◌∙◌, arith}
use Rattle.xs_params.specs.Geometry.{bands_of}
use Rattle.xs_geometry.specs.SliceLines.{rows_held}
use Rattle.xs_precinct_write.proofs.Coded.{lines_of_geometry, mode_same, precinct_of_geometry}
use Rattle.xs_precinct_write.proofs.write.modes.modes_at.Goals as goal

pub precinct_modes-requires-clause-coding : goal.precinct_modes-requires-clause-coding
precinct_modes-requires-clause-coding c =
    let s = c.args.at.now in
    let known = c.requires.precinct in
    let is = known.is_slice in (
      known.slice,
      s.rows.now,
      record { counted = record { lines = lines_of_geometry s.header.now s.geometry.now known.slice s.rows.now is.geometry is.lines; counted = c.requires.counts }; signs = c.requires.signs },
      precinct_of_geometry s.header.now s.geometry.now known.slice c.args.precinct is.geometry known.there,
    )

pub returns : goal.returns
returns c band inside =
    let s = c.args.at.now in
    let h = s.header.now in
    let known = c.requires.precinct in
    let is = known.is_slice in
    let all = ap bands_of is.geometry in
    c.precinct_modes.ensures known.slice s.rows.now h.weights s.candidate (record {
      coded = record { counted = record { lines = lines_of_geometry h s.geometry.now known.slice s.rows.now is.geometry is.lines; counted = c.requires.counts }; signs = c.requires.signs };
      count = is.accepted.weights ∙ sym all;
      truncations = c.cuts_of.ensures.cuts;
    }) (precinct_of_geometry h s.geometry.now known.slice c.args.precinct is.geometry known.there) band (omega (arith, inside, all))
    ∙ mode_same h s.geometry.now (rows_held s.rows.now) s.candidate c.args.precinct band is.geometry
