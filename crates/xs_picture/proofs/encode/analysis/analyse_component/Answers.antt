use Rattle.std.proofs.Common.{length, ap, ◌∙◌}
use Rattle.xs_picture.proofs.BandTypes.{component_split_up}
use Rattle.xs_picture.proofs.encode.analysis.analyse_component.Goals as goal

pub split_rows-requires-clause-width : goal.split_rows-requires-clause-width
split_rows-requires-clause-width c = ap length c.as_mut_slice.ensures.value ∙ c.in_ok-row.ensures ∙ c.component_width-width.ensures.width

pub split_rows-requires-clause-first : goal.split_rows-requires-clause-first
split_rows-requires-clause-first c = c.in_ok-splitter.ensures c.args.component.picture.now 0

pub returns : goal.returns
returns c = component_split_up c.args.component.header.now c.args.component.picture.now c.args.component.number c.split_rows.new.splitter c.requires.accepted c.requires.there c.in_ok-split_rows.ensures
