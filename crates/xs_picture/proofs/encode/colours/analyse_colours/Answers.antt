use Rattle.std.proofs.Common.{◌≡◌, ap, sym, subst, ◌∙◌, arith}
use Rattle.xs_layout.specs.Geometry.{components_of}
use Rattle.xs_decoding.proofs.Within.{full_width}
use Rattle.xs_picture.specs.Analysed.{IsLine}
use Rattle.xs_picture.proofs.Analysed.{given_up, more_given, three_bands}
use Rattle.xs_picture.proofs.BandTypes.{component_split_up}
use Rattle.xs_picture.proofs.encode.colours.analyse_colours.Goals as goal

pub lines-init : goal.lines-init
lines-init c = record {
  luma = c.in_ok-luma.ensures c.args.picture.now 0;
  first = c.in_ok-first.ensures c.args.picture.now 0;
  second = c.in_ok-second.ensures c.args.picture.now 0;
  luma_width = c.in_ok-rows.ensures.luma;
  first_width = c.in_ok-rows.ensures.first;
  second_width = c.in_ok-rows.ensures.second;
}

pub push-requires-clause-small : goal.push-requires-clause-small
push-requires-clause-small c = (subst (IsLine c.args.header.now c.args.picture.now 0 c.lines.line) (sym c.as_slice.ensures.value) c.fill.ensures.luma).small

pub push-requires-in-lines-clause-small : goal.push-requires-in-lines-clause-small
push-requires-in-lines-clause-small c = (subst (IsLine c.args.header.now c.args.picture.now 1 c.lines.line) (sym c.as_slice-in-lines.ensures.value) c.fill.ensures.first).small

pub push-requires-in-lines-2-clause-small : goal.push-requires-in-lines-2-clause-small
push-requires-in-lines-2-clause-small c = (subst (IsLine c.args.header.now c.args.picture.now 2 c.lines.line) (sym c.as_slice-in-lines-2.ensures.value) c.fill.ensures.second).small

pub lines-preserved : goal.lines-preserved
lines-preserved c =
    let h = c.args.header.now in
    let picture = c.args.picture.now in
    let line = c.lines.line in
    let format = c.requires.accepted.colour c.requires.colour in
    let luma_line = subst (IsLine h picture 0 line) (sym c.as_slice.ensures.value) c.fill.ensures.luma in
    let luma_push = c.in_ok-push.ensures in
    let first_line = subst (IsLine h picture 1 line) (sym c.as_slice-in-lines.ensures.value) c.fill.ensures.first in
    let first_push = c.in_ok-push-2.ensures in
    let second_line = subst (IsLine h picture 2 line) (sym c.as_slice-in-lines-2.ensures.value) c.fill.ensures.second in
    let second_push = c.in_ok-push-3.ensures in
    record {
      luma = more_given h picture 0 0 line c.as_slice.result.now c.lines.luma c.push.new.self luma_line c.lines.invariant.luma luma_push.chain luma_push.taken luma_push.same luma_push.holds;
      first = more_given h picture 1 0 line c.as_slice-in-lines.result.now c.lines.first c.push-in-lines.new.self first_line c.lines.invariant.first first_push.chain first_push.taken first_push.same first_push.holds;
      second = more_given h picture 2 0 line c.as_slice-in-lines-2.result.now c.lines.second c.push-in-lines-2.new.self second_line c.lines.invariant.second second_push.chain second_push.taken second_push.same second_push.holds;
      luma_width = c.fill.ensures.luma.width ∙ full_width h.shape 0 format;
      first_width = c.fill.ensures.first.width ∙ full_width h.shape 1 format;
      second_width = c.fill.ensures.second.width ∙ full_width h.shape 2 format;
    }

pub returns : goal.returns
returns c =
    let h = c.args.header.now in
    let picture = c.args.picture.now in
    let format = c.requires.accepted.colour c.requires.colour in
    let three : components_of h.shape.format ≡ 3 = ap components_of format in
    let luma_end = c.in_ok-finish.ensures in
    let luma = given_up h picture 0 0 c.lines.line c.lines.luma c.finish.new.self c.lines.invariant.luma luma_end.all luma_end.same luma_end.holds in
    let first_end = c.in_ok-finish-2.ensures in
    let first = given_up h picture 1 0 c.lines.line c.lines.first c.finish-2.new.self c.lines.invariant.first first_end.all first_end.same first_end.holds in
    let second_end = c.in_ok-finish-3.ensures in
    let second = given_up h picture 2 0 c.lines.line c.lines.second c.finish-3.new.self c.lines.invariant.second second_end.all second_end.same second_end.holds in
    three_bands h picture c.finish.new.self c.finish-2.new.self c.finish-3.new.self c.in_ok-bands.bands format c.in_ok-bands.ensures
    (component_split_up h picture 0 c.finish.new.self c.requires.accepted (omega (arith, three)) luma)
    (component_split_up h picture 1 c.finish-2.new.self c.requires.accepted (omega (arith, three)) first)
    (component_split_up h picture 2 c.finish-3.new.self c.requires.accepted (omega (arith, three)) second)
