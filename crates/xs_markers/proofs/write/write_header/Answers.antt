use Rattle.std.proofs.Common.{◌∙◌, ◌++◌, ap, sym, subst}
use Rattle.xs_params.specs.Markers.{soc}
use Rattle.xs_markers.specs.Fields.{IsBody}
use Rattle.xs_markers.proofs.Bodies.{picture_body}
use Rattle.xs_markers.proofs.Joined.{joined_header}
use Rattle.xs_markers.proofs.write.write_header.Goals as goal

pub put_segment-requires-2 : goal.put_segment-requires-2
put_segment-requires-2 c = record {
  body =
      subst IsBody (sym c.picture_fields.ensures.fields) (picture_body c.args.header.now c.requires.accepted c.picture_fields.ensures.lcod c.picture_fields.ensures.hsl);
}

pub returns : goal.returns
returns c = record {
  written =
      joined_header c.args.header.now c.extend.new.self c.put_segment.new.out c.put_segment-2.new.out c.put_segment-3.new.out c.put_segment-4.new.out c.picture_fields.result c.as_slice.result.now c.as_slice-2.result.now
      (c.in_ok-extend.ensures.appended ∙ ap (λ l. l ++ soc) c.new-out.ensures.empty) c.in_ok-put_segment.ensures.appended
      c.picture_fields.ensures.fields c.in_ok-put_segment-2.ensures.appended
      (c.as_slice.ensures.value ∙ c.in_ok-components.ensures.fields) c.in_ok-put_segment-3.ensures.appended
      (c.as_slice-2.ensures.value ∙ c.in_ok-weights.ensures.fields) c.in_ok-put_segment-4.ensures.appended;
}
