use Rattle.std.proofs.Common.{◌≡◌, ◌+◌, ◌<◌, sym, ap, subst, ◌∙◌, arith}
use Rattle.std.specs.Prelude.{Option, MatchOption}
use Rattle.xs_params.specs.Geometry.{slice_count}
use Rattle.xs_stripe.specs.Edges.{EdgeRows}
use Rattle.xs_handover.specs.declared.piece.Piece.TheVariants.{Body, Up, Down}
use Rattle.xs_handover.specs.Blocks.{Carried, block_of}
use Rattle.xs_handover.specs.Decoded.{IsDecoded}
use Rattle.xs_handover.specs.Handing.{IsSourceBlock}
use Rattle.xs_handover.proofs.Decoding.{block_is, decoded_body, decoded_down, decoded_up, unit_small}
use Rattle.xs_handover.proofs.reading.blocks_of.Goals.{then-slice-gt0+in_ok-again+in_ok-new, else-slice-gt0, then-slice-slices+in_ok-again-2+in_ok-new-2, else-slice-slices}
use Rattle.xs_handover.proofs.reading.blocks_of.Goals as goal

pub slice_edges-requires-clause-small : goal.slice_edges-requires-clause-small
slice_edges-requires-clause-small c = unit_small c.args.source.header c.args.source.slice c.args.rows c.args.source.bytes c.requires.accepted c.requires.read

pub new-requires : goal.new-requires
new-requires c =
    let some : 0 < c.args.source.slice = omega (arith, c.if-slice-gt0.true) in
    subst (λ s. IsDecoded (block_of s (Up c.in_ok-up.up))) (sym (c.in_ok-again.ensures ∙ c.in_ok-source.ensures))
    (decoded_up c.args.source c.args.rows c.in_ok-up.up c.requires.accepted c.requires.there c.requires.read some c.in_ok-up.ensures.up c.in_ok-up.ensures.shows_up)

pub new-requires-then-slice-slices : goal.new-requires-then-slice-slices
new-requires-then-slice-slices c =
    let count : c.slices-slices.result ≡ slice_count c.args.source.header = c.slices-slices.ensures.count ∙ ap slice_count c.of.ensures in
    let more : c.args.source.slice + 1 < slice_count c.args.source.header = omega (arith, c.if-slice-slices.true, count) in
    subst (λ s. IsDecoded (block_of s (Down c.in_ok-up.down))) (sym (c.in_ok-again-2.ensures ∙ c.in_ok-source.ensures))
    (decoded_down c.args.source c.args.rows c.in_ok-up.down c.requires.accepted c.requires.there c.requires.read more c.in_ok-up.ensures.down c.in_ok-up.ensures.shows_down)

pub new-requires-2 : goal.new-requires-2
new-requires-2 c =
    subst (λ s. IsDecoded (block_of s (Body c.args.rows))) (sym c.in_ok-source.ensures) (decoded_body c.args.source c.args.rows c.requires.accepted c.requires.there c.requires.read)

pub returns : goal.returns
returns c =
    let source = c.args.source in
    let count : c.slices-slices.result ≡ slice_count source.header = c.slices-slices.ensures.count ∙ ap slice_count c.of.ensures in
    record {
      body = (c.args.rows, block_is source c.in_ok-source.source.value (Body c.args.rows) c.in_ok-body.body c.in_ok-source.ensures c.in_ok-body.ensures (decoded_body source c.args.rows c.requires.accepted c.requires.there c.requires.read));
      up = elim c.if-slice-gt0.branch [
        | then-slice-gt0+in_ok-again+in_ok-new w ↦
            let some : 0 < source.slice = omega (arith, w.if-slice-gt0.true) in
            subst (λ (o : Option Carried). MatchOption o (source.slice ≡ 0) (λ (v : Carried). (edge : EdgeRows) × IsSourceBlock source (Up edge) v)) (sym w.up2-is) (
              c.in_ok-up.up,
              block_is source w.in_ok-again.field-0.value (Up c.in_ok-up.up) w.in_ok-new.field-0 (w.in_ok-again.ensures ∙ c.in_ok-source.ensures) w.in_ok-new.ensures
                  (decoded_up source c.args.rows c.in_ok-up.up c.requires.accepted c.requires.there c.requires.read some c.in_ok-up.ensures.up c.in_ok-up.ensures.shows_up),
            )
        | else-slice-gt0 w ↦
            let none : source.slice ≡ 0 = omega (arith, w.if-slice-gt0.false) in
            subst (λ (o : Option Carried). MatchOption o (source.slice ≡ 0) (λ (v : Carried). (edge : EdgeRows) × IsSourceBlock source (Up edge) v)) (sym w.up2-is) none
      ];
      down = elim c.if-slice-slices.branch [
        | then-slice-slices+in_ok-again-2+in_ok-new-2 w ↦
            let more : source.slice + 1 < slice_count source.header = omega (arith, w.if-slice-slices.true, count) in
            subst (λ (o : Option Carried). MatchOption o (source.slice + 1 ≡ slice_count source.header) (λ (v : Carried). (edge : EdgeRows) × IsSourceBlock source (Down edge) v)) (sym w.down2-is) (
              c.in_ok-up.down,
              block_is source w.in_ok-again-2.field-0.value (Down c.in_ok-up.down) w.in_ok-new-2.field-0 (w.in_ok-again-2.ensures ∙ c.in_ok-source.ensures) w.in_ok-new-2.ensures
                  (decoded_down source c.args.rows c.in_ok-up.down c.requires.accepted c.requires.there c.requires.read more c.in_ok-up.ensures.down c.in_ok-up.ensures.shows_down),
            )
        | else-slice-slices w ↦
            let last : source.slice + 1 ≡ slice_count source.header = omega (arith, w.if-slice-slices.false, count, c.requires.there) in
            subst (λ (o : Option Carried). MatchOption o (source.slice + 1 ≡ slice_count source.header) (λ (v : Carried). (edge : EdgeRows) × IsSourceBlock source (Down edge) v)) (sym w.down2-is) last
      ];
    }
