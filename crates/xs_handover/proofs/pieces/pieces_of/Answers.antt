use Rattle.std.proofs.Common.{Bor, ◌≡◌, ◌+◌, ◌-◌, ◌<◌, sym, ap, subst, ◌∙◌, arith}
use Rattle.std.specs.Prelude.{Option, MatchOption}
use Rattle.xs_params.specs.Geometry.{slice_count}
use Rattle.xs_stripe.specs.Edges.{EdgeRows}
use Rattle.xs_handover.specs.declared.piece.Piece.TheVariants.{Up, Down}
use Rattle.xs_handover.specs.Sources.{HasAt, place_below}
use Rattle.xs_handover.proofs.pieces.pieces_of.Goals.{then-slice-gt0+in_ok-above_in, else-slice-gt0, then-slice-slices+in_ok-below_in, else-slice-slices}
use Rattle.xs_handover.proofs.pieces.pieces_of.Goals as goal

pub returns : goal.returns
returns c =
    let h = c.args.header.now in
    let slice = c.args.slice in
    let values = c.args.values.now in
    let count : c.slices-slices.result ≡ slice_count h = c.slices-slices.ensures.count ∙ ap slice_count c.of.ensures in
    record {
      body = c.in_ok-body.ensures;
      above = elim c.if-slice-gt0.branch [
        | then-slice-gt0+in_ok-above_in w ↦
            subst (λ (o : Option (Bor EdgeRows)). MatchOption o (slice ≡ 0) (λ (e : Bor EdgeRows). (0 < slice) × HasAt values 1 h (slice - 1) (Down e.now))) (sym w.above-is) (omega (arith, w.if-slice-gt0.true), w.in_ok-above_in.ensures)
        | else-slice-gt0 w ↦
            subst (λ (o : Option (Bor EdgeRows)). MatchOption o (slice ≡ 0) (λ (e : Bor EdgeRows). (0 < slice) × HasAt values 1 h (slice - 1) (Down e.now))) (sym w.above-is) (omega (arith, w.if-slice-gt0.false))
      ];
      below = elim c.if-slice-slices.branch [
        | then-slice-slices+in_ok-below_in w ↦
            subst (λ (o : Option (Bor EdgeRows)). MatchOption o (slice + 1 ≡ slice_count h) (λ (e : Bor EdgeRows). (slice + 1 < slice_count h) × HasAt values (place_below slice) h (slice + 1) (Up e.now))) (sym w.below-is)
            (omega (arith, w.if-slice-slices.true, count), w.in_ok-below_in.ensures)
        | else-slice-slices w ↦
            subst (λ (o : Option (Bor EdgeRows)). MatchOption o (slice + 1 ≡ slice_count h) (λ (e : Bor EdgeRows). (slice + 1 < slice_count h) × HasAt values (place_below slice) h (slice + 1) (Up e.now))) (sym w.below-is)
            (omega (arith, w.if-slice-slices.false, count, c.requires.there))
      ];
    }
