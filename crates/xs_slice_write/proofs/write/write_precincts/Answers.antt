use Rattle.std.proofs.Common.{ℕ, ◌+◌, ◌-◌, ◌*◌, ◌<◌, min, ◌++◌, List, sym, ap, subst, ◌∙◌, arith}
use Rattle.std.specs.List.{flat_map, range_with_len}
use Rattle.xs_lists.proofs.Ranges.{bits_first}
use Rattle.xs_params.specs.declared.header.Header.{Header}
use Rattle.xs_params.specs.Geometry.{precinct_count, slice_count}
use Rattle.xs_grammar.specs.Coded.{precinct_bytes}
use Rattle.xs_grammar.specs.Slice.{slice_head}
use Rattle.xs_precinct_write.specs.Sent.{HasPrecinct, content_in, modes_in}
use Rattle.xs_slice_write.specs.Written.{last_filler}
use Rattle.xs_slice_write.proofs.Pieces.{AreOf, filler_is, is_there, piece_fits, piece_is, slice_is}
use Rattle.xs_slice_write.proofs.write.write_precincts.Goals as goal

pub slice_precincts-first-requires : goal.slice_precincts-first-requires
slice_precincts-first-requires c = subst (λ (g : Header). c.args.planned.now.slice < slice_count g) (sym c.requires.rows.geometry) c.requires.slice

pub head_of-requires : goal.head_of-requires
head_of-requires c = omega (arith, c.requires.slice, c.requires.rows.accepted.geometry.slices)

pub precincts-init : goal.precincts-init
precincts-init c =
    let s = c.args.planned.now.at in
    let h = s.header.now in
    let first = c.slice_precincts-first.result.0 in
    let end = c.slice_precincts-first.result.1 in
    let f = precinct_bytes h (content_in s) (modes_in s) (last_filler h c.args.planned.now.slice c.args.planned.now.filler) in
    record {
      whole = ap (λ (l : List ℕ). l ++ flat_map f (range_with_len first (end - first))) (sym c.in_ok-out.ensures);
      room = c.requires.room;
    }

pub filled_at-wanted-requires-clause-precinct : goal.filled_at-wanted-requires-clause-precinct
filled_at-wanted-requires-clause-precinct c =
    let s = c.args.planned.now.at in
    let h = s.header.now in
    let slice = c.args.planned.now.slice in
    let first = c.slice_precincts-first.result.0 in
    let end = c.slice_precincts-first.result.1 in
    let are : AreOf h slice first end = record {
      first_is = c.slice_precincts-first.ensures.first ∙ ap (λ (g : Header). slice * g.hsl) c.requires.rows.geometry;
      end_is = c.slice_precincts-first.ensures.end ∙ ap (λ (g : Header). min ((slice + 1) * g.hsl) (precinct_count g)) c.requires.rows.geometry;
    } in
    record { slice = slice; is_slice = c.requires.rows; there = is_there h slice first end c.precincts.precinct are c.precincts.auto.precinct c.precincts-test.true }

pub write_filled_precinct-requires-clause-precinct : goal.write_filled_precinct-requires-clause-precinct
write_filled_precinct-requires-clause-precinct c =
    let s = c.args.planned.now.at in
    let h = s.header.now in
    let slice = c.args.planned.now.slice in
    let first = c.slice_precincts-first.result.0 in
    let end = c.slice_precincts-first.result.1 in
    let are : AreOf h slice first end = record {
      first_is = c.slice_precincts-first.ensures.first ∙ ap (λ (g : Header). slice * g.hsl) c.requires.rows.geometry;
      end_is = c.slice_precincts-first.ensures.end ∙ ap (λ (g : Header). min ((slice + 1) * g.hsl) (precinct_count g)) c.requires.rows.geometry;
    } in
    subst (HasPrecinct s) (sym c.filled_at-wanted.ensures.precinct) (record { slice = slice; is_slice = c.requires.rows; there = is_there h slice first end c.precincts.precinct are c.precincts.auto.precinct c.precincts-test.true })

pub write_filled_precinct-requires-clause-fits : goal.write_filled_precinct-requires-clause-fits
write_filled_precinct-requires-clause-fits c =
    let s = c.args.planned.now.at in
    let h = s.header.now in
    let slice = c.args.planned.now.slice in
    let k = c.precincts.precinct in
    let first = c.slice_precincts-first.result.0 in
    let end = c.slice_precincts-first.result.1 in
    let are : AreOf h slice first end = record {
      first_is = c.slice_precincts-first.ensures.first ∙ ap (λ (g : Header). slice * g.hsl) c.requires.rows.geometry;
      end_is = c.slice_precincts-first.ensures.end ∙ ap (λ (g : Header). min ((slice + 1) * g.hsl) (precinct_count g)) c.requires.rows.geometry;
    } in
    piece_fits h (content_in s) (modes_in s) (last_filler h slice c.args.planned.now.filler) k c.filled_at-wanted.result.precinct c.filled_at-wanted.result.filler c.filled_at-wanted.ensures.precinct
    (filler_is h slice first end c.args.planned.now.filler k c.filled_at-wanted.result.filler are c.filled_at-wanted.ensures.filler)
    (c.requires.fits k (is_there h slice first end k are c.precincts.auto.precinct c.precincts-test.true))

pub precincts-preserved : goal.precincts-preserved
precincts-preserved c =
    let s = c.args.planned.now.at in
    let h = s.header.now in
    let slice = c.args.planned.now.slice in
    let k = c.precincts.precinct in
    let first = c.slice_precincts-first.result.0 in
    let end = c.slice_precincts-first.result.1 in
    let are : AreOf h slice first end = record {
      first_is = c.slice_precincts-first.ensures.first ∙ ap (λ (g : Header). slice * g.hsl) c.requires.rows.geometry;
      end_is = c.slice_precincts-first.ensures.end ∙ ap (λ (g : Header). min ((slice + 1) * g.hsl) (precinct_count g)) c.requires.rows.geometry;
    } in
    let f = precinct_bytes h (content_in s) (modes_in s) (last_filler h slice c.args.planned.now.filler) in
    let piece = piece_is h (content_in s) (modes_in s) (last_filler h slice c.args.planned.now.filler) k c.filled_at-wanted.result.precinct c.filled_at-wanted.result.filler c.filled_at-wanted.ensures.precinct
    (filler_is h slice first end c.args.planned.now.filler k c.filled_at-wanted.result.filler are c.filled_at-wanted.ensures.filler) in
    record {
      whole = bits_first f k end c.precincts.out c.write_filled_precinct.new.out (slice_head slice ++ flat_map f (range_with_len first (end - first))) c.precincts-test.true c.precincts.invariant.whole
          (c.in_ok-write_filled_precinct.ensures.written ∙ ap (λ (l : List ℕ). c.precincts.out ++ l) piece);
      room = c.write_filled_precinct.ensures.room;
    }

pub returns-clause-whole : goal.returns-clause-whole
returns-clause-whole c =
    let s = c.args.planned.now.at in
    let h = s.header.now in
    let slice = c.args.planned.now.slice in
    let first = c.slice_precincts-first.result.0 in
    let end = c.slice_precincts-first.result.1 in
    let are : AreOf h slice first end = record {
      first_is = c.slice_precincts-first.ensures.first ∙ ap (λ (g : Header). slice * g.hsl) c.requires.rows.geometry;
      end_is = c.slice_precincts-first.ensures.end ∙ ap (λ (g : Header). min ((slice + 1) * g.hsl) (precinct_count g)) c.requires.rows.geometry;
    } in
    slice_is h (content_in s) (modes_in s) (last_filler h slice c.args.planned.now.filler) slice first end c.precincts.precinct c.precincts.out are c.precincts-test.false c.precincts.invariant.whole
