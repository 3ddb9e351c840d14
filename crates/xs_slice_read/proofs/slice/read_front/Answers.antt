use Rattle.std.proofs.Common.{◌≡◌, ℕ, ◌+◌, ◌-◌, ◌<◌, ◌≤◌, List, take, drop, length, sym, ap, subst, ◌∙◌, arith, length-drop}
use Rattle.std.specs.Prelude.{replicate, Option, None, Some}
use Rattle.xs_params.specs.declared.header.Header.{Header}
use Rattle.xs_params.specs.Geometry.{bands_of}
use Rattle.xs_geometry.specs.SliceLines.{AreLinesOf, BandLines}
use Rattle.xs_grammar.specs.Precinct.{Content}
use Rattle.xs_precinct.specs.Held.{Last, above_of}
use Rattle.xs_geometry.proofs.WrittenRows.{geometry_kept}
use Rattle.xs_reading.specs.Precinct.{precinct_fault}
use Rattle.xs_precinct.specs.Read.{IsPrecinctRead}
use Rattle.xs_slice_read.proofs.Precincts.{SliceSoFar, are_bytes, end_of, ends_within, fault_after_head, in_slice, none_read, precincts_are, rest_is, slice_done, slice_more, slice_refused}
use Rattle.xs_slice_read.proofs.slice.read_front.Goals as goal

pub precincts-init : goal.precincts-init
precincts-init c =
    let h = c.args.header.now in
    let slice = c.args.slice in
    let are = precincts_are h c.of-geometry.result slice c.slice_precincts-first.result.0 c.slice_precincts-first.result.1 c.of-geometry.ensures c.slice_precincts-first.ensures.first c.slice_precincts-first.ensures.end in
    record {
      lines = (geometry_kept h slice c.in_ok-rows.rows).0 (subst (λ g. AreLinesOf g slice c.in_ok-rows.rows) c.of-geometry.ensures c.in_ok-rows.ensures.lines);
      within = c.if-bytes-lt-HEAD.false;
      read = none_read h slice c.args.bytes.now c.in_ok-above.above c.in_ok-rows.rows c.slice_precincts-first.result.0 are.0 (c.in_ok-above.ensures.fresh ∙ ap (λ n. replicate n None) (c.bands.ensures.count ∙ ap bands_of c.of-geometry.ensures));
    }

pub read_precinct-requires-clause-lines : goal.read_precinct-requires-clause-lines
read_precinct-requires-clause-lines c =
    let h = c.args.header.now in
    let slice = c.args.slice in
    let are = precincts_are h c.of-geometry.result slice c.slice_precincts-first.result.0 c.slice_precincts-first.result.1 c.of-geometry.ensures c.slice_precincts-first.ensures.first c.slice_precincts-first.ensures.end in
    (slice, c.precincts.invariant.lines, in_slice h slice c.precincts.precinct (omega (arith, are.0, c.precincts.auto.precinct)) (omega (arith, are.1, c.precincts-test.true)))

-- a precinct that was read ends within the bytes
size_within : (h : Header) (slice : ℕ) (bytes : List ℕ) (above after : List (Option Last)) (rows into : List BandLines) (at p size : ℕ) → at ≤ length bytes → SliceSoFar h slice bytes above rows at p → p < end_of h slice
    → ((content : Content) → above ≡ above_of h content p → IsPrecinctRead h p content (take (length bytes - at) (drop at bytes)) after rows into size) → at + size ≤ length bytes
size_within h slice bytes above after rows into at p size within so inside read_of =
    let rest = take (length bytes - at) (drop at bytes) in
    let read : IsPrecinctRead h p so.now rest after rows into size = read_of so.now (so.held inside) in
    omega (arith, ends_within h p so.now rest read.no_fault, read.ends, ap length (rest_is at bytes), length-drop at bytes, within)

pub overflow_add-at : goal.overflow_add-at
overflow_add-at c =
    let h = c.args.header.now in
    let slice = c.args.slice in
    let are = precincts_are h c.of-geometry.result slice c.slice_precincts-first.result.0 c.slice_precincts-first.result.1 c.of-geometry.ensures c.slice_precincts-first.ensures.first c.slice_precincts-first.ensures.end in
    let within = size_within h slice c.args.bytes.now c.precincts.above c.read_precinct.new.above c.precincts.rows c.read_precinct.new.into c.precincts.at c.precincts.precinct c.in-Ok.size c.precincts.invariant.within c.precincts.invariant.read (omega (arith, are.1, c.precincts-test.true))
    (λ content e. c.in-Ok.ensures.read content e) in
    omega (arith, within, c.requires.few)

pub returns-in-Err-clause-refused : goal.returns-in-Err-clause-refused
returns-in-Err-clause-refused c = λ other.
    let h = c.args.header.now in
    let slice = c.args.slice in
    let bytes = c.args.bytes.now in
    let at = c.precincts.at in
    let p = c.precincts.precinct in
    let f = c.in-Err.fault in
    let are = precincts_are h c.of-geometry.result slice c.slice_precincts-first.result.0 c.slice_precincts-first.result.1 c.of-geometry.ensures c.slice_precincts-first.ensures.first c.slice_precincts-first.ensures.end in
    let both = c.slice_fault.ensures other in
    fault_after_head h slice bytes c.if-bytes-lt-HEAD.false (c.has_head.ensures.head c.if-not-has_head.false)
    ∙ slice_refused h slice bytes c.precincts.above c.precincts.rows at p f c.precincts.invariant.read (omega (arith, are.1, c.precincts-test.true))
    (λ content e. ap (precinct_fault h p content) (sym (rest_is at bytes)) ∙ c.in-Err.ensures.refused both.0 content e)
    ∙ ap Some (sym both.1)

pub precincts-preserved : goal.precincts-preserved
precincts-preserved c =
    let h = c.args.header.now in
    let slice = c.args.slice in
    let bytes = c.args.bytes.now in
    let at = c.precincts.at in
    let p = c.precincts.precinct in
    let above = c.precincts.above in
    let after = c.read_precinct.new.above in
    let rows = c.precincts.rows in
    let into = c.read_precinct.new.into in
    let size = c.in-Ok.size in
    let are = precincts_are h c.of-geometry.result slice c.slice_precincts-first.result.0 c.slice_precincts-first.result.1 c.of-geometry.ensures c.slice_precincts-first.ensures.first c.slice_precincts-first.ensures.end in
    let inside : p < end_of h slice = omega (arith, are.1, c.precincts-test.true) in
    let lines : AreLinesOf h slice into = c.in-Ok.ensures.lines h slice c.precincts.invariant.lines in
    record {
      lines = lines;
      within = size_within h slice bytes above after rows into at p size c.precincts.invariant.within c.precincts.invariant.read inside (λ content e. c.in-Ok.ensures.read content e);
      read = slice_more h slice bytes above after rows into at p size c.requires.accepted.geometry (omega (arith, are.0, c.precincts.auto.precinct)) inside c.precincts.invariant.lines lines c.precincts.invariant.read
          (λ content e. subst (λ l. IsPrecinctRead h p content l after rows into size) (rest_is at bytes) (c.in-Ok.ensures.read content e));
    }

pub returns-clause-read : goal.returns-clause-read
returns-clause-read c =
    let h = c.args.header.now in
    let slice = c.args.slice in
    let are = precincts_are h c.of-geometry.result slice c.slice_precincts-first.result.0 c.slice_precincts-first.result.1 c.of-geometry.ensures c.slice_precincts-first.ensures.first c.slice_precincts-first.ensures.end in
    slice_done h slice c.args.bytes.now c.precincts.above c.precincts.rows c.precincts.at c.precincts.precinct c.requires.accepted c.requires.there (are_bytes c.args.bytes.now (λ i. omega (arith, c.type_inv.bytes i))) c.if-bytes-lt-HEAD.false (c.has_head.ensures.head c.if-not-has_head.false)
    (omega (arith, are.1, c.precincts-test.false)) c.precincts.invariant.lines c.precincts.invariant.read
