use Rattle.std.proofs.Common.{◌≡◌, ℕ, ◌-◌, ◌<◌, List, ◌∷◌, ◌++◌, length, map, ap, ◌∙◌, arith}
use Rattle.std.specs.Prelude.{slice_index_or}
use Rattle.std.specs.List.{flat_map, range_with_len}
use Rattle.std.proofs.lemmas.List.{get_or_default}
use Rattle.xs_lists.specs.Bits.{bits_of}
use Rattle.xs_lists.specs.Spelling.{upto}
use Rattle.xs_lists.proofs.Ranges.{bits_first}
use Rattle.xs_grammar.specs.Coded.{field_bytes}
use Rattle.xs_precinct_write.specs.Outgoing.{Outgoing, no_outgoing}
use Rattle.xs_precinct_write.proofs.Heads.{precinct_head}
use Rattle.xs_precinct_write.proofs.Joined.{none_left, whole_put}
use Rattle.xs_precinct_write.proofs.Precincts.{head_finished}
use Rattle.xs_precinct_write.proofs.write.precinct.with_head.Goals as goal

pub modes-preserved : goal.modes-preserved
modes-preserved c =
    let lines = c.args.lines.now in
    let f : ℕ → List ℕ = λ band. bits_of 2 (slice_index_or lines band no_outgoing).mode in
    let inside : c.modes.band < length lines = c.modes-test.true in
    let value = c.from-in-modes.ensures ∙ c.mode.ensures.mode ∙ ap (λ (x : Outgoing). x.mode) (c.index-lines-band.is ∙ get_or_default lines c.modes.band c.index-lines-band.result no_outgoing inside) in
    record {
      whole = bits_first f c.modes.band (length lines) c.modes.out.bits c.put-in-modes.new.self.bits (c.put-3.new.self.bits ++ flat_map f (range_with_len 0 (length lines - 0))) inside c.modes.invariant.whole
          (c.put-in-modes.ensures.bits ∙ ap (λ v. c.modes.out.bits ++ bits_of 2 v) value);
      spare = omega (arith, c.modes.invariant.spare, c.put-in-modes.ensures.spare);
    }

pub returns : goal.returns
returns c =
    let lines = c.args.lines.now in
    let mode : ℕ → ℕ = λ band. (slice_index_or lines band no_outgoing).mode in
    let f : ℕ → List ℕ = λ band. bits_of 2 (mode band) in
    let empty = c.in_ok-reserve.ensures.same ∙ c.new-out.ensures.empty in
    let size : length lines - 0 ≡ length lines = omega arith in
    let modes = whole_put (c.put-3.new.self.bits ++ flat_map f (range_with_len 0 (length lines - 0))) c.modes.out.bits _ c.modes.invariant.whole (none_left f c.modes.band (length lines) (omega (arith, c.modes-test.false)))
    ∙ ap (λ n. c.put-3.new.self.bits ++ flat_map f (range_with_len 0 n)) size in
    let put = precinct_head c.reserve.new.self.bits c.put.new.self.bits c.put-2.new.self.bits c.put-3.new.self.bits c.modes.out.bits c.len.result c.from.result c.from-2.result (length lines) mode c.put.ensures.bits c.put-2.ensures.bits c.put-3.ensures.bits modes in
    let head = head_finished c.finish-whole.result c.reserve.new.self.bits c.modes.out.bits c.align.new.self.bits ((24, c.len.result) ∷ (8, c.from.result) ∷ (8, c.from-2.result) ∷ map (λ band. (2, mode band)) (upto (length lines)))
    c.finish-whole.ensures.bytes c.finish-whole.ensures.bits empty put c.align.ensures.bits in
    let rest = map (λ band. (2, mode band)) (upto (length lines)) in
    let fields = ap (λ n. field_bytes ((24, n) ∷ (8, c.from.result) ∷ (8, c.from-2.result) ∷ rest)) c.len.ensures.count
    ∙ ap (λ n. field_bytes ((24, length c.args.body.now) ∷ (8, n) ∷ (8, c.from-2.result) ∷ rest)) c.from.ensures
    ∙ ap (λ n. field_bytes ((24, length c.args.body.now) ∷ (8, c.args.candidate.q) ∷ (8, n) ∷ rest)) c.from-2.ensures in
    c.in_ok-extend.ensures.appended ∙ ap (λ l. l ++ c.as_slice.result.now) (head ∙ fields) ∙ ap (λ l. field_bytes ((24, length c.args.body.now) ∷ (8, c.args.candidate.q) ∷ (8, c.args.candidate.r) ∷ rest) ++ l) c.as_slice.ensures.items
