use Rattle.std.proofs.Common.{◌≡◌, length, sym, ap, subst, ◌∙◌, arith}
use Rattle.std.specs.Prelude.{Ok}
use Rattle.std.proofs.lemmas.Grind.{common_steps}
use Rattle.std.proofs.lemmas.Result.{err_from_is_err_and}
use Rattle.xs_bits.specs.Reading.{left}
use Rattle.xs_counts.specs.Known.{flag_of, known_line}
use Rattle.xs_spelling.specs.Reading.{read_line_counts}
use Rattle.xs_precinct.specs.Bands.{Band, Knows}
use Rattle.xs_precinct.proofs.Coded.{line_known}
use Rattle.xs_precinct.proofs.read.band.BandState.read_counts.Goals as goal

pub returns-in_err-read_line-clause-refused : goal.returns-in_err-read_line-clause-refused
returns-in_err-read_line-clause-refused c =
    let p = err_from_is_err_and c.from_residual.result c.from_residual.ensures.1 in
    let room = c.self.invariant.3 in
    let n : length c.as_mut_slice.result.now ≡ length c.self.inside.counts = omega (arith, ap length c.as_mut_slice.ensures.value, room.line) in
    let band : Band = record { there = c.self.inside.there; above_cut = c.self.inside.above_t; counts = c.self.inside.counts; mode = c.self.inside.mode; cut = c.self.inside.t; values = c.self.inside.values.items } in
    rw (p.1, p.2) (λ line known.
    sym (line_known c.args.form.raw c.args.form.run_mode c.coded_mode-mode.result band c.predictor_of.result c.read_flags.new.flags (left c.args.flags.now) (left c.read_flags.new.input) (left c.args.input.now) line (subst (λ (b : Band). Knows b line) (sym c.self.view_is) known)
    c.coded_mode-mode.ensures.mode c.predictor_of.ensures.prediction c.predictor_of.ensures.cut (c.read_flags.ensures.count ∙ room.flags) c.read_flags.ensures.read)
    ∙ ap (λ k. read_line_counts c.args.form.raw c.args.form.run_mode (known_line k c.predictor_of.result c.coded_mode-mode.result) (flag_of c.read_flags.new.flags) (left c.args.input.now)) (sym n) ∙ c.in_err-read_line.ensures.refused)

pub returns-clause-read : goal.returns-clause-read
returns-clause-read c =
    let room = c.self.invariant.3 in
    let n : length c.as_mut_slice.result.now ≡ length c.self.inside.counts = omega (arith, ap length c.as_mut_slice.ensures.value, room.line) in
    let band : Band = record { there = c.self.inside.there; above_cut = c.self.inside.above_t; counts = c.self.inside.counts; mode = c.self.inside.mode; cut = c.self.inside.t; values = c.self.inside.values.items } in
    λ line known.
    sym (line_known c.args.form.raw c.args.form.run_mode c.coded_mode-mode.result band c.predictor_of.result c.read_flags.new.flags (left c.args.flags.now) (left c.read_flags.new.input) (left c.args.input.now) line (subst (λ (b : Band). Knows b line) (sym c.self.view_is) known)
    c.coded_mode-mode.ensures.mode c.predictor_of.ensures.prediction c.predictor_of.ensures.cut (c.read_flags.ensures.count ∙ room.flags) c.read_flags.ensures.read)
    ∙ ap (λ k. read_line_counts c.args.form.raw c.args.form.run_mode (known_line k c.predictor_of.result c.coded_mode-mode.result) (flag_of c.read_flags.new.flags) (left c.args.input.now)) (sym n) ∙ c.in_ok-read_line.ensures.read
    ∙ ap (λ l. Ok (l, left c.read_line.new.input)) (grind (arith, common_steps))
