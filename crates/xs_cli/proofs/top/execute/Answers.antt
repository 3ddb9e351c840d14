use Rattle.std.proofs.Common.{◌≡◌, ◌∙◌, sym, subst, map, None, Some, Err}
use Rattle.std.specs.String.{string_bytes}
use Rattle.xs_notes.specs.declared.note.Note.{Note}
use Rattle.xs_endings.specs.declared.stop.Stop.TheVariants as stop
use Rattle.xs_endings.specs.Ends.{ends_of, untouched}
use Rattle.xs_words.specs.Refusal.{refusal_of}
use Rattle.xs_words.specs.Command.{IsSound}
use Rattle.xs_words.specs.declared.command.Command.TheVariants.{Encode, Decode, Trial}
use Rattle.xs_cli.specs.Steps.{IsExecuted}
use Rattle.xs_cli.proofs.Done.{executed, refused_words}
use Rattle.xs_cli.proofs.TrialSaid.{trial_done}
use Rattle.xs_cli.proofs.top.execute.Goals as goal

pub returns-in-Ok-Encode : goal.returns-in-Ok-Encode
returns-in-Ok-Encode g c =
    let words = map string_bytes c.args.words.now in
    let none : refusal_of words ≡ None = sym c.in-Ok-Encode.ensures.refused in
    executed words (Encode c.in-Ok-Encode.settings c.in-Ok-Encode.form) _ c.run.result none (sym c.in-Ok-Encode.field-0-is ∙ c.in-Ok-Encode.ensures.asked) (c.run.ensures (g.N.Sink.held c.args.notes.now) (g.N.Sink.faults c.args.notes.now))

pub returns-in-Ok-Decode : goal.returns-in-Ok-Decode
returns-in-Ok-Decode g c =
    let words = map string_bytes c.args.words.now in
    let none : refusal_of words ≡ None = sym c.in-Ok-Decode.ensures.refused in
    executed words (Decode c.in-Ok-Decode.form c.in-Ok-Decode.workers c.in-Ok-Decode.feeders) _ c.decode.result none (sym c.in-Ok-Decode.field-0-is ∙ c.in-Ok-Decode.ensures.asked)
    c.decode.ensures

pub decode-requires-clause-some : goal.decode-requires-clause-some
decode-requires-clause-some g c κs within = (subst IsSound c.in-Ok-Decode.field-0-is c.in-Ok-Decode.ensures.sound).1

pub decode-requires-clause-few : goal.decode-requires-clause-few
decode-requires-clause-few g c κs within = (subst IsSound c.in-Ok-Decode.field-0-is c.in-Ok-Decode.ensures.sound).2

pub returns-in-Ok-Trial : goal.returns-in-Ok-Trial
returns-in-Ok-Trial g c =
    let words = map string_bytes c.args.words.now in
    let none : refusal_of words ≡ None = sym c.in-Ok-Trial.ensures.refused in
    executed words (Trial c.in-Ok-Trial.settings c.in-Ok-Trial.seed) _ c.run-in-Ok-Trial.result none (sym c.in-Ok-Trial.field-0-is ∙ c.in-Ok-Trial.ensures.asked)
    (trial_done c.in-Ok-Trial.settings c.in-Ok-Trial.seed (g.R.Source.left c.args.input.now) (g.R.Source.faults c.args.input.now) _ (g.N.Sink.held c.args.notes.now) (g.N.Sink.faults c.args.notes.now) c.run-in-Ok-Trial.result
    c.run-in-Ok-Trial.ensures)

pub run-requires-in-Ok-Trial-clause-boxes : goal.run-requires-in-Ok-Trial-clause-boxes
run-requires-in-Ok-Trial-clause-boxes g c κs within = (subst IsSound c.in-Ok-Trial.field-0-is c.in-Ok-Trial.ensures.sound).0

pub run-requires-in-Ok-Trial-clause-chunk : goal.run-requires-in-Ok-Trial-clause-chunk
run-requires-in-Ok-Trial-clause-chunk g c κs within = (subst IsSound c.in-Ok-Trial.field-0-is c.in-Ok-Trial.ensures.sound).1

pub returns-in-Err : goal.returns-in-Err
returns-in-Err g c =
    let words = map string_bytes c.args.words.now in
    let why : refusal_of words ≡ Some c.in-Err.refusal = sym c.in-Err.ensures.refused in
    let a = g.R.Source.left c.args.input.now in
    let p = g.W.Sink.held c.args.output.now in
    let f = g.R.Source.faults c.args.input.now in
    let n = g.N.Sink.held c.args.notes.now in
    let u = g.W.Sink.faults c.args.output.now in
    let v = g.N.Sink.faults c.args.notes.now in
    subst (λ (note : Note). IsExecuted words (ends_of (untouched a f) (untouched p u) (untouched n v)) (Err (stop.Told note))) (sym c.note_of.ensures) (refused_words words c.in-Err.refusal a p f u n v why)
