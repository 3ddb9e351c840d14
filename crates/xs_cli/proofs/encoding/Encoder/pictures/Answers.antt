use Rattle.std.proofs.Common.{◌≡◌, Option, ◌∙◌, ◌+◌, ◌*◌, ◌%◌, ◌^◌, ◌≤◌, ℕ, List, length, Ok, Err, ap, sym, subst, arith, rules}
use Rattle.std.proofs.lemmas.Grind.{common_steps}
use Rattle.std.proofs.lemmas.Bool.Decides.{nat_tests}
use Rattle.xs_layout.specs.declared.Shape.{Shape}
use Rattle.xs_params.specs.declared.settings.Settings.{Settings}
use Rattle.xs_params.specs.Picture.{IsShape, raw_size}
use Rattle.xs_capture.specs.Pictures.{most_pictures}
use Rattle.xs_endings.specs.Ends.{change_of, untouched}
use Rattle.xs_endings.specs.Turns.{Before, IsTaken}
use Rattle.xs_cli.specs.Encoded.{encode_turn, too_many}
use Rattle.xs_cli.specs.Places.{before_of}
use Rattle.xs_cli.specs.declared.raw_input.RawPicture.{RawPicture}
use Rattle.xs_cli.specs.RawRead.{IsRawRead}
use Rattle.xs_cli.specs.Steps.{IsRead}
use Rattle.xs_cli.proofs.Written.{HasWritten, cut, done, none_there, nothing_written, one_more, own_too_many, room_for, some_raw, told, too_many_behind, unread}
use Rattle.xs_cli.proofs.RawTaken.{raw_some}
use Rattle.xs_cli.proofs.encoding.Encoder.pictures.Goals as goal

pub pictures-init : goal.pictures-init
pictures-init g c =
    let s = c.args.self.now.settings.now in
    let none : 0 ≡ 0 * raw_size s.shape = omega arith in
    let a = g.R.Source.left c.args.input.now in
    let p = g.W.Sink.held c.args.output.now in
    let f = g.R.Source.faults c.args.input.now in
    let u = g.W.Sink.faults c.args.output.now in
    subst (λ (n : ℕ). HasWritten s c.args.self.now.form (untouched a f) (untouched p u) (record { pictures = 0; bytes = n; sequence = 0 })) none (nothing_written s c.args.self.now.form a p f u)

pub returns-in_err-raw : goal.returns-in_err-raw
returns-in_err-raw g c = λ held faults.
    let s = c.args.self.now.settings.now in
    let e : c.from_residual.result ≡ Err c.in_err-raw.field-0.0 = search rules in
    let size : c.raw_size-size.result ≡ raw_size s.shape = c.raw_size-size.ensures.size ∙ ap (λ (t : Settings). raw_size t.shape) c.settings.ensures.settings in
    let room = room_for c.pictures.picture (raw_size s.shape) c.pictures-test.true in
    let same : c.settings.result.now.shape ≡ s.shape = ap (λ (t : Settings). t.shape) c.settings.ensures.settings in
    let read = subst (λ (t : Shape). IsRawRead t (change_of (g.R.Source.left c.pictures.input) (g.R.Source.left c.read_raw.new.input) (g.R.Source.faults c.pictures.input) (g.R.Source.faults c.read_raw.new.input)) (Err c.in_err-raw.field-0.0)) same c.in_err-raw.ensures.read in
    rw e (unread s c.args.self.now.form (g.R.Source.left c.args.input.now) (g.R.Source.left c.pictures.input) (g.R.Source.left c.read_raw.new.input) (g.W.Sink.held c.args.output.now) (g.W.Sink.held c.pictures.output) (g.W.Sink.held c.pictures.output) (g.R.Source.faults c.args.input.now) (g.R.Source.faults c.pictures.input) (g.R.Source.faults c.read_raw.new.input) (g.W.Sink.faults c.args.output.now) (g.W.Sink.faults c.pictures.output) (g.W.Sink.faults c.pictures.output) _ c.pictures.invariant (raw_size s.shape) c.in_err-raw.field-0.0 room (omega arith) read held faults)

pub returns-in_default : goal.returns-in_default
returns-in_default g c = λ held faults.
    let s = c.args.self.now.settings.now in
    let size : c.raw_size-size.result ≡ raw_size s.shape = c.raw_size-size.ensures.size ∙ ap (λ (t : Settings). raw_size t.shape) c.settings.ensures.settings in
    let room = room_for c.pictures.picture (raw_size s.shape) c.pictures-test.true in
    let shape : IsShape s.shape = search rules in
    let same : c.settings.result.now.shape ≡ s.shape = ap (λ (t : Settings). t.shape) c.settings.ensures.settings in
    let found = subst (λ (t : Shape). IsRawRead t (change_of (g.R.Source.left c.pictures.input) (g.R.Source.left c.read_raw.new.input) (g.R.Source.faults c.pictures.input) (g.R.Source.faults c.read_raw.new.input)) (Ok c.in_ok-raw.field-0)) same c.in_ok-raw.ensures.read in
    let read' = subst (λ (o : Option RawPicture). IsRawRead s.shape (change_of (g.R.Source.left c.pictures.input) (g.R.Source.left c.read_raw.new.input) (g.R.Source.faults c.pictures.input) (g.R.Source.faults c.read_raw.new.input)) (Ok o)) c.in_default.is found in
    done s c.args.self.now.form (g.R.Source.left c.args.input.now) (g.R.Source.left c.pictures.input) (g.R.Source.left c.read_raw.new.input) (g.W.Sink.held c.args.output.now) (g.W.Sink.held c.pictures.output) (g.W.Sink.held c.pictures.output) (g.R.Source.faults c.args.input.now) (g.R.Source.faults c.pictures.input) (g.R.Source.faults c.read_raw.new.input) (g.W.Sink.faults c.args.output.now) (g.W.Sink.faults c.pictures.output) (g.W.Sink.faults c.pictures.output) _ c.pictures.invariant (raw_size s.shape) (some_raw s.shape shape) room read' held faults

pub returns-in_err-packets : goal.returns-in_err-packets
returns-in_err-packets g c = λ held faults.
    let s = c.args.self.now.settings.now in
    let e : c.from_residual-in_err-packets.result ≡ Err c.in_err-packets.field-0.0 = search rules in
    let size : c.raw_size-size.result ≡ raw_size s.shape = c.raw_size-size.ensures.size ∙ ap (λ (t : Settings). raw_size t.shape) c.settings.ensures.settings in
    let room = room_for c.pictures.picture (raw_size s.shape) c.pictures-test.true in
    let same : c.settings.result.now.shape ≡ s.shape = ap (λ (t : Settings). t.shape) c.settings.ensures.settings in
    let found = subst (λ (t : Shape). IsRawRead t (change_of (g.R.Source.left c.pictures.input) (g.R.Source.left c.read_raw.new.input) (g.R.Source.faults c.pictures.input) (g.R.Source.faults c.read_raw.new.input)) (Ok c.in_ok-raw.field-0)) same c.in_ok-raw.ensures.read in
    let read = subst (λ (o : Option RawPicture). IsRawRead s.shape (change_of (g.R.Source.left c.pictures.input) (g.R.Source.left c.read_raw.new.input) (g.R.Source.faults c.pictures.input) (g.R.Source.faults c.read_raw.new.input)) (Ok o)) c.in-Some.is found in
    let place : before_of c.place_of-place.result ≡ record { pictures = c.pictures.picture; bytes = c.pictures.picture * raw_size s.shape; sequence = c.pictures.sequence } =
    c.place_of-place.ensures.place ∙ ap (λ (n : ℕ). record { pictures = c.pictures.picture; bytes = c.pictures.picture * n; sequence = c.pictures.sequence }) size in
    let output = change_of (g.W.Sink.held c.pictures.output) (g.W.Sink.held c.put.new.output) (g.W.Sink.faults c.pictures.output) (g.W.Sink.faults c.put.new.output) in
    let taken = c.in_err-packets.ensures.taken read.0 read.3 in
    let taken' = subst (λ (at : Before). IsTaken output (encode_turn s c.args.self.now.form at read.0) (Err c.in_err-packets.field-0.0)) place taken in
    rw e (cut s c.args.self.now.form (g.R.Source.left c.args.input.now) (g.R.Source.left c.pictures.input) (g.R.Source.left c.read_raw.new.input) (g.W.Sink.held c.args.output.now) (g.W.Sink.held c.pictures.output) (g.W.Sink.held c.put.new.output) (g.R.Source.faults c.args.input.now) (g.R.Source.faults c.pictures.input) (g.R.Source.faults c.read_raw.new.input) (g.W.Sink.faults c.args.output.now) (g.W.Sink.faults c.pictures.output) (g.W.Sink.faults c.put.new.output) _ c.pictures.invariant read.0 c.in_err-packets.field-0.0 room (raw_some s.shape c.in-Some.raw read.0 read.3) c.pictures-test.true read.1 read.2 taken' c.in_err-packets.ensures.own held faults)

pub pictures-preserved : goal.pictures-preserved
pictures-preserved g c =
    let s = c.args.self.now.settings.now in
    let size : c.raw_size-size.result ≡ raw_size s.shape = c.raw_size-size.ensures.size ∙ ap (λ (t : Settings). raw_size t.shape) c.settings.ensures.settings in
    let source = change_of (g.R.Source.left c.args.input.now) (g.R.Source.left c.read_raw.new.input) (g.R.Source.faults c.args.input.now) (g.R.Source.faults c.read_raw.new.input) in
    let whole = change_of (g.W.Sink.held c.args.output.now) (g.W.Sink.held c.put.new.output) (g.W.Sink.faults c.args.output.now) (g.W.Sink.faults c.put.new.output) in
    let same : c.settings.result.now.shape ≡ s.shape = ap (λ (t : Settings). t.shape) c.settings.ensures.settings in
    let found = subst (λ (t : Shape). IsRawRead t (change_of (g.R.Source.left c.pictures.input) (g.R.Source.left c.read_raw.new.input) (g.R.Source.faults c.pictures.input) (g.R.Source.faults c.read_raw.new.input)) (Ok c.in_ok-raw.field-0)) same c.in_ok-raw.ensures.read in
    let read = subst (λ (o : Option RawPicture). IsRawRead s.shape (change_of (g.R.Source.left c.pictures.input) (g.R.Source.left c.read_raw.new.input) (g.R.Source.faults c.pictures.input) (g.R.Source.faults c.read_raw.new.input)) (Ok o)) c.in-Some.is found in
    let place : before_of c.place_of-place.result ≡ record { pictures = c.pictures.picture; bytes = c.pictures.picture * raw_size s.shape; sequence = c.pictures.sequence } =
    c.place_of-place.ensures.place ∙ ap (λ (n : ℕ). record { pictures = c.pictures.picture; bytes = c.pictures.picture * n; sequence = c.pictures.sequence }) size in
    let output = change_of (g.W.Sink.held c.pictures.output) (g.W.Sink.held c.put.new.output) (g.W.Sink.faults c.pictures.output) (g.W.Sink.faults c.put.new.output) in
    let taken = c.in_ok-packets.ensures.taken read.0 read.3 in
    let taken' = subst (λ (at : Before). IsTaken output (encode_turn s c.args.self.now.form at read.0) (Ok c.in_ok-packets.packets)) place taken in
    let more = one_more s c.args.self.now.form (g.R.Source.left c.args.input.now) (g.R.Source.left c.pictures.input) (g.R.Source.left c.read_raw.new.input) (g.W.Sink.held c.args.output.now) (g.W.Sink.held c.pictures.output) (g.W.Sink.held c.put.new.output) (g.R.Source.faults c.args.input.now) (g.R.Source.faults c.pictures.input) (g.R.Source.faults c.read_raw.new.input) (g.W.Sink.faults c.args.output.now) (g.W.Sink.faults c.pictures.output) (g.W.Sink.faults c.put.new.output) _ c.pictures.invariant read.0 c.in_ok-packets.packets read.1 read.2 c.read_raw.ensures.later taken' c.put.ensures.later in
    let next : c.pictures.picture * raw_size s.shape + raw_size s.shape ≡ (c.pictures.picture + 1) * raw_size s.shape = omega arith in
    let on = subst (λ (n : ℕ). HasWritten s c.args.self.now.form source whole (record { pictures = c.pictures.picture + 1; bytes = n; sequence = (c.pictures.sequence + c.in_ok-packets.packets) % 2 ^ 16 })) next more in
    subst (λ (n : ℕ). HasWritten s c.args.self.now.form source whole (record { pictures = c.pictures.picture + 1; bytes = (c.pictures.picture + 1) * raw_size s.shape; sequence = n })) (sym c.next_sequence-sequence.ensures) on

pub returns-in_err-more : goal.returns-in_err-more
returns-in_err-more g c = λ held faults.
    let s = c.args.self.now.settings.now in
    let e : c.from_residual-in_err-more.result ≡ Err c.in_err-more.field-0.0 = search rules in
    let shape : IsShape s.shape = search rules in
    let last : c.pictures.picture ≡ 256 = omega (arith, c.pictures-test.false, c.pictures.auto.picture-end) in
    let room : c.pictures.picture * raw_size s.shape + 1 ≤ most_pictures * raw_size s.shape + 1 = omega (arith, ap (λ (n : ℕ). n * raw_size s.shape) last) in
    rw e (unread s c.args.self.now.form (g.R.Source.left c.args.input.now) (g.R.Source.left c.pictures.input) (g.R.Source.left c.read.new.input) (g.W.Sink.held c.args.output.now) (g.W.Sink.held c.pictures.output) (g.W.Sink.held c.pictures.output) (g.R.Source.faults c.args.input.now) (g.R.Source.faults c.pictures.input) (g.R.Source.faults c.read.new.input) (g.W.Sink.faults c.args.output.now) (g.W.Sink.faults c.pictures.output) (g.W.Sink.faults c.pictures.output) _ c.pictures.invariant 1 c.in_err-more.field-0.0 room (some_raw s.shape shape) c.in_err-more.ensures.read held faults)

pub returns-then-is_empty : goal.returns-then-is_empty
returns-then-is_empty g c = λ held faults.
    let s = c.args.self.now.settings.now in
    let last : c.pictures.picture ≡ 256 = omega (arith, c.pictures-test.false, c.pictures.auto.picture-end) in
    let room : c.pictures.picture * raw_size s.shape + 1 ≤ most_pictures * raw_size s.shape + 1 = omega (arith, ap (λ (n : ℕ). n * raw_size s.shape) last) in
    let short : length c.in_ok-more.more ≡ 0 = grind (arith, common_steps, nat_tests, c.is_empty.ensures, c.if-is_empty.true, c.as_slice-byte.ensures.items) in
    let read = subst (λ (l : List ℕ). IsRead 1 (change_of (g.R.Source.left c.pictures.input) (g.R.Source.left c.read.new.input) (g.R.Source.faults c.pictures.input) (g.R.Source.faults c.read.new.input)) (Ok l)) (none_there c.in_ok-more.more short) c.in_ok-more.ensures.read in
    done s c.args.self.now.form (g.R.Source.left c.args.input.now) (g.R.Source.left c.pictures.input) (g.R.Source.left c.read.new.input) (g.W.Sink.held c.args.output.now) (g.W.Sink.held c.pictures.output) (g.W.Sink.held c.pictures.output) (g.R.Source.faults c.args.input.now) (g.R.Source.faults c.pictures.input) (g.R.Source.faults c.read.new.input) (g.W.Sink.faults c.args.output.now) (g.W.Sink.faults c.pictures.output) (g.W.Sink.faults c.pictures.output) _ c.pictures.invariant 1 (omega arith) room read held faults

pub returns : goal.returns
returns g c = λ held faults.
    let s = c.args.self.now.settings.now in
    let last : c.pictures.picture ≡ 256 = omega (arith, c.pictures-test.false, c.pictures.auto.picture-end) in
    let room : c.pictures.picture * raw_size s.shape + 1 ≤ most_pictures * raw_size s.shape + 1 = omega (arith, ap (λ (n : ℕ). n * raw_size s.shape) last) in
    let some : 1 ≤ length c.in_ok-more.more = grind (arith, common_steps, nat_tests, c.is_empty.ensures, c.if-is_empty.false, c.as_slice-byte.ensures.items) in
    let at : Before = record { pictures = c.pictures.picture; bytes = c.pictures.picture * raw_size s.shape; sequence = c.pictures.sequence } in
    told s c.args.self.now.form (g.R.Source.left c.args.input.now) (g.R.Source.left c.pictures.input) (g.R.Source.left c.read.new.input) (g.W.Sink.held c.args.output.now) (g.W.Sink.held c.pictures.output) (g.W.Sink.held c.pictures.output) (g.R.Source.faults c.args.input.now) (g.R.Source.faults c.pictures.input) (g.R.Source.faults c.read.new.input) (g.W.Sink.faults c.args.output.now) (g.W.Sink.faults c.pictures.output) (g.W.Sink.faults c.pictures.output) _ c.pictures.invariant 1 c.in_ok-more.more too_many room c.as_slice-byte.ensures.bytes c.in_ok-more.ensures.read (too_many_behind s c.args.self.now.form at c.in_ok-more.more some (omega (arith, last))) own_too_many c.pictures.invariant.given held faults

pub put-requires-clause-raw : goal.put-requires-clause-raw
put-requires-clause-raw g c =
    let s = c.args.self.now.settings.now in
    let same : c.settings.result.now.shape ≡ s.shape = ap (λ (t : Settings). t.shape) c.settings.ensures.settings in
    let found = subst (λ (t : Shape). IsRawRead t (change_of (g.R.Source.left c.pictures.input) (g.R.Source.left c.read_raw.new.input) (g.R.Source.faults c.pictures.input) (g.R.Source.faults c.read_raw.new.input)) (Ok c.in_ok-raw.field-0)) same c.in_ok-raw.ensures.read in
    let read = subst (λ (o : Option RawPicture). IsRawRead s.shape (change_of (g.R.Source.left c.pictures.input) (g.R.Source.left c.read_raw.new.input) (g.R.Source.faults c.pictures.input) (g.R.Source.faults c.read_raw.new.input)) (Ok o)) c.in-Some.is found in
    λ κs within. (read.0, read.3)
