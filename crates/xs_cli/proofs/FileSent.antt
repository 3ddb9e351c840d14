-- What is sent in a pcap file is written.
use Rattle.std.proofs.Common.{◌≡◌, ◌≤◌, length, Bool, false, None, subst, arith}
use Rattle.std.specs.Prelude.{nat_lt, MatchBool}
use Rattle.std.proofs.lemmas.Bool.Decides.{nat_tests}
use Rattle.xs_pcap.specs.File.{pcap_fault}
use Rattle.xs_pcap.specs.Wrapped.{wrapped_file}
use Rattle.xs_pcap.proofs.Again.{wrapped_is_unwrapped}
use Rattle.xs_notes.specs.declared.note.Note.TheVariants as note
use Rattle.xs_endings.specs.Said.{only_note}
use Rattle.xs_cli.specs.Captured.{IsCapturedAfter, IsFileAnswer, IsFileUnless, IsUnwrappedAnswer}
use Rattle.xs_cli.specs.CapturedLaws.{FileIsWritten}
use Rattle.xs_words.specs.declared.command.Form.TheVariants.{Rtp}
use Rattle.xs_cli.specs.Decoded.{input_limit}
use Rattle.xs_cli.proofs.CapturedHalts.{after_none}
use Rattle.xs_cli.proofs.CapturedSent.{sent_is_written}
use Rattle.xs_cli.proofs.Done.{within_limit}
use Rattle.xs_cli.proofs.Unwrapping.{capture_parts}

pub file_is_written : FileIsWritten
file_is_written s sent port asked arrived said apart few are same small to fit bytes within answer =
    let file = wrapped_file port arrived in
    let test : nat_lt input_limit (length file) ≡ false = grind (arith, nat_tests) in
    let unless = subst (λ (b : Bool). MatchBool b (said ≡ only_note (note.InputLimit input_limit)) (IsFileAnswer asked file said)) test answer in
    let whole : pcap_fault file ≡ None = wrapped_is_unwrapped.whole port arrived small fit in
    let is : IsUnwrappedAnswer asked file said = subst (λ o. IsFileUnless o asked file said) whole unless in
    let parts = capture_parts file asked is.unwrapped bytes is.file in
    let back = (wrapped_is_unwrapped.unwrapped port asked arrived small to fit is.unwrapped).0 is.file in
    let captured = after_none is.unwrapped.capture said (subst (λ n. IsCapturedAfter n is.unwrapped.capture said) back.1 is.answer) in
    let short : length is.unwrapped.capture ≤ input_limit = omega (arith, parts.1, within) in
    sent_is_written s sent _ is.unwrapped.capture said apart few are same back.0 parts.0 short (within_limit Rtp is.unwrapped.capture said short captured)
