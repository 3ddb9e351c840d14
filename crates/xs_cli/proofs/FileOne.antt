-- Where offers agree, one thing is said of a pcap file.
use Rattle.std.proofs.Common.{◌≡◌, ℕ, List, None, subst}
use Rattle.xs_pcap.specs.declared.unwrapping.Unwrapped.{Unwrapped}
use Rattle.xs_pcap.specs.File.{pcap_fault}
use Rattle.xs_pcap.specs.Unwrapped.{IsUnwrapped}
use Rattle.xs_pcap.proofs.Files.{file_is_whole}
use Rattle.xs_pcap.proofs.OneCapture.{unwrapped_is_one}
use Rattle.xs_endings.specs.Said.{Said}
use Rattle.xs_cli.specs.Captured.{IsCapturedAfter, IsFileAnswer, IsFileUnless, IsUnwrappedAnswer}
use Rattle.xs_cli.specs.CapturedLaws.{OneFile}
use Rattle.xs_cli.proofs.CapturedOne.{one_after}
use Rattle.xs_cli.proofs.Unwrapping.{capture_parts}

-- the answer is that of the capture, whatever the file is unwrapped to
of_capture : (port : ℕ) (file : List ℕ) (u : Unwrapped) (said : Said) → IsUnwrapped file port u → IsFileAnswer port file said → IsCapturedAfter u.stepped u.capture said
of_capture port file u said is answer =
    let whole : pcap_fault file ≡ None = file_is_whole file is.records is.file in
    let found : IsUnwrappedAnswer port file said = subst (λ o. IsFileUnless o port file said) whole answer in
    let one = unwrapped_is_one.one file port found.unwrapped u found.file is in
    subst (λ n. IsCapturedAfter n u.capture said) one.1 (subst (λ l. IsCapturedAfter found.unwrapped.stepped l said) one.0 found.answer)

pub one_file : OneFile
one_file port asked file other u v packets others said answer is is' whole whole' are same stepped agree x y =
    one_after u.stepped v.stepped packets others u.capture v.capture said answer whole whole' (capture_parts file port u are is).0 same stepped agree
    (of_capture port file u said is x) (of_capture asked other v answer is' y)
