use Rattle.std.proofs.Common.{◌≡◌, ◌<◌, ◌+◌, ◌++◌, length, take, Ok, Err, arith, sym, ap, ◌∙◌}
use Rattle.std.specs.Prelude.{slice_range, is_none, if◌then◌else◌}
use Rattle.std.specs.Option.{option_to_list}
use Rattle.std.proofs.lemmas.List.{length-take-le}
use Rattle.std.proofs.lemmas.Result.{err_from_is_err_and}
use Rattle.xs_capture.specs.Capture.{frame_read}
use Rattle.xs_capture.specs.Offers.{offer_of}
use Rattle.xs_capture.proofs.Finding.{are_bytes, cut_here, few_offers, frame_more}
use Rattle.xs_capture.proofs.pictures.find_offers.Goals as goal

pub returns-in_err-first : goal.returns-in_err-first
returns-in_err-first c =
    let inside : c.finding.place < length c.args.bytes.now = omega (arith, c.finding-test.true) in
    let p = err_from_is_err_and c.from_residual.result c.from_residual.ensures.1 in
    let answer : frame_read c.args.bytes.now c.finding.place ≡ Err c.in_err-first.field-0.0 = sym c.read_frame.ensures.read ∙ c.in_err-first.was in
    let all = are_bytes c.args.bytes.now (λ i. omega (arith, c.type_inv.bytes i)) in
    record { found = rw (p.1, p.2) (cut_here c.args.bytes.now c.finding.place c.in_err-first.field-0.0 c.finding.found.packets.items c.finding.found.stepped all inside answer c.finding.invariant.2) }

pub finding-preserved : goal.finding-preserved
finding-preserved c =
    let inside : c.finding.place < length c.args.bytes.now = omega (arith, c.finding-test.true) in
    let all = are_bytes c.args.bytes.now (λ i. omega (arith, c.type_inv.bytes i)) in
    let answer : frame_read c.args.bytes.now c.finding.place ≡ Ok (c.in_ok-first.first, c.in_ok-first.end) = sym c.read_frame.ensures.read ∙ c.in_ok-first.was in
    let packet = slice_range c.args.bytes.now c.in_ok-first.first c.in_ok-first.end in
    let those : c.add.new.self.packets.items ≡ c.finding.found.packets.items ++ option_to_list (offer_of (slice_range c.args.bytes.now c.in_ok-first.first c.in_ok-first.end)) =
    c.in_ok-add.ensures.packets ∙ ap (λ o. c.finding.found.packets.items ++ option_to_list o) c.in_ok-offer_at.ensures in
    let these : c.add.new.self.stepped ≡ c.finding.found.stepped + (if is_none (offer_of (slice_range c.args.bytes.now c.in_ok-first.first c.in_ok-first.end)) then 1 else 0) =
    c.in_ok-add.ensures.stepped ∙ ap (λ o. c.finding.found.stepped + (if is_none o then 1 else 0)) c.in_ok-offer_at.ensures in
    let now = frame_more c.args.bytes.now c.finding.place (c.in_ok-first.first, c.in_ok-first.end) c.finding.found.packets.items c.finding.found.stepped all inside c.in_ok-first.ensures.inside.0 answer c.finding.invariant.2
    c.add.new.self.packets.items c.add.new.self.stepped those these in
    let few = few_offers (take c.in_ok-first.end c.args.bytes.now) c.add.new.self.packets.items c.add.new.self.stepped now in
    let size : length (take c.in_ok-first.end c.args.bytes.now) ≡ c.in_ok-first.end = length-take-le c.in_ok-first.end c.args.bytes.now c.in_ok-first.ensures.inside.2 in
    (c.in_ok-first.ensures.inside.2, omega (arith, few, size), now)
