use Rattle.std.proofs.Common.{◌≡◌, ◌+◌, ◌-◌, ◌≤◌, length, drop, Ok, None, Some, false, arith, sym, ap, ◌∙◌}
use Rattle.std.specs.Prelude.{slice_range}
use Rattle.std.specs.Result.{result_ok}
use Rattle.std.proofs.lemmas.List.{length-take-le, length-drop}
use Rattle.std.proofs.lemmas.Result.{IfOk-at_ok}
use Rattle.xs_rtp.specs.Packet.{rtp_read}
use Rattle.xs_rtp.specs.Payload.{pay_of}
use Rattle.xs_capture.specs.Offers.{is_offered}
use Rattle.xs_capture.specs.Heads.{offer_by}
use Rattle.xs_capture.proofs.Heading.{enough_of, is_offer, is_short, not_offered, not_rtp, too_short}
use Rattle.xs_capture.proofs.offers.head_of.Goals as goal

pub returns-in_err-rtp-clause-offer : goal.returns-in_err-rtp-clause-offer
returns-in_err-rtp-clause-offer c =
    let none : result_ok (rtp_read c.args.packet.now) ≡ None = grind (arith, c.read.ensures.read, c.ok.ensures.value, c.in_err-rtp.is, c.in_err-rtp.was) in
    rw c.from_residual.ensures (not_rtp c.args.packet.now none)

pub returns-in_err-pay-clause-offer : goal.returns-in_err-pay-clause-offer
returns-in_err-pay-clause-offer c =
    let read : rtp_read c.args.packet.now ≡ Ok (c.in_ok-rtp.rtp, c.in_ok-rtp.begin, c.in_ok-rtp.end) = grind (arith, c.read.ensures.read, c.ok.ensures.value, c.in_ok-rtp.is) in
    let none : result_ok c.read-2.result ≡ None = grind (arith, c.ok-2.ensures.value, c.in_err-pay.is, c.in_err-pay.was) in
    rw c.from_residual-in_err-pay.ensures
    (too_short c.args.packet.now c.in_ok-rtp.rtp c.in_ok-rtp.begin c.in_ok-rtp.end read (is_short c.read-2.result (slice_range c.args.packet.now c.in_ok-rtp.begin c.in_ok-rtp.end) c.read-2.ensures.short none))

pub returns-then-not-is_offered-clause-offer : goal.returns-then-not-is_offered-clause-offer
returns-then-not-is_offered-clause-offer c =
    let read : rtp_read c.args.packet.now ≡ Ok (c.in_ok-rtp.rtp, c.in_ok-rtp.begin, c.in_ok-rtp.end) = grind (arith, c.read.ensures.read, c.ok.ensures.value, c.in_ok-rtp.is) in
    let pay : c.read-2.result ≡ Ok c.in_ok-pay.pay = grind (arith, c.ok-2.ensures.value, c.in_ok-pay.is) in
    let payload = slice_range c.args.packet.now c.in_ok-rtp.begin c.in_ok-rtp.end in
    let other : is_offered c.in_ok-pay.pay ≡ false = sym c.is_offered.ensures ∙ c.if-not-is_offered.true in
    not_offered c.args.packet.now c.in_ok-rtp.rtp c.in_ok-rtp.begin c.in_ok-rtp.end c.in_ok-pay.pay read
    (enough_of c.read-2.result c.in_ok-pay.pay (slice_range c.args.packet.now c.in_ok-rtp.begin c.in_ok-rtp.end) pay c.read-2.ensures.short)
    (IfOk-at_ok (λ p. p ≡ pay_of (slice_range c.args.packet.now c.in_ok-rtp.begin c.in_ok-rtp.end)) pay c.read-2.ensures.read) other

pub returns-clause-offer : goal.returns-clause-offer
returns-clause-offer c =
    let read : rtp_read c.args.packet.now ≡ Ok (c.in_ok-rtp.rtp, c.in_ok-rtp.begin, c.in_ok-rtp.end) = grind (arith, c.read.ensures.read, c.ok.ensures.value, c.in_ok-rtp.is) in
    let pay : c.read-2.result ≡ Ok c.in_ok-pay.pay = grind (arith, c.ok-2.ensures.value, c.in_ok-pay.is) in
    let enough = enough_of c.read-2.result c.in_ok-pay.pay (slice_range c.args.packet.now c.in_ok-rtp.begin c.in_ok-rtp.end) pay c.read-2.ensures.short in
    let known : c.read.result ≡ Ok (c.in_ok-rtp.rtp, c.in_ok-rtp.begin, c.in_ok-rtp.end) = c.read.ensures.read ∙ read in
    let places = IfOk-at_ok (λ r. (r.1 ≤ r.2) × (r.2 ≤ length c.args.packet.now)) known c.read.ensures.places in
    let room : c.in_ok-rtp.end - c.in_ok-rtp.begin ≤ length (drop c.in_ok-rtp.begin c.args.packet.now) = omega (arith, places, length-drop c.in_ok-rtp.begin c.args.packet.now) in
    let size : length (slice_range c.args.packet.now c.in_ok-rtp.begin c.in_ok-rtp.end) ≡ c.in_ok-rtp.end - c.in_ok-rtp.begin = length-take-le (c.in_ok-rtp.end - c.in_ok-rtp.begin) (drop c.in_ok-rtp.begin c.args.packet.now) room in
    let inside : c.in_ok-rtp.begin + 4 ≤ c.in_ok-rtp.end = omega (arith, enough, size) in
    is_offer c.args.packet.now c.in_ok-rtp.rtp c.in_ok-rtp.begin c.in_ok-rtp.end c.in_ok-pay.pay c.unit_of.result read inside enough
    (IfOk-at_ok (λ p. p ≡ pay_of (slice_range c.args.packet.now c.in_ok-rtp.begin c.in_ok-rtp.end)) pay c.read-2.ensures.read) (sym c.is_offered.ensures ∙ c.if-not-is_offered.false) c.unit_of.ensures.unit
    ∙ ap (λ n. Some (offer_by c.args.packet.now (record { timestamp = c.in_ok-rtp.rtp.timestamp; unit = c.unit_of.result; place = n; last = c.in_ok-pay.pay.last; first = c.in_ok-rtp.begin + 4; end = c.in_ok-rtp.end }))) (sym c.from.ensures)
