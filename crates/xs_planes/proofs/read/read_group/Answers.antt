use Rattle.std.proofs.Common.{◌≡◌, ◌<◌, ◌+◌, ◌-◌, ◌*◌, ◌/◌, ◌%◌, ◌^◌, ◌++◌, length, sym, ap, subst, ◌∙◌, arith, length-append}
use Rattle.xs_bits.specs.Reading.{left}
use Rattle.xs_lists.specs.Bits.{bits_of}
use Rattle.xs_lists.proofs.Bits.{length-bits_of}
use Rattle.xs_planes.specs.Numbers.{column_in, lanes_of}
use Rattle.xs_planes.proofs.Gather.{lanes_below}
use Rattle.xs_planes.proofs.Levels.{columns_below, group_read, group_small, sign_nibble}
use Rattle.xs_planes.proofs.read.read_group.Goals as goal

pub signed_lanes-requires-clause-signs : goal.signed_lanes-requires-clause-signs
signed_lanes-requires-clause-signs c =
    let fits = subst (λ k. c.in_ok-number.number < 2 ^ k) c.group_width.ensures.size c.in_ok-number.ensures.fits in
    subst (λ n. c.in_ok-number.number / 2 ^ (4 * n) < 16) (sym c.from-width.ensures) (sign_nibble c.args.signs_apart c.args.planes c.in_ok-number.number fits)

pub signed_lanes-requires-clause-few : goal.signed_lanes-requires-clause-few
signed_lanes-requires-clause-few c =
    lanes_below (column_in c.args.planes c.low_bits.result) c.gathered-magnitudes.result (λ k inside. columns_below c.args.planes c.low_bits.result k c.requires.few) c.gathered-magnitudes.ensures

pub returns-clause-read : goal.returns-clause-read
returns-clause-read c = λ k inside.
    let apart = c.args.signs_apart in
    let planes = c.args.planes in
    let v = c.in_ok-number.number in
    let bits = left c.args.input.now in
    let rest = left c.read_number.new.input in
    let fits = subst (λ k. v < 2 ^ k) c.group_width.ensures.size c.in_ok-number.ensures.fits in
    let read = c.in_ok-number.ensures.value ∙ ap (λ k. bits_of k v ++ rest) c.group_width.ensures.size in
    let low : c.low_bits.result ≡ v % 2 ^ (4 * planes) = c.low_bits.ensures ∙ ap (λ n. v % 2 ^ (4 * n)) c.from-width.ensures in
    let word = c.signed_lanes.ensures (column_in planes (v % 2 ^ (4 * planes))) (c.gathered-magnitudes.ensures ∙ ap (λ q. lanes_of (column_in planes q)) low) (λ k inside. columns_below planes (v % 2 ^ (4 * planes)) k c.requires.few)
    ∙ ap (λ n. lanes_of (λ k. 2 ^ 15 + column_in planes (v % 2 ^ (4 * planes)) k - 2 * (column_in 1 (v / 2 ^ (4 * n)) k * column_in planes (v % 2 ^ (4 * planes)) k))) c.from-width.ensures in
    group_read apart planes v c.signed_lanes.result k bits rest c.requires.few fits read word inside

pub returns-clause-small : goal.returns-clause-small
returns-clause-small c = λ k inside.
    let v = c.in_ok-number.number in
    let rest = left c.read_number.new.input in
    let fits = subst (λ k. v < 2 ^ k) c.group_width.ensures.size c.in_ok-number.ensures.fits in
    let read = c.in_ok-number.ensures.value ∙ ap (λ k. bits_of k v ++ rest) c.group_width.ensures.size in
    group_small c.args.signs_apart c.args.planes v k (left c.args.input.now) rest fits read inside

pub returns-clause-enough : goal.returns-clause-enough
returns-clause-enough c =
    let width = c.group_width.result in
    let v = c.in_ok-number.number in
    let rest = left c.read_number.new.input in
    let size : length (left c.args.input.now) ≡ width + length rest = ap length c.in_ok-number.ensures.value ∙ length-append (bits_of width v) rest ∙ ap (λ n. n + length rest) (length-bits_of width v) in
    omega (arith, size, c.group_width.ensures.size)
