use Rattle.std.proofs.Common.{ℕ, ◌+◌, ◌-◌, ◌*◌, ◌^◌, ◌<◌, ap, ◌∙◌, arith}
use Rattle.std.specs.Prelude.{bit_and}
use Rattle.xs_planes.specs.Numbers.{column_in, lanes_of}
use Rattle.xs_planes.proofs.Gather.{column_small, lanes_masked, lanes_signed, sign_mask}
use Rattle.xs_planes.proofs.read.signed_lanes.Goals as goal

pub returns : goal.returns
returns c = λ value e small.
    let bit = column_in 1 c.args.signs in
    let two : (k : ℕ) → bit k < 2 = λ k. column_small 1 c.args.signs k in
    let wide : (k : ℕ) → k < 4 → value k < 2 ^ 16 = λ k inside. (let h = small k inside in omega (arith, h)) in
    let negative = bit_and c.args.magnitudes (c.entry-mask.result * 65535) in
    ap (λ m. 9223512776490647552 + m - 2 * negative) e
    ∙ lanes_signed value bit negative small two
    (ap (λ m. bit_and m (c.entry-mask.result * 65535)) e ∙ ap (bit_and (lanes_of value)) (ap (λ n. n * 65535) c.entry-mask.ensures.value ∙ sign_mask c.args.signs c.requires.signs) ∙ lanes_masked value bit wide two)
