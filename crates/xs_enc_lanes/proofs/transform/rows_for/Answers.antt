use Rattle.std.proofs.Common.{◌≡◌, ◌+◌, ◌*◌, ◌-◌, ◌^◌, ap, ◌∙◌, arith}
use Rattle.xs_enc_lanes.proofs.transform.rows_for.Goals as goal

pub returns : goal.returns
returns c =
    let h = c.args.header.now in
    let first : c.slice_precincts-first.result.0 ≡ c.args.slice * h.hsl = c.slice_precincts-first.ensures.first ∙ ap (λ g. c.args.slice * g.hsl) c.of.ensures in
    let same : c.slice_precincts-first.result.0 + c.from.result + 1 ≡ (c.args.slice + 1) * h.hsl + 1 = omega (arith, first, c.from.ensures) in
    ap (λ n. n - 1) (c.times_power.ensures ∙ ap (λ n. n * 2 ^ h.nly) same)
