use Rattle.std.proofs.Common.{◌≡◌, ◌≤◌, ℕ, ◌+◌, ◌*◌, refl, ap, ◌∙◌, arith}
use Rattle.xs_enc_lanes.proofs.UnderWay.{few_down, given_less, split_less}
use Rattle.xs_enc_lanes.proofs.transform.Transform.forget.Goals as goal

pub forget-requires : goal.forget-requires
forget-requires c = record { few = few_down c.args.self.now.component c.args.self.now c.requires.state }

pub returns : goal.returns
returns c =
    let t = c.args.self.now in
    let state = c.requires.state in
    let e = c.forget.ensures in
    let h = c.args.self.now.component.header.now in
    let end : ℕ = c.slice_precincts-first.result.0 + c.from.result in
    let first : c.slice_precincts-first.result.0 ≡ c.args.slice * h.hsl = c.slice_precincts-first.ensures.first ∙ ap (λ g. c.args.slice * g.hsl) c.of.ensures in
    let later : c.args.self.now.kept ≤ c.slice_precincts-first.result.0 + c.from.result = omega (arith, first, c.requires.kept) in
    let most : c.slice_precincts-first.result.0 + c.from.result ≤ (c.args.slice + 1) * h.hsl = omega (arith, first, c.from.ensures) in
    record {
      state = record {
        same = refl;
        component = state.component;
        rows = state.rows;
        given = given_less t.component t c.forget.new.self end state later e.taken e.same e.chain e.holds;
        most = state.most;
        split = split_less t.component t c.forget.new.self end state later e.same e.all e.bands;
      };
      kept = most;
    }
