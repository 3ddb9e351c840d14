use Rattle.std.proofs.Common.{◌≡◌, ◌∙◌, length, nat_lt, position, sym, ap, arith}
use Rattle.std.specs.Int.{from_le_bytes, w16}
use Rattle.std.proofs.lemmas.List.{length-map}
use Rattle.xs_params.specs.Picture.{first_deeper, pair_numbers, put_at, samples_of}
use Rattle.xs_params.proofs.Rows.{pair_samples, no_deeper}
use Rattle.xs_params.proofs.raw.put_raw.Goals as goal

pub returns-then-depth-eq8-clause-first : goal.returns-then-depth-eq8-clause-first
returns-then-depth-eq8-clause-first c = sym (no_deeper c.args.depth c.args.bytes.now c.if-depth-eq8.true (λ i. omega (arith, c.type_inv.bytes i)))

pub returns-in-Some-clause-first : goal.returns-in-Some-clause-first
returns-in-Some-clause-first c =
    let pairs : samples_of c.args.depth c.args.bytes.now ≡ pair_numbers c.as_chunks.result.0.now =
    pair_samples c.args.depth c.args.bytes.now c.requires.depth c.if-depth-eq8.false c.requires.whole ∙ ap pair_numbers (sym c.as_chunks.ensures.front) in
    sym c.in-Some.is ∙ c.first_over.ensures ∙ ap (λ n. position (nat_lt n) (pair_numbers c.as_chunks.result.0.now)) c.most_sample.ensures
    ∙ ap (first_deeper c.args.depth) (sym pairs)

pub put_pairs-requires : goal.put_pairs-requires
put_pairs-requires c =
    let pairs : samples_of c.args.depth c.args.bytes.now ≡ pair_numbers c.as_chunks.result.0.now =
    pair_samples c.args.depth c.args.bytes.now c.requires.depth c.if-depth-eq8.false c.requires.whole ∙ ap pair_numbers (sym c.as_chunks.ensures.front) in
    omega (arith, c.requires.room, ap length pairs, length-map c.as_chunks.result.0.now (from_le_bytes w16))

pub returns-clause-first : goal.returns-clause-first
returns-clause-first c =
    let pairs : samples_of c.args.depth c.args.bytes.now ≡ pair_numbers c.as_chunks.result.0.now =
    pair_samples c.args.depth c.args.bytes.now c.requires.depth c.if-depth-eq8.false c.requires.whole ∙ ap pair_numbers (sym c.as_chunks.ensures.front) in
    sym c.in_default.is ∙ c.first_over.ensures ∙ ap (λ n. position (nat_lt n) (pair_numbers c.as_chunks.result.0.now)) c.most_sample.ensures
    ∙ ap (first_deeper c.args.depth) (sym pairs)

pub returns-clause-put : goal.returns-clause-put
returns-clause-put c =
    let pairs : samples_of c.args.depth c.args.bytes.now ≡ pair_numbers c.as_chunks.result.0.now =
    pair_samples c.args.depth c.args.bytes.now c.requires.depth c.if-depth-eq8.false c.requires.whole ∙ ap pair_numbers (sym c.as_chunks.ensures.front) in
    c.put_pairs.ensures ∙ ap (put_at c.args.samples.now c.args.start) (sym pairs)
