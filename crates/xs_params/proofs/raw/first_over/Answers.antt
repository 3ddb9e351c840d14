use Rattle.std.proofs.Common.{rules, ◌∙◌, sym, nat_lt, tests, List, ℕ}
use Rattle.std.proofs.lemmas.Iterator.{YieldsList-from_slice}
use Rattle.std.proofs.lemmas.Iterator.Search.{position_from_yields_List}
use Rattle.std.specs.Int.{from_le_bytes, w16}
use Rattle.xs_params.specs.Picture.{pair_numbers}
use Rattle.xs_params.proofs.Rows.{none_passes, position-map}
use Rattle.xs_params.proofs.raw.first_over.Goals as goal

pub returns-then-not-is_any_over : goal.returns-then-not-is_any_over
returns-then-not-is_any_over c = sym (none_passes (nat_lt c.args.most) (pair_numbers c.args.pairs.now) (cc (c.is_any_over.ensures, c.if-not-is_any_over.true)))

pub returns : goal.returns
returns c =
    let pairs = c.args.pairs.now in
    let found = position_from_yields_List (λ (pair : List ℕ). nat_lt c.args.most (from_le_bytes w16 pair)) _ _ c.position.result c.position.ensures.ran (YieldsList-from_slice pairs cc) (λ x b q k. search (rules, tests)) in
    found ∙ position-map (from_le_bytes w16) (nat_lt c.args.most) pairs
