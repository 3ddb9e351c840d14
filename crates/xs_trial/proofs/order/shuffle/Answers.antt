use Rattle.std.proofs.Common.{◌≡◌, ◌+◌, ◌*◌, ◌-◌, ◌++◌, length, length-append, drop, sym, ap, subst, ◌∙◌, arith}
use Rattle.std.specs.Prelude.{IfOk}
use Rattle.std.proofs.lemmas.List.{take_at}
use Rattle.std.proofs.lemmas.List.FromFn.{length-range_with_len}
use Rattle.xs_lists.specs.Spelling.{upto}
use Rattle.xs_trial.specs.Generator.{shuffle_of, shuffled}
use Rattle.xs_trial.proofs.Mixing.{length-shuffled}
use Rattle.xs_trial.proofs.order.shuffle.Goals as goal

pub mix-requires : goal.mix-requires
mix-requires c =
    let n = c.args.count in
    let size : length c.as_mut_slice.result.now ≡ n + n =
    ap length (c.as_mut_slice.ensures.value ∙ c.in_ok-entries.ensures) ∙ length-append (upto n) (upto n) ∙ omega (arith, length-range_with_len 0 n) in
    omega (arith, size, c.requires)

pub returns : goal.returns
returns c =
    let n = c.args.count in
    let listed = c.as_mut_slice.result.now in
    let mixed = c.mix.new.entries in
    let items = c.in_ok-entries.entries.items in
    let state = c.args.state in
    let twice : length (upto n ++ upto n) - 1 ≡ 2 * n - 1 = omega (arith, length-append (upto n) (upto n), length-range_with_len 0 n) in
    let size : length mixed ≡ c.in_ok-entries.entries.len =
    ap length c.mix.ensures ∙ length-shuffled (length listed - 1) state listed ∙ ap length c.as_mut_slice.ensures.value ∙ sym c.in_ok-entries.entries.ok.0 in
    let order : c.as_slice.result.now ≡ shuffle_of n state =
    c.as_slice.ensures.value ∙ take_at mixed (drop (length mixed) items) c.in_ok-entries.entries.len size ∙ c.mix.ensures
    ∙ ap (λ l. shuffled (length l - 1) state l) (c.as_mut_slice.ensures.value ∙ c.in_ok-entries.ensures) ∙ ap (λ k. shuffled k state (upto n ++ upto n)) twice in
    subst (λ l. IfOk c.from_slice.result (λ order. order ≡ l)) order c.from_slice.ensures.copied
