use Rattle.std.proofs.Common.{◌≡◌, ◌+◌, ◌^◌, ◌<◌, ◌≤◌, suc, true, if◌then◌else◌, arith, refl, ap, sym, subst, ◌∙◌}
use Rattle.std.proofs.Math.ListN.{set}
use Rattle.std.proofs.lemmas.Bool.{lt-ltb}
use Rattle.std.specs.Vec.{with_item}
use Rattle.xs_signal.specs.Lines.{entries_of, AllBelow}
use Rattle.xs_signal.specs.Stripe.{rows_at}
use Rattle.xs_splitter.specs.Level.{known_rows}
use Rattle.xs_splitter.specs.Chain.{split_of, AreChained, IsNextRow}
use Rattle.xs_splitter.specs.declared.splitter.Splitter.{Splitter}
use Rattle.xs_splitter.proofs.Chains.{next_row, rows_deep}
use Rattle.xs_splitter.proofs.Finishing.{IsFinishing, level_now, mid_chain, room_after, finish_next, finish_all, finish_bands, finish_first}
use Rattle.xs_splitter.proofs.splitter.Splitter.finish.Goals as goal

pub levels-init : goal.levels-init
levels-init c = finish_first c.args.self.now c.requires.chain c.requires.all

pub finish-requires-clause-state : goal.finish-requires-clause-state
finish-requires-clause-state c =
    let less : c.levels.level < c.args.self.now.down = omega (arith, c.levels-test.true, c.levels.auto.level-end) in
    (level_now c.levels.level c.levels.rows c.args.self.now c.levels.self c.index_mut.result.now c.levels.invariant less c.index_mut.ensures.value).state

pub finish-requires-clause-deep : goal.finish-requires-clause-deep
finish-requires-clause-deep c =
    let less : c.levels.level < c.args.self.now.down = omega (arith, c.levels-test.true, c.levels.auto.level-end) in
    let at = level_now c.levels.level c.levels.rows c.args.self.now c.levels.self c.index_mut.result.now c.levels.invariant less c.index_mut.ensures.value in
    at.deep ∙ lt-ltb c.levels.level c.args.self.now.down less

pub finish-requires-clause-all : goal.finish-requires-clause-all
finish-requires-clause-all c =
    let less : c.levels.level < c.args.self.now.down = omega (arith, c.levels-test.true, c.levels.auto.level-end) in
    let at = level_now c.levels.level c.levels.rows c.args.self.now c.levels.self c.index_mut.result.now c.levels.invariant less c.index_mut.ensures.value in
    at.taken ∙ c.levels.invariant.all ∙ sym at.height

pub finish-requires-clause-two : goal.finish-requires-clause-two
finish-requires-clause-two c =
    let s = split_of c.args.self.now in
    let less : c.levels.level < c.args.self.now.down = omega (arith, c.levels-test.true, c.levels.auto.level-end) in
    let at = level_now c.levels.level c.levels.rows c.args.self.now c.levels.self c.index_mut.result.now c.levels.invariant less c.index_mut.ensures.value in
    subst (λ k. 2 ≤ k) (sym (at.height ∙ rows_deep s c.levels.level (omega (arith, less)))) (c.requires.chain.split.high c.levels.level less)

pub carry-requires-clause-chain : goal.carry-requires-clause-chain
carry-requires-clause-chain c =
    let s = split_of c.args.self.now in
    let f = c.levels.invariant in
    let now = c.levels.self in
    let less : c.levels.level < c.args.self.now.down = omega (arith, c.levels-test.true, c.levels.auto.level-end) in
    let one : c.levels.level + 1 ≡ suc c.levels.level = omega arith in
    subst (λ t. AreChained t (c.levels.level + 1) (known_rows c.levels.rows) (set now.levels.items c.levels.level c.finish.new.self) now.low.items) (sym f.split)
    (mid_chain s c.levels.level (c.levels.level + 1) c.levels.rows now.levels.items c.finish.new.self now.low.items one f.chain less)

pub carry-requires-clause-first : goal.carry-requires-clause-first
carry-requires-clause-first c =
    let less : c.levels.level < c.args.self.now.down = omega (arith, c.levels-test.true, c.levels.auto.level-end) in
    let deep = c.requires.chain.split.deep in
    let same : c.levels.self.across ≡ c.args.self.now.across = ap (λ t. t.across) c.levels.invariant.split in
    omega (arith, less, deep, same)

pub carry-requires-clause-room : goal.carry-requires-clause-room
carry-requires-clause-room c =
    let s = split_of c.args.self.now in
    let f = c.levels.invariant in
    let less : c.levels.level < c.args.self.now.down = omega (arith, c.levels-test.true, c.levels.auto.level-end) in
    let one : c.levels.level + 1 ≡ suc c.levels.level = omega arith in
    let two = c.requires.chain.split.high c.levels.level less in
    let some : 1 ≤ c.levels.rows = omega (arith, two, f.all, rows_deep s c.levels.level (omega (arith, less))) in
    subst (λ t. known_rows c.levels.rows < rows_at t (c.levels.level + 1)) (sym f.split) (room_after s c.levels.level (c.levels.level + 1) c.levels.rows one less f.all some)

pub carry-requires-clause-row : goal.carry-requires-clause-row
carry-requires-clause-row c =
    let s = split_of c.args.self.now in
    let f = c.levels.invariant in
    let l = c.index_mut.result.now in
    let e = c.in_ok-row.ensures in
    let less : c.levels.level < c.args.self.now.down = omega (arith, c.levels-test.true, c.levels.auto.level-end) in
    let at = level_now c.levels.level c.levels.rows c.args.self.now c.levels.self l f less c.index_mut.ensures.value in
    let deep : l.deep ≡ true = at.deep ∙ lt-ltb c.levels.level c.args.self.now.down less in
    let one : suc c.levels.level ≡ c.levels.level + 1 = omega arith in
    let small = subst (λ d. AllBelow (2 ^ (l.columns.bits + (if d then 2 else 1))) (entries_of c.in_ok-row.row)) (sym deep) e.small in
    subst (λ t. IsNextRow t (c.levels.level + 1) c.in_ok-row.row) (sym f.split) (subst (λ k. IsNextRow s k c.in_ok-row.row) one (next_row s c.levels.level c.levels.rows l c.in_ok-row.row at e.width small))

pub levels-preserved : goal.levels-preserved
levels-preserved c =
    let f = c.levels.invariant in
    let now = c.levels.self in
    let e = c.in_ok-row.ensures in
    let k = c.in_ok-carry.ensures in
    let s = split_of c.args.self.now in
    let less : c.levels.level < c.args.self.now.down = omega (arith, c.levels-test.true, c.levels.auto.level-end) in
    let one : c.levels.level + 1 ≡ suc c.levels.level = omega arith in
    let two = c.requires.chain.split.high c.levels.level less in
    let some : 1 ≤ c.levels.rows = omega (arith, two, f.all, rows_deep s c.levels.level (omega (arith, less))) in
    let mid : Splitter = record { width = now.width; height = now.height; across = now.across; down = now.down; taken = now.taken; levels = with_item now.levels c.levels.level c.finish.new.self; low = now.low } in
    finish_next c.levels.level (c.levels.level + 1) c.levels.rows c.args.self.now now mid c.carry.new.self c.index_mut.result.now c.finish.new.self c.in_ok-row.row one f less c.index_mut.ensures.value refl refl refl e.same e.known e.holds e.shows k.chain k.same k.holds some

pub returns-clause-all : goal.returns-clause-all
returns-clause-all c =
    let f = c.levels.invariant in
    let last : c.levels.level ≡ c.args.self.now.down = omega (arith, c.levels-test.false, c.levels.auto.level-end, f.to) in
    finish_all c.levels.rows c.args.self.now c.levels.self (subst (λ k. IsFinishing k c.levels.rows c.args.self.now c.levels.self) last f)

pub returns-clause-same : goal.returns-clause-same
returns-clause-same c = c.levels.invariant.split

pub returns-clause-holds : goal.returns-clause-holds
returns-clause-holds c p from held =
    let f = c.levels.invariant in
    let last : c.levels.level ≡ c.args.self.now.down = omega (arith, c.levels-test.false, c.levels.auto.level-end, f.to) in
    finish_bands c.levels.rows c.args.self.now c.levels.self p from (subst (λ k. IsFinishing k c.levels.rows c.args.self.now c.levels.self) last f) held
