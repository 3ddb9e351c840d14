use Rattle.std.proofs.Common.{◌≡◌, ◌+◌, ◌-◌, ◌*◌, ◌/◌, ◌^◌, false, true, length, arith, refl, ap, sym, subst, ◌∙◌}
use Rattle.std.proofs.lemmas.Nat.{pow_pos}
use Rattle.xs_signal.specs.Wavelet.{low_count}
use Rattle.xs_splitter.specs.Columns.{HasOneMore, HoldsLast}
use Rattle.xs_splitter.specs.Parts.{IsSplitOff}
use Rattle.xs_splitter.proofs.Bands.{row_fits, row_fits_twice, one_added, flat_state, flat_given, flat_holds, given_shown, deep_given, deep_holds, low_part_below, bits_one, bits_two, last_known}
use Rattle.xs_splitter.proofs.level.Level.push.Goals as goal

pub split_off-requires-clause-small : goal.split_off-requires-clause-small
split_off-requires-clause-small c = row_fits c.args.self.now.columns.bits _ c.requires.state.bits c.requires.small

pub returns-then-not-self-clause-state : goal.returns-then-not-self-clause-state
returns-then-not-self-clause-state c =
    let flat : c.args.self.now.deep ≡ false = grind (arith, c.if-not-self.true) in
    let split = c.in_ok-split_off.ensures in
    flat_state c.args.self.now _ flat c.requires.state c.count.ensures.more refl (one_added _ _ split.high split.added)

pub returns-then-not-self-clause-given : goal.returns-then-not-self-clause-given
returns-then-not-self-clause-given c =
    let l = c.args.self.now in
    let flat : l.deep ≡ false = grind (arith, c.if-not-self.true) in
    let split = c.in_ok-split_off.ensures in
    let wide : length c.in_ok-split_off.field-0 ≡ low_count l.columns.width = split.parts.low_width ∙ ap low_count c.requires.width in
    (one_added _ _ split.high split.added, wide, bits_one l.columns.bits l.deep _ flat (low_part_below (2 ^ l.columns.bits) c.args.row _ split.high (pow_pos l.columns.bits) c.requires.small split.parts))

pub returns-then-not-self-clause-holds : goal.returns-then-not-self-clause-holds
returns-then-not-self-clause-holds c p from h shown =
    let l = c.args.self.now in
    let flat : l.deep ≡ false = grind (arith, c.if-not-self.true) in
    flat_holds from p l _ c.args.row c.in_ok-split_off.field-0 flat h c.count.ensures.more refl refl refl (flat_given p l c.args.row flat c.requires.state c.requires.width shown) c.in_ok-split_off.ensures

pub returns-then-not-self-clause-shows : goal.returns-then-not-self-clause-shows
returns-then-not-self-clause-shows c p from h shown =
    let l = c.args.self.now in
    let flat : l.deep ≡ false = grind (arith, c.if-not-self.true) in
    given_shown p l c.args.row c.in_ok-split_off.field-0 _ _ c.requires.state.two (flat_given p l c.args.row flat c.requires.state c.requires.width shown) c.in_ok-split_off.ensures

pub split_high-requires-clause-small : goal.split_high-requires-clause-small
split_high-requires-clause-small c =
    let bits = c.push.ensures.more.bits in
    row_fits_twice c.push.new.self.bits _ (omega (arith, bits, c.requires.state.bits)) c.push.ensures.state.high

pub split_off-requires-2-clause-small : goal.split_off-requires-2-clause-small
split_off-requires-2-clause-small c = row_fits_twice c.args.self.now.columns.bits _ c.requires.state.bits c.in-Some.ensures.low.3

pub returns-clause-given : goal.returns-clause-given
returns-clause-given c =
    let l = c.args.self.now in
    let deep : l.deep ≡ true = grind (arith, c.if-not-self.false) in
    let split = c.in_ok-split_off-2.ensures in
    let kept = c.in_ok-split_high.ensures.kept.2 in
    let more : length c.split_off-2.new.band.items ≡ length l.hl.items + 1 = one_added _ _ split.high split.added ∙ ap (λ v. length v.items + 1) kept in
    let wide : length c.in_ok-split_off-2.field-0 ≡ low_count l.columns.width = split.parts.low_width ∙ ap low_count c.in-Some.ensures.low.2 in
    (more, wide, bits_two l.columns.bits l.deep _ deep (low_part_below (2 * 2 ^ l.columns.bits) c.in-Some.low _ split.high (omega (arith, pow_pos l.columns.bits)) c.in-Some.ensures.low.3 split.parts))

pub returns-clause-holds : goal.returns-clause-holds
returns-clause-holds c p from h shown =
    let l = c.args.self.now in
    let t = l.columns.taken in
    let deep : l.deep ≡ true = grind (arith, c.if-not-self.false) in
    let last = h.last deep in
    let s = c.requires.state in
    let facts = c.in-Some.ensures.low in
    let kept = c.in_ok-split_high.ensures.kept in
    let high = c.in_ok-split_high.ensures.split in
    let known : t / 2 - 1 ≡ (t - 1) / 2 = omega (arith, facts.0, facts.1) in
    let given = deep_given p l c.in-Some.low (t / 2 - 1) deep s facts.2 known (c.in-Some.ensures.shows p last shown) in
    let after = c.push.ensures.holds p last shown in
    let more = c.push.ensures.more in
    let split = subst (λ v. IsSplitOff c.in-Some.low c.in_ok-split_off-2.field-0 v.items c.split_off-2.new.band.items) kept.2 c.in_ok-split_off-2.ensures in
    deep_holds from p l _ c.in-Some.low c.in_ok-split_off-2.field-0 c.push.new.self.high (t / 2 - 1) deep s h (subst (λ m. HasOneMore l.columns m) (sym kept.0) more) kept.1 given split
    (subst (λ m. HoldsLast p m) (sym kept.0) after) (c.push.ensures.state.high_width ∙ more.width) known (last_known p l.columns c.push.new.self more after facts.0)
    (record { low = high.low; split = high.split; added = high.added })

pub returns-clause-shows : goal.returns-clause-shows
returns-clause-shows c p from h shown =
    let l = c.args.self.now in
    let t = l.columns.taken in
    let deep : l.deep ≡ true = grind (arith, c.if-not-self.false) in
    let s = c.requires.state in
    let facts = c.in-Some.ensures.low in
    let known : t / 2 - 1 ≡ (t - 1) / 2 = omega (arith, facts.0, facts.1) in
    let given = deep_given p l c.in-Some.low (t / 2 - 1) deep s facts.2 known (c.in-Some.ensures.shows p (h.last deep) shown) in
    given_shown p l c.in-Some.low c.in_ok-split_off-2.field-0 _ _ s.two given c.in_ok-split_off-2.ensures
