use Rattle.std.proofs.Common.{◌≡◌, ◌-◌, ◌*◌, ◌^◌, length, arith, ap, sym, subst, ◌∙◌}
use Rattle.std.proofs.lemmas.Nat.{pow_pos}
use Rattle.xs_signal.specs.Lines.{entries_of, AllBelow, Shows}
use Rattle.xs_signal.specs.Wavelet.{low_count}
use Rattle.xs_splitter.specs.Columns.{low_rows}
use Rattle.xs_splitter.specs.Level.{IsSameLevel}
use Rattle.xs_splitter.specs.Parts.{IsSplitOff}
use Rattle.xs_splitter.specs.declared.level.Level.{Level}
use Rattle.xs_splitter.proofs.Bands.{row_fits_twice, low_part_below, two_bits_more, if_ok, given_shown, last_given, last_bands}
use Rattle.xs_splitter.proofs.level.Level.finish.Goals as goal

pub split_last-requires-clause-small : goal.split_last-requires-clause-small
split_last-requires-clause-small c = row_fits_twice c.args.self.now.columns.bits _ c.requires.state.bits c.finish.ensures.small_high

pub split_off-requires-clause-small : goal.split_off-requires-clause-small
split_off-requires-clause-small c =
    let k = c.in_ok-split_last.ensures.kept in
    let seen : c.even.result.now ≡ c.finish.new.self.even = c.even.ensures ∙ ap (λ m. m.even) k.0 in
    row_fits_twice c.args.self.now.columns.bits _ c.requires.state.bits (subst (λ r. AllBelow (2 * 2 ^ c.args.self.now.columns.bits) (entries_of r)) (sym seen) c.finish.ensures.small_low)

pub returns-clause-small : goal.returns-clause-small
returns-clause-small c =
    let l = c.args.self.now in
    let k = c.in_ok-split_last.ensures.kept in
    let seen : c.even.result.now ≡ c.finish.new.self.even = c.even.ensures ∙ ap (λ m. m.even) k.0 in
    let small = subst (λ r. AllBelow (2 * 2 ^ l.columns.bits) (entries_of r)) (sym seen) c.finish.ensures.small_low in
    if_ok c.split_off.result _ _ (λ low off. two_bits_more l.columns.bits _ (low_part_below (2 * 2 ^ l.columns.bits) c.even.result.now low off.high (omega (arith, pow_pos l.columns.bits)) small off.parts)) c.split_off.ensures

pub returns-clause-holds : goal.returns-clause-holds
returns-clause-holds c p from h =
    let l = c.args.self.now in
    let s = c.requires.state in
    let f = c.finish.ensures in
    let k = c.in_ok-split_last.ensures.kept in
    let seen : c.even.result.now ≡ c.finish.new.self.even = c.even.ensures ∙ ap (λ m. m.even) k.0 in
    let last = h.last c.requires.deep in
    let shown = subst (λ r. Shows r (low_rows l.columns.height p (low_count l.columns.height - 1))) (sym seen) (f.low p last) in
    let given = last_given p l c.even.result.now c.requires.deep s c.requires.all c.requires.two (ap length seen ∙ f.low_width) shown in
    let n : Level = record { columns = c.split_last.new.self.columns; deep = c.split_last.new.self.deep; hl = c.split_off.new.band; lh = c.split_last.new.self.lh; hh = c.split_last.new.self.hh } in
    let same : IsSameLevel l n = record { width = ap (λ m. m.width) k.0 ∙ f.kept.0; height = ap (λ m. m.height) k.0 ∙ f.kept.1; bits = ap (λ m. m.bits) k.0 ∙ f.kept.2; deep = k.1 } in
    let split = c.in_ok-split_last.ensures.split in
    if_ok c.split_off.result _ _
    (λ low off. last_bands from p l n c.has_pair-pair.result c.even.result.now low c.finish.new.self.high (sym c.has_pair-pair.ensures) c.requires.deep s h c.requires.all c.requires.two same given
    (subst (λ v. IsSplitOff c.even.result.now low v.items c.split_off.new.band.items) k.2 off) f.high_width (f.high p last)
    (record { more = λ e. let high = split.more e in record { low = high.low; split = high.split; added = high.added }; lh = split.lh; hh = split.hh }))
    c.split_off.ensures

pub returns-clause-shows : goal.returns-clause-shows
returns-clause-shows c p from h =
    let l = c.args.self.now in
    let s = c.requires.state in
    let f = c.finish.ensures in
    let k = c.in_ok-split_last.ensures.kept in
    let seen : c.even.result.now ≡ c.finish.new.self.even = c.even.ensures ∙ ap (λ m. m.even) k.0 in
    let last = h.last c.requires.deep in
    let shown = subst (λ r. Shows r (low_rows l.columns.height p (low_count l.columns.height - 1))) (sym seen) (f.low p last) in
    let given = last_given p l c.even.result.now c.requires.deep s c.requires.all c.requires.two (ap length seen ∙ f.low_width) shown in
    if_ok c.split_off.result _ _ (λ low off. given_shown p l c.even.result.now low _ _ s.two given off) c.split_off.ensures
