use Rattle.std.proofs.Common.{◌≤◌, ◌+◌, ◌^◌, length, arith, ap, ◌<◌}
use Rattle.xs_wave.proofs.Flat.{row_inside}
use Rattle.xs_wave.proofs.Lifted.{AreHeld, part_most, entry_held, small_held, starts_apart, new_entry, new_other, new_shape}
use Rattle.xs_wave.proofs.planes.Plane.less_half.Goals as goal

pub start_of-row-requires : goal.start_of-row-requires
start_of-row-requires c =
    let p = c.self.inside in
    let inside = row_inside p.width p.height c.args.at p.samples.items c.args.self.now c.self.view_is c.self.invariant c.requires.at in
    omega (arith, inside, c.len.ensures, p.samples.ok)

pub start_of-above-requires : goal.start_of-above-requires
start_of-above-requires c =
    let p = c.self.inside in
    let inside = row_inside p.width p.height c.args.above p.samples.items c.args.self.now c.self.view_is c.self.invariant c.requires.above in
    omega (arith, inside, c.len-2.ensures, p.samples.ok)

pub start_of-below-requires : goal.start_of-below-requires
start_of-below-requires c =
    let p = c.self.inside in
    let inside = row_inside p.width p.height c.args.below p.samples.items c.args.self.now c.self.view_is c.self.invariant c.requires.below in
    omega (arith, inside, c.len-3.ensures, p.samples.ok)

pub less_half-requires-clause-inside : goal.less_half-requires-clause-inside
less_half-requires-clause-inside c =
    let p = c.self.inside in
    let held : AreHeld p.width p.height p.samples c.args.self.now c.as_mut_slice.result.now = record { seen = c.self.view_is; size = c.self.invariant; same = c.as_mut_slice.ensures.value } in
    let most : c.args.width ≤ p.width = part_most p.width p.height c.args.at c.args.width p.samples c.args.self.now c.as_mut_slice.result.now held c.requires.at c.requires.wide in
    omega (arith, most, c.start_of-row.ensures.inside, c.len.ensures, p.samples.ok, ap length c.as_mut_slice.ensures.value)

pub less_half-requires-clause-above_inside : goal.less_half-requires-clause-above_inside
less_half-requires-clause-above_inside c =
    let p = c.self.inside in
    let held : AreHeld p.width p.height p.samples c.args.self.now c.as_mut_slice.result.now = record { seen = c.self.view_is; size = c.self.invariant; same = c.as_mut_slice.ensures.value } in
    let most : c.args.width ≤ p.width = part_most p.width p.height c.args.at c.args.width p.samples c.args.self.now c.as_mut_slice.result.now held c.requires.at c.requires.wide in
    omega (arith, most, c.start_of-above.ensures.inside, c.len-2.ensures, p.samples.ok, ap length c.as_mut_slice.ensures.value)

pub less_half-requires-clause-below_inside : goal.less_half-requires-clause-below_inside
less_half-requires-clause-below_inside c =
    let p = c.self.inside in
    let held : AreHeld p.width p.height p.samples c.args.self.now c.as_mut_slice.result.now = record { seen = c.self.view_is; size = c.self.invariant; same = c.as_mut_slice.ensures.value } in
    let most : c.args.width ≤ p.width = part_most p.width p.height c.args.at c.args.width p.samples c.args.self.now c.as_mut_slice.result.now held c.requires.at c.requires.wide in
    omega (arith, most, c.start_of-below.ensures.inside, c.len-3.ensures, p.samples.ok, ap length c.as_mut_slice.ensures.value)

pub less_half-requires-clause-above_apart : goal.less_half-requires-clause-above_apart
less_half-requires-clause-above_apart c =
    let p = c.self.inside in
    let held : AreHeld p.width p.height p.samples c.args.self.now c.as_mut_slice.result.now = record { seen = c.self.view_is; size = c.self.invariant; same = c.as_mut_slice.ensures.value } in
    let most : c.args.width ≤ p.width = part_most p.width p.height c.args.at c.args.width p.samples c.args.self.now c.as_mut_slice.result.now held c.requires.at c.requires.wide in
    starts_apart p.width c.args.width c.args.at c.args.above c.start_of-row.result c.start_of-above.result most c.requires.not_above c.start_of-row.ensures.value c.start_of-above.ensures.value

pub less_half-requires-clause-below_apart : goal.less_half-requires-clause-below_apart
less_half-requires-clause-below_apart c =
    let p = c.self.inside in
    let held : AreHeld p.width p.height p.samples c.args.self.now c.as_mut_slice.result.now = record { seen = c.self.view_is; size = c.self.invariant; same = c.as_mut_slice.ensures.value } in
    let most : c.args.width ≤ p.width = part_most p.width p.height c.args.at c.args.width p.samples c.args.self.now c.as_mut_slice.result.now held c.requires.at c.requires.wide in
    starts_apart p.width c.args.width c.args.at c.args.below c.start_of-row.result c.start_of-below.result most c.requires.not_below c.start_of-row.ensures.value c.start_of-below.ensures.value

pub less_half-requires-clause-small : goal.less_half-requires-clause-small
less_half-requires-clause-small c =
    let p = c.self.inside in
    let held : AreHeld p.width p.height p.samples c.args.self.now c.as_mut_slice.result.now = record { seen = c.self.view_is; size = c.self.invariant; same = c.as_mut_slice.ensures.value } in
    let most : c.args.width ≤ p.width = part_most p.width p.height c.args.at c.args.width p.samples c.args.self.now c.as_mut_slice.result.now held c.requires.at c.requires.wide in
    small_held p.width p.height c.args.at c.start_of-row.result c.args.width (2 ^ 54) p.samples c.args.self.now c.as_mut_slice.result.now held c.requires.at c.start_of-row.ensures.value most c.requires.small

pub less_half-requires-clause-small_above : goal.less_half-requires-clause-small_above
less_half-requires-clause-small_above c =
    let p = c.self.inside in
    let held : AreHeld p.width p.height p.samples c.args.self.now c.as_mut_slice.result.now = record { seen = c.self.view_is; size = c.self.invariant; same = c.as_mut_slice.ensures.value } in
    let most : c.args.width ≤ p.width = part_most p.width p.height c.args.at c.args.width p.samples c.args.self.now c.as_mut_slice.result.now held c.requires.at c.requires.wide in
    small_held p.width p.height c.args.above c.start_of-above.result c.args.width (2 ^ 54) p.samples c.args.self.now c.as_mut_slice.result.now held c.requires.above c.start_of-above.ensures.value most c.requires.small_above

pub less_half-requires-clause-small_below : goal.less_half-requires-clause-small_below
less_half-requires-clause-small_below c =
    let p = c.self.inside in
    let held : AreHeld p.width p.height p.samples c.args.self.now c.as_mut_slice.result.now = record { seen = c.self.view_is; size = c.self.invariant; same = c.as_mut_slice.ensures.value } in
    let most : c.args.width ≤ p.width = part_most p.width p.height c.args.at c.args.width p.samples c.args.self.now c.as_mut_slice.result.now held c.requires.at c.requires.wide in
    small_held p.width p.height c.args.below c.start_of-below.result c.args.width (2 ^ 54) p.samples c.args.self.now c.as_mut_slice.result.now held c.requires.below c.start_of-below.ensures.value most c.requires.small_below

pub returns-clause-row : goal.returns-clause-row
returns-clause-row c column within =
    let p = c.self.inside in
    let held : AreHeld p.width p.height p.samples c.args.self.now c.as_mut_slice.result.now = record { seen = c.self.view_is; size = c.self.invariant; same = c.as_mut_slice.ensures.value } in
    let most : c.args.width ≤ p.width = part_most p.width p.height c.args.at c.args.width p.samples c.args.self.now c.as_mut_slice.result.now held c.requires.at c.requires.wide in
    let rows = c.args.self.now in
    let slice = c.as_mut_slice.result.now in
    let new = c.less_half.new.numbers in
    let inside : 0 + column < p.width = omega (arith, within, most) in
    let first = new_entry p.width p.height p.samples rows slice new held c.less_half.auto.numbers c.args.at c.start_of-row.result column c.requires.at c.start_of-row.ensures.value (omega (arith, inside)) in
    let here = entry_held p.width p.height c.args.at c.start_of-row.result column p.samples rows slice held c.requires.at c.start_of-row.ensures.value (omega (arith, inside)) in
    let up = entry_held p.width p.height c.args.above c.start_of-above.result column p.samples rows slice held c.requires.above c.start_of-above.ensures.value (omega (arith, inside)) in
    let down = entry_held p.width p.height c.args.below c.start_of-below.result column p.samples rows slice held c.requires.below c.start_of-below.ensures.value (omega (arith, inside)) in
    let value = c.less_half.ensures.done column within in
    cc

pub returns-clause-others : goal.returns-clause-others
returns-clause-others c =
    let p = c.self.inside in
    let held : AreHeld p.width p.height p.samples c.args.self.now c.as_mut_slice.result.now = record { seen = c.self.view_is; size = c.self.invariant; same = c.as_mut_slice.ensures.value } in
    let most : c.args.width ≤ p.width = part_most p.width p.height c.args.at c.args.width p.samples c.args.self.now c.as_mut_slice.result.now held c.requires.at c.requires.wide in
    new_other p.width p.height p.samples c.args.self.now c.as_mut_slice.result.now c.less_half.new.numbers held c.less_half.auto.numbers c.args.at c.start_of-row.result c.args.width c.start_of-row.ensures.value most c.less_half.ensures.others

pub returns-clause-shape : goal.returns-clause-shape
returns-clause-shape c =
    let p = c.self.inside in
    let held : AreHeld p.width p.height p.samples c.args.self.now c.as_mut_slice.result.now = record { seen = c.self.view_is; size = c.self.invariant; same = c.as_mut_slice.ensures.value } in
    let most : c.args.width ≤ p.width = part_most p.width p.height c.args.at c.args.width p.samples c.args.self.now c.as_mut_slice.result.now held c.requires.at c.requires.wide in
    new_shape p.width p.height p.samples c.args.self.now c.as_mut_slice.result.now c.less_half.new.numbers held c.less_half.auto.numbers
