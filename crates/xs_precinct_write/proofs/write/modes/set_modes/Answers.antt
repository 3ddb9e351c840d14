use Rattle.std.proofs.Common.{◌≡◌, ◌+◌, ◌<◌, length, ap, ◌∙◌, arith}
use Rattle.std.proofs.lemmas.List.{get_or_default, length-set}
use Rattle.xs_layout.specs.Geometry.{groups_of}
use Rattle.xs_params.specs.Geometry.{band_width_of, bands_of}
use Rattle.xs_precinct_write.specs.Outgoing.{Outgoing, no_outgoing}
use Rattle.xs_precinct_write.specs.Sent.{modes_in}
use Rattle.xs_precinct_write.proofs.Alikes.{set_each}
use Rattle.xs_precinct_write.proofs.write.modes.set_modes.Goals as goal

pub bands-preserved : goal.bands-preserved
bands-preserved c =
    let s = c.args.at.now in
    let h = s.header.now in
    let lines = c.bands.lines in
    let k = c.bands.band in
    let new = c.set_mode.new.line in
    let all = c.bands-band-end.ensures.count ∙ ap bands_of c.requires.precinct.is_slice.geometry in
    let there : k < bands_of h = omega (arith, c.bands-test.true, all) in
    let inside : k < length lines = omega (arith, there, c.bands.invariant.room.count) in
    let same = ap (λ (x : Outgoing). length x.counts) (get_or_default lines k c.index-lines-band.result no_outgoing inside) in
    record {
      room = record {
        count = length-set lines k new ∙ c.bands.invariant.room.count;
        groups = λ band within.
            set_each (λ b x. b < bands_of h → length x.counts ≡ groups_of (band_width_of h b)) lines k new inside (λ below. c.set_mode.ensures.room ∙ same ∙ c.bands.invariant.room.groups k there) band
            (λ other below. c.bands.invariant.room.groups band below) within;
      };
      modes = λ band less.
          set_each (λ b x. b < k + 1 → x.mode ≡ modes_in s c.args.wanted.precinct b) lines k new inside (λ below. c.set_mode.ensures.mode) band
          (λ other below. c.bands.invariant.modes band (omega (arith, other, below))) less;
    }

pub returns-clause-modes : goal.returns-clause-modes
returns-clause-modes c = λ band inside.
    (let all = c.bands-band-end.ensures.count ∙ ap bands_of c.requires.precinct.is_slice.geometry in
    c.bands.invariant.modes band (omega (arith, inside, all, c.bands-test.false)))
