use Rattle.std.proofs.Common.{◌+◌, ap, refl, sym, subst, ◌∙◌}
use Rattle.xs_signal.specs.Lines.{entries_of}
use Rattle.xs_signal.specs.Wavelet.{inverse_line}
use Rattle.xs_joiner.specs.Columns.{SameLine}
use Rattle.xs_joiner.proofs.Lifted.{IsMirrored, mirrored_state, spare_small, taken_holds}
use Rattle.xs_joiner.proofs.Lifts.{state_with}
use Rattle.xs_joiner.proofs.columns.Columns.take_low.Goals as goal

pub lift-requires-clause-state : goal.lift-requires-clause-state
lift-requires-clause-state c =
    let e = c.mirror.ensures in
    let m : IsMirrored c.args.self.now c.mirror.new.self = record { same = e.same; taken = e.taken; even = e.even; odd = e.odd; inside = e.inside; below = e.below; first = e.first; later = e.later } in
    mirrored_state c.args.self.now c.mirror.new.self m c.requires.state c.requires.two c.requires.small_spare

pub lift-requires-clause-small_spare : goal.lift-requires-clause-small_spare
lift-requires-clause-small_spare c =
    let e = c.mirror.ensures in
    let m : IsMirrored c.args.self.now c.mirror.new.self = record { same = e.same; taken = e.taken; even = e.even; odd = e.odd; inside = e.inside; below = e.below; first = e.first; later = e.later } in
    spare_small c.args.self.now c.mirror.new.self m c.requires.state c.requires.small_spare

pub returns-clause-state : goal.returns-clause-state
returns-clause-state c =
    let s = c.lift.ensures.state in
    state_with c.lift.new.self _ s (record { width = refl; height = refl; reach = refl }) s.even_width s.odd_width s.high_width s.spare_width s.even s.odd s.high

pub returns-clause-holds : goal.returns-clause-holds
returns-clause-holds c start t r h spare next =
    let old = c.args.self.now in
    let mid = c.mirror.new.self in
    let e = c.mirror.ensures in
    let m : IsMirrored old mid = record { same = e.same; taken = e.taken; even = e.even; odd = e.odd; inside = e.inside; below = e.below; first = e.first; later = e.later } in
    let s = c.lift.ensures.state in
    let state = state_with c.lift.new.self _ s (record { width = refl; height = refl; reach = refl }) s.even_width s.odd_width s.high_width s.spare_width s.even s.odd s.high in
    let same = c.lift.ensures.same in
    let low = entries_of c.args.low.now in
    let high = entries_of c.args.hl.now in
    taken_holds start t r (inverse_line mid.width low high) old mid _ m c.requires.two c.requires.room (mirrored_state old mid m c.requires.state c.requires.two c.requires.small_spare) state (record { width = same.width; height = same.height; reach = same.reach })
    (ap (λ k. k + 1) (c.lift.ensures.taken ∙ e.taken)) c.lift.ensures.even c.lift.ensures.odd c.lift.ensures.high h spare (subst (λ w. SameLine old.width (t old.taken) (inverse_line w low high)) (sym e.same.width) next)
