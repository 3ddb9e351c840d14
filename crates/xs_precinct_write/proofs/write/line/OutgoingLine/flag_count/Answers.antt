use Rattle.std.proofs.Common.{◌≡◌, ◌+◌, ◌/◌, ◌≤◌, length, sym, ap, subst, ◌∙◌, arith}
use Rattle.std.specs.Prelude.{if◌then◌else◌}
use Rattle.xs_layout.specs.Geometry.{significance_groups_of}
use Rattle.xs_spelling.specs.Written.{written_flag}
use Rattle.xs_spelling.proofs.Sized.{lines_sized}
use Rattle.xs_counts.proofs.Members.{has_them}
use Rattle.xs_precinct_write.specs.Outgoing.{Outgoing, IsOutgoing, line_counted}
use Rattle.xs_precinct_write.proofs.write.line.OutgoingLine.flag_count.Goals as goal

pub returns-then-self-ge2-clause-flags : goal.returns-then-self-ge2-clause-flags
returns-then-self-ge2-clause-flags c =
    let o = c.args.self.now in
    let is : IsOutgoing o = subst IsOutgoing c.self.view_is c.self.invariant.0 in
    let some : 2 ≤ o.mode = omega (arith, c.if-self-ge2.true, ap (λ (x : Outgoing). x.mode) c.self.view_is) in
    let size : length c.as_slice.result.now ≡ length o.counts = ap length c.as_slice.ensures.items ∙ ap (λ (x : Outgoing). length x.counts) c.self.view_is in
    let up : (length c.as_slice.result.now + 7) / 8 ≡ significance_groups_of (length o.counts) = omega (arith, size) in
    up ∙ sym (lines_sized.flags (line_counted o o.mode) (written_flag (line_counted o o.mode)) ∙ ap (λ b. if b then significance_groups_of (length o.counts) else 0) (has_them o.mode is.mode some))
