use Rattle.std.proofs.Common.{◌≡◌, ◌+◌, ◌*◌, ◌/◌, length, get_or, sym, ap, subst, ◌∙◌, arith}
use Rattle.xs_lists.proofs.Puts.{put_end}
use Rattle.xs_signal.specs.Lines.{entries_of}
use Rattle.xs_signal.specs.Quantiser.{sent}
use Rattle.xs_planes.specs.Numbers.{AreNumbers}
use Rattle.xs_planes.proofs.Columns.{four_more}
use Rattle.xs_rate.specs.Content.{planes_of}
use Rattle.xs_precinct_write.specs.Outgoing.{values_sent}
use Rattle.xs_precinct_write.proofs.Sending.{count_at, column_is, row_numbers}
use Rattle.xs_precinct_write.proofs.write.row.quantise_row.Goals as goal

pub quantise_group-requires-clause-count : goal.quantise_group-requires-clause-count
quantise_group-requires-clause-count c =
    ap (λ l. get_or l c.groups.group 0) c.requires.counts ∙ count_at (entries_of c.args.row.now) c.args.t (length c.args.counts.now) c.groups.group (omega (arith, c.groups-test.true))

pub groups-preserved : goal.groups-preserved
groups-preserved c =
    let row = entries_of c.args.row.now in
    let kind = c.args.kind in
    let t = c.args.t in
    let k = c.groups.group in
    record {
      done = c.quantise_group.ensures ∙ four_more (λ column. sent kind (planes_of row (column / 4)) t (row column)) c.args.values.now c.groups.values k (λ i. sent kind (planes_of row k) t (row (4 * k + i)))
          (omega (arith, c.groups-test.true, c.requires.size)) c.groups.invariant.done
          (column_is kind row t k 0 (4 * k) (omega arith) (omega arith)) (column_is kind row t k 1 (4 * k + 1) (omega arith) (omega arith))
          (column_is kind row t k 2 (4 * k + 2) (omega arith) (omega arith)) (column_is kind row t k 3 (4 * k + 3) (omega arith) (omega arith));
    }

pub returns-clause-numbers : goal.returns-clause-numbers
returns-clause-numbers c =
    let row = entries_of c.args.row.now in
    let kind = c.args.kind in
    let t = c.args.t in
    let n = length c.args.counts.now in
    let whole : c.groups.values ≡ values_sent kind t row (4 * n) =
    put_end (λ column. sent kind (planes_of row (column / 4)) t (row column)) c.args.values.now c.groups.values (4 * c.groups.group) (4 * n) c.requires.size (omega (arith, c.groups-test.false, c.groups.auto.group-end)) c.groups.invariant.done in
    subst (λ v. AreNumbers t c.args.counts.now v) (sym whole) (subst (λ l. AreNumbers t l (values_sent kind t row (4 * n))) (sym c.requires.counts) (row_numbers kind row t n c.requires.cut c.requires.small))
