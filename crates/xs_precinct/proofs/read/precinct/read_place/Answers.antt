use Rattle.std.proofs.Common.{◌+◌, ◌-◌, ◌<◌, ◌≤◌, length, sym, ap, subst, ◌∙◌, arith}
use Rattle.std.specs.Prelude.{Some}
use Rattle.std.specs.Result.{result_err}
use Rattle.std.proofs.lemmas.Result.{err_from_is_err_and}
use borrow.Rule.Slice.PartMut.{put_mid}
use Rattle.xs_layout.specs.Geometry.{PacketPlace}
use Rattle.xs_params.specs.Geometry.{packets_of}
use Rattle.xs_geometry.specs.Places.{packet_at, place_of}
use Rattle.xs_geometry.proofs.Counts.{bands_most}
use Rattle.xs_reading.specs.Packet.{packet_lines}
use Rattle.xs_precinct.specs.Bands.{EachOf, Knows, NumbersOf}
use Rattle.xs_precinct.proofs.Portion.{IsPartRead, bands_after, lines_there, part_of, part_size, row_short, rows_put, same_part}
use Rattle.xs_precinct.proofs.Windows.{put_window, window_size}
use Rattle.xs_precinct.proofs.read.precinct.read_place.Goals as goal

pub packet-at-requires-clause-number : goal.packet-at-requires-clause-number
packet-at-requires-clause-number c = subst (λ g. c.args.packet.now.number < length (packets_of g c.args.place.now.precinct)) (sym c.requires.geometry) c.requires.number

pub read_packet-requires-clause-bands : goal.read_packet-requires-clause-bands
read_packet-requires-clause-bands c =
    let h = c.args.place.now.header.now in
    let precinct = c.args.place.now.precinct in
    let number = c.args.packet.now.number in
    let bands = c.args.bands.now in
    let first = c.packet_bands-first.result.0 in
    let count = c.packet_bands-first.result.1 - first in
    let part = part_of h c.args.place.now.geometry.now (place_of c.packet-at.result) precinct number first count c.requires.accepted.geometry c.requires.number c.requires.geometry c.packet-at.ensures.place c.packet_bands-first.ensures.bands in
    let fits : first + count ≤ length bands = omega (arith, part.inside, c.requires.count) in
    omega (arith, window_size first count bands fits, part.inside, bands_most h c.requires.accepted.geometry)

pub returns-in_err-size-clause-fault : goal.returns-in_err-size-clause-fault
returns-in_err-size-clause-fault c =
    let p = err_from_is_err_and c.from_residual.result c.from_residual.ensures.1 in
    let h = c.args.place.now.header.now in
    let precinct = c.args.place.now.precinct in
    let number = c.args.packet.now.number in
    let bands = c.args.bands.now in
    let first = c.packet_bands-first.result.0 in
    let count = c.packet_bands-first.result.1 - first in
    let part = part_of h c.args.place.now.geometry.now (place_of c.packet-at.result) precinct number first count c.requires.accepted.geometry c.requires.number c.requires.geometry c.packet-at.ensures.place c.packet_bands-first.ensures.bands in
    λ lines known. ap result_err p.1 ∙ ap Some p.2 ∙ c.in_err-size.ensures.fault lines (subst (λ l. EachOf Knows l lines) (sym (same_part h precinct number first count bands part)) known)

pub put_rows-requires-clause-few : goal.put_rows-requires-clause-few
put_rows-requires-clause-few c =
    let h = c.args.place.now.header.now in
    let precinct = c.args.place.now.precinct in
    let number = c.args.packet.now.number in
    let bands = c.args.bands.now in
    let first = c.packet_bands-first.result.0 in
    let count = c.packet_bands-first.result.1 - first in
    let part = part_of h c.args.place.now.geometry.now (place_of c.packet-at.result) precinct number first count c.requires.accepted.geometry c.requires.number c.requires.geometry c.packet-at.ensures.place c.packet_bands-first.ensures.bands in
    let fits : first + count ≤ length bands = omega (arith, part.inside, c.requires.count) in
    let got : IsPartRead bands c.read_packet.new.bands first count = record { ranges = c.in_ok-size.ensures.bands; follow = c.in_ok-size.ensures.follow; filled = c.in_ok-size.ensures.filled } in
    let size = part_size bands c.read_packet.new.bands first count fits got in
    omega (arith, size, part.inside, bands_most h c.requires.accepted.geometry)

pub put_rows-requires-clause-there : goal.put_rows-requires-clause-there
put_rows-requires-clause-there c =
    let h = c.args.place.now.header.now in
    let precinct = c.args.place.now.precinct in
    let number = c.args.packet.now.number in
    let bands = c.args.bands.now in
    let first = c.packet_bands-first.result.0 in
    let count = c.packet_bands-first.result.1 - first in
    let part = part_of h c.args.place.now.geometry.now (place_of c.packet-at.result) precinct number first count c.requires.accepted.geometry c.requires.number c.requires.geometry c.packet-at.ensures.place c.packet_bands-first.ensures.bands in
    let fits : first + count ≤ length bands = omega (arith, part.inside, c.requires.count) in
    let got : IsPartRead bands c.read_packet.new.bands first count = record { ranges = c.in_ok-size.ensures.bands; follow = c.in_ok-size.ensures.follow; filled = c.in_ok-size.ensures.filled } in
    let size = part_size bands c.read_packet.new.bands first count fits got in
    let line = ap (λ (p : PacketPlace). p.line) c.packet-at.ensures.place ∙ ap (λ g. (packet_at g precinct number).line) c.requires.geometry in
    λ k less. lines_there h precinct number first count c.requires.lines.0 c.packet-at.result.line k c.args.into.now c.requires.accepted.geometry c.requires.number part c.requires.lines.1 c.requires.lines.2 line (omega (arith, less, size))

pub put_rows-requires-clause-short : goal.put_rows-requires-clause-short
put_rows-requires-clause-short c =
    let h = c.args.place.now.header.now in
    let precinct = c.args.place.now.precinct in
    let number = c.args.packet.now.number in
    let bands = c.args.bands.now in
    let first = c.packet_bands-first.result.0 in
    let count = c.packet_bands-first.result.1 - first in
    let part = part_of h c.args.place.now.geometry.now (place_of c.packet-at.result) precinct number first count c.requires.accepted.geometry c.requires.number c.requires.geometry c.packet-at.ensures.place c.packet_bands-first.ensures.bands in
    let fits : first + count ≤ length bands = omega (arith, part.inside, c.requires.count) in
    let got : IsPartRead bands c.read_packet.new.bands first count = record { ranges = c.in_ok-size.ensures.bands; follow = c.in_ok-size.ensures.follow; filled = c.in_ok-size.ensures.filled } in
    let size = part_size bands c.read_packet.new.bands first count fits got in
    let line = ap (λ (p : PacketPlace). p.line) c.packet-at.ensures.place ∙ ap (λ g. (packet_at g precinct number).line) c.requires.geometry in
    λ k less. row_short h precinct number first count c.requires.lines.0 c.packet-at.result.line k c.args.into.now bands c.read_packet.new.bands c.requires.accepted.geometry c.requires.number part c.requires.lines.1 c.requires.lines.2 line c.requires.count c.requires.room got (omega (arith, less, size))

pub returns-clause-fault : goal.returns-clause-fault
returns-clause-fault c =
    let h = c.args.place.now.header.now in
    let precinct = c.args.place.now.precinct in
    let number = c.args.packet.now.number in
    let bands = c.args.bands.now in
    let first = c.packet_bands-first.result.0 in
    let count = c.packet_bands-first.result.1 - first in
    let part = part_of h c.args.place.now.geometry.now (place_of c.packet-at.result) precinct number first count c.requires.accepted.geometry c.requires.number c.requires.geometry c.packet-at.ensures.place c.packet_bands-first.ensures.bands in
    λ lines known. c.in_ok-size.ensures.fault lines (subst (λ l. EachOf Knows l lines) (sym (same_part h precinct number first count bands part)) known)

pub returns-clause-ends : goal.returns-clause-ends
returns-clause-ends c =
    let h = c.args.place.now.header.now in
    let precinct = c.args.place.now.precinct in
    let number = c.args.packet.now.number in
    let bands = c.args.bands.now in
    let first = c.packet_bands-first.result.0 in
    let count = c.packet_bands-first.result.1 - first in
    let part = part_of h c.args.place.now.geometry.now (place_of c.packet-at.result) precinct number first count c.requires.accepted.geometry c.requires.number c.requires.geometry c.packet-at.ensures.place c.packet_bands-first.ensures.bands in
    λ lines known. c.in_ok-size.ensures.ends lines (subst (λ l. EachOf Knows l lines) (sym (same_part h precinct number first count bands part)) known)

pub returns-clause-read : goal.returns-clause-read
returns-clause-read c =
    let h = c.args.place.now.header.now in
    let precinct = c.args.place.now.precinct in
    let number = c.args.packet.now.number in
    let bands = c.args.bands.now in
    let first = c.packet_bands-first.result.0 in
    let count = c.packet_bands-first.result.1 - first in
    let part = part_of h c.args.place.now.geometry.now (place_of c.packet-at.result) precinct number first count c.requires.accepted.geometry c.requires.number c.requires.geometry c.packet-at.ensures.place c.packet_bands-first.ensures.bands in
    let fits : first + count ≤ length bands = omega (arith, part.inside, c.requires.count) in
    let got : IsPartRead bands c.read_packet.new.bands first count = record { ranges = c.in_ok-size.ensures.bands; follow = c.in_ok-size.ensures.follow; filled = c.in_ok-size.ensures.filled } in
    let size = part_size bands c.read_packet.new.bands first count fits got in
    λ lines known.
    subst (λ l. EachOf NumbersOf l (packet_lines h lines c.args.packet.now.bytes.now)) (sym (put_window first count bands c.read_packet.new.bands fits size) ∙ same_part h precinct number first count (put_mid first count bands c.read_packet.new.bands) part)
    (c.in_ok-size.ensures.read lines (subst (λ l. EachOf Knows l lines) (sym (same_part h precinct number first count bands part)) known))

pub returns-clause-after : goal.returns-clause-after
returns-clause-after c =
    let h = c.args.place.now.header.now in
    let precinct = c.args.place.now.precinct in
    let number = c.args.packet.now.number in
    let bands = c.args.bands.now in
    let first = c.packet_bands-first.result.0 in
    let count = c.packet_bands-first.result.1 - first in
    let part = part_of h c.args.place.now.geometry.now (place_of c.packet-at.result) precinct number first count c.requires.accepted.geometry c.requires.number c.requires.geometry c.packet-at.ensures.place c.packet_bands-first.ensures.bands in
    let fits : first + count ≤ length bands = omega (arith, part.inside, c.requires.count) in
    let got : IsPartRead bands c.read_packet.new.bands first count = record { ranges = c.in_ok-size.ensures.bands; follow = c.in_ok-size.ensures.follow; filled = c.in_ok-size.ensures.filled } in
    let size = part_size bands c.read_packet.new.bands first count fits got in
    bands_after h precinct number first count bands c.read_packet.new.bands part c.requires.count got

pub returns-clause-put : goal.returns-clause-put
returns-clause-put c =
    let h = c.args.place.now.header.now in
    let precinct = c.args.place.now.precinct in
    let number = c.args.packet.now.number in
    let bands = c.args.bands.now in
    let first = c.packet_bands-first.result.0 in
    let count = c.packet_bands-first.result.1 - first in
    let part = part_of h c.args.place.now.geometry.now (place_of c.packet-at.result) precinct number first count c.requires.accepted.geometry c.requires.number c.requires.geometry c.packet-at.ensures.place c.packet_bands-first.ensures.bands in
    let fits : first + count ≤ length bands = omega (arith, part.inside, c.requires.count) in
    let got : IsPartRead bands c.read_packet.new.bands first count = record { ranges = c.in_ok-size.ensures.bands; follow = c.in_ok-size.ensures.follow; filled = c.in_ok-size.ensures.filled } in
    let size = part_size bands c.read_packet.new.bands first count fits got in
    let line = ap (λ (p : PacketPlace). p.line) c.packet-at.ensures.place ∙ ap (λ g. (packet_at g precinct number).line) c.requires.geometry in
    rows_put h precinct number first count c.packet-at.result.line bands c.read_packet.new.bands c.args.into.now c.put_rows.new.rows part line c.requires.count got c.put_rows.ensures.kept c.put_rows.ensures.same_lines c.put_rows.ensures.here c.put_rows.ensures.elsewhere
