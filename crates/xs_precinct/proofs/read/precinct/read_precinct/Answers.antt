use Rattle.std.proofs.Common.{◌≡◌, ◌+◌, ◌-◌, ◌*◌, ◌≤◌, ◌++◌, map, take, drop, length, sym, ap, subst, ◌∙◌, arith}
use Rattle.std.proofs.Math.Seq.{take-append_seam}
use Rattle.std.proofs.lemmas.Result.{err_from_is_err_and}
use Rattle.xs_lists.specs.Bits.{bytes_for}
use Rattle.xs_params.specs.Geometry.{bands_of, packets_of}
use Rattle.xs_reading.specs.Precinct.{begun, body_at, mode_at, packets_fault, precinct_end, precinct_head_size, stated_size, with_packets, with_precinct}
use Rattle.xs_precinct.specs.Bands.{last_of}
use Rattle.xs_precinct.specs.Read.{ArePacketsRead, ArePrepared}
use Rattle.xs_precinct.proofs.Begun.{above_after, above_room, above_size, fault_of_packets, fault_of_size, ready_begun, rooms_begun, size_front}
use Rattle.xs_precinct.proofs.read.precinct.read_precinct.Goals as goal

pub returns-then-bytes-first-2-clause-refused : goal.returns-then-bytes-first-2-clause-refused
returns-then-bytes-first-2-clause-refused c =
    let h = c.args.header.now in
    let precinct = c.args.precinct in
    let bytes = c.args.bytes.now in
    let first = c.head_size-first.result in
    let size = c.read_size-size.result in
    let head : first ≡ precinct_head_size h = c.head_size-first.ensures ∙ ap (λ n. bytes_for (40 + 2 * n)) (c.bands.ensures.count ∙ ap bands_of c.requires.geometry) in
    let stated : size ≡ stated_size bytes = c.read_size-size.ensures.size ∙ size_front first bytes (omega (arith, head)) c.if-bytes-first.false in
    λ _ content e. fault_of_size h precinct content bytes (omega (arith, head, stated, c.if-bytes-first.false, c.if-bytes-first-2.true))

pub begin-requires-clause-count : goal.begin-requires-clause-count
begin-requires-clause-count c =
    let h = c.args.header.now in
    let precinct = c.args.precinct in
    let slice = c.as_mut_slice-bands.result.now in
    let view : map last_of slice ≡ c.args.above.now = ap (map last_of) c.as_mut_slice-bands.ensures.value ∙ c.above.view_is in
    above_size h c.requires.before.0 precinct slice (view ∙ c.requires.before.1)

pub begin-requires-clause-room : goal.begin-requires-clause-room
begin-requires-clause-room c =
    let h = c.args.header.now in
    let precinct = c.args.precinct in
    let slice = c.as_mut_slice-bands.result.now in
    let view : map last_of slice ≡ c.args.above.now = ap (map last_of) c.as_mut_slice-bands.ensures.value ∙ c.above.view_is in
    let old_size = above_size h c.requires.before.0 precinct slice (view ∙ c.requires.before.1) in
    λ k inside there. above_room h c.requires.before.0 precinct slice k (view ∙ c.requires.before.1) (omega (arith, inside, old_size)) there

pub read_packets-requires-clause-count : goal.read_packets-requires-clause-count
read_packets-requires-clause-count c =
    let h = c.args.header.now in
    let precinct = c.args.precinct in
    let slice = c.as_mut_slice-bands.result.now in
    let view : map last_of slice ≡ c.args.above.now = ap (map last_of) c.as_mut_slice-bands.ensures.value ∙ c.above.view_is in
    c.in_ok-begin.ensures.begun.count ∙ above_size h c.requires.before.0 precinct slice (view ∙ c.requires.before.1)

pub read_packets-requires-clause-room : goal.read_packets-requires-clause-room
read_packets-requires-clause-room c =
    let h = c.args.header.now in
    let precinct = c.args.precinct in
    let slice = c.as_mut_slice-bands.result.now in
    let view : map last_of slice ≡ c.args.above.now = ap (map last_of) c.as_mut_slice-bands.ensures.value ∙ c.above.view_is in
    let old_size = above_size h c.requires.before.0 precinct slice (view ∙ c.requires.before.1) in
    rooms_begun h (take c.head_size-first.result c.args.bytes.now) slice c.begin.new.bands old_size c.in_ok-begin.ensures.begun

pub returns-in_err-read_packets-clause-refused : goal.returns-in_err-read_packets-clause-refused
returns-in_err-read_packets-clause-refused c =
    let p = err_from_is_err_and c.from_residual-in_err-read_packets.result c.from_residual-in_err-read_packets.ensures.1 in
    let h = c.args.header.now in
    let precinct = c.args.precinct in
    let bytes = c.args.bytes.now in
    let first = c.head_size-first.result in
    let size = c.read_size-size.result in
    let head : first ≡ precinct_head_size h = c.head_size-first.ensures ∙ ap (λ n. bytes_for (40 + 2 * n)) (c.bands.ensures.count ∙ ap bands_of c.requires.geometry) in
    let stated : size ≡ stated_size bytes = c.read_size-size.ensures.size ∙ size_front first bytes (omega (arith, head)) c.if-bytes-first.false in
    let slice = c.as_mut_slice-bands.result.now in
    let view : map last_of slice ≡ c.args.above.now = ap (map last_of) c.as_mut_slice-bands.ensures.value ∙ c.above.view_is in
    let prepared : ArePrepared h (take (precinct_head_size h) bytes) slice c.begin.new.bands = subst (λ n. ArePrepared h (take n bytes) slice c.begin.new.bands) head c.in_ok-begin.ensures.begun in
    let whole : precinct_end h bytes ≤ length bytes = omega (arith, head, stated, c.if-bytes-first.false, c.if-bytes-first-2.false) in
    let same : first + size - first ≡ stated_size bytes = omega (arith, stated) in
    let body : take (first + size - first) (drop first bytes) ≡ body_at h bytes = ap (λ n. take n (drop first bytes)) same ∙ ap (λ n. take (stated_size bytes) (drop n bytes)) head in
    rw (p.1, p.2) (λ _ content e.
    let ready = ready_begun h precinct content bytes slice c.begin.new.bands (omega (arith, whole)) (view ∙ e) prepared in
    fault_of_packets h precinct content bytes whole ∙ ap (packets_fault h (mode_at bytes) 0 (packets_of h precinct) (begun content precinct bytes)) (sym body) ∙ sym (c.in_err-read_packets.ensures.fault (begun content precinct bytes) (mode_at bytes) ready))

pub returns-clause-read : goal.returns-clause-read
returns-clause-read c =
    let h = c.args.header.now in
    let precinct = c.args.precinct in
    let bytes = c.args.bytes.now in
    let first = c.head_size-first.result in
    let size = c.read_size-size.result in
    let head : first ≡ precinct_head_size h = c.head_size-first.ensures ∙ ap (λ n. bytes_for (40 + 2 * n)) (c.bands.ensures.count ∙ ap bands_of c.requires.geometry) in
    let stated : size ≡ stated_size bytes = c.read_size-size.ensures.size ∙ size_front first bytes (omega (arith, head)) c.if-bytes-first.false in
    let slice = c.as_mut_slice-bands.result.now in
    let view : map last_of slice ≡ c.args.above.now = ap (map last_of) c.as_mut_slice-bands.ensures.value ∙ c.above.view_is in
    let prepared : ArePrepared h (take (precinct_head_size h) bytes) slice c.begin.new.bands = subst (λ n. ArePrepared h (take n bytes) slice c.begin.new.bands) head c.in_ok-begin.ensures.begun in
    let whole : precinct_end h bytes ≤ length bytes = omega (arith, head, stated, c.if-bytes-first.false, c.if-bytes-first-2.false) in
    let same : first + size - first ≡ stated_size bytes = omega (arith, stated) in
    let body : take (first + size - first) (drop first bytes) ≡ body_at h bytes = ap (λ n. take n (drop first bytes)) same ∙ ap (λ n. take (stated_size bytes) (drop n bytes)) head in
    let new = c.read_packets.new.bands in
    let items = c.above.inside.bands.items in
    λ content e.
    let ready = ready_begun h precinct content bytes slice c.begin.new.bands (omega (arith, whole)) (view ∙ e) prepared in
    let none = fault_of_packets h precinct content bytes whole ∙ ap (packets_fault h (mode_at bytes) 0 (packets_of h precinct) (begun content precinct bytes)) (sym body) ∙ sym (c.in_ok-read_packets.ensures.fault (begun content precinct bytes) (mode_at bytes) ready) in
    let read : ArePacketsRead h precinct (with_precinct h precinct content bytes) new c.args.into.now c.read_packets.new.into =
    subst (λ b. ArePacketsRead h precinct (with_packets h (mode_at bytes) (packets_of h precinct) (begun content precinct bytes) b) new c.args.into.now c.read_packets.new.into) body (c.in_ok-read_packets.ensures.read (begun content precinct bytes) (mode_at bytes) ready) in
    let size_before = above_size h content precinct slice (view ∙ e) in
    let size_new : length new ≡ length slice = c.in_ok-read_packets.ensures.count ∙ c.in_ok-begin.ensures.begun.count in
    record {
      no_fault = none;
      ends = ap (λ n. n + size) head ∙ ap (λ n. precinct_head_size h + n) stated;
      shown = read.shown;
      elsewhere = read.elsewhere;
      kept = λ more last. ap (map last_of) (ap (λ k. take k (new ++ drop (length new) items)) (sym (size_new ∙ c.as_mut_slice-bands.ensures.len)) ∙ take-append_seam new (drop (length new) items)) ∙ above_after h (with_precinct h precinct content bytes) (precinct + 1) new (size_new ∙ size_before) (read.kept more last);
    }
