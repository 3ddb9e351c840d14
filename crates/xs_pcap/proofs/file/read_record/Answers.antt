use Rattle.std.proofs.Common.{arith}
use Rattle.xs_pcap.proofs.Walks.{cut_at, found_at}
use Rattle.xs_pcap.proofs.file.read_record.Goals as goal

-- src/file.rt:81:9
pub returns-then-bytes-first-clause-read : goal.returns-then-bytes-first-clause-read
returns-then-bytes-first-clause-read c = cut_at c.args.order c.args.bytes.now c.args.place (omega (arith, c.requires)) (omega (arith, c.if-bytes-first.true, c.word_at-length.ensures))

-- src/file.rt:70:1
pub returns-clause-read : goal.returns-clause-read
returns-clause-read c =
    found_at c.args.order c.args.bytes.now c.args.place c.word_at-length.result (omega (arith, c.if-bytes-place-lt-RECORD.false)) c.word_at-length.ensures (omega (arith, c.if-bytes-first.false))
