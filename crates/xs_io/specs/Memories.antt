-- What the sources and sinks in memory stand for.
use Rattle.std.specs.Prelude.{ℕ, List}
use Rattle.xs_io.specs.declared.memory.MemSource.{MemSource}
use Rattle.xs_io.specs.declared.memory.SureSource.{SureSource}
use Rattle.xs_io.specs.declared.memory.MemSink.{MemSink}
use Rattle.xs_io.specs.declared.memory.SureSink.{SureSink}

-- the bytes that are left
abbrev pub source_left : MemSource → List ℕ
source_left s = s.supply

abbrev pub source_faults : MemSource → ℕ
source_faults s = s.faults

-- how many calls were made
abbrev pub source_calls : MemSource → ℕ
source_calls s = s.calls

-- the numbers of the calls that fail
abbrev pub source_fails : MemSource → List ℕ
source_fails s = s.fails

abbrev pub sure_left : SureSource → List ℕ
sure_left s = s.supply

-- the bytes that are held
abbrev pub sink_bytes : MemSink → List ℕ
sink_bytes s = s.bytes

abbrev pub sink_faults : MemSink → ℕ
sink_faults s = s.faults

abbrev pub sink_calls : MemSink → ℕ
sink_calls s = s.calls

abbrev pub sink_fails : MemSink → List ℕ
sink_fails s = s.fails

abbrev pub sure_bytes : SureSink → List ℕ
sure_bytes s = s.bytes
