-- Faults inside which no memory was wanting: those that a note names.
use Rattle.std.specs.Prelude.{◌≢◌, ⊤}
use Rattle.xs_faults.specs.declared.HeadFault.TheVariants as head
use Rattle.xs_faults.specs.declared.PrecinctFault.TheVariants as precinct
use Rattle.xs_faults.specs.declared.SliceFault.{SliceFault}
use Rattle.xs_faults.specs.declared.SliceFault.TheVariants as slice
use Rattle.xs_faults.specs.declared.StreamFault.{StreamFault}
use Rattle.xs_faults.specs.declared.StreamFault.TheVariants as stream

abbrev pub NamesSliceFault : SliceFault → Type 0
NamesSliceFault slice.Short = ⊤
NamesSliceFault slice.Head = ⊤
NamesSliceFault (slice.Precinct number fault) = fault ≢ precinct.Memory
NamesSliceFault (slice.Trailing place) = ⊤
NamesSliceFault slice.End = ⊤
NamesSliceFault slice.Memory = ⊥

-- want of memory itself is no fault inside
abbrev pub NamesStreamFault : StreamFault → Type 0
NamesStreamFault (stream.Cut place) = ⊤
NamesStreamFault (stream.Head fault) = fault ≢ head.Memory
NamesStreamFault (stream.Slice number fault) = NamesSliceFault fault
NamesStreamFault (stream.End place) = ⊤
NamesStreamFault (stream.Lcod stated length) = ⊤
NamesStreamFault stream.Memory = ⊤
