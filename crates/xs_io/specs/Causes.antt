-- When a device may be said to have failed: only where its count of faults rose in the call.
use Rattle.std.specs.Prelude.{ℕ, ◌+◌, ◌-◌, ◌^◌, ◌≤◌, min, Result, OnErr, IsErrOf}
use Rattle.xs_io.specs.declared.traits.SinkFault.{SinkFault}
use Rattle.xs_io.specs.declared.traits.SinkFault.TheVariants as sink
use Rattle.xs_io.specs.declared.traits.TakeFault.{TakeFault}
use Rattle.xs_io.specs.declared.traits.TakeFault.TheVariants as take_fault

-- one more, as far as a count of 64 bits goes
abbrev pub one_more : ℕ → ℕ
one_more count = min (count + 1) (2 ^ 64 - 1)

-- a count rose: it is greater than before, or stands at the end of its type
abbrev pub Rose : ℕ → ℕ → Type 0
Rose before now = one_more before ≤ now

-- the count never falls, and an error comes only where it rose
pub record HasCause {T E : Type 0} (before now : ℕ) (result : Result T E) : Type 0 where
  pub later : before ≤ now
  pub failed : OnErr result (Rose before now)

-- the same for a sink, whose want of memory is free
pub record HasSinkCause {T : Type 0} (before now : ℕ) (result : Result T SinkFault) : Type 0 where
  pub later : before ≤ now
  pub failed : IsErrOf result sink.Failed → Rose before now

-- the same where input is taken whole
pub record HasTakeCause {T : Type 0} (before now : ℕ) (result : Result T TakeFault) : Type 0 where
  pub later : before ≤ now
  pub failed : IsErrOf result take_fault.Failed → Rose before now
