-- What the adapters over real streams stand for.
use Rattle.std.specs.Prelude.{ℕ}
use Rattle.xs_io.specs.declared.adapters.ReadAdapter.{ReadAdapter}
use Rattle.xs_io.specs.declared.adapters.WriteAdapter.{WriteAdapter}

-- the stream inside
abbrev pub read_inner : {R : Type 0} → ReadAdapter R → R
read_inner s = s.inner

abbrev pub write_inner : {W : Type 0} → WriteAdapter W → W
write_inner s = s.inner

-- how many errors it met
abbrev pub read_faults : {R : Type 0} → ReadAdapter R → ℕ
read_faults s = s.faults

abbrev pub write_faults : {W : Type 0} → WriteAdapter W → ℕ
write_faults s = s.faults
