-- What a turnstile stands for.
use Rattle.std.specs.Prelude.{ℕ}
use Rattle.xs_io.specs.declared.gates.TurnstileGate.{TurnstileGate}

-- how many workers it waits for
abbrev pub turnstile_parties : TurnstileGate → ℕ
turnstile_parties g = g.parties
