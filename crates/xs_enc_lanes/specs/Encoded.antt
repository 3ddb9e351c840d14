-- What is promised of the encoding of a picture by several threads: 'Rate choice'.
use Rattle.std.specs.Prelude.{◌≡◌, ⊤, Result, Ok, Err}
use Rattle.xs_params.specs.Stream.{Stream}
use Rattle.xs_faults.specs.declared.Budget.{Budget}
use Rattle.xs_faults.specs.declared.SliceRefusal.{SliceRefusal}
use Rattle.xs_faults.specs.declared.SliceRefusal.TheVariants as refusal
use Rattle.xs_enc_lanes.specs.declared.encoder.Encoded.{Encoded}

-- the codestream, or the first slice that is over its share; want of memory is free
abbrev pub IsEncodedOrMemory : Result Stream Budget → Result Encoded SliceRefusal → Type 0
IsEncodedOrMemory encoding (Ok encoded) = encoding ≡ Ok encoded.stream
IsEncodedOrMemory encoding (Err (refusal.Budget budget)) = encoding ≡ Err budget
IsEncodedOrMemory encoding (Err refusal.Memory) = ⊤
