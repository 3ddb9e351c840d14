-- Where a picture stands, and the codestream that its turn writes.
use Rattle.std.specs.Prelude.{◌≡◌, ⊤, Result, Ok, Err, List, ℕ, [], ◌∷◌}
use Rattle.xs_params.specs.declared.settings.Settings.{Settings}
use Rattle.xs_params.specs.Stream.{Stream}
use Rattle.xs_endings.specs.declared.stop.Stop.{Stop}
use Rattle.xs_endings.specs.declared.stop.Stop.TheVariants as stop
use Rattle.xs_endings.specs.Turns.{Before, Ends}
use Rattle.xs_words.specs.declared.command.Form.{Form}
use Rattle.xs_cli.specs.declared.encoding.Place.{Place}
use Rattle.xs_cli.specs.Encoded.{encode_turn, written_as}

abbrev pub before_of : Place → Before
before_of place = record { pictures = place.picture; bytes = place.byte; sequence = place.sequence }

-- in each form the turn writes the codestream, or ends the run with the note; want of memory is free
abbrev pub IsStreamAt : Settings → Before → List ℕ → Result Stream Stop → Type 0
IsStreamAt s before bytes (Ok stream) = (form : Form) → encode_turn s form before bytes ≡ written_as s form before stream
IsStreamAt s before bytes (Err (stop.Told note)) = (form : Form) → encode_turn s form before bytes ≡ Ends (note ∷ [])
IsStreamAt s before bytes (Err stop.Memory) = ⊤
IsStreamAt s before bytes (Err stop.ReadFault) = ⊥
IsStreamAt s before bytes (Err stop.WriteFault) = ⊥
