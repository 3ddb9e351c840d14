-- What the program owes to the arguments that it is started with, and to its streams.
use Rattle.std.specs.Prelude.{◌≡◌, ℕ, Result, Ok, Err, String, drop, map}
use Rattle.std.specs.IoError.{error_kind}
use Rattle.std.specs.String.{string_bytes}
use Rattle.std.specs.Vec.Iter.{into_iter_items}
use Rattle.std.specs.declared.alloc.Global.{Global}
use Rattle.std.specs.declared.io.Error.{Error}
use Rattle.std.specs.declared.io.ErrorKind.{ErrorKind}
use Rattle.std.specs.declared.io.ErrorKind.TheVariants.{OutOfMemory}
use Rattle.std.specs.declared.vec.IntoIter.{IntoIter}
use Rattle.xs_endings.specs.Ends.{Ends, IsUntouched}
use Rattle.xs_cli.specs.Run.{IsRun}

-- the status where no words came in: memory was wanting, or one is not UTF-8
abbrev pub wordless_status : ErrorKind → ℕ
wordless_status OutOfMemory = 9
wordless_status kind = 1

-- no words came in: nothing is read or written
pub record IsWordless (kind : ErrorKind) (ends : Ends) (status : ℕ) : Type 0 where
  pub answered : status ≡ wordless_status kind
  pub input : IsUntouched ends.input
  pub output : IsUntouched ends.output
  pub notes : IsUntouched ends.notes

-- it is a run of the words after the program's name
abbrev pub IsProgram : Result (IntoIter (String Global) Global) Error → Ends → ℕ → Type 0
IsProgram (Ok args) ends status = IsRun (map string_bytes (drop 1 (into_iter_items args))) ends status
IsProgram (Err error) ends status = IsWordless (error_kind error) ends status
