-- What is printed of what stops the program; cited by src/stopped.rt.
--     debug_text s      what `{:?}` writes of s; None of an IO error, for which the library states no text
use Rattle.std.specs.Prelude.{ℕ, List, Option, Some, None}
use Rattle.anyhow.specs.Error.{error_debug_text}
use Rattle.report.specs.declared.stopped.Stopped.{Stopped}
use Rattle.report.specs.declared.stopped.Stopped.TheVariants.{Io, Other}

abbrev pub debug_text : Stopped → Option (List ℕ)
debug_text (Io error) = None
debug_text (Other error) = Some (error_debug_text error)
