-- How the program ends.
use Rattle.std.specs.Prelude.{ℕ, Option, Some, None, Result, Ok, Err}
use Rattle.charmlet_explain.specs.declared.exit.Failure.{Failure}
use Rattle.charmlet_explain.specs.declared.exit.Failure.TheVariants.{BadLine, Unread, CannotGoOn}

-- 0 if no line is malformed, 1 if memory or the output failed, and otherwise 2
abbrev pub exit_status : Result (Option ℕ) Failure → ℕ
exit_status (Ok None) = 0
exit_status (Ok (Some line)) = 2
exit_status (Err BadLine) = 2
exit_status (Err Unread) = 2
exit_status (Err CannotGoOn) = 1
