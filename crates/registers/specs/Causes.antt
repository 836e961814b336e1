-- The causes of an interrupt: their numbers and names.
use Rattle.std.specs.Prelude.{◌≡◌, ℕ, cond, List, Some, None, codes, Option, Result, MatchResult, ◌==◌}
use Rattle.registers.specs.declared.cause.Cause.{Cause}
use Rattle.registers.specs.declared.cause.Cause.TheVariants.{FunctionComplete, BusService, Disconnected, Reselected, InvalidCommand}
use Rattle.registers.specs.declared.cause.NoSuchCause.{NoSuchCause}

abbrev pub cause_number : Cause → ℕ
cause_number FunctionComplete = 1
cause_number BusService = 2
cause_number Disconnected = 4
cause_number Reselected = 16
cause_number InvalidCommand = 64

-- the cause with a number, if there is one
abbrev pub cause_numbered : ℕ → Option Cause
cause_numbered n =
    cond (n == 1) (Some FunctionComplete) (cond (n == 2) (Some BusService) (cond (n == 4) (Some Disconnected)
    (cond (n == 16) (Some Reselected) (cond (n == 64) (Some InvalidCommand) None))))

-- the number of a cause, which leads back to it
abbrev pub CauseNumber : Cause → ℕ → Type 0
CauseNumber c n = (n ≡ cause_number c) × (cause_numbered n ≡ Some c)

-- what a number names: the cause that has it, or none, and then the number is handed back
abbrev pub CauseOf : ℕ → Result Cause NoSuchCause → Type 0
CauseOf n r = MatchResult r (λ c. (cause_numbered n ≡ Some c) × (cause_number c ≡ n)) (λ e. (e.0 ≡ n) × (cause_numbered n ≡ None))

abbrev pub cause_name : Cause → List ℕ
cause_name FunctionComplete = codes "function complete"
cause_name BusService = codes "bus service"
cause_name Disconnected = codes "disconnected"
cause_name Reselected = codes "reselected"
cause_name InvalidCommand = codes "invalid command"
