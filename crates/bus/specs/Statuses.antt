-- The bytes of statuses, and their names.
use Rattle.std.specs.Prelude.{◌≡◌, ℕ, cond, List, Some, None, codes, Option, Result, MatchResult, ◌==◌}
use Rattle.bus.specs.declared.status.NoSuchStatus.{NoSuchStatus}
use Rattle.bus.specs.declared.status.Status.{Status}
use Rattle.bus.specs.declared.status.Status.TheVariants.{Good, CheckCondition}

abbrev pub status_byte : Status → ℕ
status_byte Good = 0
status_byte CheckCondition = 2

-- the status of a byte, if it is one
abbrev pub status_of : ℕ → Option Status
status_of b = cond (b == 0) (Some Good) (cond (b == 2) (Some CheckCondition) None)

-- the byte of a status, which leads back to it
abbrev pub StatusByte : Status → ℕ → Type 0
StatusByte s b = (b ≡ status_byte s) × (status_of b ≡ Some s)

-- what a byte says: a status, or none, and then the byte is handed back
abbrev pub StatusOf : ℕ → Result Status NoSuchStatus → Type 0
StatusOf b r = MatchResult r (λ s. (status_of b ≡ Some s) × (status_byte s ≡ b)) (λ e. (e.0 ≡ b) × (status_of b ≡ None))

abbrev pub status_name : Status → List ℕ
status_name Good = codes "good"
status_name CheckCondition = codes "check condition"
