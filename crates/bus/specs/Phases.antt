-- The eight phases: their numbers, names and directions.
use Rattle.std.specs.Prelude.{◌≡◌, ℕ, ◌<◌, Bool, cond, List, [], Some, None, codes, Option, Result, MatchResult, ◌==◌, nat_le}
use Rattle.bus.specs.declared.phase.Phase.{Phase}
use Rattle.bus.specs.declared.phase.NoSuchPhase.{NoSuchPhase}
use Rattle.bus.specs.declared.phase.Phase.TheVariants.{DataOut, UnspecifiedOut, Command, MessageOut, DataIn, UnspecifiedIn, Status, MessageIn}

-- 4 × I/O + 2 × C/D + MSG
abbrev pub phase_number : Phase → ℕ
phase_number DataOut = 0
phase_number UnspecifiedOut = 1
phase_number Command = 2
phase_number MessageOut = 3
phase_number DataIn = 4
phase_number UnspecifiedIn = 5
phase_number Status = 6
phase_number MessageIn = 7

-- the phase with a number, if there is one
abbrev pub phase_numbered : ℕ → Option Phase
phase_numbered n =
    cond (n == 0) (Some DataOut) (cond (n == 1) (Some UnspecifiedOut) (cond (n == 2) (Some Command)
    (cond (n == 3) (Some MessageOut) (cond (n == 4) (Some DataIn) (cond (n == 5) (Some UnspecifiedIn)
    (cond (n == 6) (Some Status) (cond (n == 7) (Some MessageIn) None)))))))

-- the number of a phase, which leads back to it
abbrev pub PhaseNumber : Phase → ℕ → Type 0
PhaseNumber p n = (n ≡ phase_number p) × ((n < 8) × (phase_numbered n ≡ Some p))

-- what a number names: the phase that has it, or none, and then the number is handed back
abbrev pub PhaseOf : ℕ → Result Phase NoSuchPhase → Type 0
PhaseOf n r = MatchResult r (λ p. (phase_numbered n ≡ Some p) × ((phase_number p ≡ n) × (n < 8))) (λ e. (e.0 ≡ n) × ((phase_numbered n ≡ None) × (7 < n)))

abbrev pub same_phase : Phase → Phase → Bool
same_phase p q = phase_number p == phase_number q

-- bytes travel to the initiator: I/O is on
abbrev pub is_input : Phase → Bool
is_input p = nat_le 4 (phase_number p)

-- these bytes, where the phase is Data In, and otherwise none
abbrev pub in_data_in : Phase → List ℕ → List ℕ
in_data_in p bytes = cond (phase_number p == 4) bytes []

abbrev pub phase_name : Phase → List ℕ
phase_name DataOut = codes "Data Out"
phase_name UnspecifiedOut = codes "Unspecified Out"
phase_name Command = codes "Command"
phase_name MessageOut = codes "Message Out"
phase_name DataIn = codes "Data In"
phase_name UnspecifiedIn = codes "Unspecified In"
phase_name Status = codes "Status"
phase_name MessageIn = codes "Message In"
