-- The states of the chip, and what they have in common.
use Rattle.std.specs.Prelude.{◌≡◌, ℕ, ◌<◌, Bool, true, false, cond, Some, None, Option, Result, MatchResult, ◌==◌}
use Rattle.registers.specs.declared.state.NoSuchState.{NoSuchState}
use Rattle.registers.specs.declared.state.State.{State}
use Rattle.registers.specs.declared.state.State.TheVariants.{Idle, Arbitrating, Selecting, Waiting, Asked, Transferring, Disabled}

abbrev pub state_number : State → ℕ
state_number Idle = 0
state_number Arbitrating = 1
state_number Selecting = 2
state_number Waiting = 3
state_number Asked = 4
state_number Transferring = 5
state_number Disabled = 6

-- the state of a number, if it has one
abbrev pub state_numbered : ℕ → Option State
state_numbered n =
    cond (n == 0) (Some Idle) (cond (n == 1) (Some Arbitrating) (cond (n == 2) (Some Selecting) (cond (n == 3) (Some Waiting)
    (cond (n == 4) (Some Asked) (cond (n == 5) (Some Transferring) (cond (n == 6) (Some Disabled) None))))))

-- the number of a state, which leads back to it
abbrev pub StateNumber : State → ℕ → Type 0
StateNumber s n = (n ≡ state_number s) × (state_numbered n ≡ Some s)

-- what a number names: the state that has it, or none, and then the number is handed back
abbrev pub StateOf : ℕ → Result State NoSuchState → Type 0
StateOf n r = MatchResult r (λ s. (state_numbered n ≡ Some s) × (state_number s ≡ n)) (λ e. (e.0 ≡ n) × ((state_numbered n ≡ None) × (6 < n)))

abbrev pub is_transferring : State → Bool
is_transferring Idle = false
is_transferring Arbitrating = false
is_transferring Selecting = false
is_transferring Waiting = false
is_transferring Asked = false
is_transferring Transferring = true
is_transferring Disabled = false

-- connected to a station
abbrev pub is_connected : State → Bool
is_connected Idle = false
is_connected Arbitrating = false
is_connected Selecting = false
is_connected Waiting = true
is_connected Asked = true
is_connected Transferring = true
is_connected Disabled = false

-- a command is under way
abbrev pub is_busy : State → Bool
is_busy Idle = false
is_busy Arbitrating = true
is_busy Selecting = true
is_busy Waiting = false
is_busy Asked = false
is_busy Transferring = true
is_busy Disabled = false

-- neither connected nor disabled
abbrev pub is_free : State → Bool
is_free Idle = true
is_free Arbitrating = true
is_free Selecting = true
is_free Waiting = false
is_free Asked = false
is_free Transferring = false
is_free Disabled = false

abbrev pub is_selecting : State → Bool
is_selecting Idle = false
is_selecting Arbitrating = false
is_selecting Selecting = true
is_selecting Waiting = false
is_selecting Asked = false
is_selecting Transferring = false
is_selecting Disabled = false

abbrev pub is_disabled : State → Bool
is_disabled Idle = false
is_disabled Arbitrating = false
is_disabled Selecting = false
is_disabled Waiting = false
is_disabled Asked = false
is_disabled Transferring = false
is_disabled Disabled = true
