-- Which call is refused, with which number: the table of the documents, row by row.
use Rattle.std.specs.Prelude.{ℕ, Bool, true, false, cond, not, ◌&&◌, List, [], ◌∷◌, Some, None, Option, ◌==◌}
use Rattle.registers.specs.declared.command.Command.{Command}
use Rattle.registers.specs.declared.command.Command.TheVariants.{ChipReset, Disconnect, Pause, SetAtn, MessageAccepted, ChipDisable, Unused, Select, Transfer, Invalid}
use Rattle.registers.specs.declared.register.Register.{Register}
use Rattle.registers.specs.declared.register.Register.TheVariants.{Data, Command as CommandRegister, Control, DestinationId, AuxiliaryStatus, Id, Interrupt, SourceId, DiagnosticStatus, CounterHigh, CounterMiddle, CounterLow}
use Rattle.registers.specs.declared.state.State.{State}
use Rattle.registers.specs.declared.state.State.TheVariants.{Idle, Arbitrating, Selecting, Waiting, Asked, Transferring, Disabled}
use Rattle.registers.specs.Commands.{command_of}
use Rattle.registers.specs.Registers.{register_at}
use Rattle.registers.specs.States.{is_busy, is_disabled}
use Rattle.chip.specs.Outcomes.{in_dma, wants_byte, is_empty}
use Rattle.chip.specs.Reads.{is_chip_reset}
use Rattle.chip.specs.Views.{View}

-- where the row holds, the call is refused with this number
pub record Row : Type 0 where
  pub holds : Bool
  pub number : ℕ

abbrev pub row : Bool → ℕ → Row
row b n = record { holds = b; number = n }

-- the first row that holds; zero, no refusal, where none does
abbrev pub first : List Row → ℕ
first [] = 0
first (r ∷ rs) = cond r.holds r.number (first rs)

-- whether there is a register, and one of this sort
abbrev pub there : (Register → Bool) → Option Register → Bool
there p None = false
there p (Some r) = p r

-- the register Data
abbrev pub is_data : Register → Bool
is_data Data = true
is_data CommandRegister = false
is_data Control = false
is_data DestinationId = false
is_data AuxiliaryStatus = false
is_data Id = false
is_data Interrupt = false
is_data SourceId = false
is_data DiagnosticStatus = false
is_data CounterHigh = false
is_data CounterMiddle = false
is_data CounterLow = false

-- a register that is only read
abbrev pub is_read_only : Register → Bool
is_read_only Data = false
is_read_only CommandRegister = false
is_read_only Control = false
is_read_only DestinationId = false
is_read_only AuxiliaryStatus = true
is_read_only Id = true
is_read_only Interrupt = true
is_read_only SourceId = true
is_read_only DiagnosticStatus = true
is_read_only CounterHigh = false
is_read_only CounterMiddle = false
is_read_only CounterLow = false

-- a register that is set before a command, and not under one
abbrev pub is_settled_first : Register → Bool
is_settled_first Data = false
is_settled_first CommandRegister = false
is_settled_first Control = false
is_settled_first DestinationId = true
is_settled_first AuxiliaryStatus = false
is_settled_first Id = false
is_settled_first Interrupt = false
is_settled_first SourceId = false
is_settled_first DiagnosticStatus = false
is_settled_first CounterHigh = true
is_settled_first CounterMiddle = true
is_settled_first CounterLow = true

-- the register Command
abbrev pub is_command : Register → Bool
is_command Data = false
is_command CommandRegister = true
is_command Control = false
is_command DestinationId = false
is_command AuxiliaryStatus = false
is_command Id = false
is_command Interrupt = false
is_command SourceId = false
is_command DiagnosticStatus = false
is_command CounterHigh = false
is_command CounterMiddle = false
is_command CounterLow = false

-- a code from 08h on
abbrev pub from_08h : Command → Bool
from_08h ChipReset = false
from_08h Disconnect = false
from_08h Pause = false
from_08h SetAtn = false
from_08h MessageAccepted = false
from_08h ChipDisable = false
from_08h Unused = false
from_08h Select = true
from_08h Transfer = true
from_08h Invalid = true

-- commands that lose held bytes
abbrev pub discards : Command → Bool
discards ChipReset = true
discards Disconnect = true
discards Pause = false
discards SetAtn = false
discards MessageAccepted = false
discards ChipDisable = true
discards Unused = false
discards Select = false
discards Transfer = false
discards Invalid = false

-- a state that takes such a code
abbrev pub takes_command : State → Bool
takes_command Idle = true
takes_command Arbitrating = false
takes_command Selecting = false
takes_command Waiting = false
takes_command Asked = true
takes_command Transferring = false
takes_command Disabled = false

module _ (v : View) where
  -- where there is no register, there is but one row
  abbrev pub rows_at : (Register → List Row) → Option Register → List Row
  rows_at rows None = row true 1 ∷ []
  rows_at rows (Some r) = rows r

  abbrev pub read_rows : Register → List Row
  read_rows r = row (is_data r && in_dma v) 7 ∷ row (is_data r && is_empty v.received) 6 ∷ []

  abbrev pub read_table : ℕ → List Row
  read_table a = row (is_disabled v.state) 3 ∷ rows_at read_rows (register_at a)

  abbrev pub command_rows : Command → List Row
  command_rows o = row (from_08h o && not (v.registers.interrupt == 0)) 4 ∷ row (from_08h o && not (takes_command v.state)) 5 ∷ []

  abbrev pub write_rows : Register → Command → List Row
  write_rows r o =
      row (is_read_only r) 2 ∷ row (is_data r && in_dma v) 7 ∷ row (is_data r && not (wants_byte v)) 6
      ∷ row (is_settled_first r && is_busy v.state) 5
      ∷ row (is_command r && (from_08h o && not (v.registers.interrupt == 0))) 4 ∷ row (is_command r && (from_08h o && not (takes_command v.state))) 5 ∷ []

  abbrev pub write_table : ℕ → ℕ → List Row
  write_table a x = row (is_disabled v.state && not (is_chip_reset a x)) 3 ∷ rows_at (λ r. write_rows r (command_of x)) (register_at a)

  abbrev pub dma_read_table : List Row
  dma_read_table = row (is_disabled v.state) 3 ∷ row (not (in_dma v)) 7 ∷ row (is_empty v.received) 6 ∷ []

  abbrev pub dma_write_table : List Row
  dma_write_table = row (is_disabled v.state) 3 ∷ row (not (in_dma v)) 7 ∷ row (not (wants_byte v)) 6 ∷ []

  -- ticks and turns
  abbrev pub clock_table : List Row
  clock_table = row (is_disabled v.state) 3 ∷ []
