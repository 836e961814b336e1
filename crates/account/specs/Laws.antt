-- Laws over every call of a string, whatever it holds and whatever its station is.
use Rattle.std.specs.Prelude.{◌≡◌, ℕ, Bool, true, false, cond, ◌&&◌, List, [], ◌∷◌, ◌++◌, ◌==◌, ◌≢◌}
use Rattle.bus.specs.Meaning.{Meaning}
use Rattle.registers.specs.declared.answer.Answer.{Answer}
use Rattle.registers.specs.declared.call.Call.{Call}
use Rattle.registers.specs.declared.call.Call.TheVariants.{Read as read, Write as write, DmaRead as dma_read, DmaWrite as dma_write, Tick as tick, Turn as turn, Reset as reset}
use Rattle.registers.specs.Commands.{command_of}
use Rattle.registers.specs.Registers.{register_at}
use Rattle.registers.specs.States.{is_disabled}
use Rattle.chip.specs.Outcomes.{lines_of, quiet, is_pad}
use Rattle.chip.specs.Views.{View}
use Rattle.account.specs.Lines.{Line}
use Rattle.account.specs.Steps.{Step, read_step, write_step, dma_read_step, dma_write_step, tick_step, turn_step, reset_step}
use Rattle.account.specs.RefusalTable.{first, there, is_data, is_command, discards, read_table, write_table, dma_read_table, dma_write_table, clock_table}

abbrev pub step_of : {S : Type 0} → Meaning S → Call → Line S → Step S
step_of m (read a) l = read_step m a l
step_of m (write a x) l = write_step m a x l
step_of m dma_read l = dma_read_step m l
step_of m (dma_write x) l = dma_write_step m x l
step_of m tick l = tick_step m l
step_of m turn l = turn_step m l
step_of m reset l = reset_step m l

-- the number with which a call is refused, by the table
abbrev pub refusal_of : Call → View → ℕ
refusal_of (read a) v = first (read_table v a)
refusal_of (write a x) v = first (write_table v a x)
refusal_of dma_read v = first (dma_read_table v)
refusal_of (dma_write x) v = first (dma_write_table v)
refusal_of tick v = first (clock_table v)
refusal_of turn v = first (clock_table v)
refusal_of reset v = 0

-- an answer that tells a refusal and the lines, and nothing else
abbrev pub bare : ℕ → View → Answer
bare n v = record { refusal = n; value = 0; lines = lines_of v; cable = 0; byte = 0; phase = 0; lost = 0 }

-- calls that read a byte of data
abbrev pub reads_data : Call → Bool
reads_data (read a) = there is_data (register_at a)
reads_data (write a x) = false
reads_data dma_read = true
reads_data (dma_write x) = false
reads_data tick = false
reads_data turn = false
reads_data reset = false

-- The calls at which bytes can be lost: the reset call, three commands (`discards`), and a turn under Transfer Pad. k is
-- what Command held.
abbrev pub may_lose : Call → ℕ → Bool
may_lose (read a) k = false
may_lose (write a x) k = there is_command (register_at a) && discards (command_of x)
may_lose dma_read k = false
may_lose (dma_write x) k = false
may_lose tick k = false
may_lose turn k = is_pad k
may_lose reset k = true

-- the byte that came in on the cable and was not lost
abbrev pub came_in : Answer → List ℕ
came_in a = cond (a.cable == 1 && a.lost == 0) (a.byte ∷ []) []

-- the byte that the host read
abbrev pub went_out : Bool → Answer → List ℕ
went_out reading a = cond (a.refusal == 0 && reading) (a.value ∷ []) []

module _ {S : Type 0} (m : Meaning S) where
  -- The laws of one call. Its refusal is exactly the table's. Refused, it changes nothing, and answers the number and the
  -- lines alone. And unless it is one that may lose bytes, no received byte is lost, and bytes are read in the order in
  -- which they came.
  pub record Keeps (c : Call) (l : Line S) : Type 0 where
    pub refusal : (step_of m c l).answer.refusal ≡ refusal_of c l.chip
    pub unchanged : (refusal_of c l.chip ≢ 0) → ((step_of m c l).left ≡ l) × ((step_of m c l).up ≡ []) × ((step_of m c l).answer ≡ bare (refusal_of c l.chip) l.chip)
    pub in_order : may_lose c l.chip.registers.command ≡ false → l.chip.received ++ came_in (step_of m c l).answer ≡ went_out (reads_data c) (step_of m c l).answer ++ (step_of m c l).left.chip.received

  -- every call keeps them; and while an interrupt is pending a turn does nothing
  pub record Laws : Type 0 where
    pub keeps : (c : Call) (l : Line S) → Keeps c l
    pub pending : (l : Line S) → is_disabled l.chip.state ≡ false → (l.chip.registers.interrupt ≢ 0) → ((step_of m turn l).left ≡ l) × ((step_of m turn l).answer ≡ quiet l.chip)
