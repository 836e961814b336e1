-- Sessions: calls one after the other on a string, by the definitions that the contracts of the calls use.
use Rattle.std.specs.Prelude.{List, [], ◌∷◌, ◌++◌, ℕ, zero, suc}
use Rattle.std.proofs.Common.{lit<}
use Rattle.std.specs.Borrow.{Bor}
use Rattle.bus.specs.Meaning.{Meaning}
use Rattle.registers.specs.declared.answer.Answer.{Answer}
use Rattle.chip.specs.Outcomes.{made_new}
use Rattle.registers.specs.declared.call.Call.{Call}
use Rattle.account.specs.Laws.{step_of}
use Rattle.registers.specs.declared.call.Call.TheVariants.{Read as read, Write as write, Tick as tick, Turn as turn}
use Rattle.account.specs.Lines.{Line, line}
use Rattle.script.specs.declared.row.Row.{Row}
use Rattle.script.specs.declared.script.Script.{Script}
use Rattle.script.specs.Scripts.{opening}
use Rattle.drive.specs.declared.image.Image.{Image}
use Rattle.drive.specs.declared.drive.Drive.{Drive}
use Rattle.drive.specs.declared.drive.Stage.TheVariants.{Idle}

module _ {S : Type 0} (m : Meaning S) where
  -- the string after these calls
  abbrev pub after : List Call → Line S → Line S
  after [] l = l
  after (c ∷ cs) l = after cs (step_of m c l).left

  -- what one more call answers then
  abbrev pub answer : Call → List Call → Line S → Answer
  answer c cs l = (step_of m c (after cs l)).answer

  -- what the register at an address shows then
  abbrev pub shows : ℕ → List Call → Line S → ℕ
  shows a cs l = (answer (read a) cs l).value

-- so many ticks
abbrev pub ticks : ℕ → List Call
ticks zero = []
ticks (suc n) = tick ∷ ticks n

-- a row of a table with good parity: kind, phase, byte, next
abbrev pub row : ℕ → ℕ → ℕ → ℕ → Row
row k p b n = record { kind = k; phase = p; byte = b; parity = 0; next = n }

-- a new string of chip 7 and a script of these rows at address 3, wherever the table lies
abbrev pub with_script : Bor (List Row) → List Row → Line Script
with_script place rows = line (made_new 7) (record { rows = record place { now = rows }; address = record { number = 3; within = lit< tt }; place = opening rows })

-- a new string of chip 7 and a drive at address 2 over any image
abbrev pub with_drive : Image → Line Drive
with_drive image = line (made_new 7) (record { image = image; address = record { number = 2; within = lit< tt }; stage = Idle })

-- Destination and counter are written, then a Select
abbrev pub selecting : ℕ → ℕ → ℕ → List Call
selecting station count command = write 3 station ∷ write 14 count ∷ write 1 command ∷ []

-- a selection without ATN, up to the first phase that the station asks for; each interrupt is read but the last
abbrev pub asked_by : ℕ → List Call
asked_by station = selecting station 0 9 ++ (turn ∷ turn ∷ read 6 ∷ turn ∷ [])

-- the bytes of a command, written and sent one by one
abbrev pub sending : List ℕ → List Call
sending [] = []
sending (b ∷ bs) = write 0 b ∷ turn ∷ sending bs
