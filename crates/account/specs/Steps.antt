-- What each call of a string answers and leaves.
use Rattle.std.specs.Prelude.{ℕ, ◌%◌, Bool, cond, List, []}
use Rattle.bus.specs.Meaning.{Meaning, joined, says_yes}
use Rattle.registers.specs.declared.answer.Answer.{Answer}
use Rattle.registers.specs.declared.answer.Reaction.{Reaction}
use Rattle.registers.specs.declared.answer.Reaction.TheVariants.{Nothing, Tell, Choose}
use Rattle.chip.specs.Orders.{resets}
use Rattle.chip.specs.Outcomes.{Outcome, quiet, heard_yes}
use Rattle.chip.specs.Reads.{reads, writes, dma_reads, dma_writes, ticks}
use Rattle.chip.specs.Turns.{turned}
use Rattle.chip.specs.Views.{View}
use Rattle.account.specs.Lines.{Line, line}

-- the answer, what the call leaves, and what joined the station's list in it
pub record Step (S : Type 0) : Type 0 where
  pub answer : Answer
  pub left : Line S
  pub up : List ℕ

abbrev pub step : {S : Type 0} → Answer → View → S → List ℕ → Step S
step a v s up = record { answer = a; left = line v s; up = up }

module _ {S : Type 0} (m : Meaning S) where
  -- the station after a reaction; only a turn has it chosen
  abbrev pub heard : Reaction → S → S
  heard Nothing s = s
  heard (Tell b) s = m.after_told s b
  heard (Choose a atn) s = s

  -- what joined at it
  abbrev pub joins : Reaction → S → List ℕ
  joins Nothing s = []
  joins (Tell b) s = joined m s b
  joins (Choose a atn) s = []

  abbrev pub call_step : Outcome → S → Step S
  call_step o s = step o.answer o.chip (heard o.reaction s) (joins o.reaction s)

  -- a yes is heard by the chip
  abbrev pub chosen_step : ℕ → Bool → Answer → Line S → Step S
  chosen_step a atn unheard l =
      cond (says_yes m l.station (a % 8))
      (step (quiet (heard_yes l.chip)) (heard_yes l.chip) (m.after_chosen l.station (a % 8) atn) [])
      (step unheard l.chip (m.after_chosen l.station (a % 8) atn) [])

  abbrev pub turns_to : Outcome → Reaction → S → Step S
  turns_to o Nothing s = step o.answer o.chip s []
  turns_to o (Tell b) s = step o.answer o.chip (m.after_told s b) (joined m s b)
  turns_to o (Choose a atn) s = chosen_step a atn o.answer (line o.chip s)

  abbrev pub read_step : ℕ → Line S → Step S
  read_step a l = call_step (reads l.chip a) l.station

  abbrev pub write_step : ℕ → ℕ → Line S → Step S
  write_step a x l = call_step (writes l.chip a x) l.station

  abbrev pub dma_read_step : Line S → Step S
  dma_read_step l = call_step (dma_reads l.chip) l.station

  abbrev pub dma_write_step : ℕ → Line S → Step S
  dma_write_step x l = call_step (dma_writes l.chip x) l.station

  abbrev pub tick_step : Line S → Step S
  tick_step l = call_step (ticks l.chip) l.station

  abbrev pub turn_step : Line S → Step S
  turn_step l =
      let o = turned l.chip (m.wants l.station) in
      turns_to o o.reaction l.station

  abbrev pub reset_step : Line S → Step S
  reset_step l = call_step (resets l.chip) l.station
