-- What a list of calls answers and leaves: the calls in turn.
use Rattle.std.specs.Prelude.{◌≡◌, ℕ, ◌+◌, ◌<◌, ◌≤◌, Bool, false, ◌⊎◌, List, [], ◌∷◌, ◌++◌, length, drop, Some, None, Ok, Err, Option, Result}
use Rattle.bus.specs.Meaning.{Meaning}
use Rattle.registers.specs.declared.answer.Answer.{Answer}
use Rattle.registers.specs.Calls.{call_of, no_such_call}
use Rattle.registers.specs.declared.call.CallRow.{CallRow as Row}
use Rattle.registers.specs.declared.call.Ran.{Ran}
use Rattle.registers.specs.declared.call.RunRefusal.{RunRefusal}
use Rattle.account.specs.Fates.{Entry, entry}
use Rattle.registers.specs.declared.call.Call.{Call}
use Rattle.account.specs.Laws.{bare, reads_data, step_of}
use Rattle.account.specs.Lines.{Line}
use Rattle.account.specs.Steps.{Step, step}

-- A call of a list. A kind that there is not is no call: it is answered with 9 and the lines, and changes nothing.
abbrev pub listed_step : {S : Type 0} → Meaning S → Option Call → Line S → Step S
listed_step m (Some c) l = step_of m c l
listed_step m None l = step (bare no_such_call l.chip) l.chip l.station []

abbrev pub row_step : {S : Type 0} → Meaning S → Row → Line S → Step S
row_step m r l = listed_step m (call_of r) l

-- what the account notes of it: the call, what Command held, and the answer
abbrev pub noted : Option Call → ℕ → Answer → List Entry
noted (Some c) k a = entry c k a ∷ []
noted None k a = []

-- whether it reads a byte of data
abbrev pub listed_reads : Option Call → Bool
listed_reads (Some c) = reads_data c
listed_reads None = false

-- the string after a list of calls
unfoldable pub walked : {S : Type 0} → Meaning S → List Row → Line S → Line S
walked m [] l = l
walked m (c ∷ cs) l = walked m cs (row_step m c l).left

-- the answers to a list of calls
unfoldable pub answered : {S : Type 0} → Meaning S → List Row → Line S → List Answer
answered m [] l = []
answered m (c ∷ cs) l = (row_step m c l).answer ∷ answered m cs (row_step m c l).left

-- what joined in a list of calls, and the calls with their answers
unfoldable pub joining : {S : Type 0} → Meaning S → List Row → Line S → List ℕ
joining m [] l = []
joining m (c ∷ cs) l = (row_step m c l).up ++ joining m cs (row_step m c l).left

unfoldable pub recorded : {S : Type 0} → Meaning S → List Row → Line S → List Entry
recorded m [] l = []
recorded m (c ∷ cs) l = noted (call_of c) l.chip.registers.command (row_step m c l).answer ++ recorded m cs (row_step m c l).left

-- the sum of what answers say was lost
unfoldable pub lost_in : List Answer → ℕ
lost_in [] = 0
lost_in (a ∷ rest) = a.lost + lost_in rest

-- a run that is not refused: the calls in order, as many answers, those beyond as they were, and both numbers
pub record RanAs {S : Type 0} (m : Meaning S) (calls : List Row) (l : Line S) (room : List Answer) (l' : Line S) (room' : List Answer) (t : Ran) : Type 0 where
  pub fits : length calls ≤ length room
  pub few : length calls ≤ 65536
  pub string : l' ≡ walked m calls l
  pub answers : room' ≡ answered m calls l ++ drop (length calls) room
  pub count : t.calls ≡ length calls
  pub lost : t.lost ≡ lost_in (answered m calls l)

-- a run that is refused: nothing at all changes
pub record NotRun {S : Type 0} (calls : List Row) (l : Line S) (room : List Answer) (l' : Line S) (room' : List Answer) : Type 0 where
  pub why : (length room < length calls) ⊎ (65536 < length calls)
  pub string : l' ≡ l
  pub answers : room' ≡ room

abbrev pub RunSays : {S : Type 0} → Meaning S → List Row → Line S → List Answer → Line S → List Answer → Result Ran RunRefusal → Type 0
RunSays m cs l room l' room' (Ok t) = RanAs m cs l room l' room' t
RunSays m cs l room l' room' (Err e) = NotRun cs l room l' room'
