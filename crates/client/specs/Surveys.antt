-- What a client can say of its calls: the account of every byte, over exactly these calls and answers.
use Rattle.std.specs.Prelude.{◌≡◌, ℕ, List, [], ◌∷◌, ◌++◌, map, Ok, Err, Result}
use Rattle.std.specs.Option.{option_to_list}
use Rattle.bus.specs.Meaning.{Meaning}
use Rattle.registers.specs.declared.answer.Answer.{Answer}
use Rattle.registers.specs.declared.call.CallRow.{CallRow as Row}
use Rattle.registers.specs.declared.call.Ran.{Ran}
use Rattle.registers.specs.declared.call.RunRefusal.{RunRefusal}
use Rattle.account.specs.Accounts.{Account}
use Rattle.account.specs.Fates.{Entry}
use Rattle.registers.specs.declared.call.Call.{Call}
use Rattle.account.specs.Lines.{Line}
use Rattle.registers.specs.Calls.{call_of}

abbrev pub call_in : Entry → Call
call_in e = e.call

abbrev pub answer_in : Entry → Answer
answer_in e = e.answer

-- The calls were made over this station in this order, the answers are theirs, and every byte that the station has put
-- up since it had the string has its fate in them, in the chip or at the station.
pub record Kept {S : Type 0} (m : Meaning S) (s : S) (calls : List Call) (answers : List Answer) (l : Line S) : Type 0 where
  pub entries : List Entry
  pub joined : List ℕ
  pub made : map call_in entries ≡ calls
  pub said : map answer_in entries ≡ answers
  pub account : Account m (m.waiting s ++ joined) entries l

-- the calls of a list, without the kinds that there are not
abbrev pub calls_in : List Row → List Call
calls_in [] = []
calls_in (r ∷ rows) = option_to_list (call_of r) ++ calls_in rows

-- and what is answered to them, among the answers to the list
abbrev pub answers_to : List Row → List Answer → List Answer
answers_to [] answers = []
answers_to (r ∷ rows) [] = []
answers_to (r ∷ rows) (a ∷ answers) = map (λ c. a) (option_to_list (call_of r)) ++ answers_to rows answers

-- a run counts as its calls, and refused as none
abbrev pub calls_run : List Row → Result Ran RunRefusal → List Call
calls_run rows (Ok t) = calls_in rows
calls_run rows (Err e) = []

abbrev pub answers_run : List Row → List Answer → Result Ran RunRefusal → List Answer
answers_run rows room (Ok t) = answers_to rows room
answers_run rows room (Err e) = []
