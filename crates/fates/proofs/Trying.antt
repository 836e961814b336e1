-- A string that was made and run keeps the promise.
use Rattle.std.proofs.Common.{ℕ, List, [], Ok, Err, Result}
use Rattle.bus.specs.Meaning.{Meaning, Lawful}
use Rattle.registers.specs.declared.answer.Answer.{Answer}
use Rattle.registers.specs.declared.call.CallRow.{CallRow as Row}
use Rattle.registers.specs.declared.call.Ran.{Ran}
use Rattle.registers.specs.declared.call.RunRefusal.{RunRefusal}
use Rattle.chip.specs.Outcomes.{made_new}
use Rattle.account.specs.Fates.History.{begun}
use Rattle.account.specs.Lines.{Line, line}
use Rattle.account.specs.Runs.{RunSays}
use Rattle.account.proofs.Accounting.{run_goes_on}
use Rattle.fates.specs.Trials.{TrialGives}

module _ {S : Type 0} (m : Meaning S) (law : Lawful m) (i : ℕ) (s : S) (calls : List Row) where
  pub tried : (room : List Answer) (l : Line S) (room' : List Answer) (r : Result Ran RunRefusal) → RunSays m calls (line (made_new i) s) room l room' r → TrialGives m i s calls room l room' r
  tried room l room' (Ok t) did = record { ran = did; account = run_goes_on m law calls (line (made_new i) s) room l room' (Ok t) did (m.waiting s) [] (begun i s) }
  tried room l room' (Err e) did = record { not_run = did; account = run_goes_on m law calls (line (made_new i) s) room l room' (Err e) did (m.waiting s) [] (begun i s) }
