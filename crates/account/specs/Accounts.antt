-- The account of a string, which each call and each run goes on with.
use Rattle.std.specs.Prelude.{◌≡◌, ℕ, List, [], ◌∷◌, ◌++◌, Ok, Err, Result}
use Rattle.bus.specs.Meaning.{Meaning}
use Rattle.registers.specs.declared.answer.Answer.{Answer}
use Rattle.registers.specs.declared.call.CallRow.{CallRow as Row}
use Rattle.registers.specs.declared.call.Ran.{Ran}
use Rattle.registers.specs.declared.call.RunRefusal.{RunRefusal}
use Rattle.account.specs.Fates.{Entry, entry, Fates, GoesOn, History}
use Rattle.registers.specs.declared.call.Call.{Call}
use Rattle.account.specs.Laws.{step_of}
use Rattle.account.specs.Lines.{Line}
use Rattle.account.specs.Runs.{joining, recorded}

-- how a string came about, and the fate of every byte up to now
pub record Account {S : Type 0} (m : Meaning S) (up : List ℕ) (es : List Entry) (l : Line S) : Type 0 where
  pub history : History m up es l
  pub fates : Fates m up es l

-- whatever was put up and answered before, the account goes on over this call
abbrev pub KeepsAccount : {S : Type 0} → Meaning S → Call → Line S → Answer → Line S → Type 0
KeepsAccount m c l a l' = (up : List ℕ) (es : List Entry) → History m up es l → Account m (up ++ (step_of m c l).up) (es ++ (entry c l.chip.registers.command a ∷ [])) l'

-- What a call does: it answers and leaves what its step says, and the law of the fates and the account go on over it.
pub record Makes {S : Type 0} (m : Meaning S) (c : Call) (l : Line S) (a : Answer) (l' : Line S) : Type 0 where
  pub answer : a ≡ (step_of m c l).answer
  pub after : l' ≡ (step_of m c l).left
  pub fates : GoesOn m c l a l'
  pub account : KeepsAccount m c l a l'

-- The account goes on over a run too: it counts as its calls, and as none where it is refused.
abbrev pub RunKeepsAccount : {S : Type 0} → Meaning S → List Row → Line S → Line S → Result Ran RunRefusal → Type 0
RunKeepsAccount m cs l l' (Ok t) = (up : List ℕ) (es : List Entry) → History m up es l → Account m (up ++ joining m cs l) (es ++ recorded m cs l) l'
RunKeepsAccount m cs l l' (Err e) = (up : List ℕ) (es : List Entry) → History m up es l → Account m up es l'
