-- Each call, and each run, goes on with the account.
use Rattle.std.proofs.Common.{◌≡◌, ℕ, List, [], ◌∷◌, ◌++◌, Some, None, Ok, Err, Option, Result, sym, subst, append_assoc, append-nil}
use Rattle.bus.specs.Meaning.{Meaning, Lawful}
use Rattle.registers.specs.declared.answer.Answer.{Answer}
use Rattle.registers.specs.declared.call.CallRow.{CallRow as Row}
use Rattle.registers.specs.declared.call.Ran.{Ran}
use Rattle.registers.specs.declared.call.RunRefusal.{RunRefusal}
use Rattle.chip.specs.Outcomes.{made_new}
use Rattle.account.specs.Accounts.{Account, KeepsAccount, Makes, RunKeepsAccount}
use Rattle.account.specs.Fates.{Entry, entry, History}
use Rattle.account.specs.Fates.History.{begun, called}
use Rattle.registers.specs.declared.call.Call.{Call}
use Rattle.account.specs.Laws.{step_of}
use Rattle.account.specs.Lines.{Line, line}
use Rattle.registers.specs.Calls.{call_of}
use Rattle.account.specs.Runs.{listed_step, noted, walked, joining, recorded, RunSays}
use Rattle.account.proofs.Account.{every_fate, goes_on}

-- what there is to say of a string, said of what was put up and answered in other words
told : {S : Type 0} (m : Meaning S) (up up' : List ℕ) (es es' : List Entry) (l : Line S) → up ≡ up' → es ≡ es' → History m up es l → History m up' es' l
told m up up' es es' l u e h = subst (λ x. History m x es' l) u (subst (λ x. History m up x l) e h)

module _ {S : Type 0} (m : Meaning S) where
  -- a list that begins with this call goes on as the rest of it does
  begins : (o : Option Call) (cs : List Row) (up : List ℕ) (es : List Entry) (l : Line S) → History m up es l → ((up' : List ℕ) (es' : List Entry) (l' : Line S) → History m up' es' l' → History m (up' ++ joining m cs l') (es' ++ recorded m cs l') (walked m cs l')) → History m (up ++ ((listed_step m o l).up ++ joining m cs (listed_step m o l).left)) (es ++ (noted o l.chip.registers.command (listed_step m o l).answer ++ recorded m cs (listed_step m o l).left)) (walked m cs (listed_step m o l).left)
  begins None cs up es l h rest = rest up es l h
  begins (Some c) cs up es l h rest =
      let r = step_of m c l in
      let e = entry c l.chip.registers.command r.answer in
      told m _ _ _ _ (walked m cs r.left) (append_assoc up r.up (joining m cs r.left)) (append_assoc es (e ∷ []) (recorded m cs r.left)) (rest (up ++ r.up) (es ++ (e ∷ [])) r.left (called up es l h c))

  -- a run is a history of its calls
  pub history_on : (cs : List Row) (up : List ℕ) (es : List Entry) (l : Line S) → History m up es l → History m (up ++ joining m cs l) (es ++ recorded m cs l) (walked m cs l)
  unfolding joining recorded walked
  history_on [] up es l h = told m _ _ _ _ l (sym (append-nil up)) (sym (append-nil es)) h
  history_on (c ∷ cs) up es l h = begins (call_of c) cs up es l h (λ u e k. history_on cs u e k)

module _ {S : Type 0} (m : Meaning S) (law : Lawful m) where
  kept : (up : List ℕ) (es : List Entry) (l : Line S) → History m up es l → Account m up es l
  kept up es l h = record { history = h; fates = every_fate m law up es l h }

  -- a string that is made opens an account
  pub opens : (i : ℕ) (s : S) (l : Line S) → l ≡ line (made_new i) s → Account m (m.waiting s) [] l
  opens i s l is = subst (λ x. Account m (m.waiting s) [] x) (sym is) (kept _ _ _ (begun i s))

  -- each call goes on with it
  pub keeps_account : (c : Call) (l : Line S) (a : Answer) (l' : Line S) → a ≡ (step_of m c l).answer → l' ≡ (step_of m c l).left → KeepsAccount m c l a l'
  keeps_account c l a l' is left up es h =
      let u = up ++ (step_of m c l).up in
      let k = l.chip.registers.command in
      subst (λ x. Account m u (es ++ (entry c k a ∷ [])) x) (sym left) (subst (λ x. Account m u (es ++ (entry c k x ∷ [])) (step_of m c l).left) (sym is) (kept _ _ _ (called up es l h c)))

  -- so that each does what its law says
  pub makes : (c : Call) (l : Line S) (a : Answer) (l' : Line S) → a ≡ (step_of m c l).answer → l' ≡ (step_of m c l).left → Makes m c l a l'
  makes c l a l' is left = record { answer = is; after = left; fates = goes_on m law c l a l' is left; account = keeps_account c l a l' is left }

  -- and so does a run
  pub run_goes_on : (cs : List Row) (l : Line S) (room : List Answer) (l' : Line S) (room' : List Answer) (r : Result Ran RunRefusal) → RunSays m cs l room l' room' r → RunKeepsAccount m cs l l' r
  run_goes_on cs l room l' room' (Ok t) did = λ up es h. subst (λ x. Account m (up ++ joining m cs l) (es ++ recorded m cs l) x) (sym did.string) (kept _ _ _ (history_on m cs up es l h))
  run_goes_on cs l room l' room' (Err e) did = λ up es h. subst (λ x. Account m up es x) (sym did.string) (kept _ _ _ h)
