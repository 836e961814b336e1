-- One call more, by its contract: the calls, the answers and the account go on.
use Rattle.std.specs.Option.{option_to_list}
use Rattle.std.proofs.Common.{◌≡◌, ℕ, List, [], ◌∷◌, ◌++◌, map, length, drop, Some, None, Option, Ok, Err, Result, sym, refl, ap, ◌∙◌, subst, append_assoc, append-nil}
use mathlib.Core.List.{map-append}
use Rattle.bus.specs.Meaning.{Meaning}
use Rattle.registers.specs.declared.answer.Answer.{Answer}
use Rattle.registers.specs.declared.call.CallRow.{CallRow as Row}
use Rattle.registers.specs.declared.call.Ran.{Ran}
use Rattle.registers.specs.declared.call.RunRefusal.{RunRefusal}
use Rattle.account.specs.Accounts.{Account, KeepsAccount, RunKeepsAccount}
use Rattle.account.specs.Fates.{Entry, entry}
use Rattle.registers.specs.declared.call.Call.{Call}
use Rattle.account.specs.Laws.{step_of}
use Rattle.account.specs.Lines.{Line}
use Rattle.registers.specs.Calls.{call_of}
use Rattle.account.specs.Runs.{row_step, noted, answered, recorded, joining, RunSays}
use Rattle.client.specs.Surveys.{call_in, answer_in, Kept, calls_in, answers_to, calls_run, answers_run}

module _ {S : Type 0} (m : Meaning S) (s : S) where
  pub opened : {l : Line S} → Account m (m.waiting s) [] l → Kept m s [] [] l
  opened {l = l} a = record { entries = []; joined = []; made = refl; said = refl; account = subst (λ u. Account m u [] l) (sym (append-nil (m.waiting s))) a }

  pub then_call : {cs : List Call} {xs : List Answer} {l l' : Line S} {c : Call} {a : Answer} → Kept m s cs xs l → KeepsAccount m c l a l' → Kept m s (cs ++ (c ∷ [])) (xs ++ (a ∷ [])) l'
  then_call {l = l} {l' = l'} {c = c} {a = a} k on =
      let up = (step_of m c l).up in
      let e = entry c l.chip.registers.command a in
      record {
        entries = k.entries ++ (e ∷ []);
        joined = k.joined ++ up;
        made = map-append call_in k.entries (e ∷ []) ∙ ap (λ r. r ++ (c ∷ [])) k.made;
        said = map-append answer_in k.entries (e ∷ []) ∙ ap (λ r. r ++ (a ∷ [])) k.said;
        account = subst (λ u. Account m u (k.entries ++ (e ∷ [])) l') (append_assoc (m.waiting s) k.joined up) (on _ _ k.account.history);
      }

  -- what is noted of a call of a list are the call and its answer
  noted_call : (o : Option Call) (k : ℕ) (a : Answer) (es : List Entry) (cs : List Call) → map call_in es ≡ cs → map call_in (noted o k a ++ es) ≡ option_to_list o ++ cs
  noted_call (Some c) k a es cs h = ap (λ x. c ∷ x) h
  noted_call None k a es cs h = h

  noted_answer : (o : Option Call) (k : ℕ) (a : Answer) (es : List Entry) (xs : List Answer) → map answer_in es ≡ xs → map answer_in (noted o k a ++ es) ≡ map (λ c. a) (option_to_list o) ++ xs
  noted_answer (Some c) k a es xs h = ap (λ x. a ∷ x) h
  noted_answer None k a es xs h = h

  -- what a run records are its calls and their answers, whatever stands behind the answers
  run_calls : (rows : List Row) (l : Line S) → map call_in (recorded m rows l) ≡ calls_in rows
  unfolding recorded
  run_calls [] l = refl
  run_calls (r ∷ rows) l = noted_call (call_of r) l.chip.registers.command _ _ _ (run_calls rows (row_step m r l).left)

  run_answers : (rows : List Row) (l : Line S) (more : List Answer) → map answer_in (recorded m rows l) ≡ answers_to rows (answered m rows l ++ more)
  unfolding recorded answered
  run_answers [] l more = refl
  run_answers (r ∷ rows) l more = noted_answer (call_of r) l.chip.registers.command _ _ _ (run_answers rows (row_step m r l).left more)

  pub then_run : (cs : List Call) (xs : List Answer) (rows : List Row) (l l' : Line S) (room room' : List Answer) (r : Result Ran RunRefusal) → Kept m s cs xs l → RunSays m rows l room l' room' r → RunKeepsAccount m rows l l' r → Kept m s (cs ++ calls_run rows r) (xs ++ answers_run rows room' r) l'
  then_run cs xs rows l l' room room' (Ok t) k says on = record {
    entries = k.entries ++ recorded m rows l;
    joined = k.joined ++ joining m rows l;
    made = map-append call_in k.entries (recorded m rows l) ∙ ap (λ r. r ++ map call_in (recorded m rows l)) k.made ∙ ap (λ r. cs ++ r) (run_calls rows l);
    said = map-append answer_in k.entries (recorded m rows l) ∙ ap (λ r. r ++ map answer_in (recorded m rows l)) k.said
        ∙ ap (λ r. xs ++ r) (run_answers rows l (drop (length rows) room) ∙ sym (ap (answers_to rows) says.answers));
    account = subst (λ u. Account m u (k.entries ++ recorded m rows l) l') (append_assoc (m.waiting s) k.joined (joining m rows l)) (on _ _ k.account.history);
  }
  then_run cs xs rows l l' room room' (Err e) k says on = record {
    entries = k.entries;
    joined = k.joined;
    made = k.made ∙ sym (append-nil cs);
    said = k.said ∙ sym (append-nil xs);
    account = on _ _ k.account.history;
  }

  -- the same calls and answers, told otherwise
  pub retold : {cs cs' : List Call} {xs xs' : List Answer} {l : Line S} → cs ≡ cs' → xs ≡ xs' → Kept m s cs xs l → Kept m s cs' xs' l
  retold {l = l} c x k = record { entries = k.entries; joined = k.joined; made = k.made ∙ c; said = k.said ∙ x; account = k.account }
