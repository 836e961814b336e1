-- What is done to one string with these numbers is done to all.
use Rattle.std.proofs.Common.{◌≡◌, ℕ, Bool, true, false, cond, List, ◌++◌, length, drop, Ok, Err, Result, sym, refl, ap, ◌∙◌, subst}
use Rattle.bus.specs.Meaning.{Meaning, Lawful}
use Rattle.registers.specs.declared.answer.Answer.{Answer}
use Rattle.registers.specs.declared.call.CallRow.{CallRow as Row}
use Rattle.registers.specs.declared.call.Ran.{Ran}
use Rattle.registers.specs.declared.call.RunRefusal.{RunRefusal}
use Rattle.account.specs.Alike.{SeenAs, seen}
use Rattle.account.specs.Lines.{Line}
use Rattle.account.specs.Runs.{walked, lost_in, RanAs, NotRun, RunSays}
use Rattle.account.proofs.Accounting.{run_goes_on}
use Rattle.account.proofs.Alike.{answer_alike, stay_alike, walked_keeps}
use Rattle.breaker.specs.declared.Breaker.{Breaker}
use Rattle.breaker.specs.Breakers.{is_through, standing, breaker_meaning}
use Rattle.embed.specs.States.{Did, Serves}
use Rattle.embed.specs.declared.state.SavedString.{SavedString}

module _
    {S V : Type 0} (m : Meaning S) (n : Meaning V) (view : S → V) (like : SeenAs m n view) (law : Lawful m) (Is : SavedString → Line S → Type 0)
    (same : (s : SavedString) (l k : Line S) → Is s l → Is s k → seen view l ≡ seen view k)
    (moves : (s : SavedString) (l k : Line S) → Is s l → seen view l ≡ seen view k → Is s k) where
  module _ (calls : List Row) (l₀ l : Line S) (alike : seen view l₀ ≡ seen view l) (room : List Answer) (l₁ : Line S) (room' : List Answer) where
    ran_too : (t : Ran) → RanAs m calls l₀ room l₁ room' t → RanAs m calls l room (walked m calls l) room' t
    ran_too t did = record {
      fits = did.fits;
      few = did.few;
      string = refl;
      answers = did.answers ∙ ap (λ xs. xs ++ drop (length calls) room) (answer_alike m n view like calls l₀ l alike);
      count = did.count;
      lost = did.lost ∙ ap lost_in (answer_alike m n view like calls l₀ l alike);
    }

    does : (s' : SavedString) (r : Result Ran RunRefusal) → RunSays m calls l₀ room l₁ room' r → Is s' l₁ → Did m Is l calls room s' room' r
    does s' (Ok t) did is =
        let says = ran_too t did in
        record {
          left = walked m calls l;
          says = says;
          is = moves s' l₁ (walked m calls l) is (ap (seen view) did.string ∙ stay_alike m n view like calls l₀ l alike);
          fates = run_goes_on m law calls l room (walked m calls l) room' (Ok t) says;
        }
    does s' (Err e) did is =
        let says : NotRun calls l room l room' = record { why = did.why; string = refl; answers = did.answers } in
        record {
          left = l;
          says = says;
          is = moves s' l₁ l is (ap (seen view) did.string ∙ alike);
          fates = run_goes_on m law calls l room l room' (Err e) says;
        }

  pub serves : (s : SavedString) (calls : List Row) (l₀ : Line S) (room : List Answer) (s' : SavedString) (l₁ : Line S) (room' : List Answer) (r : Result Ran RunRefusal) → Is s l₀ → RunSays m calls l₀ room l₁ room' r → Is s' l₁ → Serves m Is s calls room s' room' r
  serves s calls l₀ room s' l₁ room' r here did is = record { one = l₀; has = here; does = λ l known. does calls l₀ l (same s l₀ l here known) room l₁ room' s' r did is }

-- what the station below a breaker keeps at each Told and Chosen, it keeps over a run
module _ {S : Type 0} (m : Meaning S) (Q : S → Type 0) (told : (s : S) (b : ℕ) → Q s → Q (m.after_told s b)) (chosen : (s : S) (a : ℕ) (atn : Bool) → Q s → Q (m.after_chosen s a atn)) where
  either : (t : Bool) (x y : S) → Q x → Q y → Q (cond t x y)
  either true x y p q = p
  either false x y p q = q

  abbrev Below : Breaker S → Type 0
  Below b = Q b.below

  pub run_keeps : (calls : List Row) (l₀ l₁ : Line (Breaker S)) (room room' : List Answer) (r : Result Ran RunRefusal) → RunSays (breaker_meaning m) calls l₀ room l₁ room' r → Below l₀.station → Below l₁.station
  run_keeps calls l₀ l₁ room room' (Ok t) did h =
      subst (λ x. Below x.station) (sym did.string)
      (walked_keeps (breaker_meaning m) Below (λ b x k. either (is_through (standing m b)) _ _ (told b.below x k) k) (λ b a atn k. either (is_through (standing m b)) _ _ (chosen b.below a atn k) k) calls l₀ h)
  run_keeps calls l₀ l₁ room room' (Err e) did h = subst (λ x. Below x.station) (sym did.string) h
