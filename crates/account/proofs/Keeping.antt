-- Every call of a string keeps the laws.
use Rattle.std.proofs.Common.{◌≡◌, ℕ, ◌%◌, Bool, true, false, cond, [], ◌++◌, sym, refl, ap, ◌∙◌, append-nil}
use mathlib.Core.Bool.{false≢true}
use Rattle.std.proofs.lemmas.Bool.{ne_eqb}
use Rattle.bus.specs.Meaning.{Meaning, says_yes}
use Rattle.registers.specs.declared.answer.Reaction.{Reaction}
use Rattle.registers.specs.declared.answer.Reaction.TheVariants.{Nothing, Tell, Choose}
use Rattle.registers.specs.declared.state.State.{State}
use Rattle.registers.specs.declared.state.State.TheVariants.{Idle, Arbitrating, Selecting, Waiting, Asked, Transferring, Disabled}
use Rattle.registers.specs.States.{is_disabled}
use Rattle.chip.specs.Outcomes.{Outcome, silent, quiet, heard_in, heard_yes}
use Rattle.chip.specs.Turns.{turned}
use Rattle.chip.specs.Views.{View}
use Rattle.account.specs.Lines.{Line, line}
use Rattle.account.specs.Steps.{Step, step, heard, joins, call_step, chosen_step, turns_to}
use Rattle.registers.specs.declared.call.Call.{Call}
use Rattle.account.specs.Laws.{step_of, refusal_of, bare, came_in, went_out, reads_data, may_lose, Keeps, Laws}
use Rattle.registers.specs.declared.call.Call.TheVariants.{Read as read, Write as write, DmaRead as dma_read, DmaWrite as dma_write, Tick as tick, Turn as turn, Reset as reset}
use Rattle.account.proofs.Fair.{Fair, is_choose}
use Rattle.account.proofs.FairRegisters.{read_fair, write_fair, dma_read_fair, dma_write_fair, tick_fair, reset_fair}
use Rattle.account.proofs.FairTurn.{turn_fair}

-- the laws of a step
pub record Kept {S : Type 0} (reading losing : Bool) (l : Line S) (n : ℕ) (s : Step S) : Type 0 where
  pub refusal : s.answer.refusal ≡ n
  pub unchanged : (n ≡ 0 → ⊥) → (s.left ≡ l) × (s.up ≡ []) × (s.answer ≡ bare n l.chip)
  pub in_order : losing ≡ false → l.chip.received ++ came_in s.answer ≡ went_out reading s.answer ++ s.left.chip.received

heard_received : (s : State) (v : View) → (heard_in s v).received ≡ v.received
heard_received Idle v = refl
heard_received Arbitrating v = refl
heard_received Selecting v = refl
heard_received Waiting v = refl
heard_received Asked v = refl
heard_received Transferring v = refl
heard_received Disabled v = refl

module _ {S : Type 0} (m : Meaning S) (l : Line S) where
  by_call : {reading losing : Bool} {n : ℕ} (o : Outcome) → Fair reading losing l.chip n o → Kept reading losing l n (call_step m o l.station)
  by_call o f = record {
    refusal = f.refusal;
    unchanged = λ h.
        let e = f.unchanged h in
        (ap (λ (x : Outcome). line x.chip (heard m x.reaction l.station)) e, ap (λ (x : Outcome). joins m x.reaction l.station) e, ap (λ (x : Outcome). x.answer) e);
    in_order = f.in_order;
  }

  -- a yes is heard and nothing else happens; a no leaves all as it was but for the station's own
  by_choice : {losing : Bool} {n : ℕ} (o : Outcome) (a : ℕ) (atn : Bool) → o.reaction ≡ Choose a atn → Fair false losing l.chip n o → Kept false losing l n (chosen_step m a atn o.answer (line o.chip l.station))
  by_choice {losing = losing} {n = n} o a atn is f = by (says_yes m l.station (a % 8))
    where
      calm : (n ≡ 0) × (o.chip.received ≡ l.chip.received)
      calm = f.choosing (ap is_choose is)

      by : (yes : Bool) → Kept false losing l n (cond yes (step (quiet (heard_yes o.chip)) (heard_yes o.chip) (m.after_chosen l.station (a % 8) atn) []) (step o.answer o.chip (m.after_chosen l.station (a % 8) atn) []))
      by true = record {
        refusal = sym calm.0;
        unchanged = λ h. absurd (h calm.0);
        in_order = λ _. append-nil l.chip.received ∙ sym calm.1 ∙ sym (heard_received o.chip.state o.chip);
      }
      by false = record { refusal = f.refusal; unchanged = λ h. absurd (h calm.0); in_order = f.in_order }

  by_turn : {losing : Bool} {n : ℕ} (o : Outcome) (r : Reaction) → o.reaction ≡ r → Fair false losing l.chip n o → Kept false losing l n (turns_to m o r l.station)
  by_turn o Nothing is f = record {
    refusal = f.refusal;
    unchanged = λ h. let e = f.unchanged h in (ap (λ (x : Outcome). line x.chip l.station) e, refl, ap (λ (x : Outcome). x.answer) e);
    in_order = f.in_order;
  }
  by_turn o (Tell b) is f = record {
    refusal = f.refusal;
    unchanged = λ h. absurd (tells (sym is ∙ ap (λ (x : Outcome). x.reaction) (f.unchanged h)));
    in_order = f.in_order;
  }
    where
      tells : Tell b ≡ Nothing → ⊥
      tells e = false≢true (ap hears e)
        where
          hears : Reaction → Bool
          hears Nothing = true
          hears (Tell b) = false
          hears (Choose a atn) = false
  by_turn o (Choose a atn) is f = by_choice o a atn is f

  as_law : (c : Call) → Kept (reads_data c) (may_lose c l.chip.registers.command) l (refusal_of c l.chip) (step_of m c l) → Keeps m c l
  as_law c k = record { refusal = k.refusal; unchanged = k.unchanged; in_order = k.in_order }

  keeps : (c : Call) → Keeps m c l
  keeps (read a) = as_law (read a) (by_call _ (read_fair l.chip a))
  keeps (write a x) = as_law (write a x) (by_call _ (write_fair l.chip a x))
  keeps dma_read = as_law dma_read (by_call _ (dma_read_fair l.chip))
  keeps (dma_write x) = as_law (dma_write x) (by_call _ (dma_write_fair l.chip x))
  keeps tick = as_law tick (by_call _ (tick_fair l.chip))
  keeps turn = as_law turn (by_turn (turned l.chip (m.wants l.station)) _ refl (turn_fair l.chip (m.wants l.station)))
  keeps reset = as_law reset (by_call _ (reset_fair l.chip))

  -- with an interrupt pending a turn leaves the chip silent
  still : is_disabled l.chip.state ≡ false → (l.chip.registers.interrupt ≡ 0 → ⊥) → turned l.chip (m.wants l.station) ≡ silent l.chip
  still on pending = rw (on, ne_eqb l.chip.registers.interrupt 0 pending)

  pending : is_disabled l.chip.state ≡ false → (l.chip.registers.interrupt ≡ 0 → ⊥) → ((step_of m turn l).left ≡ l) × ((step_of m turn l).answer ≡ quiet l.chip)
  pending on h =
      let e = still on h in
      (ap (λ (o : Outcome). (turns_to m o o.reaction l.station).left) e, ap (λ (o : Outcome). (turns_to m o o.reaction l.station).answer) e)

pub laws : {S : Type 0} (m : Meaning S) → Laws m
laws m = record { keeps = λ c l. keeps m l c; pending = λ l. pending m l }
