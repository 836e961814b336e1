-- Strings of which the same is seen answer alike, and the same is seen of them afterwards.
use Rattle.std.proofs.Common.{◌≡◌, ℕ, ◌%◌, Bool, true, false, cond, ◌&&◌, eqb, List, [], ◌∷◌, Some, None, Option, sym, refl, ap, ◌∙◌, subst, true≢false}
use mathlib.Core.Bool.{false≢true}
use Rattle.bus.specs.Meaning.{Meaning, says_yes}
use Rattle.bus.specs.Wishes.{is_off}
use Rattle.bus.specs.declared.wish.Wish.{Wish}
use Rattle.registers.specs.declared.answer.Answer.{Answer}
use Rattle.registers.specs.declared.answer.Reaction.{Reaction}
use Rattle.registers.specs.declared.answer.Reaction.TheVariants.{Nothing, Tell, Choose}
use Rattle.registers.specs.declared.call.CallRow.{CallRow as Row}
use Rattle.chip.specs.Outcomes.{Outcome, quiet, heard_yes}
use Rattle.chip.specs.Turns.{turned}
use Rattle.chip.specs.Views.{View}
use Rattle.account.specs.Alike.{SeenAs, seen}
use Rattle.registers.specs.declared.call.Call.{Call}
use Rattle.account.specs.Laws.{step_of}
use Rattle.registers.specs.declared.call.Call.TheVariants.{Read as read, Write as write, DmaRead as dma_read, DmaWrite as dma_write, Tick as tick, Turn as turn, Reset as reset}
use Rattle.account.specs.Lines.{Line, line}
use Rattle.registers.specs.Calls.{call_of}
use Rattle.account.specs.Runs.{listed_step, row_step, walked, answered}
use Rattle.account.specs.Steps.{Step, step, heard, call_step, chosen_step, turns_to}

module _ {S V : Type 0} (m : Meaning S) (n : Meaning V) (view : S → V) (like : SeenAs m n view) where
  -- two steps of which the same is seen
  record Same (x : Step S) (y : Step V) : Type 0 where
    answer : x.answer ≡ y.answer
    left : seen view x.left ≡ y.left

  heard_seen : (r : Reaction) (s : S) → view (heard m r s) ≡ heard n r (view s)
  heard_seen Nothing s = refl
  heard_seen (Tell b) s = like.told s b
  heard_seen (Choose a atn) s = refl

  call_same : (o : Outcome) (s : S) → Same (call_step m o s) (call_step n o (view s))
  call_same o s = record { answer = refl; left = ap (line o.chip) (heard_seen o.reaction s) }

  yes_seen : (s : S) (a : ℕ) → says_yes m s a ≡ says_yes n (view s) a
  yes_seen s a = (λ i. is_off (like.wants s i) && eqb (like.address s i) a)

  -- said by both or by neither, with the same seen of what each is then
  either_same : (x y : Bool) (v : View) (unheard : Answer) (t : S) (u : V) → x ≡ y → view t ≡ u → Same (cond x (step (quiet (heard_yes v)) (heard_yes v) t []) (step unheard v t [])) (cond y (step (quiet (heard_yes v)) (heard_yes v) u []) (step unheard v u []))
  either_same true true v unheard t u e f = record { answer = refl; left = ap (line (heard_yes v)) f }
  either_same false false v unheard t u e f = record { answer = refl; left = ap (line v) f }
  either_same true false v unheard t u e f = absurd (true≢false e)
  either_same false true v unheard t u e f = absurd (false≢true e)

  chosen_same : (a : ℕ) (atn : Bool) (unheard : Answer) (l : Line S) → Same (chosen_step m a atn unheard l) (chosen_step n a atn unheard (seen view l))
  chosen_same a atn unheard l = either_same _ _ l.chip unheard _ _ (yes_seen l.station (a % 8)) (like.chosen l.station (a % 8) atn)

  turn_same : (o : Outcome) (r : Reaction) (s : S) → Same (turns_to m o r s) (turns_to n o r (view s))
  turn_same o Nothing s = record { answer = refl; left = refl }
  turn_same o (Tell b) s = record { answer = refl; left = ap (line o.chip) (like.told s b) }
  turn_same o (Choose a atn) s = chosen_same a atn o.answer (line o.chip s)

  step_same : (c : Call) (l : Line S) → Same (step_of m c l) (step_of n c (seen view l))
  step_same (read a) l = call_same _ l.station
  step_same (write a x) l = call_same _ l.station
  step_same dma_read l = call_same _ l.station
  step_same (dma_write x) l = call_same _ l.station
  step_same tick l = call_same _ l.station
  step_same turn l =
      let o = turned l.chip (m.wants l.station) in
      let W : Wish → Type 0 = λ w. Same (turns_to m o o.reaction l.station) (turns_to n (turned l.chip w) (turned l.chip w).reaction (view l.station)) in
      subst W (like.wants l.station) (turn_same o o.reaction l.station)
  step_same reset l = call_same _ l.station

  listed_same : (o : Option Call) (l : Line S) → Same (listed_step m o l) (listed_step n o (seen view l))
  listed_same (Some c) l = step_same c l
  listed_same None l = record { answer = refl; left = refl }

  pub walked_seen : (cs : List Row) (l : Line S) → seen view (walked m cs l) ≡ walked n cs (seen view l)
  unfolding walked
  walked_seen [] l = refl
  walked_seen (c ∷ cs) l =
      let k = (row_step m c l).left in
      walked_seen cs k ∙ ap (walked n cs) (listed_same (call_of c) l).left

  pub answered_seen : (cs : List Row) (l : Line S) → answered m cs l ≡ answered n cs (seen view l)
  unfolding answered
  answered_seen [] l = refl
  answered_seen (c ∷ cs) l =
      let k = (row_step m c l).left in
      let here = listed_same (call_of c) l in
      let rest = answered_seen cs k ∙ ap (answered n cs) here.left in
      (λ i. here.answer i ∷ rest i)

  -- so two strings of which the same is seen answer every list alike
  pub answer_alike : (cs : List Row) (l k : Line S) → seen view l ≡ seen view k → answered m cs l ≡ answered m cs k
  answer_alike cs l k e = answered_seen cs l ∙ ap (answered n cs) e ∙ sym (answered_seen cs k)

  pub stay_alike : (cs : List Row) (l k : Line S) → seen view l ≡ seen view k → seen view (walked m cs l) ≡ seen view (walked m cs k)
  stay_alike cs l k e = walked_seen cs l ∙ ap (walked n cs) e ∙ sym (walked_seen cs k)

-- what a station keeps at each Told and Chosen, it keeps over every list of calls
module _ {S : Type 0} (m : Meaning S) (P : S → Type 0) (told : (s : S) (b : ℕ) → P s → P (m.after_told s b)) (chosen : (s : S) (a : ℕ) (atn : Bool) → P s → P (m.after_chosen s a atn)) where
  heard_keeps : (r : Reaction) (s : S) → P s → P (heard m r s)
  heard_keeps Nothing s h = h
  heard_keeps (Tell b) s h = told s b h
  heard_keeps (Choose a atn) s h = h

  either_keeps : (t : Bool) (x y : Step S) → P x.left.station → P y.left.station → P (cond t x y).left.station
  either_keeps true x y p q = p
  either_keeps false x y p q = q

  turn_keeps : (o : Outcome) (r : Reaction) (s : S) → P s → P (turns_to m o r s).left.station
  turn_keeps o Nothing s h = h
  turn_keeps o (Tell b) s h = told s b h
  turn_keeps o (Choose a atn) s h = either_keeps (says_yes m s (a % 8)) _ _ (chosen s (a % 8) atn h) (chosen s (a % 8) atn h)

  step_keeps : (c : Call) (l : Line S) → P l.station → P (step_of m c l).left.station
  step_keeps (read a) l h = heard_keeps _ l.station h
  step_keeps (write a x) l h = heard_keeps _ l.station h
  step_keeps dma_read l h = heard_keeps _ l.station h
  step_keeps (dma_write x) l h = heard_keeps _ l.station h
  step_keeps tick l h = heard_keeps _ l.station h
  step_keeps turn l h = let o = turned l.chip (m.wants l.station) in turn_keeps o o.reaction l.station h
  step_keeps reset l h = heard_keeps _ l.station h

  listed_keeps : (o : Option Call) (l : Line S) → P l.station → P (listed_step m o l).left.station
  listed_keeps (Some c) l h = step_keeps c l h
  listed_keeps None l h = h

  pub walked_keeps : (cs : List Row) (l : Line S) → P l.station → P (walked m cs l).station
  unfolding walked
  walked_keeps [] l h = h
  walked_keeps (c ∷ cs) l h = walked_keeps cs (row_step m c l).left (listed_keeps (call_of c) l h)
