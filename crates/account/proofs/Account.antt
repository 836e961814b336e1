-- Every history keeps the law.
use Rattle.std.proofs.Common.{◌≡◌, ℕ, ◌%◌, Bool, true, false, cond, List, [], ◌∷◌, ◌++◌, sym, refl, ap, ◌∙◌, subst, true≢false, append_assoc, append-nil}
use mathlib.Core.Bool.{false≢true}
use Rattle.bus.specs.Meaning.{Meaning, Lawful, joined, says_yes}
use Rattle.bus.specs.Wishes.{offers}
use Rattle.bus.proofs.Courses.{chosen_keeps, told_keeps}
use Rattle.registers.specs.declared.answer.Answer.{Answer}
use Rattle.registers.specs.declared.answer.Reaction.{Reaction}
use Rattle.registers.specs.declared.answer.Reaction.TheVariants.{Nothing, Tell, Choose}
use Rattle.registers.specs.declared.state.State.{State}
use Rattle.registers.specs.declared.state.State.TheVariants.{Idle, Arbitrating, Selecting, Waiting, Asked, Transferring, Disabled}
use Rattle.registers.specs.States.{is_transferring}
use Rattle.chip.specs.Outcomes.{gives, heard_in, heard_yes}
use Rattle.chip.specs.Views.{View}
use Rattle.registers.specs.declared.call.Call.{Call}
use Rattle.account.specs.Laws.{step_of}
use Rattle.registers.specs.declared.call.Call.TheVariants.{Read as read, Write as write, DmaRead as dma_read, DmaWrite as dma_write, Tick as tick, Turn as turn, Reset as reset}
use Rattle.account.specs.Lines.{Line, line}
use Rattle.account.specs.Steps.{Step, step, heard, joins, chosen_step, turns_to}
use Rattle.account.specs.Fates.{Entry, entry, held, Share, Fates, History, EveryFate, GoesOn}
use Rattle.account.specs.Fates.Gone.{none, then}
use Rattle.account.specs.Fates.History.{begun, called}
use Rattle.account.specs.Sound.{SoundOf}
use Rattle.account.proofs.Fate.{Fate, Quiet, is_choose, at_rest, nothing}
use Rattle.account.proofs.Registering.{read_fate, write_fate, dma_read_fate, dma_write_fate, tick_fate, reset_fate}
use Rattle.account.proofs.Turning.{turn_fate}

-- what one call of a string does to the bytes
record Next {S : Type 0} (m : Meaning S) (c : Call) (l : Line S) (n : Step S) : Type 0 where
  share : List ℕ
  is : Share (entry c l.chip.registers.command n.answer) share
  sound : SoundOf n.left.chip
  hush : Quiet n.left.chip.flags.ack (m.wants n.left.station)
  all : (held l.chip ++ m.waiting l.station) ++ n.up ≡ share ++ (held n.left.chip ++ m.waiting n.left.station)

-- held bytes stand before those that wait
line_up : (h t share h' ws up ws' : List ℕ) → h ++ t ≡ share ++ h' → ws ++ up ≡ t ++ ws' → (h ++ ws) ++ up ≡ share ++ (h' ++ ws')
line_up h t share h' ws up ws' e f = append_assoc h ws up ∙ ap (λ x. h ++ x) f ∙ sym (append_assoc h t ws') ∙ ap (λ x. x ++ ws') e ∙ append_assoc share h' ws'

abbrev hears : Reaction → Bool
hears Nothing = false
hears (Tell b) = true
hears (Choose a atn) = false

yes_sound : (u : View) (t : State) → u.state ≡ t → SoundOf u → SoundOf (heard_in t u)
yes_sound u Idle e h = h
yes_sound u Arbitrating e h = h
yes_sound u Selecting e h = at_rest refl (h.settled (ap is_transferring e)) h.outward
yes_sound u Waiting e h = h
yes_sound u Asked e h = h
yes_sound u Transferring e h = h
yes_sound u Disabled e h = h

yes_same : (u : View) (t : State) → (held (heard_in t u) ≡ held u) × ((heard_in t u).flags.ack ≡ u.flags.ack)
yes_same u Idle = (refl, refl)
yes_same u Arbitrating = (refl, refl)
yes_same u Selecting = (refl, refl)
yes_same u Waiting = (refl, refl)
yes_same u Asked = (refl, refl)
yes_same u Transferring = (refl, refl)
yes_same u Disabled = (refl, refl)

module _ {S : Type 0} (m : Meaning S) (law : Lawful m) where
  module _ (c : Call) (v : View) (s : S) where
    -- a chip that says nothing, or tells the station
    carry : (u : View) (r : Reaction) (a : Answer) → Fate c v (m.wants s) (gives u r a) → Next m c (line v s) (step a u (heard m r s) (joins m r s))
    carry u Nothing a f = record { share = f.share; is = f.is; sound = f.sound; hush = λ t. (f.acked t).1; all = line_up (held v) [] f.share (held u) (m.waiting s) [] (m.waiting s) f.all (append-nil _) }
    carry u (Tell b) a f = record { share = f.share; is = f.is; sound = f.sound; hush = λ t. absurd (never (f.acked t).0); all = line_up (held v) (offers (m.wants s)) f.share (held u) (m.waiting s) (joined m s b) (m.waiting (m.after_told s b)) f.all (told_keeps m law s b) }
      where
        never : Tell b ≡ Nothing → ⊥
        never e = true≢false (ap hears e)
    carry u (Choose d atn) a f = record { share = f.share; is = f.is; sound = f.sound; hush = λ k. absurd (true≢false (ap is_choose (f.acked k).0)); all = line_up (held v) [] f.share (held u) (m.waiting s) [] (m.waiting s) f.all (append-nil _) }

    either : (b : Bool) {x y : Step S} → Next m c (line v s) x → Next m c (line v s) y → Next m c (line v s) (cond b x y)
    either true p q = p
    either false p q = q

    -- a station that is chosen keeps its list, and a yes is heard
    choose : (u : View) (d : ℕ) (atn : Bool) (a : Answer) → Fate c v (m.wants s) (gives u (Choose d atn) a) → Next m c (line v s) (chosen_step m d atn a (line u s))
    choose u d atn a f =
        let same = yes_same u u.state in
        let on : u.flags.ack ≡ true → ⊥ = λ k. true≢false (ap is_choose (f.acked k).0) in
        let kept = chosen_keeps m law s (d % 8) atn in
        either (says_yes m s (d % 8))
        (record {
          share = [];
          is = nothing c _ _ refl;
          sound = yes_sound u u.state refl f.sound;
          hush = λ t. absurd (on (sym same.1 ∙ t));
          all = append-nil _ ∙ ap (λ x. x ++ m.waiting s) (sym (same.0 ∙ f.chosen refl)) ∙ ap (λ x. held (heard_yes u) ++ x) (sym kept);
        })
        (record {
          share = f.share;
          is = f.is;
          sound = f.sound;
          hush = λ k. absurd (on k);
          all = line_up (held v) [] f.share (held u) (m.waiting s) [] (m.waiting (m.after_chosen s (d % 8) atn)) f.all (append-nil _ ∙ sym kept);
        })

    turns : (u : View) (r : Reaction) (a : Answer) → Fate c v (m.wants s) (gives u r a) → Next m c (line v s) (turns_to m (gives u r a) r s)
    turns u Nothing a f = carry u Nothing a f
    turns u (Tell b) a f = carry u (Tell b) a f
    turns u (Choose d atn) a f = choose u d atn a f

  step_fate : (c : Call) (l : Line S) → SoundOf l.chip → Quiet l.chip.flags.ack (m.wants l.station) → Next m c l (step_of m c l)
  step_fate (read a) l h q = carry (read a) l.chip l.station _ _ _ (read_fate l.chip (m.wants l.station) h q a)
  step_fate (write a x) l h q = carry (write a x) l.chip l.station _ _ _ (write_fate l.chip (m.wants l.station) h q a x)
  step_fate dma_read l h q = carry dma_read l.chip l.station _ _ _ (dma_read_fate l.chip (m.wants l.station) h q)
  step_fate (dma_write x) l h q = carry (dma_write x) l.chip l.station _ _ _ (dma_write_fate l.chip (m.wants l.station) h q x)
  step_fate tick l h q = carry tick l.chip l.station _ _ _ (tick_fate l.chip (m.wants l.station) h q)
  step_fate turn l h q = turns turn l.chip l.station _ _ _ (turn_fate l.chip (m.wants l.station) h q)
  step_fate reset l h q = carry reset l.chip l.station _ _ _ (reset_fate l.chip (m.wants l.station) h q)

  -- the law with what the string keeps true
  record Going (up : List ℕ) (es : List Entry) (l : Line S) : Type 0 where
    fates : Fates m up es l
    sound : SoundOf l.chip
    hush : Quiet l.chip.flags.ack (m.wants l.station)

  -- one call more
  next : (up : List ℕ) (es : List Entry) (l : Line S) (c : Call) → Going up es l → Going (up ++ (step_of m c l).up) (es ++ (entry c l.chip.registers.command (step_of m c l).answer ∷ [])) (step_of m c l).left
  next up es l c g =
      let f = g.fates in
      let t = step_fate c l g.sound g.hush in
      let r = step_of m c l in
      record {
        fates = record {
          gone = f.gone ++ t.share;
          told = then es f.gone (entry c l.chip.registers.command r.answer) t.share f.told t.is;
          all = ap (λ x. x ++ r.up) f.all ∙ append_assoc f.gone _ r.up ∙ ap (λ x. f.gone ++ x) t.all ∙ sym (append_assoc f.gone t.share _);
        };
        sound = t.sound;
        hush = t.hush;
      }

  going : (up : List ℕ) (es : List Entry) (l : Line S) → History m up es l → Going up es l
  going up es l (begun i s) = record { fates = record { gone = []; told = none; all = refl }; sound = at_rest refl refl tt; hush = λ t. absurd (false≢true t) }
  going up es l (called u e k h c) = next u e k c (going u e k h)

  pub every_fate : EveryFate m
  every_fate up es l h = (going up es l h).fates

  -- a call that does what its step says keeps the law going
  pub goes_on : (c : Call) (l : Line S) (a : Answer) (l' : Line S) → a ≡ (step_of m c l).answer → l' ≡ (step_of m c l).left → GoesOn m c l a l'
  goes_on c l a l' is left up es h =
      let u = up ++ (step_of m c l).up in
      let k = l.chip.registers.command in
      subst (λ x. Fates m u (es ++ (entry c k a ∷ [])) x) (sym left) (subst (λ x. Fates m u (es ++ (entry c k x ∷ [])) (step_of m c l).left) (sym is) (every_fate _ _ _ (called up es l h c)))
