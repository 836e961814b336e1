-- What an answer accounts for, by the form of the answer.
use Rattle.std.proofs.Common.{◌≡◌, ℕ, true, false, ◌&&◌, eqb, ltb, List, [], ◌∷◌, length, sym, refl, ap, ◌∙◌, true≢false, arith}
use mathlib.Core.Bool.{false≢true}
use Rattle.std.proofs.lemmas.Bool.{and_left, and_right, lt-ltb}
use Rattle.bus.specs.declared.phase.Phase.{Phase}
use Rattle.bus.specs.declared.phase.Phase.TheVariants.{DataOut, UnspecifiedOut, Command, MessageOut, DataIn, UnspecifiedIn, Status, MessageIn}
use Rattle.registers.specs.declared.answer.Answer.{Answer}
use Rattle.bus.specs.Phases.{phase_number, in_data_in}
use Rattle.chip.specs.Outcomes.{valued}
use Rattle.chip.specs.Views.{View}
use Rattle.account.specs.Fates.{entry, Share, tells_read, tells_lost}
use Rattle.registers.specs.declared.call.Call.{Call}
use Rattle.account.specs.Laws.{reads_data, may_lose}

-- an answer that tells neither a read nor a loss of Data In
pub no_share : (c : Call) (k : ℕ) (a : Answer) → tells_read (entry c k a) ≡ false → tells_lost (entry c k a) ≡ false → Share (entry c k a) []
no_share c k a r l = record { reads = λ e. absurd (false≢true (sym r ∙ e)); loses = λ e. absurd (false≢true (sym l ∙ e)); neither = λ _ _. refl; reader = λ e. absurd (false≢true (sym r ∙ e)); loser = λ e. absurd (false≢true (sym l ∙ e)) }

-- an answer whose phase is not Data In
pub other_share : (c : Call) (k : ℕ) (a : Answer) → eqb a.phase 4 ≡ false → Share (entry c k a) []
other_share c k a e = no_share c k a (and_left _ _ e) (and_left _ _ e)

-- an answer of a call that reads no data, with nothing lost
pub idle_share : (c : Call) (k : ℕ) (a : Answer) → reads_data c ≡ false → a.lost ≡ 0 → Share (entry c k a) []
idle_share c k a e z = no_share c k a (and_right (eqb a.phase 4) _ (and_right (eqb a.refusal 0) _ e)) (and_right (eqb a.phase 4) _ (ap (λ n. ltb 0 n) z))

-- a byte of data read
pub read_share : (c : Call) (k : ℕ) (p : Phase) (b : ℕ) (v : View) → reads_data c ≡ true → Share (entry c k (valued b (phase_number p) v)) (in_data_in p (b ∷ []))
read_share c k DataOut b v e = other_share c k _ refl
read_share c k UnspecifiedOut b v e = other_share c k _ refl
read_share c k Command b v e = other_share c k _ refl
read_share c k MessageOut b v e = other_share c k _ refl
read_share c k DataIn b v e = record { reads = λ _. refl; loses = λ f. absurd (false≢true f); neither = λ f. absurd (true≢false (sym e ∙ f)); reader = λ _. refl; loser = λ f. absurd (false≢true f) }
read_share c k UnspecifiedIn b v e = other_share c k _ refl
read_share c k Status b v e = other_share c k _ refl
read_share c k MessageIn b v e = other_share c k _ refl

-- bytes of one phase lost, by a call that may
pub lost_share : (c : Call) (k : ℕ) (a : Answer) (p : Phase) (bs : List ℕ) → reads_data c ≡ false → may_lose c k ≡ true → a.phase ≡ phase_number p → a.lost ≡ length bs → Share (entry c k a) (in_data_in p bs)
lost_share c k a DataOut bs r m e n = other_share c k a (ap (λ x. eqb x 4) e)
lost_share c k a UnspecifiedOut bs r m e n = other_share c k a (ap (λ x. eqb x 4) e)
lost_share c k a Command bs r m e n = other_share c k a (ap (λ x. eqb x 4) e)
lost_share c k a MessageOut bs r m e n = other_share c k a (ap (λ x. eqb x 4) e)
lost_share c k a DataIn bs r m e n =
    let no : tells_read (entry c k a) ≡ false = and_right (eqb a.phase 4) _ (and_right (eqb a.refusal 0) _ r) in
    record { reads = λ f. absurd (false≢true (sym no ∙ f)); loses = λ _. sym n; neither = λ _ f. none bs n f; reader = λ f. absurd (false≢true (sym no ∙ f)); loser = λ _. m }
  where
    none : (bs : List ℕ) → a.lost ≡ length bs → tells_lost (entry c k a) ≡ false → bs ≡ []
    none [] n f = refl
    none (b ∷ bs) n f = absurd (true≢false (sym (ap (λ x. eqb x 4 && ltb 0 a.lost) e ∙ lt-ltb 0 a.lost (omega arith)) ∙ f))
lost_share c k a UnspecifiedIn bs r m e n = other_share c k a (ap (λ x. eqb x 4) e)
lost_share c k a Status bs r m e n = other_share c k a (ap (λ x. eqb x 4) e)
lost_share c k a MessageIn bs r m e n = other_share c k a (ap (λ x. eqb x 4) e)
