-- What the laws ask of one call at the chip, and the steps by which it is shown.
use Rattle.std.proofs.Common.{◌≡◌, ℕ, Bool, true, false, cond, not, ◌&&◌, eqb, [], ◌∷◌, ◌++◌, sym, refl, ap, ◌∙◌, true≢false, append-nil}
use mathlib.Core.Bool.{false≢true}
use Rattle.registers.specs.declared.answer.Answer.{Answer}
use Rattle.registers.specs.declared.answer.Reaction.{Reaction}
use Rattle.registers.specs.declared.answer.Reaction.TheVariants.{Nothing, Tell, Choose}
use Rattle.registers.specs.declared.refusal.Refusal.{Refusal}
use Rattle.registers.specs.declared.refusal.Refusal.TheVariants.{NoRegister, ReadOnly, ChipDisabled, InterruptPending, Busy, NoByte, Dma}
use Rattle.registers.specs.Refusals.{refusal_number}
use Rattle.chip.specs.Outcomes.{Outcome, gives, silent, tells, refused, quiet, dropping_ack}
use Rattle.chip.specs.Views.{View}
use Rattle.account.specs.Laws.{bare, came_in, went_out}

abbrev pub is_choose : Reaction → Bool
is_choose Nothing = false
is_choose (Tell b) = false
is_choose (Choose a atn) = true

-- a call that reads or does not, and may lose or may not, over the chip v; n is the table's number
pub record Fair (reading losing : Bool) (v : View) (n : ℕ) (o : Outcome) : Type 0 where
  pub refusal : o.answer.refusal ≡ n
  pub unchanged : (n ≡ 0 → ⊥) → o ≡ gives v Nothing (bare n v)
  pub in_order : losing ≡ false → v.received ++ came_in o.answer ≡ went_out reading o.answer ++ o.chip.received
  -- a station is chosen only where nothing else happens
  pub choosing : is_choose o.reaction ≡ true → (n ≡ 0) × (o.chip.received ≡ v.received)

module _ {reading losing : Bool} {v : View} where
  pub either : (b : Bool) {n k : ℕ} {x y : Outcome} → (b ≡ true → Fair reading losing v n x) → (b ≡ false → Fair reading losing v k y) → Fair reading losing v (cond b n k) (cond b x y)
  either true p q = p refl
  either false p q = q refl

  -- the same, where the table has the test the other way round
  pub unless : (b : Bool) {n k : ℕ} {x y : Outcome} → (b ≡ true → Fair reading losing v k x) → (b ≡ false → Fair reading losing v n y) → Fair reading losing v (cond (not b) n k) (cond b x y)
  unless true p q = p refl
  unless false p q = q refl

  -- and where it has no test
  pub whether : (b : Bool) {n : ℕ} {x y : Outcome} → (b ≡ true → Fair reading losing v n x) → (b ≡ false → Fair reading losing v n y) → Fair reading losing v n (cond b x y)
  whether true p q = p refl
  whether false p q = q refl

  refused_number : (n : ℕ) → eqb n 0 ≡ false → Fair reading losing v n (gives v Nothing (bare n v))
  refused_number n e = record {
    refusal = refl;
    unchanged = λ _. refl;
    in_order = λ _. append-nil v.received ∙ sym (ap (λ b. cond (b && reading) (0 ∷ []) [] ++ v.received) e);
    choosing = λ t. absurd (false≢true t);
  }

  pub refuses : (r : Refusal) → Fair reading losing v (refusal_number r) (refused r v)
  refuses NoRegister = refused_number 1 refl
  refuses ReadOnly = refused_number 2 refl
  refuses ChipDisabled = refused_number 3 refl
  refuses InterruptPending = refused_number 4 refl
  refuses Busy = refused_number 5 refl
  refuses NoByte = refused_number 6 refl
  refuses Dma = refused_number 7 refl

  -- no byte is read, comes in or goes
  pub plain : (u : View) (x : Reaction) (a : Answer) → a.refusal ≡ 0 → a.cable ≡ 0 → reading ≡ false → u.received ≡ v.received → Fair reading losing v 0 (gives u x a)
  plain u x a none still r e =
      let no_in : came_in a ≡ [] = ap (λ c. cond (eqb c 1 && eqb a.lost 0) (a.byte ∷ []) []) still in
      let no_out : went_out reading a ≡ [] = ap (λ n. cond (eqb n 0 && reading) (a.value ∷ []) []) none ∙ ap (λ b. cond b (a.value ∷ []) []) r in
      record {
        refusal = none;
        unchanged = λ h. absurd (h refl);
        in_order = λ _. ap (λ l. v.received ++ l) no_in ∙ append-nil v.received ∙ sym e ∙ sym (ap (λ l. l ++ u.received) no_out);
        choosing = λ _. (refl, e);
      }

  pub stays : (u : View) → reading ≡ false → u.received ≡ v.received → Fair reading losing v 0 (silent u)
  stays u r e = plain u Nothing (quiet u) refl refl r e

  pub hears : (u : View) (b : ℕ) → reading ≡ false → u.received ≡ v.received → Fair reading losing v 0 (tells b u)
  hears u b r e = plain u (Tell b) (quiet u) refl refl r e

  -- held bytes may be lost
  pub loses : losing ≡ true → (u : View) (ack : Bool) (a : Answer) → a.refusal ≡ 0 → Fair reading losing v 0 (gives u (dropping_ack ack) a)
  loses l u ack a none = record {
    refusal = none;
    unchanged = λ h. absurd (h refl);
    in_order = λ f. absurd (true≢false (sym l ∙ f));
    choosing = never ack;
  }
    where
      never : (ack : Bool) → is_choose (dropping_ack ack) ≡ true → (◌≡◌ {A = ℕ} 0 0) × (u.received ≡ v.received)
      never true t = absurd (false≢true t)
      never false t = absurd (false≢true t)
