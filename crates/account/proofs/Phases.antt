-- Phases, and the bytes that count as Data In.
use Rattle.std.proofs.Common.{◌≡◌, ℕ, zero, suc, true, false, eqb, List, [], ◌∷◌, ◌++◌, sym, refl, ap, ◌∙◌, true≢false}
use mathlib.Core.Bool.{false≢true}
use Rattle.std.proofs.lemmas.Bool.{eqb-true}
use Rattle.bus.specs.declared.phase.Phase.{Phase}
use Rattle.bus.specs.declared.phase.Phase.TheVariants.{DataOut, UnspecifiedOut, Command, MessageOut, DataIn, UnspecifiedIn, Status, MessageIn}
use Rattle.bus.specs.Phases.{phase_number, same_phase, is_input, in_data_in}
use Rattle.chip.specs.Outcomes.{is_empty}

phaseOf : ℕ → Phase
phaseOf zero = DataOut
phaseOf (suc zero) = UnspecifiedOut
phaseOf (suc (suc zero)) = Command
phaseOf (suc (suc (suc zero))) = MessageOut
phaseOf (suc (suc (suc (suc zero)))) = DataIn
phaseOf (suc (suc (suc (suc (suc zero))))) = UnspecifiedIn
phaseOf (suc (suc (suc (suc (suc (suc zero)))))) = Status
phaseOf (suc (suc (suc (suc (suc (suc (suc n))))))) = MessageIn

back : (p : Phase) → phaseOf (phase_number p) ≡ p
unfolding phaseOf
back DataOut = refl
back UnspecifiedOut = refl
back Command = refl
back MessageOut = refl
back DataIn = refl
back UnspecifiedIn = refl
back Status = refl
back MessageIn = refl

pub same_is : (p q : Phase) → same_phase p q ≡ true → p ≡ q
same_is p q e = sym (back p) ∙ ap phaseOf (eqb-true (phase_number p) (phase_number q) e) ∙ back q

pub in_data_in_none : (p : Phase) → in_data_in p [] ≡ []
in_data_in_none DataOut = refl
in_data_in_none UnspecifiedOut = refl
in_data_in_none Command = refl
in_data_in_none MessageOut = refl
in_data_in_none DataIn = refl
in_data_in_none UnspecifiedIn = refl
in_data_in_none Status = refl
in_data_in_none MessageIn = refl

pub in_data_in_append : (p : Phase) (xs ys : List ℕ) → in_data_in p xs ++ in_data_in p ys ≡ in_data_in p (xs ++ ys)
in_data_in_append DataOut xs ys = refl
in_data_in_append UnspecifiedOut xs ys = refl
in_data_in_append Command xs ys = refl
in_data_in_append MessageOut xs ys = refl
in_data_in_append DataIn xs ys = refl
in_data_in_append UnspecifiedIn xs ys = refl
in_data_in_append Status xs ys = refl
in_data_in_append MessageIn xs ys = refl

-- an output phase has no Data In byte, and is not number 4
pub out_none : (p : Phase) (xs : List ℕ) → is_input p ≡ false → in_data_in p xs ≡ []
out_none DataOut xs e = refl
out_none UnspecifiedOut xs e = refl
out_none Command xs e = refl
out_none MessageOut xs e = refl
out_none DataIn xs e = absurd (true≢false e)
out_none UnspecifiedIn xs e = refl
out_none Status xs e = refl
out_none MessageIn xs e = refl

pub out_code : (p : Phase) → is_input p ≡ false → eqb (phase_number p) 4 ≡ false
out_code DataOut e = refl
out_code UnspecifiedOut e = refl
out_code Command e = refl
out_code MessageOut e = refl
out_code DataIn e = absurd (true≢false e)
out_code UnspecifiedIn e = refl
out_code Status e = refl
out_code MessageIn e = refl

pub empty_held : (p : Phase) (xs : List ℕ) → xs ≡ [] → in_data_in p xs ≡ []
empty_held p xs e = ap (in_data_in p) e ∙ in_data_in_none p

pub both_empty : (p q : Phase) (xs : List ℕ) → xs ≡ [] → in_data_in p xs ≡ in_data_in q xs
both_empty p q xs e = empty_held p xs e ∙ sym (empty_held q xs e)

pub empty_is : (xs : List ℕ) → is_empty xs ≡ true → xs ≡ []
empty_is [] e = refl
empty_is (x ∷ xs) e = absurd (false≢true e)
