-- What any calls make of a station.
use Rattle.std.specs.Prelude.{◌≡◌, ℕ, Bool, false, cond, List, [], ◌∷◌, ◌++◌}
use Rattle.bus.specs.declared.wish.Wish.{Wish}
use Rattle.bus.specs.Wishes.{offers, takes_byte, is_off}
use Rattle.bus.specs.Meaning.{Meaning, joined}

-- From one station, Chosen and Told in any order and number and with any values lead to another. Listed are the Data
-- In bytes taken on the way, which its Reqs showed when they were told, and the bytes that joined, Told by Told.
pub data Course {S : Type 0} (m : Meaning S) (from : S) : List ℕ → List ℕ → S → Type 0 where
  begun : Course m from [] [] from
  told : (taken up : List ℕ) (s : S) → Course m from taken up s → (b : ℕ) → Course m from (taken ++ offers (m.wants s)) (up ++ joined m s b) (m.after_told s b)
  chosen : (taken up : List ℕ) (s : S) → Course m from taken up s → (a : ℕ) (atn : Bool) → Course m from taken up (m.after_chosen s a atn)

-- Put up: what waited at first and what joined since. Each such byte was taken or waits, once and in order.
abbrev pub TakenOrWaiting : {S : Type 0} → Meaning S → S → Type 0
TakenOrWaiting {S = S} m from =
    (taken up : List ℕ) (s : S) → Course m from taken up s → m.waiting from ++ up ≡ taken ++ m.waiting s

-- the wishes that a station shows while it is told these bytes one after the other, and what it is then
abbrev pub wishes : {S : Type 0} → Meaning S → List ℕ → S → List Wish
wishes m [] s = []
wishes m (b ∷ bs) s = m.wants s ∷ wishes m bs (m.after_told s b)

abbrev pub told_all : {S : Type 0} → Meaning S → List ℕ → S → S
told_all m [] s = s
told_all m (b ∷ bs) s = told_all m bs (m.after_told s b)

-- A station after a patient initiator has dealt with its wish: chosen at Off, with ATN off, and told at any other, with
-- the byte b where it asks for one.
abbrev pub attended : {S : Type 0} → Meaning S → S → ℕ → S
attended m s b =
    cond (is_off (m.wants s)) (m.after_chosen s (m.address s) false)
    (m.after_told s (cond (takes_byte (m.wants s)) b 0))
