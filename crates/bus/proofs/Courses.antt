-- Over any course of a lawful station, each byte put up was taken or waits.
use Rattle.std.proofs.Common.{◌≡◌, ℕ, Bool, true, false, ◌++◌, sym, refl, ap, ◌∙◌, append_assoc, append-nil}
use Rattle.bus.specs.Wishes.{offers}
use Rattle.bus.specs.Meaning.{Meaning, Lawful, left, joined, says_yes}
use Rattle.bus.specs.Courses.{TakenOrWaiting}
use Rattle.bus.specs.Courses.Course.{begun, told, chosen}

module _ {S : Type 0} (m : Meaning S) (lawful : Lawful m) where
  -- chosen, yes or no, a station keeps its list
  pub chosen_keeps : (s : S) (a : ℕ) (atn : Bool) → m.waiting (m.after_chosen s a atn) ≡ m.waiting s
  chosen_keeps s a atn = by (says_yes m s a) refl
    where
      by : (yes : Bool) → says_yes m s a ≡ yes → m.waiting (m.after_chosen s a atn) ≡ m.waiting s
      by true e = lawful.keeps s a atn e
      by false e = ap m.waiting (lawful.refuses s a atn e)

  -- what waited and joined at a Told is the byte that the wish showed, and what waits then
  pub told_keeps : (s : S) (b : ℕ) → m.waiting s ++ joined m s b ≡ offers (m.wants s) ++ m.waiting (m.after_told s b)
  told_keeps s b =
      ap (λ l. l ++ joined m s b) (lawful.shows s)
      ∙ append_assoc (offers (m.wants s)) (left m s) (joined m s b)
      ∙ ap (λ l. offers (m.wants s) ++ l) (sym (lawful.joins s b))

  pub taken_or_waiting : (from : S) → TakenOrWaiting m from
  taken_or_waiting from taken up s begun = append-nil (m.waiting from)
  taken_or_waiting from taken up s (told before joining t c b) =
      sym (append_assoc (m.waiting from) joining (joined m t b))
      ∙ ap (λ l. l ++ joined m t b) (taken_or_waiting from before joining t c)
      ∙ append_assoc before (m.waiting t) (joined m t b)
      ∙ ap (λ l. before ++ l) (told_keeps t b)
      ∙ sym (append_assoc before (offers (m.wants t)) (m.waiting (m.after_told t b)))
  taken_or_waiting from taken up s (chosen before joining t c a atn) =
      taken_or_waiting from before joining t c ∙ ap (λ l. before ++ l) (sym (chosen_keeps t a atn))
