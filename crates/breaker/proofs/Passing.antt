-- A course of a breaker is one of the station below.
use Rattle.std.proofs.Common.{◌≡◌, ℕ, Bool, true, false, cond, List, [], ◌++◌, length, drop, sym, refl, ap, ◌∙◌, subst, append-nil}
use lib.Seq.{drop-length}
use Rattle.bus.specs.Wishes.{offers}
use Rattle.bus.specs.Meaning.{Meaning, Lawful, joined}
use Rattle.bus.specs.Courses.{Course}
use Rattle.bus.specs.Courses.Course.{begun, told, chosen}
use Rattle.breaker.specs.declared.Breaker.{Breaker}
use Rattle.breaker.specs.Breakers.{is_through, standing, breaker_meaning}
use Rattle.breaker.specs.BreakerLawful.{wish_through, shows_none, left_through, left_break}
use Rattle.breaker.specs.Breaks.{ChangesNothing}

module _ {S : Type 0} (m : Meaning S) (l : Lawful m) where
  same_course : (from : S) (taken taken' up up' : List ℕ) (s s' : S) → taken ≡ taken' → up ≡ up' → s ≡ s' → Course m from taken up s → Course m from taken' up' s'
  same_course from taken taken' up up' s s' p q r c =
      subst (λ x. Course m from taken' up' x) r (subst (λ x. Course m from taken' x s) q (subst (λ x. Course m from x up s) p c))

  -- one Told
  module _ (from : S) (before joining : List ℕ) (t : Breaker S) (b : ℕ) (c : Course m from before joining t.below) where
    passes : (through : Bool) → is_through (standing m t) ≡ through → Course m from (before ++ offers ((breaker_meaning m).wants t)) (joining ++ joined (breaker_meaning m) t b) (cond (is_through (standing m t)) (m.after_told t.below b) t.below)
    passes true e =
        let after : m.after_told t.below b ≡ cond (is_through (standing m t)) (m.after_told t.below b) t.below = ap (λ x. cond x (m.after_told t.below b) t.below) (sym e) in
        let joins : joined m t.below b ≡ joined (breaker_meaning m) t b = (λ i. drop (length (sym (left_through m l t e) i)) (m.waiting (after i))) in
        same_course from _ _ _ _ _ _ (ap (λ w. before ++ offers w) (sym (wish_through m l t e))) (ap (λ x. joining ++ x) joins) after (told before joining t.below c b)
    passes false e =
        let still : t.below ≡ cond (is_through (standing m t)) (m.after_told t.below b) t.below = ap (λ x. cond x (m.after_told t.below b) t.below) (sym e) in
        let none : [] ≡ joined (breaker_meaning m) t b = sym (drop-length (m.waiting t.below)) ∙ (λ i. drop (length (sym (left_break m l t e) i)) (m.waiting (still i))) in
        same_course from _ _ _ _ _ _ (sym (append-nil before) ∙ ap (λ x. before ++ x) (sym (shows_none m l t e))) (sym (append-nil joining) ∙ ap (λ x. joining ++ x) none) still c

  asks : (from : S) (before joining : List ℕ) (t : Breaker S) (a : ℕ) (atn through : Bool) → Course m from before joining t.below → Course m from before joining (cond through (m.after_chosen t.below a atn) t.below)
  asks from before joining t a atn true c = chosen before joining t.below c a atn
  asks from before joining t a atn false c = c

  pub changes_nothing : (new : Breaker S) → ChangesNothing m new
  changes_nothing new taken up s begun = begun
  changes_nothing new taken up s (told before joining t c b) =
      passes new.below before joining t b (changes_nothing new before joining t c) (is_through (standing m t)) refl
  changes_nothing new taken up s (chosen before joining t c a atn) =
      asks new.below before joining t a atn (is_through (standing m t)) (changes_nothing new before joining t c)
