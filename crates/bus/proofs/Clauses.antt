-- What helps a station to show the clauses.
use Rattle.std.proofs.Common.{◌≡◌, ℕ, true, List, [], ◌++◌, length, drop, sym, refl, ap, ◌∙◌}
use lib.Seq.{drop-append_seam}
use Rattle.bus.specs.declared.wish.Wish.{Wish}
use Rattle.bus.specs.declared.wish.Wish.TheVariants.{Off, Back, Hold, Req, Go}
use Rattle.bus.specs.Wishes.{offers, is_off}

-- Off shows no byte
pub off_offers : (w : Wish) → is_off w ≡ true → offers w ≡ []
off_offers Off h = refl
off_offers (Back id q) h = cc
off_offers (Hold p) h = cc
off_offers (Req p b q) h = cc
off_offers Go h = cc

-- a list that begins with another is that one and the rest: the form of `shows` and `joins`
pub begins : (front back whole : List ℕ) → whole ≡ front ++ back → whole ≡ front ++ drop (length front) whole
begins front back whole e = e ∙ ap (λ l. front ++ l) (sym (ap (drop (length front)) e ∙ drop-append_seam front back))
