-- Counting the bytes from a place on: each record has its own, and the place that follows has the others.
use Rattle.std.proofs.Common.{◌≡◌, ℕ, ◌+◌, ◌-◌, ◌<◌, Bool, true, false, cond, List, length, get_or, sym, refl, ap, ◌∙◌, arith, length-append}
use Rattle.chain.specs.Chain.{leads}
use Rattle.chain.proofs.Steps.{led}
use Rattle.script.specs.declared.row.Row.{Row}
use Rattle.script.specs.declared.script.Place.{Place}
use Rattle.script.specs.declared.script.Place.TheVariants.{At, End, Leaving}
use Rattle.script.specs.Records.{row_byte}
use Rattle.script.specs.Scripts.{no_row, follow, waiting_at}
use Rattle.script.specs.ScriptLawful.{followed}

-- how many records can still come, the present one included
abbrev pub still : ℕ → Place → ℕ
still rows (At n r) = (rows + 1 - n) + 1
still rows End = 0
still rows Leaving = 0

module _ (rows : List Row) (n : ℕ) (r : Row) where
  pub fewer : still (length rows) (follow rows n r.next) < still (length rows) (At n r)
  fewer = by (leads (length rows) n r.next) refl
    where
      by : (t : Bool) → leads (length rows) n r.next ≡ t → still (length rows) (cond t (At r.next (get_or rows (r.next - 1) no_row)) End) < still (length rows) (At n r)
      by false e = omega arith
      by true e = let up = led (length rows) n r.next e in omega arith

  pub one_more : length (waiting_at rows (At n r)) ≡ length (row_byte r) + length (waiting_at rows (follow rows n r.next))
  one_more = length-append (row_byte r) _ ∙ ap (λ l. length (row_byte r) + length l) (sym (followed rows n r.next))

-- at the end of the chain nothing waits
pub none_left : (rows : List Row) (p : Place) → ((n : ℕ) (r : Row) → p ≡ At n r → ⊥) → length (waiting_at rows p) ≡ 0
none_left rows (At n r) h = absurd (h n r refl)
none_left rows End h = refl
none_left rows Leaving h = refl
