-- A script only ever moves to places of its table.
use Rattle.std.proofs.Common.{◌≡◌, ℕ, ◌-◌, Bool, true, false, cond, List, length, get_or, refl, arith}
use Rattle.std.proofs.lemmas.List.{get_or_default}
use Rattle.chain.specs.Chain.{leads}
use Rattle.chain.proofs.Steps.{led}
use Rattle.script.specs.declared.row.Row.{Row}
use Rattle.script.specs.declared.script.Place.{Place}
use Rattle.script.specs.declared.script.Place.TheVariants.{At, End, Leaving}
use Rattle.script.specs.Scripts.{no_row, follow, next_place}
use Rattle.saved.specs.Stations.{InTable}

follows : (rows : List Row) (n m : ℕ) → InTable rows (follow rows n m)
follows rows n m = by (leads (length rows) n m) refl
  where
    by : (t : Bool) → leads (length rows) n m ≡ t → InTable rows (cond t (At m (get_or rows (m - 1) no_row)) End)
    by false e = tt
    by true e = let up = led (length rows) n m e in record { counted = omega arith; within = up.1; is = get_or_default rows (m - 1) no_row _ (omega arith) }

pub next_within : (rows : List Row) (p : Place) → InTable rows (next_place rows p)
next_within rows (At n r) = follows rows n r.next
next_within rows End = tt
next_within rows Leaving = tt
