-- Good and bad parity: their numbers and names.
use Rattle.std.specs.Prelude.{◌≡◌, ℕ, ◌<◌, cond, List, Some, None, codes, Option, Result, MatchResult, ◌==◌}
use Rattle.bus.specs.declared.parity.Parity.{Parity}
use Rattle.bus.specs.declared.parity.NoSuchParity.{NoSuchParity}
use Rattle.bus.specs.declared.parity.Parity.TheVariants.{Good, Bad}

abbrev pub parity_number : Parity → ℕ
parity_number Good = 0
parity_number Bad = 1

-- the parity with a number, if there is one
abbrev pub parity_numbered : ℕ → Option Parity
parity_numbered n = cond (n == 0) (Some Good) (cond (n == 1) (Some Bad) None)

-- the number of a parity, which leads back to it
abbrev pub ParityNumber : Parity → ℕ → Type 0
ParityNumber p n = (n ≡ parity_number p) × (parity_numbered n ≡ Some p)

-- what a number names: the parity that has it, or none, and then the number is handed back
abbrev pub ParityOf : ℕ → Result Parity NoSuchParity → Type 0
ParityOf n r = MatchResult r (λ p. (parity_numbered n ≡ Some p) × ((parity_number p ≡ n) × (n < 2))) (λ e. (e.0 ≡ n) × ((parity_numbered n ≡ None) × (1 < n)))

abbrev pub parity_name : Parity → List ℕ
parity_name Good = codes "good"
parity_name Bad = codes "bad"
