-- The kinds of stations, by their numbers.
use Rattle.std.specs.Prelude.{◌≡◌, ℕ, ◌<◌, cond, Some, None, Option, Result, MatchResult, ◌==◌}
use Rattle.embed.specs.declared.state.Kind.{Kind}
use Rattle.embed.specs.declared.state.Kind.TheVariants.{Drive, Script}
use Rattle.embed.specs.declared.state.NoSuchKind.{NoSuchKind}

abbrev pub kind_number : Kind → ℕ
kind_number Drive = 0
kind_number Script = 1

-- the kind of a number, if it has one
abbrev pub kind_numbered : ℕ → Option Kind
kind_numbered n = cond (n == 0) (Some Drive) (cond (n == 1) (Some Script) None)

-- the number of a kind, which leads back to it
abbrev pub KindNumber : Kind → ℕ → Type 0
KindNumber k n = (n ≡ kind_number k) × (kind_numbered n ≡ Some k)

-- what a number names: the kind that has it, or none, and then the number is handed back
abbrev pub KindOf : ℕ → Result Kind NoSuchKind → Type 0
KindOf n r = MatchResult r (λ k. (kind_numbered n ≡ Some k) × ((kind_number k ≡ n) × (n < 2))) (λ e. (e.0 ≡ n) × ((kind_numbered n ≡ None) × (1 < n)))
