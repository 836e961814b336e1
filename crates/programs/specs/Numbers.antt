-- What number a word writes.
use Rattle.std.specs.Prelude.{ℕ, zero, suc, List, [], ◌∷◌, ◌≡◌, Bool, false, cond, drop, codes, nat_eq, Option, Some, ◌<◌, ◌≤◌, ◌^◌}
use Rattle.std.specs.Borrow.{Bor}
use Rattle.std.specs.declared.str.SplitWhitespace.{SplitWhitespace}
use Rattle.std.specs.Str.Iter.{split_whitespace_steps}
use Rattle.std.specs.List.{starts_with}
use Rattle.std.specs.Option.{SomeIff}
use Rattle.std.specs.Str.Parse.{IsNumeral, digits_value}
use Rattle.programs.specs.declared.fields.Notation.{Notation}
use Rattle.programs.specs.declared.fields.Notation.TheVariants.{Decimal, DecimalOrHex}

abbrev pub is_hex : Notation → List ℕ → Bool
is_hex Decimal word = false
is_hex DecimalOrHex word = starts_with nat_eq word (codes "0x")

-- the number of some digits, if they are nothing else and it is below 2 ^ 32
abbrev pub DigitsWrite : ℕ → List ℕ → Option ℕ → Type 0
DigitsWrite radix ds r = SomeIff r (IsNumeral radix ds × (digits_value radix ds < 2 ^ 32)) (digits_value radix ds)

-- the number that a word writes, if it writes one
abbrev pub Writes : Notation → List ℕ → Option ℕ → Type 0
Writes n word = cond (is_hex n word) (DigitsWrite 16 (drop 2 word)) (DigitsWrite 10 word)

-- the next word writes the number
unfoldable pub WritesNext : Notation → SplitWhitespace → ℕ → SplitWhitespace → Type 0
WritesNext n s number t = (w : Bor (List ℕ)) × split_whitespace_steps s (Some w) t × Writes n w.now (Some number)

-- the word writes no number up to the bound
abbrev pub WritesNoneUpTo : Notation → ℕ → Bor (List ℕ) → Type 0
WritesNoneUpTo n most w = (number : ℕ) → number ≤ most → ¬ (Writes n w.now (Some number))

-- the next words write the numbers, one after the other
abbrev pub WritesAll : Notation → SplitWhitespace → List ℕ → SplitWhitespace → Type 0
WritesAll n s [] t = s ≡ t
WritesAll n s (number ∷ numbers) t = (u : SplitWhitespace) × WritesNext n s number u × WritesAll n u numbers t

-- the next words write so many bytes, one after the other
abbrev pub WritesBytes : Notation → SplitWhitespace → ℕ → SplitWhitespace → Type 0
WritesBytes n s zero t = s ≡ t
WritesBytes n s (suc k) t = (number : ℕ) × number ≤ 255 × (u : SplitWhitespace) × WritesNext n s number u × WritesBytes n u k t

-- the last word that was taken is found, or none was left
abbrev pub FindsLast : Option (Bor (List ℕ)) → SplitWhitespace → Type 0
FindsLast found t = (s : SplitWhitespace) × split_whitespace_steps s found t
