-- How what was expected is told.
use Rattle.std.specs.Prelude.{◌≡◌, ℕ, ◌-◌, ◌^◌, ◌⊎◌, List, [], ◌∷◌, ◌++◌, codes, Option, None, Some, IfSome}
use Rattle.std.specs.Borrow.{Bor}
use Rattle.std.specs.Fmt.{decimal}
use Rattle.std.specs.declared.str.SplitWhitespace.{SplitWhitespace}
use Rattle.std.specs.Str.Iter.{split_whitespace_steps}
use Rattle.programs.specs.Numbers.{WritesBytes, WritesNoneUpTo}
use Rattle.programs.specs.declared.fields.Expected.{Expected}
use Rattle.programs.specs.declared.fields.Expected.TheVariants.{Words, Number}
use Rattle.programs.specs.declared.fields.Notation.{Notation}
use Rattle.programs.specs.declared.fields.Unexpected.{Unexpected}

abbrev pub expected_text : Expected → List ℕ
expected_text (Words words) = words.now
expected_text (Number name range most) = name.now ++ (codes ", " ++ (range.now ++ (codes " " ++ decimal most)))

abbrev pub found_text : Option (Bor (List ℕ)) → List ℕ
found_text None = codes ", and the line ends"
found_text (Some word) = codes ", and found '" ++ (word.now ++ codes "'")

abbrev pub unexpected_text : Unexpected → List ℕ
unexpected_text u = codes "expected " ++ (expected_text u.expected ++ found_text u.found)

-- the error tells what was expected, and the next word, if there is one
abbrev pub TellsNext : Expected → SplitWhitespace → SplitWhitespace → Unexpected → Type 0
TellsNext expected s t u = (u.expected ≡ expected) × split_whitespace_steps s u.found t

-- behind so many bytes it tells the next number, by its name and bound, and the word there writes none up to the bound
abbrev pub TellsAfter : ℕ → Notation → Bor (List ℕ) → Bor (List ℕ) → ℕ → SplitWhitespace → SplitWhitespace → Unexpected → Type 0
TellsAfter k n name range most s t u =
    (r : SplitWhitespace) × WritesBytes n s k r × TellsNext (Number name range most) r t u × IfSome u.found (WritesNoneUpTo n most)

-- of the five numbers of a row it tells the first that does not stand there
abbrev pub TellsRow : Notation → Bor (List ℕ) → List (Bor (List ℕ)) → SplitWhitespace → SplitWhitespace → Unexpected → Type 0
TellsRow n range (kind ∷ phase ∷ byte ∷ parity ∷ next ∷ []) s t u =
    TellsAfter 0 n kind range 255 s t u
    ⊎ TellsAfter 1 n phase range 255 s t u
    ⊎ TellsAfter 2 n byte range 255 s t u
    ⊎ TellsAfter 3 n parity range 255 s t u
    ⊎ TellsAfter 4 n next range (2 ^ 32 - 1) s t u
TellsRow n range names s t u = ⊥
