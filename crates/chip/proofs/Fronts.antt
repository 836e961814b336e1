-- The first of a few bytes.
use Rattle.std.proofs.Common.{◌≡◌, ℕ, zero, suc, ◌-◌, ◌<◌, ◌≤◌, eqb, List, [], ◌∷◌, length, get_or, take, drop, set, refl, arith}
use Rattle.std.proofs.lemmas.Bool.{ne_eqb}
use Rattle.chip.specs.Outcomes.{is_empty}

pub take_empty : (n : ℕ) (xs : List ℕ) → n ≤ length xs → eqb n 0 ≡ is_empty (take n xs)
take_empty zero xs h = refl
take_empty (suc n) [] h = absurd (omega arith)
take_empty (suc n) (x ∷ xs) h = ne_eqb (suc n) 0 (λ e. omega arith)

pub take_first : (n : ℕ) (xs : List ℕ) → 0 < n → get_or xs 0 0 ≡ get_or (take n xs) 0 0
take_first zero xs h = absurd (omega arith)
take_first (suc n) [] h = refl
take_first (suc n) (x ∷ xs) h = refl

pub take_shift : (n : ℕ) (xs : List ℕ) → length xs ≡ 2 → 0 < n → n ≤ 2 → take (n - 1) (set xs 0 (get_or xs 1 0)) ≡ drop 1 (take n xs)
take_shift zero xs l h k = absurd (omega arith)
take_shift (suc zero) [] l h k = absurd (omega arith)
take_shift (suc zero) (x ∷ xs) l h k = refl
take_shift (suc (suc zero)) [] l h k = absurd (omega arith)
take_shift (suc (suc zero)) (x ∷ []) l h k = absurd (omega arith)
take_shift (suc (suc zero)) (x ∷ (y ∷ xs)) l h k = refl
take_shift (suc (suc (suc n))) xs l h k = absurd (omega arith)
