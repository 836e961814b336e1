-- One step along a chain.
use Rattle.std.proofs.Common.{◌≡◌, ℕ, zero, suc, ◌+◌, ◌-◌, ◌<◌, ◌≤◌, Bool, true, false, cond, eqb, ltb, leb, ◌⊎◌, List, [], ◌∷◌, length, get_or, refl, ◌∙◌, inl, inr, arith}
use Rattle.std.proofs.lemmas.Bool.{eqb-true, eqb-false, ne_eqb, ltb-true, leb-true, leb-false, and_parts}
use Rattle.chain.specs.Chain.{link, after, chain_in, chain_from, Stands, leads}

apart : (t : Bool) (m n here : ℕ) → (t ≡ true → n < m) → 0 < here → here ≤ n → here ≡ cond t m 0 → ⊥
apart true m n here f p q e = let l : n < m = f refl in omega arith
apart false m n here f p q e = omega arith

-- what follows n lies above n, or nowhere
after_apart : (m here n : ℕ) → 0 < here → here ≤ n → here ≡ after n m → ⊥
after_apart m here n = apart (ltb n m) m n here (ltb-true n m)

-- where a chain goes on, it goes upward and stays within the table
pub led : (records n m : ℕ) → leads records n m ≡ true → (n < m) × (m ≤ records)
led records n m t =
    let both = and_parts (ltb n m) (leb m records) t in
    (ltb-true n m both.0, leb-true m records both.1)

-- the record at a place
pub found : {R : Type 0} (rs : List R) (i : ℕ) → i < length rs → (r : R) × (r ≡ get_or rs i r)
found [] i h = let z : ⊥ = omega arith in absurd z
found (r ∷ rs) zero h = (r, refl)
found (r ∷ rs) (suc i) h = found rs i (omega arith)

module _ {R : Type 0} (next : R → ℕ) where
  skip : (r : R) (rs : List R) (here n : ℕ) → (here ≡ n → ⊥) → chain_in next (r ∷ rs) here n ≡ chain_in next rs (suc here) n
  skip r rs here n h = rw (ne_eqb here n h)

  -- no record has a number below the table's first or beyond its last
  nowhere : (rs : List R) (here n : ℕ) → (n < here) ⊎ (here + length rs ≤ n) → chain_in next rs here n ≡ []
  nowhere [] here n h = refl
  nowhere (r ∷ rs) here n (inl h) = skip r rs here n (λ e. omega arith) ∙ nowhere rs (suc here) n (inl (omega arith))
  nowhere (r ∷ rs) here n (inr h) = skip r rs here n (λ e. omega arith) ∙ nowhere rs (suc here) n (inr (omega arith))

  walk : (rs : List R) (here n : ℕ) (x : R) → 0 < here → here ≤ n → n < here + length rs → x ≡ get_or rs (n - here) x → chain_in next rs here n ≡ link n x ∷ chain_in next rs here (after n (next x))
  walk [] here n x p q l v = let z : ⊥ = omega arith in absurd z
  walk (r ∷ rs) here n x p q l v = by (eqb here n) refl (λ k w. walk rs (suc here) n x (omega arith) k (omega arith) w)
    where
      by : (t : Bool) → eqb here n ≡ t → (suc here ≤ n → x ≡ get_or rs (n - suc here) x → chain_in next rs (suc here) n ≡ link n x ∷ chain_in next rs (suc here) (after n (next x))) → chain_in next (r ∷ rs) here n ≡ link n x ∷ chain_in next (r ∷ rs) here (after n (next x))
      by true e ih =
          let same : here ≡ n = eqb-true here n e in
          let z : n - here ≡ 0 = omega arith in
          let is : x ≡ r = rw z at v in
          rw (skip r rs here (after n (next x)) (after_apart (next x) here n p q), e, is, same)
      by false e ih =
          let other : here ≡ n → ⊥ = eqb-false here n e in
          let z : n - here ≡ suc (n - suc here) = omega arith in
          let is : x ≡ get_or rs (n - suc here) x = rw z at v in
          rw (skip r rs here (after n (next x)) (after_apart (next x) here n p q), e) (ih (omega arith) is)

  -- from a record on: itself, and then from what follows it on
  pub step : (rs : List R) (n : ℕ) (x : R) → Stands next rs n x → chain_from next rs n ≡ link n x ∷ chain_from next rs (after n (next x))
  step rs n x s = walk rs 1 n x (omega arith) s.counted (omega (arith, s.within)) s.is

  -- beyond the table, and at zero, there is no chain
  pub beyond : (rs : List R) (n : ℕ) → length rs < n → chain_from next rs n ≡ []
  beyond rs n h = nowhere rs 1 n (inr (omega arith))

  pub at_zero : (rs : List R) → chain_from next rs 0 ≡ []
  at_zero rs = nowhere rs 1 0 (inl (omega arith))

  -- where a next leads on, it is what follows
  pub on : (rs : List R) (n m : ℕ) → leads (length rs) n m ≡ true → after n m ≡ m
  on rs n m t = rw (and_parts (ltb n m) (leb m (length rs)) t).0

  -- where it leads nowhere, no chain follows
  pub off : (rs : List R) (n m : ℕ) → leads (length rs) n m ≡ false → chain_from next rs (after n m) ≡ []
  off rs n m t = by (ltb n m) refl
    where
      by : (above : Bool) → ltb n m ≡ above → chain_from next rs (cond above m 0) ≡ []
      by false e = at_zero rs
      by true e = beyond rs m (leb-false m (length rs) (rw e at t))
