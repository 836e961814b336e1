-- Chains of records, numbered from 1, each of which tells the number of the next.
use Rattle.std.specs.Prelude.{◌≡◌, ℕ, suc, ◌-◌, ◌<◌, ◌≤◌, Bool, true, false, cond, ◌&&◌, List, [], ◌∷◌, ◌++◌, length, Ok, Err, Result, ◌==◌, nat_le, nat_lt, slice_index_or}
use Rattle.chain.specs.declared.refusal.ChainRefusal.{ChainRefusal}
use Rattle.chain.specs.declared.refusal.ChainRefusal.TheVariants.{WrongNext}

-- a record of a chain, with its number
pub record Link (R : Type 0) : Type 0 where
  pub number : ℕ
  pub item : R

abbrev pub link : {R : Type 0} → ℕ → R → Link R
link n r = record { number = n; item = r }

-- what the records of a chain give, one after the other
abbrev pub gather : {R : Type 0} → (R → List ℕ) → List (Link R) → List ℕ
gather f [] = []
gather f (l ∷ ls) = f l.item ++ gather f ls

-- the number m after the record n; zero, the end, where it is not above n
abbrev pub after : ℕ → ℕ → ℕ
after n m = cond (nat_lt n m) m 0

-- whether a chain goes on from the record n to m, in a table of so many records: upward, and within the table
abbrev pub leads : ℕ → ℕ → ℕ → Bool
leads records n m = nat_lt n m && nat_le m records

module _ {R : Type 0} (next : R → ℕ) where
  -- The chain from the record n on, in a table whose first record has the number here. A next leads upward only, so
  -- one way through the table meets the whole chain.
  abbrev pub chain_in : List R → ℕ → ℕ → List (Link R)
  chain_in [] here n = []
  chain_in (r ∷ rs) here n =
      cond (here == n) (link here r ∷ chain_in rs (suc here) (after here (next r))) (chain_in rs (suc here) n)

  -- the chain from the record n on
  abbrev pub chain_from : List R → ℕ → List (Link R)
  chain_from rs n = chain_in rs 1 n

  -- k records and those of a chain, if the last of these says zero, and otherwise that last one
  abbrev pub judged : ℕ → List (Link R) → Result ℕ ChainRefusal
  judged k [] = Ok k
  judged k (l ∷ []) = cond (next l.item == 0) (Ok (suc k)) (Err (WrongNext l.number))
  judged k (l ∷ m ∷ ls) = judged (suc k) (m ∷ ls)

  -- how many records the chain of a table has, or the first whose next ends it wrongly
  abbrev pub verdict : List R → Result ℕ ChainRefusal
  verdict rs = judged 0 (chain_from rs 1)

  -- the record r has the number n
  pub record Stands (rs : List R) (n : ℕ) (r : R) : Type 0 where
    pub counted : 0 < n
    pub within : n ≤ length rs
    pub is : r ≡ slice_index_or rs (n - 1) r

  -- the rule: a record is the last of its chain where its next leads nowhere, and else its next's chain follows it
  pub data Runs (rs : List R) : ℕ → List (Link R) → Type 0 where
    ends : (n : ℕ) (r : R) → Stands rs n r → leads (length rs) n (next r) ≡ false → Runs rs n (link n r ∷ [])
    goes : (n : ℕ) (r : R) (ls : List (Link R)) → Stands rs n r → leads (length rs) n (next r) ≡ true → Runs rs (next r) ls → Runs rs n (link n r ∷ ls)

  -- a chain begins at record 1 and keeps the rule; an empty table has an empty chain
  pub record Rule (rs : List R) : Type 0 where
    pub none : length rs ≡ 0 → chain_from rs 1 ≡ []
    pub runs : 0 < length rs → Runs rs 1 (chain_from rs 1)
