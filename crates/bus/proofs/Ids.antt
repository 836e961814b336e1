-- Decoding an ID byte by its bits gives what the definition says: one test, computed at each address and each byte.
use Rattle.std.proofs.Common.{◌≡◌, ℕ, zero, suc, ◌%◌, ◌<◌, Bool, true, false, ◌&&◌, eqb, ltb, Some, None, Option, unwrap_or, refl, sym, ap, ◌∙◌, ⊎_elim, mod-eq_of_lt, arith}
use lib.Count.{ones, count_trailing_zeros}
use Rattle.std.proofs.lemmas.Bool.{and_parts, cases_eq, eqb-true, ltb-true}
use Rattle.std.specs.Option.{option_map, MatchOption, IsSomeAnd}
use Rattle.bus.specs.declared.address.StationAddress.{StationAddress}
use Rattle.bus.specs.Ids.{station_bit, scanned, decoded}

abbrev same : Option ℕ → Option ℕ → Bool
same None None = true
same None (Some b) = false
same (Some a) None = false
same (Some a) (Some b) = eqb a b

same_is : (o p : Option ℕ) → same o p ≡ true → o ≡ p
same_is None None h = refl
same_is None (Some b) h = cc
same_is (Some a) None h = cc
same_is (Some a) (Some b) h = ap (λ n. Some n) (eqb-true a b h)

-- a test at all numbers below n
abbrev below : (ℕ → Bool) → ℕ → Bool
below f zero = true
below f (suc n) = f n && below f n

at : (f : ℕ → Bool) (n : ℕ) → below f n ≡ true → (k : ℕ) → k < n → f k ≡ true
at f zero t k h = let z : ⊥ = omega arith in absurd z
at f (suc n) t k h =
    let both = and_parts (f n) (below f n) t in
    ⊎_elim (λ e. rw e both.0) (λ ne. at f n both.1 k (omega arith)) (cases_eq k n)

-- the scan is the definition, and finds a number below 8
abbrev agrees : ℕ → ℕ → Bool
agrees own bits = same (scanned (station_bit own) bits) (decoded own bits) && ltb (unwrap_or (decoded own bits) 0) 8

agree : below (λ own. below (agrees own) 256) 8 ≡ true
unfolding ones count_trailing_zeros
agree = refl

module _ (own bits : ℕ) (o : own < 8) (b : bits < 256) where
  both : (same (scanned (station_bit own) bits) (decoded own bits) ≡ true) × (ltb (unwrap_or (decoded own bits) 0) 8 ≡ true)
  both = and_parts (same (scanned (station_bit own) bits) (decoded own bits)) _ (at (agrees own) 256 (at (λ own. below (agrees own) 256) 8 agree own o) bits b)

  scans : scanned (station_bit own) bits ≡ decoded own bits
  scans = same_is (scanned (station_bit own) bits) (decoded own bits) both.0

  pub near : (n : ℕ) → decoded own bits ≡ Some n → n % 8 ≡ n
  near n e = let h : n < 8 = ltb-true n 8 (rw e at both.1) in mod-eq_of_lt h

  pub finds : (r : Option ℕ) (bit : ℕ) → r ≡ scanned bit bits → bit ≡ station_bit own → r ≡ decoded own bits
  finds r bit e is = e ∙ ap (λ x. scanned x bits) is ∙ scans

  -- the same as an address, which is made of the number that was found
  pub names : (r : Option ℕ) (bit : ℕ) → r ≡ scanned bit bits → bit ≡ station_bit own → (o : Option StationAddress) → MatchOption r (o ≡ None) (λ n. IsSomeAnd o (λ a. a.number ≡ n % 8)) → option_map (λ a. a.number) o ≡ decoded own bits
  names None bit e is None m = finds None bit e is
  names None bit e is (Some a) m = cc
  names (Some n) bit e is None m = absurd m
  names (Some n) bit e is (Some a) m = let found = finds (Some n) bit e is in ap (λ x. Some x) (m ∙ near n (sym found)) ∙ found
