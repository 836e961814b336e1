-- The chain of a table keeps the rule, and each step of a walk keeps the verdict.
use Rattle.std.proofs.Common.{◌≡◌, ℕ, zero, suc, ◌+◌, ◌-◌, ◌<◌, ◌≤◌, Bool, true, false, List, [], ◌∷◌, length, get_or, Ok, Err, sym, refl, ap, ◌∙◌, add-one, arith}
use Rattle.std.proofs.lemmas.Bool.{ne_eqb, le-ltb}
use Rattle.chain.specs.declared.refusal.ChainRefusal.TheVariants.{WrongNext}
use Rattle.chain.specs.Chain.{link, after, chain_from, judged, verdict, Stands, leads, Runs, Rule}
use Rattle.chain.specs.Chain.Runs.{ends, goes}
use Rattle.chain.proofs.Steps.{led, found, step, on, off}

module _ {R : Type 0} (next : R → ℕ) where
  stands : (rs : List R) (n : ℕ) → 0 < n → n ≤ length rs → (r : R) × Stands next rs n r
  stands rs n p q =
      let f = found rs (n - 1) (omega arith) in
      (f.0, record { counted = p; within = q; is = f.1 })

  -- by the number of records above n
  runs_by : (k : ℕ) (rs : List R) (n : ℕ) → 0 < n → n ≤ length rs → length rs - n < k → Runs next rs n (chain_from next rs n)
  runs_by zero rs n p q f = let z : ⊥ = omega arith in absurd z
  runs_by (suc k) rs n p q f =
      let s = stands rs n p q in
      by s.0 s.1 (leads (length rs) n (next s.0)) refl (λ m above in_table. runs_by k rs m (omega arith) in_table (omega arith))
    where
      by : (r : R) → Stands next rs n r → (t : Bool) → leads (length rs) n (next r) ≡ t → ((m : ℕ) → n < m → m ≤ length rs → Runs next rs m (chain_from next rs m)) → Runs next rs n (chain_from next rs n)
      by r s false e higher = rw (step next rs n r s, off next rs n (next r) e) (ends n r s e)
      by r s true e higher =
          let up = led (length rs) n (next r) e in
          rw (step next rs n r s, on next rs n (next r) e)
          (goes n r (chain_from next rs (next r)) s e (higher (next r) up.0 up.1))

  none_empty : (rs : List R) → length rs ≡ 0 → chain_from next rs 1 ≡ []
  none_empty [] h = refl
  none_empty (r ∷ rs) h = let z : ⊥ = omega arith in absurd z

  pub rule : (rs : List R) → Rule next rs
  rule rs = record {
    none = none_empty rs;
    runs = λ h. runs_by (suc (length rs)) rs 1 (omega arith) (omega arith) (omega arith);
  }

  pub empty : (rs : List R) → length rs ≡ 0 → Ok 0 ≡ verdict next rs
  empty rs h = rw (none_empty rs h)

  -- a walk that came with k records to the record r, with the number n and the next m
  module _ (rs : List R) (k n m : ℕ) (r : R) (p : 0 < n) (q : n ≤ length rs) (v : r ≡ get_or rs (n - 1) r) (is : m ≡ next r) where
    here : Stands next rs n r
    here = record { counted = p; within = q; is = v }

    alone : leads (length rs) n m ≡ false → chain_from next rs n ≡ link n r ∷ []
    alone e = step next rs n r here ∙ ap (λ l. link n r ∷ l) (off next rs n (next r) (rw is at e))

    pub counted : m ≡ 0 → Ok (k + 1) ≡ judged next k (chain_from next rs n)
    counted e =
        let stops : leads (length rs) n m ≡ false = rw (e, le-ltb n 0 (omega arith)) in
        let says : next r ≡ 0 = sym is ∙ e in
        rw (alone stops, says, add-one)

    pub refused : (m ≡ 0 → ⊥) → leads (length rs) n m ≡ false → Err (WrongNext n) ≡ judged next k (chain_from next rs n)
    refused ne e = rw (alone e, ne_eqb (next r) 0 (λ z. ne (is ∙ z)))

    pub onward : leads (length rs) n m ≡ true → judged next (k + 1) (chain_from next rs m) ≡ judged next k (chain_from next rs n)
    onward e =
        let up = led (length rs) n m e in
        let follows = stands rs m (omega arith) up.1 in
        let after_it : after n (next r) ≡ m = rw (sym is) (on next rs n m e) in
        rw (step next rs n r here, after_it, step next rs m follows.0 follows.1, add-one)
