-- A Req is read off its record.
use Rattle.std.proofs.Common.{◌≡◌, ℕ, Bool, true, false, cond, Some, sym, refl, subst, arith}
use Rattle.bus.specs.declared.parity.Parity.{Parity}
use Rattle.bus.specs.declared.parity.Parity.TheVariants.{Good}
use Rattle.bus.specs.declared.phase.Phase.{Phase}
use Rattle.bus.specs.declared.wish.Wish.{Wish}
use Rattle.bus.specs.Phases.{phase_number, phase_numbered, is_input}
use Rattle.bus.specs.Parities.{parity_number, parity_numbered}
use Rattle.bus.specs.Wishes.{asking}
use Rattle.script.specs.declared.row.Row.{Row}
use Rattle.script.specs.Records.{wish_of, Reads}

byte_twice : (t : Bool) (b : ℕ) → cond t (cond t b 0) 0 ≡ cond t b 0
byte_twice true b = refl
byte_twice false b = refl

parity_twice : (t : Bool) (q : Parity) → cond t (parity_number (cond t q Good)) 0 ≡ cond t (parity_number q) 0
parity_twice true q = refl
parity_twice false q = refl

module _ (r : Row) (p : Phase) (q : Parity) (k : r.kind ≡ 3) where
  pub is_wish : phase_numbered r.phase ≡ Some p → parity_numbered r.parity ≡ Some q → asking p r.byte q ≡ wish_of r
  is_wish np nq = rw (k, np, nq)

  reads : phase_number p ≡ r.phase → parity_number q ≡ r.parity → Reads r (asking p r.byte q)
  reads pn qn = record {
    kind = sym k;
    held = λ h. let z : ⊥ = omega arith in absurd z;
    asked = λ h. pn;
    byte = λ h. rw (sym pn) (byte_twice (is_input p) r.byte);
    parity = λ h. rw (sym pn, sym qn) (parity_twice (is_input p) q);
    id = λ h. let z : ⊥ = omega arith in absurd z;
    id_parity = λ h. let z : ⊥ = omega arith in absurd z;
  }

  pub reads_as : phase_number p ≡ r.phase → parity_number q ≡ r.parity → (w : Wish) → w ≡ asking p r.byte q → Reads r w
  reads_as pn qn w e = subst (λ x. Reads r x) (sym e) (reads pn qn)
