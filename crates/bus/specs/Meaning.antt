-- What every station means, and what each has to show of its meaning.
use Rattle.std.specs.Prelude.{◌≡◌, ℕ, Bool, true, false, ◌&&◌, List, ◌++◌, length, drop, ◌==◌}
use Rattle.bus.specs.declared.wish.Wish.{Wish}
use Rattle.bus.specs.Wishes.{offers, is_off}

pub record Meaning (S : Type 0) : Type 0 where
  pub wants : S → Wish
  pub address : S → ℕ
  -- the Data In bytes that wait, in the order in which they will go
  pub waiting : S → List ℕ
  -- what a station is after it was told this byte
  pub after_told : S → ℕ → S
  -- what a station is after this address was chosen, with ATN on or off
  pub after_chosen : S → ℕ → Bool → S

module _ {S : Type 0} (m : Meaning S) where
  -- chosen, a station says yes where it is Off and the address is the one that it has, and nowhere else
  abbrev pub says_yes : S → ℕ → Bool
  says_yes s a = is_off (m.wants s) && m.address s == a

  -- what a Told leaves of the list: all but the Data In byte that the wish shows
  abbrev pub left : S → List ℕ
  left s = drop (length (offers (m.wants s))) (m.waiting s)

  -- what joined at a Told: the end of the new list, behind all that was left of the old one
  abbrev pub joined : S → ℕ → List ℕ
  joined s b = drop (length (left s)) (m.waiting (m.after_told s b))

-- the clauses
pub record Lawful {S : Type 0} (m : Meaning S) : Type 0 where
  -- a Req in Data In shows the first waiting byte
  pub shows : (s : S) → m.waiting s ≡ offers (m.wants s) ++ left m s
  -- told, it drops the byte that the wish showed and no other; bytes may join at the end
  pub joins : (s : S) (b : ℕ) → m.waiting (m.after_told s b) ≡ left m s ++ joined m s b
  -- told on Off, it changes nothing
  pub rests : (s : S) (b : ℕ) → is_off (m.wants s) ≡ true → m.after_told s b ≡ s
  -- a yes keeps the list
  pub keeps : (s : S) (a : ℕ) (atn : Bool) → says_yes m s a ≡ true → m.waiting (m.after_chosen s a atn) ≡ m.waiting s
  -- a no changes nothing
  pub refuses : (s : S) (a : ℕ) (atn : Bool) → says_yes m s a ≡ false → m.after_chosen s a atn ≡ s
  -- the address never changes
  pub stays_told : (s : S) (b : ℕ) → m.address (m.after_told s b) ≡ m.address s
  pub stays_chosen : (s : S) (a : ℕ) (atn : Bool) → m.address (m.after_chosen s a atn) ≡ m.address s
