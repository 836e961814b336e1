-- Stations that are known by what can be seen of them.
use Rattle.std.specs.Prelude.{◌≡◌, ℕ, Bool}
use Rattle.bus.specs.Meaning.{Meaning}
use Rattle.account.specs.Lines.{Line, line}

-- What is seen of a station has a meaning of its own, and the station's is the same: nothing that is not seen matters.
pub record SeenAs {S V : Type 0} (m : Meaning S) (n : Meaning V) (view : S → V) : Type 0 where
  pub wants : (s : S) → m.wants s ≡ n.wants (view s)
  pub address : (s : S) → m.address s ≡ n.address (view s)
  pub waiting : (s : S) → m.waiting s ≡ n.waiting (view s)
  pub told : (s : S) (b : ℕ) → view (m.after_told s b) ≡ n.after_told (view s) b
  pub chosen : (s : S) (a : ℕ) (atn : Bool) → view (m.after_chosen s a atn) ≡ n.after_chosen (view s) a atn

-- a string, with what is seen of its station
abbrev pub seen : {S V : Type 0} → (S → V) → Line S → Line V
seen view l = line l.chip (view l.station)
