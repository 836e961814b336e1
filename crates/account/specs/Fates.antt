-- What becomes of the Data In bytes that a station puts up.
use Rattle.std.specs.Prelude.{◌≡◌, ℕ, ◌+◌, Bool, true, false, cond, ◌&&◌, List, [], ◌∷◌, ◌++◌, length, ◌==◌, nat_lt}
use Rattle.bus.specs.Meaning.{Meaning}
use Rattle.bus.specs.Phases.{in_data_in}
use Rattle.registers.specs.declared.answer.Answer.{Answer}
use Rattle.chip.specs.Outcomes.{made_new}
use Rattle.chip.specs.Views.{View}
use Rattle.account.specs.Lines.{Line, line}
use Rattle.registers.specs.declared.call.Call.{Call}
use Rattle.account.specs.Laws.{step_of, reads_data, may_lose}

-- held: the received bytes of Data In in the chip, oldest first
abbrev pub held : View → List ℕ
held v = in_data_in v.latched v.received

-- a call, what Command held when it came, and its answer
pub record Entry : Type 0 where
  pub call : Call
  pub command : ℕ
  pub answer : Answer

abbrev pub entry : Call → ℕ → Answer → Entry
entry c k a = record { call = c; command = k; answer = a }

-- an answer that tells a Data In byte read: the value of a read of Data or of a DMA read, with phase Data In
abbrev pub tells_read : Entry → Bool
tells_read e = e.answer.phase == 4 && (e.answer.refusal == 0 && reads_data e.call)

-- an answer that tells Data In bytes lost
abbrev pub tells_lost : Entry → Bool
tells_lost e = e.answer.phase == 4 && nat_lt 0 e.answer.lost

-- the bytes that an answer accounts for: exactly the value of a read, exactly as many as a loss says, and none for any
-- other; only a call that may lose bytes tells of a loss
pub record Share (e : Entry) (bytes : List ℕ) : Type 0 where
  pub reads : tells_read e ≡ true → bytes ≡ e.answer.value ∷ []
  pub loses : tells_lost e ≡ true → length bytes ≡ e.answer.lost
  pub neither : tells_read e ≡ false → tells_lost e ≡ false → bytes ≡ []
  pub reader : tells_read e ≡ true → e.answer.lost ≡ 0
  pub loser : tells_lost e ≡ true → may_lose e.call e.command ≡ true

-- the bytes gone: those that the answers account for, one after the other
pub data Gone : List Entry → List ℕ → Type 0 where
  none : Gone [] []
  then : (es : List Entry) (bytes : List ℕ) (e : Entry) (share : List ℕ) → Gone es bytes → Share e share → Gone (es ++ (e ∷ [])) (bytes ++ share)

-- the fate of every byte: those put up are the bytes gone, then those held, then those waiting
pub record Fates {S : Type 0} (m : Meaning S) (up : List ℕ) (es : List Entry) (l : Line S) : Type 0 where
  pub gone : List ℕ
  pub told : Gone es gone
  pub all : up ≡ gone ++ (held l.chip ++ m.waiting l.station)

-- All that can happen to a string: what was put up, the calls with their answers, and the string as it is now. It is made
-- over any station; then calls come, in any order and number and with any addresses and values, refused ones among them.
pub data History {S : Type 0} (m : Meaning S) : List ℕ → List Entry → Line S → Type 0 where
  begun : (i : ℕ) (s : S) → History m (m.waiting s) [] (line (made_new i) s)
  called : (up : List ℕ) (es : List Entry) (l : Line S) → History m up es l → (c : Call) → History m (up ++ (step_of m c l).up) (es ++ (entry c l.chip.registers.command (step_of m c l).answer ∷ [])) (step_of m c l).left

-- promise one, over all histories
abbrev pub EveryFate : {S : Type 0} → Meaning S → Type 0
EveryFate {S = S} m = (up : List ℕ) (es : List Entry) (l : Line S) → History m up es l → Fates m up es l

-- whatever was put up and answered before, the law goes on over this call
abbrev pub GoesOn : {S : Type 0} → Meaning S → Call → Line S → Answer → Line S → Type 0
GoesOn m c l a l' = (up : List ℕ) (es : List Entry) → History m up es l → Fates m (up ++ (step_of m c l).up) (es ++ (entry c l.chip.registers.command a ∷ [])) l'

-- the record: all Data In bytes read, in the order of the answers
unfoldable pub record_of : List Entry → List ℕ
record_of [] = []
record_of (e ∷ es) = cond (tells_read e) (e.answer.value ∷ []) [] ++ record_of es

-- how many Data In bytes were lost
unfoldable pub lost_of : List Entry → ℕ
lost_of [] = 0
lost_of (e ∷ es) = cond (tells_lost e) e.answer.lost 0 + lost_of es

-- a complete record: no Data In byte waits, is held or was lost
pub record Complete {S : Type 0} (m : Meaning S) (es : List Entry) (l : Line S) : Type 0 where
  pub waits : m.waiting l.station ≡ []
  pub holds : held l.chip ≡ []
  pub lost : lost_of es ≡ 0

-- promise two: over any two stations, each after a history of its own, complete records are equal exactly when the
-- stations put up equal bytes
abbrev pub RecordsTell : {P Q : Type 0} → Meaning P → Meaning Q → Type 0
RecordsTell {P = P} {Q = Q} m n =
    (up up' : List ℕ) (es es' : List Entry) (l : Line P) (l' : Line Q) → History m up es l → History n up' es' l' → Complete m es l → Complete n es' l'
    → (record_of es ≡ record_of es' → up ≡ up') × (up ≡ up' → record_of es ≡ record_of es')
