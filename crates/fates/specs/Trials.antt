-- A string that is made over a station and has a list of calls run on it: both promises, on the actual values.
use Rattle.std.specs.Prelude.{◌≡◌, ℕ, ◌+◌, Bool, true, false, cond, ◌&&◌, List, [], ◌∷◌, ◌++◌, Ok, Err, Option, Result, ◌==◌, nat_lt}
use Rattle.bus.specs.Meaning.{Meaning}
use Rattle.registers.specs.declared.answer.Answer.{Answer}
use Rattle.registers.specs.declared.call.CallRow.{CallRow as Row}
use Rattle.registers.specs.declared.call.Ran.{Ran}
use Rattle.registers.specs.declared.call.RunRefusal.{RunRefusal}
use Rattle.fates.specs.declared.records.Record.{Record}
use Rattle.fates.specs.declared.trials.Setup.{Setup}
use Rattle.fates.specs.declared.trials.Tried.{Tried}
use Rattle.fates.specs.declared.trials.Comparison.{Comparison}
use Rattle.scsi_string.specs.Strings.{values}
use Rattle.chip.specs.Outcomes.{made_new}
use Rattle.account.specs.Accounts.{Account}
use Rattle.account.specs.Fates.{held}
use Rattle.registers.specs.declared.call.Call.{Call}
use Rattle.account.specs.Lines.{Line, line}
use Rattle.registers.specs.Calls.{call_of}
use Rattle.account.specs.Runs.{listed_reads, joining, recorded, RanAs, NotRun}

-- whether the answer to a call of a list tells a Data In byte read, and whether an answer tells Data In bytes lost
abbrev pub answer_reads : Option Call → Answer → Bool
answer_reads o a = a.phase == 4 && (a.refusal == 0 && listed_reads o)

abbrev pub answer_loses : Answer → Bool
answer_loses a = a.phase == 4 && nat_lt 0 a.lost

abbrev pub reads_byte : Row → Answer → Bool
reads_byte c a = answer_reads (call_of c) a

-- the record: the Data In bytes read, from the calls and their answers
abbrev pub record_in : List Row → List Answer → List ℕ
record_in [] answers = []
record_in (c ∷ cs) [] = []
record_in (c ∷ cs) (a ∷ rest) = cond (reads_byte c a) (a.value ∷ []) [] ++ record_in cs rest

-- how many Data In bytes the answers say were lost
abbrev pub lost_data : List Row → List Answer → ℕ
lost_data [] answers = 0
lost_data (c ∷ cs) [] = 0
lost_data (c ∷ cs) (a ∷ rest) = cond (answer_loses a) a.lost 0 + lost_data cs rest

abbrev pub same : List ℕ → List ℕ → Bool
same [] [] = true
same [] (y ∷ ys) = false
same (x ∷ xs) [] = false
same (x ∷ xs) (y ∷ ys) = x == y && same xs ys

-- what is left of a record that is being read
abbrev pub bytes_left : Record → List ℕ
bytes_left r = record_in r.calls.now r.answers.now

module _ {S : Type 0} (m : Meaning S) (i : ℕ) (s : S) (calls : List Row) where
  -- what the station has put up by then
  abbrev pub put_up : List ℕ
  put_up = m.waiting s ++ joining m calls (line (made_new i) s)

  -- the calls were made, each answer is at its place, and every byte put up has its fate
  pub record Trial (room : List Answer) (l : Line S) (room' : List Answer) (t : Ran) : Type 0 where
    pub ran : RanAs m calls (line (made_new i) s) room l room' t
    pub account : Account m put_up (recorded m calls (line (made_new i) s)) l

  -- refused, the string is as it was made
  pub record Untried (room : List Answer) (l : Line S) (room' : List Answer) : Type 0 where
    pub not_run : NotRun calls (line (made_new i) s) room l room'
    pub account : Account m (m.waiting s) [] l

  abbrev pub TrialGives : List Answer → Line S → List Answer → Result Ran RunRefusal → Type 0
  TrialGives room l room' (Ok t) = Trial room l room' t
  TrialGives room l room' (Err e) = Untried room l room'

-- the same of a setup, what a trial of it leaves, and the room for the answers before and after
abbrev pub TrialSays : {S : Type 0} → Meaning S → Setup S → List Answer → Tried S → List Answer → Type 0
TrialSays m setup room t room' = TrialGives m setup.address.number setup.station setup.calls.now room (values t.string) room' t.ran

-- a run whose record is complete: no Data In byte waits, is held or was lost
pub record Whole {S : Type 0} (m : Meaning S) (calls : List Row) (answers : List Answer) (l : Line S) : Type 0 where
  pub waits : m.waiting l.station ≡ []
  pub holds : held l.chip ≡ []
  pub lost : lost_data calls answers ≡ 0

module _ {P Q : Type 0} (m : Meaning P) (n : Meaning Q) (i j : ℕ) (p : P) (q : Q) (cs ds : List Row) where
  -- two complete records are equal exactly when the stations put up equal bytes
  abbrev pub TellsApart : List Answer → Line P → List Answer → Line Q → Bool → Type 0
  TellsApart xs l bs k equal =
      Whole m cs xs l → Whole n ds bs k → (equal ≡ true → put_up m i p cs ≡ put_up n j q ds) × (put_up m i p cs ≡ put_up n j q ds → equal ≡ true)

  -- of two runs that were not refused
  abbrev pub RunsCompare : List Answer → Line P → Result Ran RunRefusal → List Answer → Line Q → Result Ran RunRefusal → Bool → Type 0
  RunsCompare xs l (Ok t) bs k (Ok u) equal = TellsApart xs l bs k equal
  RunsCompare xs l (Ok t) bs k (Err e) equal = Unit {0}
  RunsCompare xs l (Err e) bs k r equal = Unit {0}

-- the same of two setups, the answers to each, and what the comparison leaves
abbrev pub Compares : {P Q : Type 0} → Meaning P → Meaning Q → Setup P → List Answer → Setup Q → List Answer → Comparison P Q → Type 0
Compares m n first xs second bs c =
    RunsCompare m n first.address.number second.address.number first.station second.station first.calls.now second.calls.now
    xs (values c.first.string) c.first.ran bs (values c.second.string) c.second.ran c.equal
