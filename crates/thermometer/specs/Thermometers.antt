-- What a thermometer means, and the proof that it keeps the clauses of a station.
use Rattle.std.specs.Prelude.{◌≡◌, ℕ, ◌+◌, ◌%◌, Bool, true, false, cond, ◌&&◌, List, [], ◌∷◌, ◌++◌, ◌==◌, refl}
use Rattle.std.proofs.Common.{ap}
use Rattle.std.proofs.lemmas.Bool.{false≢true}
use Rattle.bus.specs.declared.address.StationAddress.{StationAddress}
use Rattle.bus.specs.declared.parity.Parity.TheVariants.{Good}
use Rattle.bus.specs.declared.phase.Phase.TheVariants.{DataIn}
use Rattle.bus.specs.declared.wish.Wish.{Wish}
use Rattle.bus.specs.declared.wish.Wish.TheVariants.{Off, Req, Go}
use Rattle.bus.specs.Meaning.{Meaning, Lawful, left, joined}
use Rattle.bus.specs.Wishes.{offers, is_off}
use Rattle.thermometer.specs.declared.Stage.{Stage}
use Rattle.thermometer.specs.declared.Stage.TheVariants.{Resting, Showing, Leaving}
use Rattle.thermometer.specs.declared.Thermometer.{Thermometer}

abbrev pub at_stage : StationAddress → ℕ → Stage → Thermometer
at_stage a reading s = record { address = a; reading = reading; stage = s }

abbrev pub resting_at : StationAddress → ℕ → Thermometer
resting_at a reading = at_stage a reading Resting

abbrev pub wants_at : Stage → ℕ → Wish
wants_at Resting reading = Off
wants_at Showing reading = Req DataIn reading Good
wants_at Leaving reading = Go

-- the reading waits until it is taken
abbrev pub waiting_at : Stage → ℕ → List ℕ
waiting_at Resting reading = reading ∷ []
waiting_at Showing reading = reading ∷ []
waiting_at Leaving reading = []

-- the next reading joins when it leaves the cable
abbrev pub told_at : Stage → StationAddress → ℕ → Thermometer
told_at Resting a reading = at_stage a reading Resting
told_at Showing a reading = at_stage a reading Leaving
told_at Leaving a reading = at_stage a ((reading + 1) % 256) Resting

abbrev pub chosen_at : Stage → StationAddress → ℕ → Bool → Thermometer
chosen_at Resting a reading own = at_stage a reading (cond own Showing Resting)
chosen_at Showing a reading own = at_stage a reading Showing
chosen_at Leaving a reading own = at_stage a reading Leaving

abbrev pub thermometer_meaning : Meaning Thermometer
thermometer_meaning = record {
  wants = λ t. wants_at t.stage t.reading;
  address = λ t. t.address.number;
  waiting = λ t. waiting_at t.stage t.reading;
  after_told = λ t b. told_at t.stage t.address t.reading;
  after_chosen = λ t a atn. chosen_at t.stage t.address t.reading (t.address.number == a);
}

module _ (a : StationAddress) (r : ℕ) where
  shows : (s : Stage) → waiting_at s r ≡ offers (wants_at s r) ++ left thermometer_meaning (at_stage a r s)
  shows Resting = refl
  shows Showing = refl
  shows Leaving = refl

  joins : (s : Stage) (b : ℕ) → thermometer_meaning.waiting (told_at s a r) ≡ left thermometer_meaning (at_stage a r s) ++ joined thermometer_meaning (at_stage a r s) b
  joins Resting b = refl
  joins Showing b = refl
  joins Leaving b = refl

  rests : (s : Stage) → is_off (wants_at s r) ≡ true → told_at s a r ≡ at_stage a r s
  rests Resting h = refl
  rests Showing h = absurd (false≢true h)
  rests Leaving h = absurd (false≢true h)

  keeps : (s : Stage) (own : Bool) → thermometer_meaning.waiting (chosen_at s a r own) ≡ waiting_at s r
  keeps Resting true = refl
  keeps Resting false = refl
  keeps Showing own = refl
  keeps Leaving own = refl

  refuses : (s : Stage) (own : Bool) → is_off (wants_at s r) && own ≡ false → chosen_at s a r own ≡ at_stage a r s
  refuses Resting own h = ap (λ yes. at_stage a r (cond yes Showing Resting)) h
  refuses Showing own h = refl
  refuses Leaving own h = refl

  stays_told : (s : Stage) → (told_at s a r).address.number ≡ a.number
  stays_told Resting = refl
  stays_told Showing = refl
  stays_told Leaving = refl

  stays_chosen : (s : Stage) (own : Bool) → (chosen_at s a r own).address.number ≡ a.number
  stays_chosen Resting own = refl
  stays_chosen Showing own = refl
  stays_chosen Leaving own = refl

pub thermometer_lawful : Lawful thermometer_meaning
thermometer_lawful = record {
  shows = λ t. shows t.address t.reading t.stage;
  joins = λ t b. joins t.address t.reading t.stage b;
  rests = λ t b h. rests t.address t.reading t.stage h;
  keeps = λ t a atn h. keeps t.address t.reading t.stage (t.address.number == a);
  refuses = λ t a atn h. refuses t.address t.reading t.stage (t.address.number == a) h;
  stays_told = λ t b. stays_told t.address t.reading t.stage;
  stays_chosen = λ t a atn. stays_chosen t.address t.reading t.stage (t.address.number == a);
}
