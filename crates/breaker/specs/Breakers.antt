-- What a breaker means, over what the station below it means.
use Rattle.std.specs.Prelude.{◌≡◌, ℕ, ◌+◌, Bool, true, false, cond, ◌&&◌, bit_or, nat_le, nat_lt}
use Rattle.bus.specs.declared.address.IdByte.{IdByte}
use Rattle.bus.specs.declared.address.StationAddress.{StationAddress}
use Rattle.bus.specs.declared.parity.Parity.TheVariants.{Good}
use Rattle.bus.specs.declared.phase.Phase.TheVariants.{MessageIn}
use Rattle.bus.specs.declared.wish.Wish.{Wish}
use Rattle.bus.specs.declared.wish.Wish.TheVariants.{Back, Req, Go}
use Rattle.bus.specs.Ids.{station_bit}
use Rattle.bus.specs.Wishes.{shows_data}
use Rattle.bus.specs.Meaning.{Meaning}
use Rattle.breaker.specs.declared.Stage.{Stage}
use Rattle.breaker.specs.declared.Stage.TheVariants.{Through, Saving, Disconnecting, Leaving, Returning, Identifying}
use Rattle.breaker.specs.declared.Breaker.{Breaker}
use Rattle.breaker.specs.declared.Progress.{Progress}

-- a break that is due begins
abbrev pub begun : Bool → Stage → Stage
begun due Through = cond due Saving Through
begun due Saving = Saving
begun due Disconnecting = Disconnecting
begun due Leaving = Leaving
begun due Returning = Returning
begun due Identifying = Identifying

abbrev pub is_through : Stage → Bool
is_through Through = true
is_through Saving = false
is_through Disconnecting = false
is_through Leaving = false
is_through Returning = false
is_through Identifying = false

-- the ID byte of the station a, which reselects the host h
abbrev pub reselecting : ℕ → ℕ → IdByte
reselecting a h = record { bits = bit_or (station_bit a) (station_bit h) }

-- the wish at a stage, for the station a with the wish w below
abbrev pub stage_wish : Stage → ℕ → ℕ → Wish → Wish
stage_wish Through a h w = w
stage_wish Saving a h w = Req MessageIn 2 Good
stage_wish Disconnecting a h w = Req MessageIn 4 Good
stage_wish Leaving a h w = Go
stage_wish Returning a h w = Back (reselecting a h) Good
stage_wish Identifying a h w = Req MessageIn 128 Good

-- after a Told: a break goes on, and at its end the station below is back; without one the stage is kept
abbrev pub stage_after : Stage → Stage → Stage
stage_after Through kept = kept
stage_after Saving kept = Disconnecting
stage_after Disconnecting kept = Leaving
stage_after Leaving kept = Returning
stage_after Returning kept = Identifying
stage_after Identifying kept = Through

-- the count goes up with a Data In byte, and no further than it has to; a break starts it again
abbrev pub passed_after : Stage → Bool → ℕ → ℕ → ℕ
passed_after Through shown after passed = cond (shown && nat_lt passed after) (passed + 1) passed
passed_after Saving shown after passed = passed
passed_after Disconnecting shown after passed = passed
passed_after Leaving shown after passed = passed
passed_after Returning shown after passed = passed
passed_after Identifying shown after passed = 0

module _ {S : Type 0} (m : Meaning S) where
  -- so many bytes went through, and the station below shows one more
  abbrev pub is_due : Breaker S → Bool
  is_due s = nat_lt 0 s.progress.after && (nat_le s.progress.after s.progress.passed && shows_data (m.wants s.below))

  abbrev pub standing : Breaker S → Stage
  standing s = begun (is_due s) s.progress.stage

  -- a Told that goes through
  abbrev pub passed_on : Breaker S → ℕ → Breaker S
  passed_on s b = record {
    below = m.after_told s.below b;
    progress = record s.progress { passed = passed_after Through (shows_data (m.wants s.below)) s.progress.after s.progress.passed };
  }

  abbrev pub breaker_told : Breaker S → ℕ → Breaker S
  breaker_told s b = record {
    below = cond (is_through (standing s)) (m.after_told s.below b) s.below;
    progress = record s.progress {
      passed = passed_after (standing s) (shows_data (m.wants s.below)) s.progress.after s.progress.passed;
      stage = stage_after (standing s) s.progress.stage;
    };
  }

  abbrev pub breaker_chosen : Breaker S → ℕ → Bool → Breaker S
  breaker_chosen s a atn = record s { below = cond (is_through (standing s)) (m.after_chosen s.below a atn) s.below }

  -- During a break the station below hears nothing. Its address and its waiting list are always the breaker's.
  abbrev pub breaker_meaning : Meaning (Breaker S)
  breaker_meaning = record {
    wants = λ s. stage_wish (standing s) (m.address s.below) s.progress.host.number (m.wants s.below);
    address = λ s. m.address s.below;
    waiting = λ s. m.waiting s.below;
    after_told = breaker_told;
    after_chosen = breaker_chosen;
  }

-- how far a breaker is
abbrev pub progress_of : {S : Type 0} → Breaker S → Progress
progress_of s = s.progress

-- how far a new breaker is
abbrev pub starting : ℕ → StationAddress → Progress
starting after host = record { after = after; host = host; passed = 0; stage = Through }

-- a new breaker over a station
pub record Made {S : Type 0} (below : S) (after : ℕ) (host : StationAddress) (s : Breaker S) : Type 0 where
  pub below_is : s.below ≡ below
  pub after_is : s.progress.after ≡ after
  pub host_is : s.progress.host ≡ host
  pub passed_is : s.progress.passed ≡ 0
  pub stage_is : s.progress.stage ≡ Through
