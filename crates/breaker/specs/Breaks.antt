-- What a breaker does to the bytes of the station below it: nothing, but that it breaks after each so many.
use Rattle.std.specs.Prelude.{◌≡◌, ℕ, ◌+◌, ◌*◌, ◌<◌, ◌≤◌, Bool, true, false, cond, List, length}
use Rattle.bus.specs.Meaning.{Meaning}
use Rattle.bus.specs.Courses.{Course}
use Rattle.bus.specs.Courses.Course.{begun, told, chosen}
use Rattle.breaker.specs.declared.Stage.{Stage}
use Rattle.breaker.specs.declared.Stage.TheVariants.{Through, Saving, Disconnecting, Leaving, Returning, Identifying}
use Rattle.breaker.specs.declared.Breaker.{Breaker}
use Rattle.breaker.specs.Breakers.{is_through, standing, breaker_meaning}

-- a Told at this stage ends a break
abbrev pub ends_break : Stage → Bool
ends_break Through = false
ends_break Saving = false
ends_break Disconnecting = false
ends_break Leaving = false
ends_break Returning = false
ends_break Identifying = true

module _ {S : Type 0} (m : Meaning S) where
  -- how many breaks were over in a course
  abbrev pub breaks_in : (new : Breaker S) (taken up : List ℕ) (s : Breaker S) → Course (breaker_meaning m) new taken up s → ℕ
  breaks_in new taken up s begun = 0
  breaks_in new taken up s (told before joining t c b) = cond (ends_break (standing m t)) 1 0 + breaks_in new before joining t c
  breaks_in new taken up s (chosen before joining t c a atn) = breaks_in new before joining t c

  -- Whatever calls come: a course of the breaker is one of the station below, in which the same bytes are taken and the
  -- same bytes join.
  abbrev pub ChangesNothing : Breaker S → Type 0
  ChangesNothing new =
      (taken up : List ℕ) (s : Breaker S) → Course (breaker_meaning m) new taken up s → Course m new.below taken up s.below

  -- Between two breaks exactly so many bytes are taken: those of the breaks that are over, and those since. There are
  -- never more since, and during a break there are just so many.
  pub record Spaced (new : Breaker S) (taken up : List ℕ) (s : Breaker S) (c : Course (breaker_meaning m) new taken up s) : Type 0 where
    pub all : length taken ≡ breaks_in new taken up s c * new.progress.after + s.progress.passed
    pub few : s.progress.passed ≤ new.progress.after
    pub full : is_through (standing m s) ≡ false → s.progress.passed ≡ new.progress.after

  -- after zero bytes is never
  pub record Breaks (new : Breaker S) : Type 0 where
    pub spaced : 0 < new.progress.after → (taken up : List ℕ) (s : Breaker S) (c : Course (breaker_meaning m) new taken up s) → Spaced new taken up s c
    pub never : new.progress.after ≡ 0 → (taken up : List ℕ) (s : Breaker S) → Course (breaker_meaning m) new taken up s → is_through (standing m s) ≡ true
