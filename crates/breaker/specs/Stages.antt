-- The stages of a break, by their numbers.
use Rattle.std.specs.Prelude.{◌≡◌, ℕ, ◌<◌, cond, Some, None, Option, Result, MatchResult, ◌==◌}
use Rattle.breaker.specs.declared.NoSuchStage.{NoSuchStage}
use Rattle.breaker.specs.declared.Stage.{Stage}
use Rattle.breaker.specs.declared.Stage.TheVariants.{Through, Saving, Disconnecting, Leaving, Returning, Identifying}

abbrev pub stage_number : Stage → ℕ
stage_number Through = 0
stage_number Saving = 1
stage_number Disconnecting = 2
stage_number Leaving = 3
stage_number Returning = 4
stage_number Identifying = 5

-- the stage of a number, if it has one
abbrev pub stage_numbered : ℕ → Option Stage
stage_numbered n =
    cond (n == 0) (Some Through) (cond (n == 1) (Some Saving) (cond (n == 2) (Some Disconnecting)
    (cond (n == 3) (Some Leaving) (cond (n == 4) (Some Returning) (cond (n == 5) (Some Identifying) None)))))

-- the number of a stage, which leads back to it
abbrev pub StageNumber : Stage → ℕ → Type 0
StageNumber s n = (n ≡ stage_number s) × (stage_numbered n ≡ Some s)

-- what a number names: the stage that has it, or none, and then the number is handed back
abbrev pub StageOf : ℕ → Result Stage NoSuchStage → Type 0
StageOf n r = MatchResult r (λ s. (stage_numbered n ≡ Some s) × (stage_number s ≡ n)) (λ e. (e.0 ≡ n) × ((stage_numbered n ≡ None) × (5 < n)))
