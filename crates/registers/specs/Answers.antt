-- The number of a direction, and answers of which the station hears nothing.
use Rattle.std.specs.Prelude.{◌≡◌, ℕ}
use Rattle.registers.specs.declared.answer.Answer.{Answer}
use Rattle.registers.specs.declared.answer.Direction.{Direction}
use Rattle.registers.specs.declared.answer.Direction.TheVariants.{In, Out}
use Rattle.registers.specs.declared.answer.Reaction.TheVariants.{Nothing}
use Rattle.registers.specs.declared.answer.Response.{Response}

abbrev pub direction_number : Direction → ℕ
direction_number In = 1
direction_number Out = 2

abbrev pub HeardByNone : Answer → Response → Type 0
HeardByNone a r = r ≡ record { reaction = Nothing; answer = a }
