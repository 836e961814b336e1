-- A record that is being read.
use Rattle.std.proofs.Common.{◌≡◌, ◌<◌, arith, List, [], ◌∷◌, length, refl}
use Rattle.registers.specs.declared.answer.Answer.{Answer}
use Rattle.registers.specs.declared.call.CallRow.{CallRow as Row}
use Rattle.fates.specs.Trials.{record_in}

-- a record ends with its answers too
pub without_answers : (cs : List Row) (answers : List Answer) → length answers < 1 → record_in cs answers ≡ []
without_answers [] answers h = refl
without_answers (c ∷ cs) [] h = refl
without_answers (c ∷ cs) (a ∷ answers) h = grind arith
