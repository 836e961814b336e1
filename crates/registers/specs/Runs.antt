-- The number with which a run is refused.
use Rattle.std.specs.Prelude.{ℕ}
use Rattle.registers.specs.declared.call.RunRefusal.{RunRefusal}
use Rattle.registers.specs.declared.call.RunRefusal.TheVariants.{NoRoom}

abbrev pub run_refusal : RunRefusal → ℕ
run_refusal NoRoom = 8
