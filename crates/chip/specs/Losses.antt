-- What an answer tells of bytes that were lost: how many, and the phase in which they came; zero where there are none.
use Rattle.std.specs.Prelude.{ℕ, Some, None, Option}
use Rattle.bus.specs.Phases.{phase_number}
use Rattle.chip.specs.declared.chip.Loss.{Loss}

abbrev pub lost_count : Option Loss → ℕ
lost_count None = 0
lost_count (Some l) = l.count

abbrev pub lost_phase : Option Loss → ℕ
lost_phase None = 0
lost_phase (Some l) = phase_number l.phase
