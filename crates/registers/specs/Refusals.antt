-- The number of each refusal.
use Rattle.std.specs.Prelude.{ℕ}
use Rattle.registers.specs.declared.refusal.Refusal.{Refusal}
use Rattle.registers.specs.declared.refusal.Refusal.TheVariants.{NoRegister, ReadOnly, ChipDisabled, InterruptPending, Busy, NoByte, Dma}

abbrev pub refusal_number : Refusal → ℕ
refusal_number NoRegister = 1
refusal_number ReadOnly = 2
refusal_number ChipDisabled = 3
refusal_number InterruptPending = 4
refusal_number Busy = 5
refusal_number NoByte = 6
refusal_number Dma = 7
