-- The call that three numbers name.
use Rattle.std.specs.Prelude.{◌≡◌, ℕ, zero, suc, ◌<◌, Some, None, Option, Result, MatchResult}
use Rattle.registers.specs.declared.call.Call.{Call}
use Rattle.registers.specs.declared.call.Call.TheVariants.{Read, Write, DmaRead, DmaWrite, Tick, Turn, Reset}
use Rattle.registers.specs.declared.call.CallRow.{CallRow}
use Rattle.registers.specs.declared.call.NoSuchCall.{NoSuchCall}

-- by kind, address and value
abbrev pub named : ℕ → ℕ → ℕ → Option Call
named zero a x = Some (Read a)
named (suc zero) a x = Some (Write a x)
named (suc (suc zero)) a x = Some DmaRead
named (suc (suc (suc zero))) a x = Some (DmaWrite x)
named (suc (suc (suc (suc zero)))) a x = Some Tick
named (suc (suc (suc (suc (suc zero))))) a x = Some Turn
named (suc (suc (suc (suc (suc (suc zero)))))) a x = Some Reset
named (suc (suc (suc (suc (suc (suc (suc k))))))) a x = None

abbrev pub call_of : CallRow → Option Call
call_of r = named r.kind r.address r.value

-- what a row is read as: the call that it names, or none, and then its kind is handed back
abbrev pub CallOf : CallRow → Result Call NoSuchCall → Type 0
CallOf r s = MatchResult s (λ c. call_of r ≡ Some c) (λ e. (e.0 ≡ r.kind) × ((call_of r ≡ None) × (6 < r.kind)))

-- the number with which a row that names none is answered
abbrev pub no_such_call : ℕ
no_such_call = 9
