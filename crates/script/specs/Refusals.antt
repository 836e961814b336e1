-- The number of each refusal of a record.
use Rattle.std.specs.Prelude.{ℕ}
use Rattle.script.specs.declared.refusal.RecordRefusal.{RecordRefusal}
use Rattle.script.specs.declared.refusal.RecordRefusal.TheVariants.{Kind, Phase, Parity}

abbrev pub record_refusal : RecordRefusal → ℕ
record_refusal Kind = 10
record_refusal Phase = 11
record_refusal Parity = 12
