-- The number of each refusal of a chain, and the record that it names.
use Rattle.std.specs.Prelude.{ℕ}
use Rattle.chain.specs.declared.refusal.ChainRefusal.{ChainRefusal}
use Rattle.chain.specs.declared.refusal.ChainRefusal.TheVariants.{WrongNext}

abbrev pub chain_refusal : ChainRefusal → ℕ
chain_refusal (WrongNext n) = 13

abbrev pub refused_record : ChainRefusal → ℕ
refused_record (WrongNext n) = n
