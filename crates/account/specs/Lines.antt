-- A string by its values: the chip without its proofs, and the station.
use Rattle.chip.specs.Views.{View}

pub record Line (S : Type 0) : Type 0 where
  pub chip : View
  pub station : S

abbrev pub line : {S : Type 0} → View → S → Line S
line v s = record { chip = v; station = s }
