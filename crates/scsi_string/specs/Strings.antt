-- The values of a string.
use Rattle.account.specs.Lines.{Line, line}
use Rattle.chip.specs.Model.{model}
use Rattle.scsi_string.specs.declared.ScsiString.{ScsiString}

abbrev pub values : {S : Type 0} → ScsiString S → Line S
values x = line (model x.chip) x.station
