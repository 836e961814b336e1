use Rattle.account.proofs.Accounting.{makes}
use Rattle.scsi_string.proofs.ScsiString.make.Goals as goal

pub returns : goal.returns
returns g c = makes g.S.Station.meaning g.S.Station.lawful _ _ _ _ c.step.ensures.answer c.step.ensures.after
