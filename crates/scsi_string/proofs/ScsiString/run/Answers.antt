use Rattle.account.proofs.Accounting.{run_goes_on}
use Rattle.scsi_string.proofs.ScsiString.run.Goals as goal

pub returns : goal.returns
returns g c = record {
  says = c.run_steps.ensures;
  fates = run_goes_on g.S.Station.meaning g.S.Station.lawful _ _ _ _ _ _ c.run_steps.ensures;
}
