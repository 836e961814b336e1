use Rattle.account.proofs.Account.{every_fate}
use Rattle.account.proofs.Accounting.{opens}
use Rattle.account.proofs.Keeping.{laws}
use Rattle.scsi_string.proofs.ScsiString.new.Goals as goal

pub returns : goal.returns
returns g c = record {
  value = c.fresh.ensures;
  laws = laws g.S.Station.meaning;
  opens = opens g.S.Station.meaning g.S.Station.lawful _ _ _ c.fresh.ensures;
  fates = every_fate g.S.Station.meaning g.S.Station.lawful;
}
