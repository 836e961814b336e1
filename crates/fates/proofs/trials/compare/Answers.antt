use Rattle.account.proofs.Account.{every_fate}
use Rattle.account.proofs.Records.{records_tell}
use Rattle.fates.proofs.trials.compare.Goals as goal

pub returns-clause-fates : goal.returns-clause-fates
returns-clause-fates g c = (every_fate g.P.Station.meaning g.P.Station.lawful, every_fate g.Q.Station.meaning g.Q.Station.lawful)

pub returns-clause-histories : goal.returns-clause-histories
returns-clause-histories g c = records_tell g.P.Station.meaning g.Q.Station.meaning g.P.Station.lawful g.Q.Station.lawful
