use Rattle.drive.proofs.Serving.{serves, edge}
use Rattle.drive.proofs.drive.Drive.new.Goals as goal

pub returns-clause-serves : goal.returns-clause-serves
returns-clause-serves c = serves c.off.result c.off.ensures.stage_is

pub returns-clause-edge : goal.returns-clause-edge
returns-clause-edge c = edge c.args.image.now
