use Rattle.std.proofs.Common.{rules}
use Rattle.script.proofs.Playing.{puts_up}
use Rattle.script.proofs.script.Script.new.Goals as goal

pub returns-clause-law : goal.returns-clause-law
returns-clause-law c = puts_up c.args.rows.now c.args.address c.resume.result (search rules)
