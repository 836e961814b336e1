use Rattle.std.proofs.Common.{arith}
use Rattle.bus.proofs.Ids.{names}
use Rattle.bus.proofs.address.IdByte.decode.Goals as goal

pub returns : goal.returns
returns c = names c.args.own.number c.args.self.bits c.args.own.within (omega arith) c.scan.result c.encode.result.bits c.scan.ensures c.encode.ensures c.map.result c.map.ensures.cases
