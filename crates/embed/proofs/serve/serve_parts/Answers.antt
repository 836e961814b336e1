use Rattle.std.proofs.Common.{rules}
use Rattle.account.specs.Lines.{line}
use Rattle.account.specs.Runs.{RunSays}
use Rattle.breaker.specs.Breakers.{breaker_meaning}
use Rattle.chip.specs.Model.{model}
use Rattle.embed.specs.declared.state.Parts.{Parts}
use Rattle.embed.proofs.Keeping.{kept_run}
use Rattle.embed.proofs.serve.serve_parts.Goals as goal

pub returns-clause-serves : goal.returns-clause-serves
returns-clause-serves g c =
    let k = g.S.Kept in
    let m = g.S.Station.meaning in
    let law = g.met.S.Kept in
    let lent = k.lent_as c.args.lent in
    let left : Parts g.row.S-Mark.Denot = record { chip = c.into_parts-station.result.0; progress = c.progress-progress.result; address = c.address.result; mark = c.mark.result } in
    let did : RunSays (breaker_meaning m) c.args.calls.now (line (model c.args.parts.chip) c.resume-station.result) c.args.answers.now (line (model left.chip) c.into_parts-station.result.1) c.run-ran.new.answers c.run-ran.result = search rules in
    kept_run m g.S.Station.lawful k.stands k.lent_to k.seen law.like k.kind_is lent (k.within lent) k.holds (law.names_one lent) (law.lasts lent)
    c.args.parts left c.args.state.now c.keep.new.state c.resumed-below.result c.into_below-below.result c.resume-station.result c.into_parts-station.result.1 c.args.calls.now c.args.answers.now c.run-ran.new.answers c.run-ran.result
    c.requires.within c.requires.numbers c.resumed-below.ensures c.resume-station.ensures.below c.resume-station.ensures.progress did
    c.progress-progress.ensures c.into_below-below.ensures c.address.ensures c.mark.ensures c.keep.ensures.numbers
