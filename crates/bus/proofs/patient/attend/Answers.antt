use Rattle.bus.proofs.Courses.{taken_or_waiting}
use Rattle.bus.proofs.patient.attend.Goals as goal

pub returns : goal.returns
returns g c = record {
  value = c.deal.ensures.value;
  after = c.deal.ensures.after;
  kept = taken_or_waiting g.S.Station.meaning g.S.Station.lawful c.args.station.now;
}
