-- The two longest names, which the search does not compare to their end.
use Rattle.std.proofs.Common.{sym, ap}
use Rattle.bus.specs.Phases.{phase_name}
use Rattle.bus.proofs.phase.Phase.name.Goals as goal

pub returns-in-UnspecifiedOut : goal.returns-in-UnspecifiedOut
returns-in-UnspecifiedOut c = ap phase_name (sym c.in-UnspecifiedOut.is)

pub returns-in-UnspecifiedIn : goal.returns-in-UnspecifiedIn
returns-in-UnspecifiedIn c = ap phase_name (sym c.in-UnspecifiedIn.is)
