use mathlib.Core.Path.{◌≡◌}
use mathlib.Core.List.{◌++◌}
use Prim.Native.Nat.{◌≤◌, ◌*◌, ◌+◌}
use lib.ListN.{take, drop}
use Rattle.account.specs.Runs.{walked, answered, lost_in}
use Rattle.scsi_string.specs.Strings.{values}
use Rattle.scsi_string.proofs.ScsiString.run_steps.Given as goal

-- what is left to do from here leads to what the whole list leads to from the start
abbrev pub invariant-loop-i : goal.invariant-loop-i
invariant-loop-i g l =
    let m = g.S.Station.meaning in
    let rest = drop l.i l.calls in
    (l.lost ≤ 255 * l.i)
    × (walked m rest (values l.self) ≡ walked m l.calls (values l.initial.self))
    × (take l.i l.answers ++ answered m rest (values l.self) ≡ answered m l.calls (values l.initial.self))
    × (drop l.i l.answers ≡ drop l.i l.initial.answers)
    × (l.lost + lost_in (answered m rest (values l.self)) ≡ lost_in (answered m l.calls (values l.initial.self)))
