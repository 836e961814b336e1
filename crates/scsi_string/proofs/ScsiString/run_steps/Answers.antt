use mathlib.Core.Path.{refl, ◌∙◌}
use Prim.Native.Nat.{◌<◌}
use native.Mathlib.Nat.{zero-add}
use native.Mathlib.Omega.{arith}
use lib.ListN.{length}
use Rattle.account.proofs.Running.{walked_next, answered_next, filled_next, beyond_next, lost_next, all_ran}
use Rattle.scsi_string.specs.Strings.{values}
use Rattle.scsi_string.proofs.ScsiString.run_steps.Goals as goal

pub loop-i-init : goal.loop-i-init
loop-i-init g c = (omega arith, refl, refl, refl, zero-add _)

pub loop-i-preserved : goal.loop-i-preserved
loop-i-preserved g c =
    let m = g.S.Station.meaning in
    let cs = c.args.calls.now in
    let inv = c.loop-i.invariant in
    let room : c.loop-i.i < length c.loop-i.answers = omega arith in
    let did = c.fill-lost.ensures in
    let next = answered_next m cs c.loop-i.i _ _ _ c.loop-i-test.true did.after in (
      omega arith,
      walked_next m cs _ _ _ _ c.loop-i-test.true did.after ∙ inv.1,
      filled_next _ _ _ _ did.filled _ _ _ room next inv.2,
      beyond_next c.loop-i.answers _ c.loop-i.i _ did.filled c.args.answers.now inv.3,
      lost_next _ _ _ _ _ _ did.lost next inv.4,
    )

pub returns : goal.returns
returns g c =
    let inv = c.loop-i.invariant in
    all_ran g.S.Station.meaning c.args.calls.now c.loop-i.i _ (values c.loop-i.self) _ c.loop-i.answers _ c.loop-i-test.false c.loop-i.auto.i-end c.if-answers-calls.false c.if-calls-gt-MOST_CALLS.false inv.1 inv.2 inv.3 inv.4
