use Rattle.std.proofs.Common.{append_assoc}
use Rattle.client.proofs.Chaining.{opened, then_call, then_run, retold}
use Rattle.client.proofs.survey.Goals as goal

-- the account is opened, and each call goes on with it
pub returns : goal.returns
returns g c =
    let m = g.S.Station.meaning in
    let s = c.args.station in
    let opening = opened m s c.new-string.ensures.opens in
    let destined = then_call m s opening c.write-destined.ensures.account in
    let limited = then_call m s destined c.write-limited.ensures.account in
    let refused = then_call m s limited c.write-refused.ensures.account in
    let selected = then_call m s refused c.select-selected.ensures in
    let arbitrated = then_call m s selected c.turn-arbitrated.ensures.account in
    let ticked = then_call m s arbitrated c.tick-ticked.ensures.account in
    let chosen = then_call m s ticked c.turn-chosen.ensures.account in
    let interrupted = then_call m s chosen c.read-interrupt.ensures.account in
    let ran = then_run m s _ _ c.args.calls.now _ _ _ _ c.run-ran.result interrupted c.run-ran.ensures.says c.run-ran.ensures.fates in
    let written = then_call m s ran c.dma_write-written.ensures.account in
    let taken = then_call m s written c.dma_read-taken.ensures.account in
    let status = then_call m s taken c.read-status.ensures.account in
    let reset = then_call m s status c.reset-reset.ensures.account in
    let cleared = then_call m s reset c.read-cleared.ensures.account in
    retold m s (simp append_assoc) (simp append_assoc) cleared
