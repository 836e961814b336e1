-- Breakers with the same numbers are equally far.
use Rattle.std.proofs.Common.{◌≡◌, ap}
use Rattle.breaker.specs.declared.Progress.{Progress}
use Rattle.saved.specs.Stations.{progress_numbers}
use Rattle.saved.proofs.One.{one_address}
use Rattle.saved.proofs.OneStation.{one_break}

pub one_progress : (p q : Progress) → progress_numbers p ≡ progress_numbers q → p ≡ q
one_progress p q e =
    let host = one_address p.host q.host (ap (λ s. s.host) e) in
    let stage = one_break p.stage q.stage (ap (λ s. s.stage) e) in
    (λ i. record { after = (e i).after; host = host i; passed = (e i).passed; stage = stage i })
