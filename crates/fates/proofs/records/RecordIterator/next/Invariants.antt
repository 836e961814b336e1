use Rattle.std.proofs.Common.{◌≡◌, length}
use Rattle.fates.specs.Trials.{bytes_left}
use Rattle.fates.proofs.records.RecordIterator.next.Given as goal

-- nothing was read on the way
abbrev pub invariant-loop-self : goal.invariant-loop-self
invariant-loop-self l = bytes_left l.fn.self ≡ bytes_left l.self

abbrev pub decreases-loop-self : goal.decreases-loop-self
decreases-loop-self l = length l.self.calls.now
