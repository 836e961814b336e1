use Rattle.std.proofs.Common.{◌≡◌, ◌+◌, ◌≤◌, length}
use Rattle.script.specs.Scripts.{waiting_at}
use Rattle.script.proofs.Counting.{still}
use Rattle.script.proofs.script.Script.bytes_left.Given as goal

-- the bytes counted, and those from here on, are those from the start on
abbrev pub invariant-loop-place : goal.invariant-loop-place
invariant-loop-place l =
    (l.count + still (length l.self.rows.now) l.place ≤ length l.self.rows.now + 2)
    × (l.count + length (waiting_at l.self.rows.now l.place) ≡ length (waiting_at l.self.rows.now l.self.place))

abbrev pub decreases-loop-place : goal.decreases-loop-place
decreases-loop-place l = still (length l.self.rows.now) l.place
