use Rattle.std.proofs.Common.{◌≡◌, ◌-◌, ◌<◌, ◌≤◌, length}
use Rattle.chain.specs.Chain.{chain_from, judged, verdict}
use Rattle.chain.proofs.walk.Given as goal

-- the records so far, and the chain that is left, give the verdict
abbrev pub invariant-loop-next : goal.invariant-loop-next
invariant-loop-next g l =
    let next = g.R.Linked.next in
    (0 < l.number) × (l.number ≤ length l.records) × (l.count < l.number)
    × (judged next l.count (chain_from next l.records l.number) ≡ verdict next l.records)

abbrev pub decreases-loop-next : goal.decreases-loop-next
decreases-loop-next g l = length l.records - l.number
