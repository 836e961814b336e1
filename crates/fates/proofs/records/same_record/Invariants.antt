use Rattle.std.proofs.Common.{◌≡◌}
use Rattle.fates.specs.Trials.{record_in, bytes_left, same}
use Rattle.fates.proofs.records.same_record.Given as goal

-- the records are equal so far, and what is left of them decides
abbrev pub invariant-loop-byte : goal.invariant-loop-byte
invariant-loop-byte l =
    same (bytes_left l.«record») (bytes_left l.other)
    ≡ same (record_in l.calls l.answers) (record_in l.other_calls l.other_answers)
