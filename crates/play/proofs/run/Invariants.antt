use Rattle.std.specs.Vec.Iter.{into_iter_len}
use Rattle.play.proofs.run.Given as goal

-- each turn takes a word at least
abbrev pub decreases-loop-word : goal.decreases-loop-word
decreases-loop-word l = into_iter_len l.words
