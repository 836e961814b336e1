use Rattle.std.proofs.Common.{arith, rules, eqb-true}
use borrow.Author.Tests.{eqb-false}
use Rattle.chip.proofs.Fronts.{take_empty}
use Rattle.chip.proofs.chip.Received.is_empty.Goals as goal

pub returns : goal.returns
returns c = record { value = search (rules, take_empty); none = λ e. eqb-true _ _ e; some = λ e. omega (arith, eqb-false _ _ e) }
