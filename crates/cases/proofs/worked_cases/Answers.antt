use mathlib.Core.Path.{◌∙◌}
use mathlib.Core.List.{[], ◌∷◌}
use Rattle.cases.proofs.Working.{cases}
use Rattle.cases.proofs.worked_cases.Goals as goal

pub returns : goal.returns
returns c =
    let m = cases.made in
    let status = c.shown-status.ensures ∙ m.status in
    let id = c.shown-id.ensures ∙ m.id in
    let interrupt = c.shown-interrupt.ensures ∙ m.interrupt in
    let source = c.shown-source.ensures ∙ m.source in
    let diagnostic = c.shown-diagnostic.ensures ∙ m.diagnostic in
    record { shown = (λ i. status i ∷ id i ∷ interrupt i ∷ source i ∷ diagnostic i ∷ []); cases = cases }
