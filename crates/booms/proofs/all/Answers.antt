use mathlib.Core.Path.{◌∙◌}
use lib.Dec.{eqb}
use lib.ListN.{get_or}
use Rattle.booms.proofs.Laws.{sides}
use Rattle.booms.proofs.all.Goals as goal

pub returns : goal.returns
returns c = let a = c.args in c.each.ensures ∙ sides a.kind (λ b. eqb (get_or a.booms b 0) a.report)
