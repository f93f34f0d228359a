use mathlib.Core.Path.{sym, ◌∙◌}
use Rattle.stretch.proofs.Ways.{both_ways}
use Rattle.stretch.proofs.alike.Goals as goal

pub returns-then-covered : goal.returns-then-covered
returns-then-covered c = c.covered-then-covered.ensures ∙ sym (rw (sym c.covered.ensures ∙ c.if-covered.true) at (both_ways c.args.a.now c.args.b.now))

pub returns-else-covered : goal.returns-else-covered
returns-else-covered c = c.if-covered.false ∙ sym (rw (sym c.covered.ensures ∙ c.if-covered.false) at (both_ways c.args.a.now c.args.b.now))
