use mathlib.Core.Path.{◌∙◌}
use Rattle.panel.proofs.Rows.{view_whole}
use Rattle.panel.proofs.fill.Goals as goal

pub returns : goal.returns
returns c = c.show.ensures ∙ view_whole _
