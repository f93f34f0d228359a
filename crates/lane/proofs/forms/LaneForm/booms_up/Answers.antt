use mathlib.Core.Path.{sym, ◌∙◌}
use Rattle.lane.proofs.Words.{booms_in_words, up_in_words}
use Rattle.lane.proofs.forms.LaneForm.booms_up.Goals as goal

pub returns-then-lights_only : goal.returns-then-lights_only
returns-then-lights_only c =
    let a = c.args in sym (sym (booms_in_words a.kind a.self) ∙ up_in_words a.kind a.self.booms ∙ rw (sym c.lights_only.ensures ∙ c.if-lights_only.true))

pub returns-then-four_booms : goal.returns-then-four_booms
returns-then-four_booms c =
    let a = c.args in sym (sym (booms_in_words a.kind a.self) ∙ up_in_words a.kind a.self.booms ∙ rw (sym c.lights_only.ensures ∙ c.if-lights_only.false, sym c.four_booms.ensures ∙ c.if-four_booms.true))

pub returns : goal.returns
returns c =
    let a = c.args in sym (sym (booms_in_words a.kind a.self) ∙ up_in_words a.kind a.self.booms ∙ rw (sym c.lights_only.ensures ∙ c.if-lights_only.false, sym c.four_booms.ensures ∙ c.if-four_booms.false))
