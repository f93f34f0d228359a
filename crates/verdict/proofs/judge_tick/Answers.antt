use mathlib.Core.Path.{◌∙◌}
use Rattle.refusal.proofs.Numbers.{passed_on}
use Rattle.verdict.specs.Cases.{tick_refusal}
use Rattle.verdict.proofs.judge_tick.Goals as goal

pub returns-in_err-refuse_if-clause-number : goal.returns-in_err-refuse_if-clause-number
unfolding tick_refusal
returns-in_err-refuse_if-clause-number c =
    let g = c.in_err-refuse_if.ensures.refused in
    rw g.1 at (passed_on _ _ c.from_residual.ensures.1) ∙ rw g.0

pub returns-in_err-refuse_if-2-clause-number : goal.returns-in_err-refuse_if-2-clause-number
unfolding tick_refusal
returns-in_err-refuse_if-2-clause-number c =
    let g = c.in_err-refuse_if-2.ensures.refused in
    rw g.1 at (passed_on _ _ c.from_residual-in_err-refuse_if-2.ensures.1) ∙ rw (c.in_ok-refuse_if.ensures.passed, g.0)

pub returns-in_err-refuse_if-3-clause-number : goal.returns-in_err-refuse_if-3-clause-number
unfolding tick_refusal
returns-in_err-refuse_if-3-clause-number c =
    let g = c.in_err-refuse_if-3.ensures.refused in
    rw g.1 at (passed_on _ _ c.from_residual-in_err-refuse_if-3.ensures.1) ∙ rw (c.in_ok-refuse_if.ensures.passed, c.in_ok-refuse_if-2.ensures.passed, g.0)

pub returns-clause-number : goal.returns-clause-number
unfolding tick_refusal
returns-clause-number c = rw (c.in_ok-refuse_if.ensures.passed, c.in_ok-refuse_if-2.ensures.passed, c.in_ok-refuse_if-3.ensures.passed)
