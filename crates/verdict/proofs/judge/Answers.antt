-- each return is the row's number: judged by the row of the code, limit by limit
use mathlib.Core.Path.{◌∙◌}
use borrow.Author.Tests.{lt-ltb}
use Rattle.refusal.proofs.Numbers.{passed_on}
use Rattle.machine.specs.Events.{refusal}
use Rattle.verdict.proofs.Table.{by_action}
use Rattle.verdict.proofs.judge.Goals as goal

pub returns-in_err-action-clause-number : goal.returns-in_err-action-clause-number
unfolding refusal
returns-in_err-action-clause-number g c =
    let w = c.in_err-action.ensures in
    rw w.0 at (passed_on _ _ c.from_residual.ensures.1) ∙ rw (lt-ltb _ _ w.1)

pub returns-in_err-refuse_if-clause-number : goal.returns-in_err-refuse_if-clause-number
returns-in_err-refuse_if-clause-number g c =
    let a = c.args in
    let r = by_action a.n a.s (g.F.Form.crossing a.f) a.e _ _ c.in_ok-action.ensures c.row_of-row.ensures in
    let w = c.in_err-refuse_if.ensures.refused in
    rw w.1 at (passed_on _ _ c.from_residual-in_err-refuse_if.ensures.1) ∙ rw w.0 at r

pub returns-in_err-refuse_if-2-clause-number : goal.returns-in_err-refuse_if-2-clause-number
returns-in_err-refuse_if-2-clause-number g c =
    let a = c.args in
    let r = by_action a.n a.s (g.F.Form.crossing a.f) a.e _ _ c.in_ok-action.ensures c.row_of-row.ensures in
    let w = c.in_err-refuse_if-2.ensures.refused in
    rw w.1 at (passed_on _ _ c.from_residual-in_err-refuse_if-2.ensures.1) ∙ rw (c.in_ok-refuse_if.ensures.passed, w.0) at r

pub returns-in_err-refuse_if-3-clause-number : goal.returns-in_err-refuse_if-3-clause-number
returns-in_err-refuse_if-3-clause-number g c =
    let a = c.args in
    let r = by_action a.n a.s (g.F.Form.crossing a.f) a.e _ _ c.in_ok-action.ensures c.row_of-row.ensures in
    let w = c.in_err-refuse_if-3.ensures.refused in
    rw w.1 at (passed_on _ _ c.from_residual-in_err-refuse_if-3.ensures.1) ∙ rw (c.in_ok-refuse_if.ensures.passed, c.in_ok-refuse_if-2.ensures.passed, w.0) at r

pub returns-in_err-judge_state-clause-number : goal.returns-in_err-judge_state-clause-number
returns-in_err-judge_state-clause-number g c =
    let a = c.args in
    let r = by_action a.n a.s (g.F.Form.crossing a.f) a.e _ _ c.in_ok-action.ensures c.row_of-row.ensures in
    passed_on _ _ c.from_residual-in_err-judge_state.ensures.1 ∙ c.in_err-judge_state.ensures ∙ rw (c.in_ok-refuse_if.ensures.passed, c.in_ok-refuse_if-2.ensures.passed, c.in_ok-refuse_if-3.ensures.passed) at r

pub returns-clause-number : goal.returns-clause-number
returns-clause-number g c =
    let a = c.args in
    let r = by_action a.n a.s (g.F.Form.crossing a.f) a.e _ _ c.in_ok-action.ensures c.row_of-row.ensures in
    c.in_ok-judge_state.ensures ∙ rw (c.in_ok-refuse_if.ensures.passed, c.in_ok-refuse_if-2.ensures.passed, c.in_ok-refuse_if-3.ensures.passed) at r
