-- without the right, by the verdict with it: 5 to 8 stand, and all else is 17
use mathlib.Core.Path.{sym, ◌∙◌}
use Rattle.command.proofs.Cases.{by_right}
use Rattle.command.proofs.judge.Goals as goal

pub returns-in_default-clause-number : goal.returns-in_default-clause-number
returns-in_default-clause-number c =
    let a = c.args in
    by_right a.n a.s a.c a.e _ _ c.in_default.ensures.number (sym c.may_send.ensures ∙ c.if-may_send.false)

pub returns-then-before_right-clause-number : goal.returns-then-before_right-clause-number
returns-then-before_right-clause-number c =
    let a = c.args in
    let r = by_right a.n a.s a.c a.e _ _ c.in-Err.ensures.number (sym c.may_send.ensures ∙ c.if-may_send.false) in
    rw (sym c.before_right.ensures ∙ c.if-before_right.true) at r

pub returns-clause-number : goal.returns-clause-number
returns-clause-number c =
    let a = c.args in
    let r = by_right a.n a.s a.c a.e _ _ c.in-Err.ensures.number (sym c.may_send.ensures ∙ c.if-may_send.false) in
    rw (sym c.before_right.ensures ∙ c.if-before_right.false) at r
