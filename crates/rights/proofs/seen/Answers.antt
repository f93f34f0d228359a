use mathlib.Core.Path.{◌≡◌, sym, ◌∙◌}
use mathlib.Core.Bool.{true, false, ◌||◌}
use lib.Dec.{eqb}
use borrow.Author.Rules.{rules}
use Rattle.machine.specs.Rights.{sees}
use Rattle.machine.specs.Senders.{detection, kiosk}
use Rattle.machine.proofs.Tools.{by_test, neither, or_left_false, tab_getD}
use Rattle.rights.proofs.Desks.{unknown_at_desk}
use Rattle.rights.proofs.seen.Goals as goal

pub returns-then-sees_all : goal.returns-then-sees_all
unfolding sees
returns-then-sees_all c =
    let k = c.args.sender in
    let all : (eqb k detection || eqb k kiosk) ≡ true = rw (← c.in-Ok.ensures) (sym c.sees_all.ensures ∙ c.if-sees_all.true) in
    by_test (eqb k detection)
    (λ q. rw q (sym (tab_getD 16 c.args.row 0 (search rules))))
    (λ q. rw (q, or_left_false _ _ q all) (sym (tab_getD 16 c.args.row 0 (search rules))))

pub returns-else-sees_all : goal.returns-else-sees_all
unfolding sees
returns-else-sees_all c =
    let k = c.args.sender in
    let desk : (eqb k detection || eqb k kiosk) ≡ false = rw (← c.in-Ok.ensures) (sym c.sees_all.ensures ∙ c.if-sees_all.false) in
    let d = neither (eqb k detection) (eqb k kiosk) desk in
    rw (d.0, d.1)

pub returns-in_default : goal.returns-in_default
unfolding sees
returns-in_default c =
    let k = c.args.sender in
    let d = neither (eqb k detection) (eqb k kiosk) (unknown_at_desk k c.in_default.ensures.1) in
    rw (d.0, d.1)
