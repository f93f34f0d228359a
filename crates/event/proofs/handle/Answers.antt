use mathlib.Core.Path.{◌≡◌, sym, ◌∙◌}
use mathlib.Core.Bool.{false}
use borrow.Author.Tests.{not-true, not-false}
use Rattle.machine.specs.Range.{in_range}
use Rattle.machine.specs.Rights.{known_sender}
use Rattle.machine.specs.Events.{sent, is_known}
use Rattle.event.proofs.Steps.{number_spoilt, number_unknown, refused_by}
use Rattle.event.proofs.handle.Goals as goal

pub returns-in_err-refuse_if : goal.returns-in_err-refuse_if
returns-in_err-refuse_if c =
    let a = c.args in
    let x = sent a.sender a.e in
    let g = c.in_err-refuse_if.ensures.refused in
    let q : in_range a.p ≡ false = sym c.in_range.ensures ∙ not-true _ g.0 in
    refused_by a.p x _ _ (rw g.1 at c.from_residual.ensures.1) (sym (number_spoilt a.p x q))

pub returns-in_err-refuse_if-2 : goal.returns-in_err-refuse_if-2
unfolding is_known
returns-in_err-refuse_if-2 c =
    let a = c.args in
    let x = sent a.sender a.e in
    let g = c.in_err-refuse_if-2.ensures.refused in
    let r = sym c.in_range.ensures ∙ not-false _ c.in_ok-refuse_if.ensures.passed in
    let q : known_sender a.sender ≡ false = sym c.known.ensures ∙ not-true _ g.0 in
    refused_by a.p x _ _ (rw g.1 at c.from_residual-in_err-refuse_if-2.ensures.1) (sym (number_unknown a.p x r q))
