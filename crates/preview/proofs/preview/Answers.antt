use mathlib.Core.Path.{◌≡◌, sym, ◌∙◌, ap}
use mathlib.Core.Bool.{true, false}
use borrow.Author.Tests.{not-true, not-false, eqb-true, eqb-false}
use Rattle.machine.specs.Range.{in_range}
use Rattle.machine.specs.Rights.{known_sender}
use Rattle.machine.proofs.Ranges.{plant_reads}
use Rattle.machine.proofs.Taken.{step_site}
use Rattle.machine.proofs.Foretold.{spoilt_preview, unknown_preview, wrong_frame}
use Rattle.preview.proofs.Cases.{passed_on, by_taken, by_refused}
use Rattle.preview.proofs.preview.Goals as goal

pub returns-in_err-refuse_if : goal.returns-in_err-refuse_if
returns-in_err-refuse_if c =
    let a = c.args in
    let g = c.in_err-refuse_if.ensures.refused in
    let r : in_range a.p ≡ false = sym c.in_range.ensures ∙ not-true _ g.0 in
    let h = passed_on a.p a.sender a.e a.out.now _ _ (rw g.1 at c.from_residual.ensures.1) (spoilt_preview a.p a.sender a.e a.out.now r) in
    record { number = h.0; written = h.1.0; bytes = h.1.1 }

pub returns-in_err-refuse_if-2 : goal.returns-in_err-refuse_if-2
returns-in_err-refuse_if-2 c =
    let a = c.args in
    let g = c.in_err-refuse_if-2.ensures.refused in
    let r : in_range a.p ≡ true = sym c.in_range.ensures ∙ not-false _ c.in_ok-refuse_if.ensures.passed in
    let s : known_sender a.sender ≡ false = sym c.known.ensures ∙ not-true _ g.0 in
    let h = passed_on a.p a.sender a.e a.out.now _ _ (rw g.1 at c.from_residual-in_err-refuse_if-2.ensures.1) (unknown_preview a.p a.sender a.e a.out.now r s) in
    record { number = h.0; written = h.1.0; bytes = h.1.1 }

pub returns-in_err-refuse_if-3 : goal.returns-in_err-refuse_if-3
returns-in_err-refuse_if-3 c =
    let a = c.args in
    let g = c.in_err-refuse_if-3.ensures.refused in
    let r : in_range a.p ≡ true = sym c.in_range.ensures ∙ not-false _ c.in_ok-refuse_if.ensures.passed in
    let s : known_sender a.sender ≡ true = sym c.known.ensures ∙ not-false _ c.in_ok-refuse_if-2.ensures.passed in
    let h = passed_on a.p a.sender a.e a.out.now _ _ (rw g.1 at c.from_residual-in_err-refuse_if-3.ensures.1) (wrong_frame a.p a.sender a.e a.out.now r s (eqb-false _ _ (rw c.from-n.ensures at (not-true _ g.0)))) in
    record { number = h.0; written = h.1.0; bytes = h.1.1 }

pub returns-in_err-t : goal.returns-in_err-t
returns-in_err-t c =
    let a = c.args in
    let f = eqb-true _ _ (rw c.from-n.ensures at (not-false _ c.in_ok-refuse_if-3.ensures.passed)) in
    let h = passed_on a.p a.sender a.e a.out.now _ _ c.from_residual-in_err-t.ensures.1 (by_refused a.p a.sender a.e a.out.now f _ c.in_err-t.ensures) in
    record { number = h.0; written = h.1.0; bytes = h.1.1 }

pub show-requires : goal.show-requires
show-requires c =
    let r : in_range c.args.p ≡ true = sym c.in_range.ensures ∙ not-false _ c.in_ok-refuse_if.ensures.passed in
    let n = ap (λ x. x.plant.site.n) c.in_ok-t.ensures ∙ ap (λ x. x.n) (step_site _ _) in
    let f = eqb-true _ _ (rw c.from-n.ensures at (not-false _ c.in_ok-refuse_if-3.ensures.passed)) in
    (rw n (plant_reads _ r).count, rw n f)

pub returns : goal.returns
returns c =
    let a = c.args in
    let f = eqb-true _ _ (rw c.from-n.ensures at (not-false _ c.in_ok-refuse_if-3.ensures.passed)) in
    let h = by_taken a.p a.sender a.e a.out.now f _ c.in_ok-t.ensures in
    record { number = h.0; written = h.1.0; bytes = c.show.ensures ∙ h.1.1 }
