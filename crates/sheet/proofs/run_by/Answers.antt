use mathlib.Core.Path.{sym, ◌∙◌, ap}
use borrow.Author.Tests.{not-true, not-false, eqb-true, eqb-false}
use Rattle.machine.specs.Panel.{panel}
use Rattle.machine.proofs.Ranges.{plant_reads}
use Rattle.refusal.proofs.Numbers.{never_0}
use Rattle.sheet.proofs.Calls.{number_spoilt, number_sheet, number_frame, number_taken, run_refused, run_taken, ran_site}
use Rattle.sheet.proofs.run_by.Goals as goal

pub returns-in_err-refuse_if : goal.returns-in_err-refuse_if
returns-in_err-refuse_if g c =
    let e = c.in_err-refuse_if.ensures.refused in
    let t = run_refused c.args.p c.args.sheet.now c.args.panel.now _ _ (rw e.1 at c.from_residual.ensures.1) (number_spoilt _ _ _ (sym c.in_range.ensures ∙ not-true _ e.0)) in
    record { answer = t.0; bytes = t.1 }

pub returns-in_err-reader : goal.returns-in_err-reader
returns-in_err-reader g c =
    let ok = sym c.in_range.ensures ∙ not-false _ c.in_ok-refuse_if.ensures.passed in
    let n = c.in_err-reader.ensures.number in
    let t = run_refused c.args.p c.args.sheet.now c.args.panel.now _ _ c.from_residual-in_err-reader.ensures.1 (number_sheet _ _ _ ok (λ z. never_0 _ (n ∙ z)) ∙ sym n) in
    record { answer = t.0; bytes = t.1 }

pub returns-in_err-refuse_if-2 : goal.returns-in_err-refuse_if-2
returns-in_err-refuse_if-2 g c =
    let ok = sym c.in_range.ensures ∙ not-false _ c.in_ok-refuse_if.ensures.passed in
    let e = c.in_err-refuse_if-2.ensures.refused in
    let t = run_refused c.args.p c.args.sheet.now c.args.panel.now _ _ (rw e.1 at c.from_residual-in_err-refuse_if-2.ensures.1) (number_frame _ _ _ ok (sym c.in_ok-reader.ensures.number) (eqb-false _ _ (not-true _ (rw c.from-n.ensures at e.0)))) in
    record { answer = t.0; bytes = t.1 }

pub fill-requires : goal.fill-requires
fill-requires g c =
    let ok = sym c.in_range.ensures ∙ not-false _ c.in_ok-refuse_if.ensures.passed in
    let n = ap (λ x. x.plant.site.n) c.play-ran.ensures ∙ ap (λ x. x.n) (ran_site c.args.p _ _) in
    (rw n (plant_reads _ ok).count, rw n (eqb-true _ _ (not-false _ (rw c.from-n.ensures at c.in_ok-refuse_if-2.ensures.passed))))

pub returns : goal.returns
returns g c =
    let ok = sym c.in_range.ensures ∙ not-false _ c.in_ok-refuse_if.ensures.passed in
    let t = run_taken c.args.p c.args.sheet.now c.args.panel.now (number_taken _ _ _ ok (sym c.in_ok-reader.ensures.number) (eqb-true _ _ (not-false _ (rw c.from-n.ensures at c.in_ok-refuse_if-2.ensures.passed)))) in
    let h = c.in_ok-reader.ensures.whole in
    let r = rw (h.0, h.1.0) at c.play-ran.ensures in
    record { answer = r ∙ t.0; bytes = c.fill.ensures ∙ ap (λ x. panel x.plant) r ∙ t.1 }
