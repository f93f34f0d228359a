use mathlib.Core.Path.{sym, ap}
use Rattle.report.proofs.Cases.{site_refused, run_refused, run_taken}
use Rattle.report.proofs.report.Goals as goal

pub returns-in_err-plant : goal.returns-in_err-plant
returns-in_err-plant c =
    let t = site_refused c.args.site.now c.args.sheet.now c.args.panel.now _ _ c.from_residual.ensures.1 (ap (λ v. v.number) c.in_err-plant.ensures) in
    record { answer = t.0; bytes = t.1 }

pub returns-in_err-ran : goal.returns-in_err-ran
returns-in_err-ran c =
    let e = c.in_ok-plant.ensures in
    let k = rw c.from.ensures at c.min-room.ensures in
    let r = c.in_err-ran.ensures in
    let t = run_refused c.args.site.now c.args.sheet.now c.args.panel.now (sym (ap (λ v. v.number) e)) c.in_ok-plant.plant (ap (λ v. v.plant) e) _ k _ _ _ c.from_residual-in_err-ran.ensures.1 r.answer r.bytes in
    record { answer = t.0; bytes = t.1 }

pub returns : goal.returns
returns c =
    let e = c.in_ok-plant.ensures in
    let k = rw c.from.ensures at c.min-room.ensures in
    let r = c.in_ok-ran.ensures in
    let t = run_taken c.args.site.now c.args.sheet.now c.args.panel.now (sym (ap (λ v. v.number) e)) c.in_ok-plant.plant (ap (λ v. v.plant) e) _ k _ _ r.answer r.bytes in
    record { answer = t.0; bytes = t.1 }
