use mathlib.Core.Path.{sym, ap, ◌∙◌}
use native.Mathlib.Omega.{arith}
use borrow.Author.Tests.{ltb-true, ltb-false}
use Rattle.agree.specs.Keyed.{agreement_of}
use Rattle.std.specs.Prelude.{Ok}
use Rattle.agree.proofs.Same.{compared_keys}
use Rattle.agree.proofs.Calls.{hut_refused, cabin_refused, hut_long, cabin_long, answer_compared}
use Rattle.agree.proofs.agree.Goals as goal

pub returns-in_err-hut : goal.returns-in_err-hut
returns-in_err-hut c = hut_refused c.args.hut.now c.args.cabin.now _ _ c.from_residual.ensures.1 c.in_err-hut.ensures.number

pub returns-in_err-cabin : goal.returns-in_err-cabin
returns-in_err-cabin c = cabin_refused c.args.hut.now c.args.cabin.now _ _ c.from_residual-in_err-cabin.ensures.1 (sym c.in_ok-hut.ensures.number) c.in_err-cabin.ensures.number

pub returns-in_err-refuse_if : goal.returns-in_err-refuse_if
returns-in_err-refuse_if c =
    let e = c.in_err-refuse_if.ensures.refused in
    let h = c.in_ok-hut.ensures.whole.1 in
    hut_long c.args.hut.now c.args.cabin.now (sym c.in_ok-hut.ensures.number) (sym c.in_ok-cabin.ensures.number) _ (rw e.1 at c.from_residual-in_err-refuse_if.ensures.1) (omega (arith, h, ltb-true _ _ e.0))

pub returns-in_err-refuse_if-2 : goal.returns-in_err-refuse_if-2
returns-in_err-refuse_if-2 c =
    let e = c.in_err-refuse_if-2.ensures.refused in
    let h = c.in_ok-hut.ensures.whole.1 in
    let k = c.in_ok-cabin.ensures.whole.1 in
    cabin_long c.args.hut.now c.args.cabin.now (sym c.in_ok-hut.ensures.number) (sym c.in_ok-cabin.ensures.number) _ (rw e.1 at c.from_residual-in_err-refuse_if-2.ensures.1)
    (omega (arith, h, ltb-false _ _ c.in_ok-refuse_if.ensures.passed)) (omega (arith, k, ltb-true _ _ e.0))

pub returns : goal.returns
returns c =
    let h = c.in_ok-hut.ensures.whole in
    let k = c.in_ok-cabin.ensures.whole in
    let l = ltb-false _ _ c.in_ok-refuse_if.ensures.passed in
    let m = ltb-false _ _ c.in_ok-refuse_if-2.ensures.passed in
    ap (λ r. agreement_of (Ok r)) c.compared.ensures
    ∙ compared_keys _ c.args.hut.now _ h.1.0 (omega (arith, l, c.keys-a.ensures.result_len)) (rw h.0 at c.keys-a.ensures.keyed)
    _ c.args.cabin.now _ k.1.0 (omega (arith, m, c.keys-b.ensures.result_len)) (rw k.0 at c.keys-b.ensures.keyed)
    ∙ answer_compared c.args.hut.now c.args.cabin.now (sym c.in_ok-hut.ensures.number) (sym c.in_ok-cabin.ensures.number) (omega (arith, h.1.0, l)) (omega (arith, k.1.0, m))
