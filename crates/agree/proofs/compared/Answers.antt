use mathlib.Core.Path.{sym, ◌∙◌}
use native.Mathlib.Omega.{arith}
use borrow.Author.Rules.{rules}
use Rattle.agree.proofs.Parts.{part_comes, none_left}
use Rattle.agree.proofs.Turns.{all_left, alone_here, alone_there, differ, go_on, end_together}
use Rattle.agree.proofs.compared.Goals as goal

pub loop-x-init : goal.loop-x-init
loop-x-init c = rw (c.into_iter-x-iterator.ensures.into_iter_gives, c.split-x-items.ensures.rest, c.split-x-items.ensures.done, c.split-cabin.ensures.rest, c.split-cabin.ensures.done) (all_left c.args.a.now c.args.b.now)

pub overflow_add-k : goal.overflow_add-k
overflow_add-k c =
    let x = part_comes _ c.loop-x.x-iterator c.next.new.self c.in-Some.x (λ x b q k. search rules) c.in-Some.ensures.steps in
    let d = rw x at c.loop-x.invariant in
    record { fits = omega (arith, d.few) }

pub loop-x-preserved : goal.loop-x-preserved
loop-x-preserved c =
    let x = part_comes _ c.loop-x.x-iterator c.next.new.self c.in-Some.x (λ x b q k. search rules) c.in-Some.ensures.steps in
    let y = part_comes _ c.loop-x.cabin c.next-in-loop-x.new.self c.in-Some-next.y (λ x b q k. search rules) c.in-Some-next.ensures.steps in
    go_on _ _ _ _ _ _ _ (rw (x, y) at c.loop-x.invariant) (sym c.alike.ensures ∙ c.if-alike.true)

pub returns-in_default : goal.returns-in_default
returns-in_default c =
    let x = part_comes _ c.loop-x.x-iterator c.next.new.self c.in-Some.x (λ x b q k. search rules) c.in-Some.ensures.steps in
    let y = part_comes _ c.loop-x.cabin c.next-in-loop-x.new.self c.in-Some-next.y (λ x b q k. search rules) c.in-Some-next.ensures.steps in
    differ _ _ _ _ _ _ _ (rw (x, y) at c.loop-x.invariant) (sym c.alike.ensures ∙ c.if-alike.false)

pub returns-in_default-2 : goal.returns-in_default-2
returns-in_default-2 c =
    let x = part_comes _ c.loop-x.x-iterator c.next.new.self c.in-Some.x (λ x b q k. search rules) c.in-Some.ensures.steps in
    let y = none_left c.loop-x.cabin (rw c.in_default.is at c.next-in-loop-x.ensures.steps).0 in
    alone_here _ _ _ _ _ (rw (x, y) at c.loop-x.invariant)

pub returns : goal.returns
returns c =
    let x = none_left c.loop-x.x-iterator c.in-None.ensures.steps.0 in
    let y = part_comes _ c.loop-x.cabin c.next-2.new.self c.in_ok-next.field-0 (λ x b q k. search rules) c.in_ok-next.ensures.steps in
    alone_there _ _ _ _ _ (rw (x, y) at c.loop-x.invariant)

pub returns-in_err-next : goal.returns-in_err-next
returns-in_err-next c =
    let x = none_left c.loop-x.x-iterator c.in-None.ensures.steps.0 in
    let y = none_left c.loop-x.cabin c.in_err-next.ensures.steps.0 in
    c.from_residual.ensures ∙ end_together _ _ _ (rw (x, y) at c.loop-x.invariant)
