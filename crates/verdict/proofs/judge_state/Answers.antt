use Rattle.verdict.specs.Cases.{state_refusal}
use Rattle.verdict.proofs.Table.{no_state}
use Rattle.verdict.proofs.judge_state.Goals as goal
use Rattle.refusal.proofs.Numbers.{by_refusal}

pub returns-in-Route : goal.returns-in-Route
unfolding state_refusal
returns-in-Route g c =
    let r = by_refusal _ _ _ c.refuse_if.ensures.passed c.refuse_if.ensures.refused in
    rw c.in-Route.is (rw (c.dependent.ensures, c.from-t.ensures) at r)

pub returns-in-Passage : goal.returns-in-Passage
unfolding state_refusal
returns-in-Passage g c =
    let r = by_refusal _ _ _ c.refuse_if-in-Passage.ensures.passed c.refuse_if-in-Passage.ensures.refused in
    rw c.in-Passage.is (rw (c.trains.ensures.value, c.from-t.ensures) at r)

pub returns-in-OperatorHold : goal.returns-in-OperatorHold
unfolding state_refusal
returns-in-OperatorHold g c =
    let r = by_refusal _ _ _ c.refuse_if-in-OperatorHold.ensures.passed c.refuse_if-in-OperatorHold.ensures.refused in
    rw c.in-OperatorHold.is (rw c.held_by_train.ensures at r)

pub returns-in-TimeRelease : goal.returns-in-TimeRelease
unfolding state_refusal
returns-in-TimeRelease g c =
    let r = by_refusal _ _ _ c.refuse_if-in-TimeRelease.ensures.passed c.refuse_if-in-TimeRelease.ensures.refused in
    rw c.in-TimeRelease.is (rw c.blocked.ensures at r)

pub returns-in_default : goal.returns-in_default
returns-in_default g c = no_state _ _ _ c.args.e c.in_default.not-Route c.in_default.not-Passage c.in_default.not-OperatorHold c.in_default.not-TimeRelease
