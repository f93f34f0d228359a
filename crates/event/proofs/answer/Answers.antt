use mathlib.Core.Path.{◌≡◌, refl, sym, ◌∙◌}
use Rattle.machine.specs.Events.{sent, is_known, entitled, number}
use Rattle.machine.proofs.Taken.{as_listed}
use Rattle.plant.proofs.Laws.{eight_crossings}
use Rattle.event.proofs.Steps.{judged, refused_by}
use Rattle.event.proofs.answer.Goals as goal

pub take-requires : goal.take-requires
unfolding is_known entitled
take-requires c =
    let a = c.args in
    let x = sent a.sender a.e in
    let n : 0 ≡ number a.p x = judged a.p x _ _ (eight_crossings a.p _ c.well_formed.0) c.requires.0 c.requires.1 refl (rw c.from-k.ensures at c.in_ok-t.ensures.number) in
    rw c.in_ok-t.ensures.event (as_listed a.p x (sym n)).0

pub returns : goal.returns
unfolding is_known entitled
returns c =
    let a = c.args in
    let x = sent a.sender a.e in
    let n : 0 ≡ number a.p x = judged a.p x _ _ (eight_crossings a.p _ c.well_formed.0) c.requires.0 c.requires.1 refl (rw c.from-k.ensures at c.in_ok-t.ensures.number) in
    c.take.ensures ∙ rw c.in_ok-t.ensures.event (sym (as_listed a.p x (sym n)).1)

pub returns-in_err-t : goal.returns-in_err-t
unfolding is_known entitled
returns-in_err-t c =
    let a = c.args in
    let x = sent a.sender a.e in
    let n = judged a.p x _ _ (eight_crossings a.p _ c.well_formed.0) c.requires.0 c.requires.1 refl (rw c.from-k.ensures at c.in_err-t.ensures.number) in
    refused_by a.p x _ _ c.from_residual.ensures.1 n
