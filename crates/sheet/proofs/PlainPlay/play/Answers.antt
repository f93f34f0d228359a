use mathlib.Core.Path.{refl, sym, ap, ◌∙◌}
use borrow.Author.Tests.{ne_eqb}
use borrow.Author.Rules.{rules}
use Rattle.train.proofs.Taken.{bytes_take}
use Rattle.refusal.proofs.Numbers.{never_0}
use Rattle.plant.proofs.Laws.{eight_crossings}
use borrow.Author.Rules.{rules}
use Rattle.train.proofs.Taken.{bytes_take}
use Rattle.sheet.proofs.Runs.{played_none, played_refused, played_tick, own_room_at, played_own}
use Rattle.sheet.proofs.PlainPlay.play.Goals as goal

pub loop-k-init : goal.loop-k-init
loop-k-init c = played_none c.args.p _ c.requires.0 (eight_crossings c.args.p _ c.well_formed.0)

pub loop-k-preserved-in_default : goal.loop-k-preserved-in_default
loop-k-preserved-in_default c =
    played_refused _ _ _ _ _ _ _ c.loop-k.invariant _ c.event_at-e.ensures _ c.from-j.ensures _ c.in_default.ensures.number (never_0 c.in_default.field-0)

pub loop-k-preserved-then-t-eq0 : goal.loop-k-preserved-then-t-eq0
loop-k-preserved-then-t-eq0 c =
    let w = c.tick_all-all.ensures in
    rw w.value (played_tick _ _ _ _ _ _ _ c.loop-k.invariant _ c.event_at-e.ensures _ c.from-j.ensures _ c.in-Ok.ensures.number refl
    (ap (λ x. x.code) (sym c.in-Ok.ensures.event) ∙ c.if-t-eq0.true) (rw w.value at w.written_bound))

pub apply-d-requires : goal.apply-d-requires
apply-d-requires c =
    bytes_take (rw c.in-Ok.ensures.event (own_room_at _ _ _ _ _ _ _ c.loop-k.invariant _ c.event_at-e.ensures _ c.from-j.ensures _ c.in-Ok.ensures.number refl (rw c.in-Ok.ensures.event at (ne_eqb _ _ c.if-t-eq0.false)))) (search rules)

pub loop-k-preserved : goal.loop-k-preserved
loop-k-preserved c =
    rw (c.apply-d.ensures, c.written_off-off.ensures.value, c.in-Ok.ensures.event)
    (played_own _ _ _ _ _ _ _ c.loop-k.invariant _ c.event_at-e.ensures _ c.from-j.ensures _ c.in-Ok.ensures.number refl (rw c.in-Ok.ensures.event at (ne_eqb _ _ c.if-t-eq0.false)))
