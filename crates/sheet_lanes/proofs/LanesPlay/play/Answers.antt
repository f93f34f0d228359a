use mathlib.Core.Path.{refl, ◌∙◌}
use native.Mathlib.Omega.{arith}
use Rattle.machine.proofs.Ranges.{plant_reads}
use Rattle.plant.proofs.Laws.{eight_crossings}
use Rattle.refusal.proofs.Numbers.{never_0}
use Rattle.slots.proofs.Sweeps.{shown_at}
use Rattle.sheet_lanes.proofs.Limits.{small_of, fits_of}
use Rattle.sheet_lanes.proofs.Rolls.{kept_none, tick_told, kept_refused, kept_quiet, kept_swept, ready, kept_own}
use Rattle.sheet_lanes.proofs.LanesPlay.play.Goals as goal

pub begin-slots-requires : goal.begin-slots-requires
begin-slots-requires c = record { each = λ i l. small_of c.args.p c.requires.0 i l }

pub loop-k-init : goal.loop-k-init
loop-k-init c =
    let p = c.args.p in
    kept_none p _ c.requires.0 (eight_crossings p _ c.well_formed.0) _ c.begin-slots.ensures

pub loop-k-preserved-in_default : goal.loop-k-preserved-in_default
loop-k-preserved-in_default c =
    let l = c.loop-k in
    let e = c.event_at-e.ensures in
    let v = tick_told l.invariant (rw e at c.if-e-eq0.true) (rw e at c.in_default.ensures.number) in
    kept_refused l.invariant v (never_0 c.in_default.field-0)

pub overflow_add-beat : goal.overflow_add-beat
overflow_add-beat c =
    let h = (plant_reads _ c.loop-k.invariant.played.range).beat in
    omega (arith, h)

pub loop-k-preserved-then-now-least : goal.loop-k-preserved-then-now-least
loop-k-preserved-then-now-least c =
    let l = c.loop-k in
    let e = c.event_at-e.ensures in
    let v = tick_told l.invariant (rw e at c.if-e-eq0.true) (rw e at c.in-Ok.ensures.number) in
    kept_quiet l.invariant v refl (rw e at c.if-e-eq0.true) c.if-now-least.true

pub loop-k-preserved-then-e-eq0 : goal.loop-k-preserved-then-e-eq0
loop-k-preserved-then-e-eq0 c =
    let l = c.loop-k in
    let e = c.event_at-e.ensures in
    let v = tick_told l.invariant (rw e at c.if-e-eq0.true) (rw e at c.in-Ok.ensures.number) in
    kept_swept l.invariant v refl (rw e at c.if-e-eq0.true) c.sweep-w.ensures

pub loop-k-preserved-in_default-judge : goal.loop-k-preserved-in_default-judge
loop-k-preserved-in_default-judge c =
    let l = c.loop-k in
    let v = rw (c.from-j.ensures, c.event_at-e.ensures) at c.in_default-judge.ensures.number in
    kept_refused l.invariant v (never_0 c.in_default-judge.field-0)

pub apply-d-requires : goal.apply-d-requires
apply-d-requires c =
    let l = c.loop-k in
    let e = c.event_at-e.ensures in
    let v = rw (c.from-j.ensures, e) at c.in-Ok-judge.ensures.number in
    let n = l.invariant.ticks in
    (omega arith, rw (c.from-j.ensures, c.in-Ok-judge.ensures.event, e) (ready l.invariant v refl (rw e at c.if-e-eq0.false)))

pub loop-k-preserved : goal.loop-k-preserved
loop-k-preserved c =
    let l = c.loop-k in
    let e = c.event_at-e.ensures in
    let t = c.in-Ok-judge.ensures.event in
    let v = rw (c.from-j.ensures, e) at c.in-Ok-judge.ensures.number in
    let d = rw (c.from-j.ensures, t, e) at c.apply-d.ensures in
    let w = c.from-written.ensures ∙ rw (c.from-j.ensures, t, e) at c.written_off.ensures.value in
    rw (c.from-j.ensures, e) (kept_own l.invariant v refl (rw e at c.if-e-eq0.false) _ d w (omega (arith, c.min-least.ensures)) (omega (arith, c.min-least.ensures)))

pub finish-last-requires : goal.finish-last-requires
finish-last-requires c =
    let l = c.loop-k in
    let p = c.args.p in
    record { each = λ i b. rw (shown_at p.site l.now l.slots i b) at (fits_of _ l.invariant.played.range i b) }
