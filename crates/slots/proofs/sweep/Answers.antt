use Prim.Native.Nat.{◌<◌}
use native.Mathlib.Omega.{arith}
use native.Mathlib.Numerals.{add-one}
use mathlib.Core.Path.{◌≡◌}
use lib.ListN.{length}
use Rattle.slots.proofs.Sweeps.{swept_quiet, swept_due}
use borrow.Author.Rules.{rules}
use Rattle.slots.proofs.sweep.Goals as goal

pub loop-i-preserved-then-now-z : goal.loop-i-preserved-then-now-z
loop-i-preserved-then-now-z c =
    let m = c.loop-i in
    let e = c.min-least.ensures in
    rw (add-one m.i) (swept_quiet _ _ _ _ m.i _ _ m.invariant c.if-now-z.true _ (omega (arith, e)) (omega (arith, e)))

pub loop-i-preserved : goal.loop-i-preserved
loop-i-preserved c =
    let m = c.loop-i in
    let eight : length c.args.slots ≡ 8 = search (c.well_formed, rules) in
    let few : m.i < length c.args.slots = omega (arith, c.loop-i-test.true, eight) in
    let t = c.tick-w.ensures in
    let e = c.min-least-in-loop-i.ensures in
    rw (add-one m.i) (swept_due _ _ _ _ m.i _ _ m.invariant c.if-now-z.false few _ t.slot_value _ t.written_value t.written_bound _ (omega (arith, e)) (omega (arith, e)))
