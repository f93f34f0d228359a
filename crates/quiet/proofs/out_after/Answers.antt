use native.Mathlib.Omega.{arith}
use Prim.Native.Nat.{◌+◌, ◌≤◌, ◌<◌}
use borrow.Author.Tests.{le-ltb, lt-ltb}
use Rattle.quiet.specs.Passing.{out_after}
use Rattle.quiet.proofs.out_after.Goals as goal

pub returns-then-normal : goal.returns-then-normal
unfolding out_after
returns-then-normal c =
    simp c.if-normal.true

pub returns-then-k-saturating_sub : goal.returns-then-k-saturating_sub
unfolding out_after
returns-then-k-saturating_sub c =
    let a = c.args in
    let w = c.saturating_sub.ensures in
    let t = c.if-k-saturating_sub.true in
    let h : a.out + a.k < 1080 = omega (arith, w, t) in
    simp (lt-ltb _ _ h, c.if-normal.false)

pub returns : goal.returns
unfolding out_after
returns c =
    let a = c.args in
    let w = c.saturating_sub.ensures in
    let t = c.if-k-saturating_sub.false in
    let h : 1080 ≤ a.out + a.k = omega (arith, w, t) in
    simp (le-ltb _ _ h, c.if-normal.false)
