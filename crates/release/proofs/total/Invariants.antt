use mathlib.Core.Path.{◌≡◌}
use Prim.Native.Nat.{◌*◌, ◌≤◌}
use Rattle.machine.specs.Common.{sum_below}
use Rattle.machine.specs.Plant.{trains}
use Rattle.release.proofs.total.Given as goal

abbrev pub invariant-loop-t : goal.invariant-loop-t
invariant-loop-t g l = (l.t ≤ 4) × ((l.trains ≡ sum_below l.t (trains (g.F.Form.crossing l.f))) × (l.trains ≤ 510 * l.t))
