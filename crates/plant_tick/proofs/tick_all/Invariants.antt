use mathlib.Core.Path.{◌≡◌}
use Prim.Native.Nat.{◌*◌, ◌≤◌}
use Rattle.machine.specs.Common.{sum_below}
use Rattle.machine.proofs.First.{put_first}
use Rattle.plant_tick.proofs.Past.{next_at, written_off}
use Rattle.plant_tick.proofs.tick_all.Given as goal

abbrev pub invariant-loop-i : goal.invariant-loop-i
invariant-loop-i l = (l.n ≤ 8) × ((l.next ≡ put_first l.i (next_at l.site l.initial.next) l.initial.next) × ((l.written ≡ sum_below l.i (written_off l.site l.initial.next)) × (l.written ≤ 2040 * l.i)))
