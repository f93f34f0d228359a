use mathlib.Core.Path.{◌≡◌}
use Rattle.machine.proofs.First.{put_first}
use Rattle.slot.specs.Slots.{current}
use Rattle.slots.specs.Eight.{slot_at, entry_at}
use Rattle.slots.proofs.finish.Given as goal

abbrev pub invariant-loop-i : goal.invariant-loop-i
invariant-loop-i l = l.next ≡ put_first l.i (λ j. current (entry_at l.site j) l.now (slot_at l.slots j)) l.initial.next
