use Rattle.slots.specs.Eight.{Swept}
use Rattle.slots.proofs.sweep.Given as goal

abbrev pub invariant-loop-i : goal.invariant-loop-i
invariant-loop-i l = Swept l.site l.now l.initial.next l.next l.i l.least l.written
