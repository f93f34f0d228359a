use Rattle.machine.specs.Sheet.{sheet_event}
use Rattle.sheet_lanes.proofs.Rolls.{Kept}
use Rattle.sheet_lanes.proofs.LanesPlay.play.Given as goal

abbrev pub invariant-loop-k : goal.invariant-loop-k
invariant-loop-k l = Kept l.fn.p (sheet_event l.fn.sheet.sheet.now) l.k l.beat l.now l.slots l.least l.taken l.refused l.written
