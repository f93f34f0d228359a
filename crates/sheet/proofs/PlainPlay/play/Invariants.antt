use Rattle.machine.specs.Sheet.{sheet_event}
use Rattle.sheet.proofs.Runs.{Played}
use Rattle.sheet.proofs.PlainPlay.play.Given as goal

abbrev pub invariant-loop-k : goal.invariant-loop-k
invariant-loop-k l = Played l.fn.p (sheet_event l.fn.sheet.sheet.now) l.k (record { site = l.site; beat = l.beat; crossings = l.crossings }) l.taken l.refused l.written
