use Rattle.digits.proofs.Laws.{Found}
use Rattle.digits.proofs.part.Given as goal

abbrev pub invariant-loop-i : goal.invariant-loop-i
invariant-loop-i g l = Found l.base g.row.N l.w l.found l.rest l.i
