use Rattle.agree.proofs.Parts.{left}
use Rattle.agree.proofs.Turns.{Decides}
use Rattle.agree.proofs.compared.Given as goal

abbrev pub invariant-loop-x : goal.invariant-loop-x
invariant-loop-x l = Decides l.a l.b l.k (left l.x-iterator) (left l.cabin)
