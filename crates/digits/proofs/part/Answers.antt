use native.Mathlib.Omega.{arith}
use Rattle.digits.proofs.Laws.{found_more, found_all}
use Rattle.digits.proofs.part.Goals as goal

pub loop-i-preserved : goal.loop-i-preserved
loop-i-preserved g c = let l = c.loop-i in found_more c.args.base g.row.N c.args.w l.found l.rest l.i l.invariant c.loop-i-test.true

pub returns : goal.returns
returns g c = let l = c.loop-i in found_all c.args.base g.row.N c.args.w l.found l.rest l.i l.invariant (omega arith)
